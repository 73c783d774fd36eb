-- Words that spell a command are read as that command.
use Rattle.std.proofs.Common.{◌≡◌, ℕ, ℤ, pos, ◌-◌, ◌<◌, ◌≤◌, true, cond, ◌&&◌, nat_le, List, [], ◌∷◌, ◌++◌, map, length, take, replicate, Option, Some, None, Result, Ok, Err, refl, sym, ap, ◌∙◌, arith}
use Rattle.std.specs.Prelude.{ok_or, int_le, unsigned_abs}
use Rattle.std.proofs.lemmas.Bool.{le-leb}
use Rattle.std.proofs.lemmas.List.{length-take-le, take-append-drop}
use Rattle.viz_kinds.specs.declared.kind.Kind.{Kind}
use Rattle.viz_kinds.specs.declared.kind.Kind.TheVariants as kind
use Rattle.viz_kinds.specs.declared.param.Param.{Param}
use Rattle.viz_kinds.specs.declared.param.Param.TheVariants as param
use Rattle.viz_kinds.specs.declared.param.Value.{Value}
use Rattle.viz_kinds.specs.declared.param.Value.TheVariants.{Numbers, Text}
use Rattle.viz_kinds.specs.declared.range.Range.{Range}
use Rattle.viz_kinds.specs.Values.{numbers_of}
use Rattle.viz_network.specs.declared.edit.Edit.{Edit}
use Rattle.viz_network.specs.declared.edit.Edit.TheVariants as change
use Rattle.viz_words.specs.declared.refusal.ScriptRefusal.{ScriptRefusal}
use Rattle.viz_words.specs.declared.refusal.ScriptRefusal.TheVariants as refusal
use Rattle.viz_words.specs.declared.command.Command.TheVariants as command
use Rattle.viz_words.specs.declared.command.Verb.{Verb}
use Rattle.viz_words.specs.declared.command.Verb.TheVariants as verb
use Rattle.viz_words.specs.Gives.{◌>>=◌, guard}
use Rattle.viz_words.specs.Numbers.{number_of, natural_in}
use Rattle.viz_words.specs.Names.{is_node_name, is_file_name, is_array_name, named_in}
use Rattle.viz_words.specs.Tables.{command_word, kind_word, kind_named, param_word}
use Rattle.viz_words.specs.Commands.{kind_verb, param_verb, verb_of, one, two, three, four, fits_count, numbers_in, padded, text_in, value_in, set_in}
use Rattle.viz_words.specs.Edits.{add_in, remove_in, connect_in, disconnect_in, value_set_in}
use Rattle.viz_script.specs.Lines.{asks, command_in}
use Rattle.viz_script.specs.Orders.{Asked, edit, edits, load, update, audit, load_in, update_in, audit_in, order_in}
use Rattle.viz_journal.proofs.AgainLemmas.{named-again, param-again}
use Rattle.viz_script_law.specs.Tokens.{exact, number, value_tokens, edit_tokens, command_tokens}
use Rattle.viz_script_law.specs.Fits.{FitsRange, is_text_of, FitsLineValue, FitsLineEdit, FitsCommand}
use Rattle.viz_script_law.proofs.Words.{Spelled, first-exact, first-number, no-more}

-- what is read of the words behind an actor
pub record Says (words : List (List ℕ)) (asked : Asked) : Type 0 where
  pub which : Verb
  pub word : List ℕ
  pub tail : List (List ℕ)
  pub are : words ≡ word ∷ tail
  pub known : verb_of words ≡ Ok which
  pub plain : (actor : ℕ) → command_in actor which tail ≡ (order_in which tail >>= λ order. Ok (asks actor order))
  pub told : order_in which tail ≡ Ok asked

-- ---- words

kind-again : (k : Kind) → kind_named (kind_word k) ≡ Some k
kind-again kind.File = refl
kind-again kind.Crop = refl
kind-again kind.Sample = refl
kind-again kind.Threshold = refl
kind-again kind.Smooth = refl
kind-again kind.Arith = refl
kind-again kind.Tets = refl
kind-again kind.Select = refl
kind-again kind.Contour = refl
kind-again kind.Cut = refl
kind-again kind.Append = refl
kind-again kind.Boundary = refl
kind-again kind.Merge = refl
kind-again kind.Writer = refl

natural-read : (least greatest n : ℕ) (text : List ℕ) → least ≤ n → n ≤ greatest → number_of text ≡ Some (pos n) → natural_in least greatest text ≡ Ok n
unfolding natural_in
natural-read least greatest n text low high e =
    ap (λ (o : Option ℤ). ok_or o refusal.Number >>= λ z. cond (int_le (pos least) z && int_le z (pos greatest)) (Ok (unsigned_abs z)) (Err refusal.Number)) e
    ∙ ap (λ b. cond (b && nat_le n greatest) (Ok n) (Err refusal.Number)) (le-leb least n low) ∙ ap (λ b. cond b (Ok n) (Err refusal.Number)) (le-leb n greatest high)

-- ---- values

text-read : (p : Param) (text : List ℕ) → is_text_of p text ≡ true → text_in p text ≡ Ok text
text-read param.Array text h = named-again is_array_name text h
text-read _ text h = named-again is_node_name text h

numbers-read : (ns : List ℤ) (texts : List (List ℕ)) → Spelled (map number ns) texts → (numbers_in texts ≡ Ok ns) × (length texts ≡ length ns)
numbers-read [] [] h = (refl, refl)
numbers-read [] (text ∷ texts) h = absurd h
numbers-read (n ∷ ns) [] h = absurd h
numbers-read (n ∷ ns) (text ∷ texts) h =
    let rest = numbers-read ns texts h.1 in (
      ap (λ (o : Option ℤ). ok_or o refusal.Number >>= λ m. numbers_in texts >>= λ ms. Ok (m ∷ ms)) h.0
          ∙ ap (λ (r : Result (List ℤ) ScriptRefusal). r >>= λ ms. Ok (n ∷ ms)) rest.0,
      grind (arith, rest.1),
    )

counted : (range : Range) (n : ℕ) → range.least ≤ n → n ≤ range.most → n ≤ 8 → fits_count (Some range) n ≡ true
counted range n least most few = rw (le-leb range.least n least, le-leb n range.most most, le-leb n 8 few) refl

-- the words of a value are counted and read
value-read : (p : Param) (value : Value) (texts : List (List ℕ)) → FitsLineValue p value → Spelled (value_tokens value) texts
    → (fits_count (numbers_of p) (length texts) ≡ true) × (value_in p (numbers_of p) texts ≡ Ok value)
unfolding one
value-read p (Text text) texts f h =
    let first = first-exact text [] texts h in
    let are : texts ≡ text ∷ [] = first.1 ∙ ap (λ l. text ∷ l) (no-more first.0 first.2) in (
      ap (λ (ts : List (List ℕ)). fits_count (numbers_of p) (length ts)) are ∙ ap (λ r. fits_count r 1) f.0,
      ap (value_in p (numbers_of p)) are ∙ ap (λ r. value_in p r (text ∷ [])) f.0
          ∙ ap (λ (r : Result (List ℕ) ScriptRefusal). r >>= λ text. Ok (Text text)) (text-read p text f.1),
    )
value-read p (Numbers count items) texts f h = by (numbers_of p) refl f
  where
    by : (r : Option Range) → numbers_of p ≡ r → FitsRange r count items
        → (fits_count (numbers_of p) (length texts) ≡ true) × (value_in p (numbers_of p) texts ≡ Ok (Numbers count items))
    by None e g = absurd g
    by (Some range) e g =
        let read = numbers-read (take count items) texts h in
        let front : length (take count items) ≡ count = length-take-le count items (omega (arith, g.few, g.all)) in
        let long : length texts ≡ count = read.1 ∙ front in
        let fills : padded (take count items) ≡ items =
        ap (λ m. take count items ++ replicate (8 - m) (pos 0)) front ∙ ap (λ l. take count items ++ l) (sym g.zeros) ∙ take-append-drop count items in (
          ap (λ r. fits_count r (length texts)) e ∙ ap (fits_count (Some range)) long ∙ counted range count g.least g.most g.few,
          ap (λ r. value_in p r texts) e
              ∙ ap (λ (r : Result (List ℤ) ScriptRefusal). (r >>= λ ns. Ok (padded ns)) >>= λ is. Ok (Numbers (length texts) is)) read.0
              ∙ ap (λ l. Ok (Numbers (length texts) l)) fills ∙ ap (λ n. Ok (Numbers n items)) long,
        )

-- ---- edits

-- an edit as a command
abbrev as_order : Result Edit ScriptRefusal → Result Asked ScriptRefusal
as_order r = r >>= λ e. Ok (edit e)

add-says : (k : Kind) (node : List ℕ) → is_node_name node ≡ true → Says (command_word command.Add ∷ kind_word k ∷ node ∷ []) (edit (change.Add k node))
unfolding add_in two one
add-says k node h = record {
  which = verb.Add k;
  word = command_word command.Add;
  tail = kind_word k ∷ node ∷ [];
  are = refl;
  plain = λ actor. refl;
  known = ap kind_verb (kind-again k);
  told = ap (λ (r : Result (List ℕ) ScriptRefusal). as_order (r >>= λ n. Ok (change.Add k n))) (named-again is_node_name node h);
}

remove-says : (node : List ℕ) → is_node_name node ≡ true → Says (command_word command.Remove ∷ node ∷ []) (edit (change.Remove node))
unfolding remove_in one
remove-says node h = record {
  which = verb.Remove;
  word = command_word command.Remove;
  tail = node ∷ [];
  are = refl;
  plain = λ actor. refl;
  known = refl;
  told = ap (λ (r : Result (List ℕ) ScriptRefusal). as_order (r >>= λ n. Ok (change.Remove n))) (named-again is_node_name node h);
}

connect-says : (from to text : List ℕ) (port : ℕ) → is_node_name from ≡ true → is_node_name to ≡ true → port < 256 → number_of text ≡ Some (pos port)
    → Says (command_word command.Connect ∷ from ∷ to ∷ text ∷ []) (edit (change.Connect from to port))
unfolding connect_in three two one
connect-says from to text port f t small e = record {
  which = verb.Connect;
  word = command_word command.Connect;
  tail = from ∷ to ∷ text ∷ [];
  are = refl;
  plain = λ actor. refl;
  known = refl;
  told = ap (λ (r : Result (List ℕ) ScriptRefusal). as_order (r >>= λ a. named_in is_node_name to >>= λ b. natural_in 0 255 text >>= λ p. Ok (change.Connect a b p))) (named-again is_node_name from f)
      ∙ ap (λ (r : Result (List ℕ) ScriptRefusal). as_order (r >>= λ b. natural_in 0 255 text >>= λ p. Ok (change.Connect from b p))) (named-again is_node_name to t)
      ∙ ap (λ (r : Result ℕ ScriptRefusal). as_order (r >>= λ p. Ok (change.Connect from to p))) (natural-read 0 255 port text (omega arith) (omega (arith, small)) e);
}

disconnect-says : (to text : List ℕ) (port : ℕ) → is_node_name to ≡ true → port < 256 → number_of text ≡ Some (pos port)
    → Says (command_word command.Disconnect ∷ to ∷ text ∷ []) (edit (change.Disconnect to port))
unfolding disconnect_in two one
disconnect-says to text port t small e = record {
  which = verb.Disconnect;
  word = command_word command.Disconnect;
  tail = to ∷ text ∷ [];
  are = refl;
  plain = λ actor. refl;
  known = refl;
  told = ap (λ (r : Result (List ℕ) ScriptRefusal). as_order (r >>= λ b. natural_in 0 255 text >>= λ p. Ok (change.Disconnect b p))) (named-again is_node_name to t)
      ∙ ap (λ (r : Result ℕ ScriptRefusal). as_order (r >>= λ p. Ok (change.Disconnect to p))) (natural-read 0 255 port text (omega arith) (omega (arith, small)) e);
}

set-says : (p : Param) (node : List ℕ) (value : Value) (texts : List (List ℕ)) → is_node_name node ≡ true → fits_count (numbers_of p) (length texts) ≡ true
    → value_in p (numbers_of p) texts ≡ Ok value → Says (command_word command.Set ∷ node ∷ param_word p ∷ texts) (edit (change.Set node p value))
unfolding value_set_in set_in
set-says p node value texts h fits read =
    let pair : List ℕ → Value → Result (List ℕ × Value) ScriptRefusal = λ n v. Ok (n, v) in
    let done : List ℕ × Value → Result Edit ScriptRefusal = λ s. Ok (change.Set s.0 p s.1) in
    let valued : List ℕ → Result (List ℕ × Value) ScriptRefusal = λ n. value_in p (numbers_of p) texts >>= pair n in
    let named : Unit {0} → Result (List ℕ × Value) ScriptRefusal = λ c. named_in is_node_name node >>= valued in
    record {
      which = verb.Set p;
      word = command_word command.Set;
      tail = node ∷ param_word p ∷ texts;
      are = refl;
      plain = λ actor. refl;
      known = ap param_verb (param-again p);
      told = ap (λ b. as_order ((guard b refusal.Arity >>= named) >>= done)) fits
          ∙ ap (λ (r : Result (List ℕ) ScriptRefusal). as_order ((r >>= valued) >>= done)) (named-again is_node_name node h)
          ∙ ap (λ (r : Result Value ScriptRefusal). as_order ((r >>= pair node) >>= done)) read;
    }

-- ---- loads, updates and audits

load-says : (node file : List ℕ) → is_node_name node ≡ true → is_file_name file ≡ true → Says (command_word command.Load ∷ node ∷ file ∷ []) (load node file)
unfolding load_in two one
load-says node file n f = record {
  which = verb.Load;
  word = command_word command.Load;
  tail = node ∷ file ∷ [];
  are = refl;
  plain = λ actor. refl;
  known = refl;
  told = ap (λ (r : Result (List ℕ) ScriptRefusal). r >>= λ a. named_in is_file_name file >>= λ b. Ok (load a b)) (named-again is_node_name node n)
      ∙ ap (λ (r : Result (List ℕ) ScriptRefusal). r >>= λ b. Ok (load node b)) (named-again is_file_name file f);
}

update-says : (node file p w : List ℕ) (pieces workers : ℕ) → FitsCommand (update node file pieces workers) → number_of p ≡ Some (pos pieces) → number_of w ≡ Some (pos workers)
    → Says (command_word command.Update ∷ node ∷ file ∷ p ∷ w ∷ []) (update node file pieces workers)
unfolding update_in four three two one
update-says node file p w pieces workers f ep ew = record {
  which = verb.Update;
  word = command_word command.Update;
  tail = node ∷ file ∷ p ∷ w ∷ [];
  are = refl;
  plain = λ actor. refl;
  known = refl;
  told = ap (λ (r : Result (List ℕ) ScriptRefusal). r >>= λ a. named_in is_file_name file >>= λ b. natural_in 1 64 p >>= λ m. natural_in 1 64 w >>= λ n. Ok (update a b m n)) (named-again is_node_name node f.0)
      ∙ ap (λ (r : Result (List ℕ) ScriptRefusal). r >>= λ b. natural_in 1 64 p >>= λ m. natural_in 1 64 w >>= λ n. Ok (update node b m n)) (named-again is_file_name file f.1)
      ∙ ap (λ (r : Result ℕ ScriptRefusal). r >>= λ m. natural_in 1 64 w >>= λ n. Ok (update node file m n)) (natural-read 1 64 pieces p f.2.0 f.2.1 ep)
      ∙ ap (λ (r : Result ℕ ScriptRefusal). r >>= λ n. Ok (update node file pieces n)) (natural-read 1 64 workers w f.2.2 f.2.3 ew);
}

audit-says : (node p w : List ℕ) (pieces workers : ℕ) → FitsCommand (audit node pieces workers) → number_of p ≡ Some (pos pieces) → number_of w ≡ Some (pos workers)
    → Says (command_word command.Audit ∷ node ∷ p ∷ w ∷ []) (audit node pieces workers)
unfolding audit_in three two one
audit-says node p w pieces workers f ep ew = record {
  which = verb.Audit;
  word = command_word command.Audit;
  tail = node ∷ p ∷ w ∷ [];
  are = refl;
  plain = λ actor. refl;
  known = refl;
  told = ap (λ (r : Result (List ℕ) ScriptRefusal). r >>= λ a. natural_in 1 64 p >>= λ m. natural_in 1 64 w >>= λ n. Ok (audit a m n)) (named-again is_node_name node f.0)
      ∙ ap (λ (r : Result ℕ ScriptRefusal). r >>= λ m. natural_in 1 64 w >>= λ n. Ok (audit node m n)) (natural-read 1 64 pieces p f.1.0 f.1.1 ep)
      ∙ ap (λ (r : Result ℕ ScriptRefusal). r >>= λ n. Ok (audit node pieces n)) (natural-read 1 64 workers w f.1.2 f.1.3 ew);
}

-- ---- the words of a command

edit-says : (e : Edit) (texts : List (List ℕ)) → FitsLineEdit e → Spelled (edit_tokens e) texts → Says texts (edit e)
edit-says (change.Add k node) texts f h =
    let a = first-exact (command_word command.Add) (exact (kind_word k) ∷ exact node ∷ []) texts h in
    let b = first-exact (kind_word k) (exact node ∷ []) a.0 a.2 in
    let c = first-exact node [] b.0 b.2 in
    rw (a.1, b.1, c.1, no-more c.0 c.2) (add-says k node f)
edit-says (change.Remove node) texts f h =
    let a = first-exact (command_word command.Remove) (exact node ∷ []) texts h in
    let b = first-exact node [] a.0 a.2 in
    rw (a.1, b.1, no-more b.0 b.2) (remove-says node f)
edit-says (change.Connect from to port) texts f h =
    let a = first-exact (command_word command.Connect) (exact from ∷ exact to ∷ number (pos port) ∷ []) texts h in
    let b = first-exact from (exact to ∷ number (pos port) ∷ []) a.0 a.2 in
    let c = first-exact to (number (pos port) ∷ []) b.0 b.2 in
    let d = first-number (pos port) [] c.0 c.2 in
    rw (a.1, b.1, c.1, d.2, no-more d.1 d.4) (connect-says from to d.0 port f.0 f.1 f.2 d.3)
edit-says (change.Disconnect to port) texts f h =
    let a = first-exact (command_word command.Disconnect) (exact to ∷ number (pos port) ∷ []) texts h in
    let b = first-exact to (number (pos port) ∷ []) a.0 a.2 in
    let c = first-number (pos port) [] b.0 b.2 in
    rw (a.1, b.1, c.2, no-more c.1 c.4) (disconnect-says to c.0 port f.0 f.1 c.3)
edit-says (change.Set node p value) texts f h =
    let a = first-exact (command_word command.Set) (exact node ∷ exact (param_word p) ∷ value_tokens value) texts h in
    let b = first-exact node (exact (param_word p) ∷ value_tokens value) a.0 a.2 in
    let c = first-exact (param_word p) (value_tokens value) b.0 b.2 in
    let read = value-read p value c.0 f.1 c.2 in
    rw (a.1, b.1, c.1) (set-says p node value c.0 f.0 read.0 read.1)
edit-says (change.Load node file) texts f h = absurd f

pub command-says : (asked : Asked) (texts : List (List ℕ)) → FitsCommand asked → Spelled (command_tokens asked) texts → Says texts asked
command-says (edit e) texts f h = edit-says e texts f h
command-says (edits es) texts f h = absurd f
command-says (load node file) texts f h =
    let a = first-exact (command_word command.Load) (exact node ∷ exact file ∷ []) texts h in
    let b = first-exact node (exact file ∷ []) a.0 a.2 in
    let c = first-exact file [] b.0 b.2 in
    rw (a.1, b.1, c.1, no-more c.0 c.2) (load-says node file f.0 f.1)
command-says (update node file pieces workers) texts f h =
    let a = first-exact (command_word command.Update) (exact node ∷ exact file ∷ number (pos pieces) ∷ number (pos workers) ∷ []) texts h in
    let b = first-exact node (exact file ∷ number (pos pieces) ∷ number (pos workers) ∷ []) a.0 a.2 in
    let c = first-exact file (number (pos pieces) ∷ number (pos workers) ∷ []) b.0 b.2 in
    let d = first-number (pos pieces) (number (pos workers) ∷ []) c.0 c.2 in
    let e = first-number (pos workers) [] d.1 d.4 in
    rw (a.1, b.1, c.1, d.2, e.2, no-more e.1 e.4) (update-says node file d.0 e.0 pieces workers f d.3 e.3)
command-says (audit node pieces workers) texts f h =
    let a = first-exact (command_word command.Audit) (exact node ∷ number (pos pieces) ∷ number (pos workers) ∷ []) texts h in
    let b = first-exact node (number (pos pieces) ∷ number (pos workers) ∷ []) a.0 a.2 in
    let c = first-number (pos pieces) (number (pos workers) ∷ []) b.0 b.2 in
    let d = first-number (pos workers) [] c.1 c.4 in
    rw (a.1, b.1, c.2, d.2, no-more d.1 d.4) (audit-says node c.0 d.0 pieces workers f c.3 d.3)
