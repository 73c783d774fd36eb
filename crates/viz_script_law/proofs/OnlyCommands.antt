-- What is read as a command is spelled by the words that were read.
use Rattle.std.proofs.Common.{◌≡◌, ℕ, ℤ, pos, ◌-◌, true, ◌&&◌, nat_le, List, [], ◌∷◌, ◌++◌, map, length, length-append, take, drop, replicate, Option, Some, None, Result, Ok, refl, sym, ap, ◌∙◌, subst, arith}
use Rattle.std.proofs.lemmas.Bool.{leb-true}
use Rattle.std.proofs.lemmas.List.{length-replicate}
use Rattle.viz_kinds.specs.declared.kind.Kind.{Kind}
use Rattle.viz_kinds.specs.declared.param.Param.{Param}
use Rattle.viz_kinds.specs.declared.param.Param.TheVariants as param
use Rattle.viz_kinds.specs.declared.param.Value.{Value}
use Rattle.viz_kinds.specs.declared.param.Value.TheVariants.{Numbers, Text}
use Rattle.viz_kinds.specs.declared.range.Range.{Range}
use Rattle.viz_kinds.specs.Values.{first_number, last_number, numbers_of, fits_range}
use Rattle.viz_network.specs.declared.edit.Edit.{Edit}
use Rattle.viz_network.specs.declared.edit.Edit.TheVariants as change
use Rattle.viz_words.specs.declared.refusal.ScriptRefusal.{ScriptRefusal}
use Rattle.viz_words.specs.declared.refusal.ScriptRefusal.TheVariants as refusal
use Rattle.viz_words.specs.declared.command.Command.{Command}
use Rattle.viz_words.specs.declared.command.Command.TheVariants as command
use Rattle.viz_words.specs.declared.command.Verb.{Verb}
use Rattle.viz_words.specs.declared.command.Verb.TheVariants as verb
use Rattle.viz_words.specs.Gives.{◌>>=◌, guard}
use Rattle.viz_words.specs.Numbers.{number_of, number_in, natural_in}
use Rattle.viz_words.specs.Names.{is_node_name, is_file_name, is_array_name, named_in}
use Rattle.viz_words.specs.Tables.{command_word, kind_word, param_word, commands, kinds, params, command_named, kind_named, param_named}
use Rattle.viz_words.specs.Commands.{kind_verb, add_verb, param_verb, set_verb, known_verb, due, one, two, three, four, fits_count, numbers_in, padded, padded_in, text_in, value_in, set_in}
use Rattle.viz_words.specs.Edits.{add_in, remove_in, connect_in, disconnect_in, value_set_in}
use Rattle.viz_words.proofs.NumberLemmas.{due-is}
use Rattle.viz_script.specs.Orders.{Asked, edit, load, update, audit, load_in, update_in, audit_in, order_in}
use Rattle.viz_journal.proofs.SolidLemmas.{and-parts}
use Rattle.viz_script_law.specs.Tokens.{Token, exact, number, value_tokens, edit_tokens, command_tokens}
use Rattle.viz_script_law.specs.Fits.{FitsNumbers, FitsRange, is_text_of, FitsLineValue, FitsLineEdit, FitsCommand}
use Rattle.viz_script_law.proofs.Words.{Spelled}
use Rattle.viz_script_law.proofs.OnlyParts.{bind-ok, guarded, one-is, two-is, three-is, four-is, named-is, some-is, number-within, natural-is, with_word-is}

-- ---- the command of the first words

-- the words in front are those of the command
abbrev pub IsVerb : Verb → List ℕ → List (List ℕ) → Type 0
IsVerb verb.Missing word tail = Unit {0}
IsVerb (verb.Add kind) word tail = (word ≡ command_word command.Add) × ((rest : List (List ℕ)) × (tail ≡ kind_word kind ∷ rest))
IsVerb verb.Remove word tail = word ≡ command_word command.Remove
IsVerb verb.Connect word tail = word ≡ command_word command.Connect
IsVerb verb.Disconnect word tail = word ≡ command_word command.Disconnect
IsVerb (verb.Set param) word tail =
    (word ≡ command_word command.Set) × ((node : List ℕ) × (rest : List (List ℕ)) × (tail ≡ node ∷ param_word param ∷ rest))
IsVerb verb.Load word tail = word ≡ command_word command.Load
IsVerb verb.Update word tail = word ≡ command_word command.Update
IsVerb verb.Audit word tail = word ≡ command_word command.Audit
IsVerb verb.Begin word tail = word ≡ command_word command.Begin
IsVerb verb.End word tail = word ≡ command_word command.End

-- it is this one
the-verb : (word : List ℕ) (tail : List (List ℕ)) (made v : Verb) → ◌≡◌ {A = Result Verb ScriptRefusal} (Ok made) (Ok v) → IsVerb made word tail → IsVerb v word tail
the-verb word tail made v h is = let same : made ≡ v = cc h in subst (λ x. IsVerb x word tail) same is

add-verb : (word : List ℕ) (tail : List (List ℕ)) (v : Verb) → word ≡ command_word command.Add → add_verb tail ≡ Ok v → IsVerb v word tail
add-verb word [] v is h = the-verb word [] verb.Missing v h tt
add-verb word (text ∷ rest) v is h = by (kind_named text) refl h
  where
    by : (o : Option Kind) → kind_named text ≡ o → kind_verb o ≡ Ok v → IsVerb v word (text ∷ rest)
    by None e g = let bad : ⊥ = cc g in absurd bad
    by (Some kind) e g =
        the-verb word (text ∷ rest) (verb.Add kind) v g (is, (rest, ap (λ w. w ∷ rest) (with_word-is kind_word kinds text kind e)))

set-verb : (word : List ℕ) (tail : List (List ℕ)) (v : Verb) → word ≡ command_word command.Set → set_verb tail ≡ Ok v → IsVerb v word tail
set-verb word [] v is h = the-verb word [] verb.Missing v h tt
set-verb word (node ∷ []) v is h = the-verb word (node ∷ []) verb.Missing v h tt
set-verb word (node ∷ text ∷ rest) v is h = by (param_named text) refl h
  where
    by : (o : Option Param) → param_named text ≡ o → param_verb o ≡ Ok v → IsVerb v word (node ∷ text ∷ rest)
    by None e g = let bad : ⊥ = cc g in absurd bad
    by (Some p) e g =
        the-verb word (node ∷ text ∷ rest) (verb.Set p) v g (is, (node, rest, ap (λ w. node ∷ w ∷ rest) (with_word-is param_word params text p e)))

pub verb-is : (word : List ℕ) (tail : List (List ℕ)) (v : Verb) → known_verb (command_named word) tail ≡ Ok v → IsVerb v word tail
verb-is word tail v h = by (command_named word) refl h
  where
    by : (o : Option Command) → command_named word ≡ o → known_verb o tail ≡ Ok v → IsVerb v word tail
    by None e g = let bad : ⊥ = cc g in absurd bad
    by (Some command.Add) e g = add-verb word tail v (with_word-is command_word commands word command.Add e) g
    by (Some command.Remove) e g = the-verb word tail verb.Remove v g (with_word-is command_word commands word command.Remove e)
    by (Some command.Connect) e g = the-verb word tail verb.Connect v g (with_word-is command_word commands word command.Connect e)
    by (Some command.Disconnect) e g = the-verb word tail verb.Disconnect v g (with_word-is command_word commands word command.Disconnect e)
    by (Some command.Set) e g = set-verb word tail v (with_word-is command_word commands word command.Set e) g
    by (Some command.Load) e g = the-verb word tail verb.Load v g (with_word-is command_word commands word command.Load e)
    by (Some command.Update) e g = the-verb word tail verb.Update v g (with_word-is command_word commands word command.Update e)
    by (Some command.Audit) e g = the-verb word tail verb.Audit v g (with_word-is command_word commands word command.Audit e)
    by (Some command.Begin) e g = the-verb word tail verb.Begin v g (with_word-is command_word commands word command.Begin e)
    by (Some command.End) e g = the-verb word tail verb.End v g (with_word-is command_word commands word command.End e)

-- ---- values

text-is : (p : Param) (word text : List ℕ) → text_in p word ≡ Ok text → (word ≡ text) × (is_text_of p text ≡ true)
text-is param.Array word text h = named-is is_array_name word text h
text-is _ word text h = named-is is_node_name word text h

numbers-are : (texts : List (List ℕ)) (ns : List ℤ) → numbers_in texts ≡ Ok ns
    → Spelled (map number ns) texts × (length texts ≡ length ns) × (fits_range first_number last_number ns ≡ true)
numbers-are [] ns h =
    let same : [] ≡ ns = cc h in
    subst (λ l. Spelled (map number l) [] × (length {A = List ℕ} [] ≡ length l) × (fits_range first_number last_number l ≡ true)) same (tt, refl, refl)
numbers-are (text ∷ texts) ns h =
    let a = bind-ok (number_in text) (λ n. numbers_in texts >>= λ ms. Ok (n ∷ ms)) ns h in
    let b = bind-ok (numbers_in texts) (λ ms. Ok (a.0 ∷ ms)) ns a.2 in
    let same : a.0 ∷ b.0 ≡ ns = cc b.2 in
    let rest = numbers-are texts b.0 b.1 in
    let read = some-is (number_of text) a.0 a.1 in
    let long : length (text ∷ texts) ≡ length (a.0 ∷ b.0) = grind (arith, rest.1) in
    let fits : fits_range first_number last_number (a.0 ∷ b.0) ≡ true =
    ap (λ x. x && fits_range first_number last_number b.0) (number-within text a.0 read) ∙ rest.2 in
    subst (λ l. Spelled (map number l) (text ∷ texts) × (length (text ∷ texts) ≡ length l) × (fits_range first_number last_number l ≡ true)) same ((read, rest.0), long, fits)

take-front : (ns zeros : List ℤ) → take (length ns) (ns ++ zeros) ≡ ns
take-front [] zeros = refl
take-front (n ∷ ns) zeros = ap (λ l. n ∷ l) (take-front ns zeros)

drop-front : (ns zeros : List ℤ) → drop (length ns) (ns ++ zeros) ≡ zeros
drop-front [] zeros = refl
drop-front (n ∷ ns) zeros = drop-front ns zeros

-- numbers with zeros behind them are those of a value
padded-fit : (range : Range) (ns : List ℤ) → fits_count (Some range) (length ns) ≡ true → fits_range first_number last_number ns ≡ true
    → FitsNumbers range (length ns) (padded ns)
padded-fit range ns counted fits =
    let halves = and-parts (nat_le range.least (length ns) && nat_le (length ns) range.most) (nat_le (length ns) 8) counted in
    let bounds = and-parts (nat_le range.least (length ns)) (nat_le (length ns) range.most) halves.0 in
    let few = leb-true (length ns) 8 halves.1 in
    let zero = pos 0 in
    let zeros = replicate (8 - length ns) zero in
    record {
      least = leb-true range.least (length ns) bounds.0;
      most = leb-true (length ns) range.most bounds.1;
      few = few;
      all = omega (arith, length-append ns zeros, length-replicate (8 - length ns) zero, few);
      each = ap (fits_range first_number last_number) (take-front ns zeros) ∙ fits;
      zeros = drop-front ns zeros;
    }

value-is : (p : Param) (texts : List (List ℕ)) (value : Value) → fits_count (numbers_of p) (length texts) ≡ true → value_in p (numbers_of p) texts ≡ Ok value
    → Spelled (value_tokens value) texts × FitsLineValue p value
value-is p texts value counted read = by (numbers_of p) refl counted read
  where
    by : (r : Option Range) → numbers_of p ≡ r → fits_count r (length texts) ≡ true → value_in p r texts ≡ Ok value → Spelled (value_tokens value) texts × FitsLineValue p value
    by None e c h =
        let a = bind-ok (one texts) (λ word. text_in p word >>= λ text. Ok (Text text)) value h in
        let b = bind-ok (text_in p a.0) (λ text. Ok (Text text)) value a.2 in
        let t = text-is p a.0 b.0 b.1 in
        let same : Text b.0 ≡ value = cc b.2 in
        let spelled : Spelled (exact b.0 ∷ []) texts = subst (Spelled (exact b.0 ∷ [])) (sym (one-is texts a.0 a.1)) (t.0, tt) in
        subst (λ v. Spelled (value_tokens v) texts × FitsLineValue p v) {x = Text b.0} same (spelled, (e, t.1))
    by (Some range) e c h =
        let a = bind-ok (padded_in texts) (λ items. Ok (Numbers (length texts) items)) value h in
        let b = bind-ok (numbers_in texts) (λ ns. Ok (padded ns)) a.0 a.1 in
        let items : padded b.0 ≡ a.0 = cc b.2 in
        let made : Numbers (length texts) a.0 ≡ value = cc a.2 in
        let n = numbers-are texts b.0 b.1 in
        let same : Numbers (length b.0) (padded b.0) ≡ value = ap (λ m. Numbers m (padded b.0)) (sym n.1) ∙ ap (λ l. Numbers (length texts) l) items ∙ made in
        let front : take (length b.0) (padded b.0) ≡ b.0 = take-front b.0 (replicate (8 - length b.0) (pos 0)) in
        let spelled : Spelled (map number (take (length b.0) (padded b.0))) texts = subst (λ l. Spelled (map number l) texts) (sym front) n.0 in
        let fits = padded-fit range b.0 (ap (fits_count (Some range)) (sym n.1) ∙ c) n.2 in
        subst (λ v. Spelled (value_tokens v) texts × FitsLineValue p v) {x = Numbers (length b.0) (padded b.0)} same (spelled, subst (λ r. FitsRange r (length b.0) (padded b.0)) (sym e) fits)

-- ---- edits

-- the words are those of the edit, which a line can tell
abbrev TellsEdit : Edit → List ℕ → List (List ℕ) → Type 0
TellsEdit e word tail = Spelled (edit_tokens e) (word ∷ tail) × FitsLineEdit e

spelled-at : (words : List Token) (word : List ℕ) (tail are : List (List ℕ)) → tail ≡ are → Spelled words (word ∷ are) → Spelled words (word ∷ tail)
spelled-at words word tail are e s = subst (λ ws. Spelled words (word ∷ ws)) (sym e) s

add-is : (kind : Kind) (word : List ℕ) (tail : List (List ℕ)) (e : Edit) → IsVerb (verb.Add kind) word tail → add_in kind tail ≡ Ok e → TellsEdit e word tail
unfolding add_in
add-is kind word tail e is h =
    let a = bind-ok (two tail) (λ w. named_in is_node_name w.1 >>= λ node. Ok (change.Add kind node)) e h in
    let b = bind-ok (named_in is_node_name a.0.1) (λ node. Ok (change.Add kind node)) e a.2 in
    let n = named-is is_node_name a.0.1 b.0 b.1 in
    let are = two-is tail a.0 a.1 in
    let both : a.0.0 ∷ a.0.1 ∷ [] ≡ kind_word kind ∷ is.1.0 = sym are ∙ is.1.1 in
    let front : a.0.0 ≡ kind_word kind = cc both in
    let same : change.Add kind b.0 ≡ e = cc b.2 in
    subst (λ x. TellsEdit x word tail) {x = change.Add kind b.0} same (spelled-at (edit_tokens (change.Add kind b.0)) word tail _ are (is.0, (front, (n.0, tt))), n.1)

remove-is : (word : List ℕ) (tail : List (List ℕ)) (e : Edit) → IsVerb verb.Remove word tail → remove_in tail ≡ Ok e → TellsEdit e word tail
unfolding remove_in
remove-is word tail e is h =
    let a = bind-ok (one tail) (λ w. named_in is_node_name w >>= λ node. Ok (change.Remove node)) e h in
    let b = bind-ok (named_in is_node_name a.0) (λ node. Ok (change.Remove node)) e a.2 in
    let n = named-is is_node_name a.0 b.0 b.1 in
    let same : change.Remove b.0 ≡ e = cc b.2 in
    subst (λ x. TellsEdit x word tail) {x = change.Remove b.0} same (spelled-at (edit_tokens (change.Remove b.0)) word tail _ (one-is tail a.0 a.1) (is, (n.0, tt)), n.1)

connect-is : (word : List ℕ) (tail : List (List ℕ)) (e : Edit) → IsVerb verb.Connect word tail → connect_in tail ≡ Ok e → TellsEdit e word tail
unfolding connect_in
connect-is word tail e is h =
    let a = bind-ok (three tail) (λ w. named_in is_node_name w.0 >>= λ from. named_in is_node_name w.1 >>= λ to. natural_in 0 255 w.2 >>= λ port. Ok (change.Connect from to port)) e h in
    let b = bind-ok (named_in is_node_name a.0.0) (λ from. named_in is_node_name a.0.1 >>= λ to. natural_in 0 255 a.0.2 >>= λ port. Ok (change.Connect from to port)) e a.2 in
    let d = bind-ok (named_in is_node_name a.0.1) (λ to. natural_in 0 255 a.0.2 >>= λ port. Ok (change.Connect b.0 to port)) e b.2 in
    let p = bind-ok (natural_in 0 255 a.0.2) (λ port. Ok (change.Connect b.0 d.0 port)) e d.2 in
    let n = named-is is_node_name a.0.0 b.0 b.1 in
    let m = named-is is_node_name a.0.1 d.0 d.1 in
    let q = natural-is 0 255 p.0 a.0.2 p.1 in
    let same : change.Connect b.0 d.0 p.0 ≡ e = cc p.2 in
    subst (λ x. TellsEdit x word tail) {x = change.Connect b.0 d.0 p.0} same
    (spelled-at (edit_tokens (change.Connect b.0 d.0 p.0)) word tail _ (three-is tail a.0 a.1) (is, (n.0, (m.0, (q.0, tt)))), (n.1, m.1, omega (arith, q.2)))

disconnect-is : (word : List ℕ) (tail : List (List ℕ)) (e : Edit) → IsVerb verb.Disconnect word tail → disconnect_in tail ≡ Ok e → TellsEdit e word tail
unfolding disconnect_in
disconnect-is word tail e is h =
    let a = bind-ok (two tail) (λ w. named_in is_node_name w.0 >>= λ to. natural_in 0 255 w.1 >>= λ port. Ok (change.Disconnect to port)) e h in
    let b = bind-ok (named_in is_node_name a.0.0) (λ to. natural_in 0 255 a.0.1 >>= λ port. Ok (change.Disconnect to port)) e a.2 in
    let p = bind-ok (natural_in 0 255 a.0.1) (λ port. Ok (change.Disconnect b.0 port)) e b.2 in
    let n = named-is is_node_name a.0.0 b.0 b.1 in
    let q = natural-is 0 255 p.0 a.0.1 p.1 in
    let same : change.Disconnect b.0 p.0 ≡ e = cc p.2 in
    subst (λ x. TellsEdit x word tail) {x = change.Disconnect b.0 p.0} same
    (spelled-at (edit_tokens (change.Disconnect b.0 p.0)) word tail _ (two-is tail a.0 a.1) (is, (n.0, (q.0, tt))), (n.1, omega (arith, q.2)))

set-same : (p : Param) (name : List ℕ) (value : Value) (s : List ℕ × Value) (e : Edit) → (name, value) ≡ s → change.Set s.0 p s.1 ≡ e → change.Set name p value ≡ e
set-same p name value s e pair made = ap (λ (x : List ℕ × Value). change.Set x.0 p x.1) pair ∙ made

set-is : (p : Param) (word : List ℕ) (tail : List (List ℕ)) (e : Edit) → IsVerb (verb.Set p) word tail → value_set_in p tail ≡ Ok e → TellsEdit e word tail
unfolding value_set_in set_in
set-is p word tail e is h =
    let last : List ℕ → Value → Result (List ℕ × Value) ScriptRefusal = λ name value. Ok (name, value) in
    let valued : List (List ℕ) → List ℕ → Result (List ℕ × Value) ScriptRefusal = λ texts name. value_in p (numbers_of p) texts >>= last name in
    let named : List ℕ → List (List ℕ) → Result (List ℕ × Value) ScriptRefusal = λ text texts. named_in is_node_name text >>= valued texts in
    let counted : List ℕ → List (List ℕ) → Result (List ℕ × Value) ScriptRefusal =
    λ text texts. guard (fits_count (numbers_of p) (length texts)) refusal.Arity >>= λ count. named text texts in
    let a = bind-ok (set_in p tail) (λ s. Ok (change.Set s.0 p s.1)) e h in
    let b = bind-ok (due tail) (λ node. due node.1 >>= λ values. counted node.0 values.1) a.0 a.1 in
    let d = bind-ok (due b.0.1) (λ values. counted b.0.0 values.1) a.0 b.2 in
    let g = guarded (fits_count (numbers_of p) (length d.0.1)) refusal.Arity (named b.0.0 d.0.1) a.0 d.2 in
    let n = bind-ok (named_in is_node_name b.0.0) (valued d.0.1) a.0 g.1 in
    let v = bind-ok (value_in p (numbers_of p) d.0.1) (last n.0) a.0 n.2 in
    let pair : (n.0, v.0) ≡ a.0 = cc v.2 in
    let made : change.Set a.0.0 p a.0.1 ≡ e = cc a.2 in
    let same : change.Set n.0 p v.0 ≡ e = set-same p n.0 v.0 a.0 e pair made in
    let are : tail ≡ b.0.0 ∷ d.0.0 ∷ d.0.1 = due-is tail b.0 b.1 ∙ ap (λ l. b.0.0 ∷ l) (due-is b.0.1 d.0 d.1) in
    let both : b.0.0 ∷ d.0.0 ∷ d.0.1 ≡ is.1.0 ∷ param_word p ∷ is.1.1 = sym are ∙ is.1.2 in
    let second : d.0.0 ≡ param_word p = cc both in
    let name = named-is is_node_name b.0.0 n.0 n.1 in
    let value = value-is p d.0.1 v.0 g.0 v.1 in
    subst (λ x. TellsEdit x word tail) {x = change.Set n.0 p v.0} same
    (spelled-at (edit_tokens (change.Set n.0 p v.0)) word tail _ are (is.0, (name.0, (second, value.0))), (name.1, value.1))

-- ---- commands

-- the words are those of the command, which a line can tell
abbrev pub Tells : Asked → List ℕ → List (List ℕ) → Type 0
Tells asked word tail = Spelled (command_tokens asked) (word ∷ tail) × FitsCommand asked

load-is : (word : List ℕ) (tail : List (List ℕ)) (asked : Asked) → IsVerb verb.Load word tail → load_in tail ≡ Ok asked → Tells asked word tail
unfolding load_in
load-is word tail asked is h =
    let a = bind-ok (two tail) (λ w. named_in is_node_name w.0 >>= λ node. named_in is_file_name w.1 >>= λ file. Ok (load node file)) asked h in
    let b = bind-ok (named_in is_node_name a.0.0) (λ node. named_in is_file_name a.0.1 >>= λ file. Ok (load node file)) asked a.2 in
    let d = bind-ok (named_in is_file_name a.0.1) (λ file. Ok (load b.0 file)) asked b.2 in
    let n = named-is is_node_name a.0.0 b.0 b.1 in
    let f = named-is is_file_name a.0.1 d.0 d.1 in
    let same : load b.0 d.0 ≡ asked = cc d.2 in
    subst (λ x. Tells x word tail) {x = load b.0 d.0} same (spelled-at (command_tokens (load b.0 d.0)) word tail _ (two-is tail a.0 a.1) (is, (n.0, (f.0, tt))), (n.1, f.1))

update-is : (word : List ℕ) (tail : List (List ℕ)) (asked : Asked) → IsVerb verb.Update word tail → update_in tail ≡ Ok asked → Tells asked word tail
unfolding update_in
update-is word tail asked is h =
    let s4 : List ℕ → List ℕ → ℕ → ℕ → Result Asked ScriptRefusal = λ node file pieces workers. Ok (update node file pieces workers) in
    let s3 : List ℕ → List ℕ → List ℕ → ℕ → Result Asked ScriptRefusal = λ w3 node file pieces. natural_in 1 64 w3 >>= s4 node file pieces in
    let s2 : List ℕ → List ℕ → List ℕ → List ℕ → Result Asked ScriptRefusal = λ w2 w3 node file. natural_in 1 64 w2 >>= s3 w3 node file in
    let s1 : List ℕ → List ℕ → List ℕ → List ℕ → Result Asked ScriptRefusal = λ w1 w2 w3 node. named_in is_file_name w1 >>= s2 w2 w3 node in
    let a = bind-ok (four tail) (λ w. named_in is_node_name w.0 >>= s1 w.1 w.2 w.3) asked h in
    let b = bind-ok (named_in is_node_name a.0.0) (s1 a.0.1 a.0.2 a.0.3) asked a.2 in
    let d = bind-ok (named_in is_file_name a.0.1) (s2 a.0.2 a.0.3 b.0) asked b.2 in
    let p = bind-ok (natural_in 1 64 a.0.2) (s3 a.0.3 b.0 d.0) asked d.2 in
    let w = bind-ok (natural_in 1 64 a.0.3) (s4 b.0 d.0 p.0) asked p.2 in
    let n = named-is is_node_name a.0.0 b.0 b.1 in
    let f = named-is is_file_name a.0.1 d.0 d.1 in
    let q = natural-is 1 64 p.0 a.0.2 p.1 in
    let r = natural-is 1 64 w.0 a.0.3 w.1 in
    let same : update b.0 d.0 p.0 w.0 ≡ asked = cc w.2 in
    subst (λ x. Tells x word tail) {x = update b.0 d.0 p.0 w.0} same
    (spelled-at (command_tokens (update b.0 d.0 p.0 w.0)) word tail _ (four-is tail a.0 a.1) (is, (n.0, (f.0, (q.0, (r.0, tt))))), (n.1, f.1, (q.1, q.2, r.1, r.2)))

audit-is : (word : List ℕ) (tail : List (List ℕ)) (asked : Asked) → IsVerb verb.Audit word tail → audit_in tail ≡ Ok asked → Tells asked word tail
unfolding audit_in
audit-is word tail asked is h =
    let s3 : List ℕ → ℕ → ℕ → Result Asked ScriptRefusal = λ node pieces workers. Ok (audit node pieces workers) in
    let s2 : List ℕ → List ℕ → ℕ → Result Asked ScriptRefusal = λ w2 node pieces. natural_in 1 64 w2 >>= s3 node pieces in
    let s1 : List ℕ → List ℕ → List ℕ → Result Asked ScriptRefusal = λ w1 w2 node. natural_in 1 64 w1 >>= s2 w2 node in
    let a = bind-ok (three tail) (λ w. named_in is_node_name w.0 >>= s1 w.1 w.2) asked h in
    let b = bind-ok (named_in is_node_name a.0.0) (s1 a.0.1 a.0.2) asked a.2 in
    let p = bind-ok (natural_in 1 64 a.0.1) (s2 a.0.2 b.0) asked b.2 in
    let w = bind-ok (natural_in 1 64 a.0.2) (s3 b.0 p.0) asked p.2 in
    let n = named-is is_node_name a.0.0 b.0 b.1 in
    let q = natural-is 1 64 p.0 a.0.1 p.1 in
    let r = natural-is 1 64 w.0 a.0.2 w.1 in
    let same : audit b.0 p.0 w.0 ≡ asked = cc w.2 in
    subst (λ x. Tells x word tail) {x = audit b.0 p.0 w.0} same
    (spelled-at (command_tokens (audit b.0 p.0 w.0)) word tail _ (three-is tail a.0 a.1) (is, (n.0, (q.0, (r.0, tt)))), (n.1, (q.1, q.2, r.1, r.2)))

-- an edit as a command
as-edit : (r : Result Edit ScriptRefusal) (word : List ℕ) (tail : List (List ℕ)) (asked : Asked) → ((e : Edit) → r ≡ Ok e → TellsEdit e word tail)
    → (r >>= λ e. Ok (edit e)) ≡ Ok asked → Tells asked word tail
as-edit r word tail asked is h =
    let a = bind-ok r (λ e. Ok (edit e)) asked h in
    let same : edit a.0 ≡ asked = cc a.2 in
    subst (λ x. Tells x word tail) {x = edit a.0} same (is a.0 a.1)

pub order-is : (v : Verb) (word : List ℕ) (tail : List (List ℕ)) (asked : Asked) → IsVerb v word tail → order_in v tail ≡ Ok asked → Tells asked word tail
order-is verb.Missing word tail asked is h = let bad : ⊥ = cc h in absurd bad
order-is (verb.Add kind) word tail asked is h = as-edit (add_in kind tail) word tail asked (λ e. add-is kind word tail e is) h
order-is verb.Remove word tail asked is h = as-edit (remove_in tail) word tail asked (λ e. remove-is word tail e is) h
order-is verb.Connect word tail asked is h = as-edit (connect_in tail) word tail asked (λ e. connect-is word tail e is) h
order-is verb.Disconnect word tail asked is h = as-edit (disconnect_in tail) word tail asked (λ e. disconnect-is word tail e is) h
order-is (verb.Set p) word tail asked is h = as-edit (value_set_in p tail) word tail asked (λ e. set-is p word tail e is) h
order-is verb.Load word tail asked is h = load-is word tail asked is h
order-is verb.Update word tail asked is h = update-is word tail asked is h
order-is verb.Audit word tail asked is h = audit-is word tail asked is h
order-is verb.Begin word tail asked is h = let bad : ⊥ = cc h in absurd bad
order-is verb.End word tail asked is h = let bad : ⊥ = cc h in absurd bad
