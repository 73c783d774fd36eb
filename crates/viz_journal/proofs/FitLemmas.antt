-- An edit that was read is one that a journal can have.
use Rattle.std.proofs.Common.{◌≡◌, ℕ, zero, suc, ℤ, pos, negsuc, ◌-◌, ◌^◌, ◌<◌, ◌≤◌, Bool, true, false, cond, ◌&&◌, nat_le, List, [], ◌∷◌, length, length-append, take, replicate, Option, Some, None, Result, Ok, Err, refl, sym, ap, ◌∙◌, subst, arith}
use Rattle.std.specs.Prelude.{◌==◌, neg_ℤ, option_map, ok_or, int_le, unsigned_abs}
use Rattle.std.specs.List.{list_all}
use Rattle.std.proofs.lemmas.Bool.{leb-true}
use Rattle.std.proofs.lemmas.List.{length-replicate}
use Rattle.std.proofs.lemmas.List.Folds.{list_all-append}
use Rattle.viz_lex.specs.Numbers.{natural_of}
use Rattle.viz_kinds.specs.declared.kind.Kind.{Kind}
use Rattle.viz_kinds.specs.declared.kind.Kind.TheVariants as kind
use Rattle.viz_kinds.specs.declared.param.Param.{Param}
use Rattle.viz_kinds.specs.declared.param.Param.TheVariants as param
use Rattle.viz_kinds.specs.declared.param.Value.{Value}
use Rattle.viz_kinds.specs.declared.param.Value.TheVariants.{Numbers, Text}
use Rattle.viz_kinds.specs.declared.range.Range.{Range}
use Rattle.viz_kinds.specs.Values.{first_number, last_number, numbers_of}
use Rattle.viz_network.specs.declared.edit.Edit.{Edit}
use Rattle.viz_network.specs.declared.edit.Edit.TheVariants as edit
use Rattle.viz_words.specs.declared.refusal.ScriptRefusal.{ScriptRefusal}
use Rattle.viz_words.specs.declared.refusal.ScriptRefusal.TheVariants as refusal
use Rattle.viz_words.specs.declared.command.Verb.{Verb}
use Rattle.viz_words.specs.declared.command.Verb.TheVariants as verb
use Rattle.viz_words.specs.Gives.{◌>>=◌, guard}
use Rattle.viz_words.specs.Numbers.{within, number_of, number_in, natural_in}
use Rattle.viz_words.specs.Names.{is_node_name, is_array_name, named_in}
use Rattle.viz_words.specs.Tables.{kind_word, kind_named}
use Rattle.viz_words.specs.Commands.{due, one, two, three, fits_count, numbers_in, padded, padded_in, text_in, value_in, set_in}
use Rattle.viz_words.specs.Edits.{add_in, remove_in, connect_in, disconnect_in, value_set_in, edit_in}
use Rattle.viz_journal.specs.declared.draft.Draft.{Draft}
use Rattle.viz_journal.specs.declared.draft.Draft.TheVariants as draft
use Rattle.viz_journal.specs.Lines.{load_draft, draft_in, size}
use Rattle.viz_journal.specs.Parts.{edit_of}
use Rattle.viz_journal.specs.Fits.{FitsValue, FitsEdit}
use Rattle.viz_journal.proofs.OnlyLemmas.{guarded, bind-ok}
use Rattle.viz_journal.proofs.SolidLemmas.{and-parts}

-- ---- names and numbers

named-is : (test : List ℕ → Bool) (word name : List ℕ) → named_in test word ≡ Ok name → test name ≡ true
named-is test word name h = by (test word) refl h
  where
    by : (t : Bool) → test word ≡ t → cond t (Ok word) (Err refusal.Name) ≡ Ok name → test name ≡ true
    by true e g = let same : word ≡ name = cc g in sym (ap test same) ∙ e
    by false e g = let bad : ⊥ = cc g in absurd bad

kind-again : (k : Kind) → kind_named (kind_word k) ≡ Some k
kind-again kind.File = refl
kind-again kind.Crop = refl
kind-again kind.Sample = refl
kind-again kind.Threshold = refl
kind-again kind.Smooth = refl
kind-again kind.Arith = refl
kind-again kind.Tets = refl
kind-again kind.Select = refl
kind-again kind.Contour = refl
kind-again kind.Cut = refl
kind-again kind.Append = refl
kind-again kind.Boundary = refl
kind-again kind.Merge = refl
kind-again kind.Writer = refl

some-is : (o : Option ℤ) (n : ℤ) → ok_or o refusal.Number ≡ Ok n → o ≡ Some n
some-is None n h = let bad : ⊥ = cc h in absurd bad
some-is (Some m) n h = let same : m ≡ n = cc h in ap (λ (z : ℤ). Some z) same

-- the number has 64 bits
abbrev is_number : ℤ → Bool
is_number n = int_le first_number n && int_le n last_number

within-is : (o : Option ℤ) (n : ℤ) → within o ≡ Some n → is_number n ≡ true
within-is None n h = let bad : ⊥ = cc h in absurd bad
within-is (Some m) n h = by (is_number m) refl h
  where
    by : (t : Bool) → is_number m ≡ t → cond t (Some m) None ≡ Some n → is_number n ≡ true
    by true e g = let same : m ≡ n = cc g in sym (ap is_number same) ∙ e
    by false e g = let bad : ⊥ = cc g in absurd bad

number-is : (word : List ℕ) (n : ℤ) → number_in word ≡ Ok n → is_number n ≡ true
number-is [] n h = let bad : ⊥ = cc h in absurd bad
number-is (b ∷ bs) n h =
    within-is (cond (b == 45) (option_map (λ m. neg_ℤ (pos m)) (natural_of bs)) (option_map (λ m. pos m) (natural_of (b ∷ bs)))) n (some-is (number_of (b ∷ bs)) n h)

pub natural-is : (least greatest n : ℕ) (word : List ℕ) → natural_in least greatest word ≡ Ok n → (least ≤ n) × (n ≤ greatest)
unfolding natural_in
natural-is least greatest n word h =
    let a = bind-ok (number_in word) (λ z. cond (int_le (pos least) z && int_le z (pos greatest)) (Ok (unsigned_abs z)) (Err refusal.Number)) n h in
    by a.0 a.2
  where
    inner : (m : ℕ) (t : Bool) → (nat_le least m && nat_le m greatest) ≡ t → cond t (Ok m) (Err refusal.Number) ≡ Ok n → (least ≤ n) × (n ≤ greatest)
    inner m true e g =
        let same : m ≡ n = cc g in
        let parts = and-parts (nat_le least m) (nat_le m greatest) e in
        (omega (arith, same, leb-true least m parts.0), omega (arith, same, leb-true m greatest parts.1))
    inner m false e g = let bad : ⊥ = cc g in absurd bad

    by : (z : ℤ) → cond (int_le (pos least) z && int_le z (pos greatest)) (Ok (unsigned_abs z)) (Err refusal.Number) ≡ Ok n → (least ≤ n) × (n ≤ greatest)
    by (pos m) g = inner m (nat_le least m && nat_le m greatest) refl g
    by (negsuc m) g = let bad : ⊥ = cc g in absurd bad

-- ---- values

numbers-are : (texts : List (List ℕ)) (ns : List ℤ) → numbers_in texts ≡ Ok ns → (length texts ≡ length ns) × (list_all is_number ns ≡ true)
numbers-are [] ns h = let same : [] ≡ ns = cc h in subst (λ (l : List ℤ). (length {A = List ℕ} [] ≡ length l) × (list_all is_number l ≡ true)) same (refl, refl)
numbers-are (text ∷ texts) ns h =
    let a = bind-ok (number_in text) (λ n. numbers_in texts >>= λ ms. Ok (n ∷ ms)) ns h in
    let b = bind-ok (numbers_in texts) (λ ms. Ok (a.0 ∷ ms)) ns a.2 in
    let same : a.0 ∷ b.0 ≡ ns = cc b.2 in
    let rest = numbers-are texts b.0 b.1 in
    let long : length (text ∷ texts) ≡ length (a.0 ∷ b.0) = grind (arith, rest.0) in
    subst (λ (l : List ℤ). (length (text ∷ texts) ≡ length l) × (list_all is_number l ≡ true)) same
    (long, ap (λ x. x && list_all is_number b.0) (number-is text a.0 a.1) ∙ rest.1)

zeros-fit : (n : ℕ) → list_all is_number (replicate n (pos 0)) ≡ true
zeros-fit zero = refl
zeros-fit (suc n) = zeros-fit n

text-is : (p : Param) (word text : List ℕ) → text_in p word ≡ Ok text → FitsValue p (Text text)
text-is param.Array word text h = named-is is_array_name word text h
text-is param.Unit word text h = tt
text-is param.Bounds word text h = tt
text-is param.Rate word text h = tt
text-is param.Range word text h = tt
text-is param.Radius word text h = tt
text-is param.Op word text h = tt
text-is param.Mode word text h = tt
text-is param.Levels word text h = tt
text-is param.Plane word text h = tt
text-is param.Style word text h = tt
text-is param.Digits word text h = tt
text-is param.Release word text h = tt
text-is param.Version word text h = tt

value-is : (p : Param) (texts : List (List ℕ)) (value : Value) → fits_count (numbers_of p) (length texts) ≡ true → value_in p (numbers_of p) texts ≡ Ok value → FitsValue p value
value-is p texts value counted read = by (numbers_of p) counted read
  where
    by : (r : Option Range) → fits_count r (length texts) ≡ true → value_in p r texts ≡ Ok value → FitsValue p value
    by None c h =
        let a = bind-ok (one texts) (λ word. text_in p word >>= λ text. Ok (Text text)) value h in
        let b = bind-ok (text_in p a.0) (λ text. Ok (Text text)) value a.2 in
        let same : Text b.0 ≡ value = cc b.2 in
        subst (FitsValue p) {x = Text b.0} same (text-is p a.0 b.0 b.1)
    by (Some range) c h =
        let a = bind-ok (padded_in texts) (λ items. Ok (Numbers (length texts) items)) value h in
        let b = bind-ok (numbers_in texts) (λ ns. Ok (padded ns)) a.0 a.1 in
        let items : padded b.0 ≡ a.0 = cc b.2 in
        let made : Numbers (length texts) a.0 ≡ value = cc a.2 in
        let n = numbers-are texts b.0 b.1 in
        let few = leb-true (length texts) 8 (and-parts (nat_le range.least (length texts) && nat_le (length texts) range.most) (nat_le (length texts) 8) c).1 in
        let zeros = replicate (8 - length b.0) (pos 0) in
        let long : length (padded b.0) ≡ 8 = omega (arith, length-append b.0 zeros, length-replicate (8 - length b.0) (pos 0), few, n.0) in
        let fit : list_all is_number (padded b.0) ≡ true = list_all-append is_number b.0 zeros ∙ ap (λ x. x && list_all is_number zeros) n.1 ∙ zeros-fit (8 - length b.0) in
        let fits : FitsValue p (Numbers (length texts) (padded b.0)) = (long, fit) in
        subst (FitsValue p) {x = Numbers (length texts) (padded b.0)} (ap (λ l. Numbers (length texts) l) items ∙ made) fits

-- ---- edits

add-is : (kind : Kind) (words : List (List ℕ)) (e : Edit) → add_in kind words ≡ Ok e → FitsEdit e
unfolding add_in
add-is kind words e h =
    let a = bind-ok (two words) (λ w. named_in is_node_name w.1 >>= λ node. Ok (edit.Add kind node)) e h in
    let b = bind-ok (named_in is_node_name a.0.1) (λ node. Ok (edit.Add kind node)) e a.2 in
    let same : edit.Add kind b.0 ≡ e = cc b.2 in
    subst FitsEdit {x = edit.Add kind b.0} same (kind-again kind, named-is is_node_name a.0.1 b.0 b.1)

remove-is : (words : List (List ℕ)) (e : Edit) → remove_in words ≡ Ok e → FitsEdit e
unfolding remove_in
remove-is words e h =
    let a = bind-ok (one words) (λ w. named_in is_node_name w >>= λ node. Ok (edit.Remove node)) e h in
    let b = bind-ok (named_in is_node_name a.0) (λ node. Ok (edit.Remove node)) e a.2 in
    let same : edit.Remove b.0 ≡ e = cc b.2 in
    subst FitsEdit {x = edit.Remove b.0} same (named-is is_node_name a.0 b.0 b.1)

connect-is : (words : List (List ℕ)) (e : Edit) → connect_in words ≡ Ok e → FitsEdit e
unfolding connect_in
connect-is words e h =
    let a = bind-ok (three words) (λ w. named_in is_node_name w.0 >>= λ from. named_in is_node_name w.1 >>= λ to. natural_in 0 255 w.2 >>= λ port. Ok (edit.Connect from to port)) e h in
    let b = bind-ok (named_in is_node_name a.0.0) (λ from. named_in is_node_name a.0.1 >>= λ to. natural_in 0 255 a.0.2 >>= λ port. Ok (edit.Connect from to port)) e a.2 in
    let d = bind-ok (named_in is_node_name a.0.1) (λ to. natural_in 0 255 a.0.2 >>= λ port. Ok (edit.Connect b.0 to port)) e b.2 in
    let p = bind-ok (natural_in 0 255 a.0.2) (λ port. Ok (edit.Connect b.0 d.0 port)) e d.2 in
    let q = natural-is 0 255 p.0 a.0.2 p.1 in
    let same : edit.Connect b.0 d.0 p.0 ≡ e = cc p.2 in
    subst FitsEdit {x = edit.Connect b.0 d.0 p.0} same (named-is is_node_name a.0.0 b.0 b.1, named-is is_node_name a.0.1 d.0 d.1, omega (arith, q.1))

disconnect-is : (words : List (List ℕ)) (e : Edit) → disconnect_in words ≡ Ok e → FitsEdit e
unfolding disconnect_in
disconnect-is words e h =
    let a = bind-ok (two words) (λ w. named_in is_node_name w.0 >>= λ to. natural_in 0 255 w.1 >>= λ port. Ok (edit.Disconnect to port)) e h in
    let b = bind-ok (named_in is_node_name a.0.0) (λ to. natural_in 0 255 a.0.1 >>= λ port. Ok (edit.Disconnect to port)) e a.2 in
    let p = bind-ok (natural_in 0 255 a.0.1) (λ port. Ok (edit.Disconnect b.0 port)) e b.2 in
    let q = natural-is 0 255 p.0 a.0.1 p.1 in
    let same : edit.Disconnect b.0 p.0 ≡ e = cc p.2 in
    subst FitsEdit {x = edit.Disconnect b.0 p.0} same (named-is is_node_name a.0.0 b.0 b.1, omega (arith, q.1))

set-is : (p : Param) (words : List (List ℕ)) (e : Edit) → value_set_in p words ≡ Ok e → FitsEdit e
unfolding value_set_in set_in
set-is p words e h =
    let pair : List ℕ → Value → Result (List ℕ × Value) ScriptRefusal = λ n v. Ok (n, v) in
    let done : List ℕ × Value → Result Edit ScriptRefusal = λ s. Ok (edit.Set s.0 p s.1) in
    let a = bind-ok (set_in p words) done e h in
    let node = bind-ok (due words) (λ node. due node.1 >>= λ values. guard (fits_count (numbers_of p) (length values.1)) refusal.Arity
    >>= λ count. named_in is_node_name node.0 >>= λ name. value_in p (numbers_of p) values.1 >>= pair name) a.0 a.1 in
    let values = bind-ok (due node.0.1) (λ values. guard (fits_count (numbers_of p) (length values.1)) refusal.Arity
    >>= λ count. named_in is_node_name node.0.0 >>= λ name. value_in p (numbers_of p) values.1 >>= pair name) a.0 node.2 in
    let ws = values.0.1 in
    let counted = guarded (fits_count (numbers_of p) (length ws)) refusal.Arity (named_in is_node_name node.0.0 >>= λ name. value_in p (numbers_of p) ws >>= pair name) a.0 values.2 in
    let name = bind-ok (named_in is_node_name node.0.0) (λ name. value_in p (numbers_of p) ws >>= pair name) a.0 counted.1 in
    let value = bind-ok (value_in p (numbers_of p) ws) (pair name.0) a.0 name.2 in
    let both : (name.0, value.0) ≡ a.0 = cc value.2 in
    let same : edit.Set name.0 p value.0 ≡ e = ap (λ (s : List ℕ × Value). edit.Set s.0 p s.1) both ∙ (let made : edit.Set a.0.0 p a.0.1 ≡ e = cc a.2 in made) in
    subst FitsEdit {x = edit.Set name.0 p value.0} same (named-is is_node_name node.0.0 name.0 name.1, value-is p ws value.0 counted.0 value.1)

edit-in : (v : Verb) (words : List (List ℕ)) (e : Edit) → edit_in v words ≡ Ok e → FitsEdit e
edit-in (verb.Add kind) words e h = add-is kind words e h
edit-in verb.Remove words e h = remove-is words e h
edit-in verb.Connect words e h = connect-is words e h
edit-in verb.Disconnect words e h = disconnect-is words e h
edit-in (verb.Set p) words e h = set-is p words e h
edit-in verb.Missing words e h = let bad : ⊥ = cc h in absurd bad
edit-in verb.Load words e h = let bad : ⊥ = cc h in absurd bad
edit-in verb.Update words e h = let bad : ⊥ = cc h in absurd bad
edit-in verb.Audit words e h = let bad : ⊥ = cc h in absurd bad
edit-in verb.Begin words e h = let bad : ⊥ = cc h in absurd bad
edit-in verb.End words e h = let bad : ⊥ = cc h in absurd bad

-- ---- what a line says

-- what was told is an edit that a journal can have, whatever bytes a load has
abbrev pub FitsDraft : Draft → Type 0
FitsDraft (draft.Edit e) = FitsEdit e
FitsDraft (draft.Load node len) = (is_node_name node ≡ true) × (is_number len ≡ true)

load-is : (words : List (List ℕ)) (d : Draft) → load_draft words ≡ Ok d → FitsDraft d
unfolding load_draft
load-is words d h =
    let a = bind-ok (two words) (λ w. named_in is_node_name w.0 >>= λ node. number_in w.1 >>= λ len. Ok (draft.Load node len)) d h in
    let b = bind-ok (named_in is_node_name a.0.0) (λ node. number_in a.0.1 >>= λ len. Ok (draft.Load node len)) d a.2 in
    let n = bind-ok (number_in a.0.1) (λ len. Ok (draft.Load b.0 len)) d b.2 in
    let same : draft.Load b.0 n.0 ≡ d = cc n.2 in
    subst FitsDraft {x = draft.Load b.0 n.0} same (named-is is_node_name a.0.0 b.0 b.1, number-is a.0.1 n.0 n.1)

edit-draft : (v : Verb) (words : List (List ℕ)) (d : Draft) → (edit_in v words >>= λ e. Ok (draft.Edit e)) ≡ Ok d → FitsDraft d
edit-draft v words d h =
    let a = bind-ok (edit_in v words) (λ e. Ok (draft.Edit e)) d h in
    let same : draft.Edit a.0 ≡ d = cc a.2 in
    subst FitsDraft {x = draft.Edit a.0} same (edit-in v words a.0 a.1)

pub draft-is : (v : Verb) (words : List (List ℕ)) (d : Draft) → draft_in v words ≡ Ok d → FitsDraft d
draft-is verb.Load words d h = load-is words d h
draft-is (verb.Add kind) words d h = edit-draft (verb.Add kind) words d h
draft-is verb.Remove words d h = edit-draft verb.Remove words d h
draft-is verb.Connect words d h = edit-draft verb.Connect words d h
draft-is verb.Disconnect words d h = edit-draft verb.Disconnect words d h
draft-is (verb.Set p) words d h = edit-draft (verb.Set p) words d h
draft-is verb.Missing words d h = edit-draft verb.Missing words d h
draft-is verb.Update words d h = edit-draft verb.Update words d h
draft-is verb.Audit words d h = edit-draft verb.Audit words d h
draft-is verb.Begin words d h = edit-draft verb.Begin words d h
draft-is verb.End words d h = edit-draft verb.End words d h

size-small : (len : ℤ) → is_number len ≡ true → size len < 2 ^ 63
size-small (pos n) h = omega (arith, leb-true n 9223372036854775807 h)
size-small (negsuc n) h = omega arith

take-short : (n : ℕ) (bs : List ℕ) → length (take n bs) ≤ n
take-short zero bs = omega arith
take-short (suc n) [] = omega arith
take-short (suc n) (b ∷ bs) = let short = take-short n bs in omega (arith, short)

-- the edit fits with the bytes that are behind it
pub edit-fits : (d : Draft) (rest : List ℕ) → FitsDraft d → FitsEdit (edit_of d rest)
edit-fits (draft.Edit e) rest f = f
edit-fits (draft.Load node len) rest f = (f.0, omega (arith, take-short (size len) rest, size-small len f.1))
