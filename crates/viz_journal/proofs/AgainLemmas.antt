-- What is written as a journal is read again.
use Rattle.std.proofs.Common.{◌≡◌, ◌⊎◌, inl, inr, ℕ, ℤ, pos, negsuc, zero, suc, ◌-◌, Bool, true, false, cond, not, ◌&&◌, ◌||◌, nat_le, true≢false, List, [], ◌∷◌, ◌++◌, map, length, take, drop, replicate, Option, Some, None, Result, Ok, Err, refl, sym, ap, ◌∙◌, arith}
use Rattle.std.specs.Prelude.{codes, ok_or, int_le, is_ok}
use Rattle.std.specs.Option.{option_map_or}
use Rattle.std.specs.List.{list_all, AllByRecursion}
use Rattle.std.specs.Fmt.{signed_decimal}
use Rattle.std.proofs.lemmas.Bool.{leb-true}
use Rattle.std.proofs.lemmas.List.{length-map, length-take-le, length-drop, take-append-drop}
use Rattle.viz_kinds.specs.declared.kind.Kind.{Kind}
use Rattle.viz_kinds.specs.declared.kind.Kind.TheVariants as kind
use Rattle.viz_kinds.specs.declared.param.Param.{Param}
use Rattle.viz_kinds.specs.declared.param.Param.TheVariants as param
use Rattle.viz_kinds.specs.declared.param.Value.{Value}
use Rattle.viz_kinds.specs.declared.param.Value.TheVariants.{Numbers, Text}
use Rattle.viz_kinds.specs.declared.range.Range.{Range}
use Rattle.viz_kinds.specs.Kinds.{has_param}
use Rattle.viz_kinds.specs.Settings.{kind_of}
use Rattle.viz_kinds.specs.Values.{first_number, last_number, is_text, takes_text, is_value, is_numbers, numbers_of, fits_range, fits_rest}
use Rattle.viz_network.specs.declared.edit.Edit.TheVariants as edit
use Rattle.viz_network.specs.declared.node.Node.{Node}
use Rattle.viz_network.specs.declared.refusal.Refusal.{Refusal}
use Rattle.viz_network.specs.declared.refusal.Refusal.TheVariants as cause
use Rattle.viz_network.specs.Network.{Network, named, change}
use Rattle.viz_network.specs.Edits.{apply, valued}
use Rattle.viz_words.specs.declared.refusal.ScriptRefusal.{ScriptRefusal}
use Rattle.viz_words.specs.declared.refusal.ScriptRefusal.TheVariants as refusal
use Rattle.viz_words.specs.Gives.{◌>>=◌}
use Rattle.viz_words.specs.Names.{is_node_name, is_array_name, named_in}
use Rattle.viz_words.specs.Tables.{kind_word, param_word, param_named}
use Rattle.viz_words.specs.Commands.{one, fits_count, numbers_in, padded, text_in, value_in}
use Rattle.viz_journal.specs.Journal.{value_words}
use Rattle.viz_journal.specs.Fits.{FitsValue}
use Rattle.viz_journal.proofs.OnlyLemmas.{same-text}
use Rattle.viz_journal.proofs.SolidLemmas.{and-parts, or-parts, Solid, solid-node, solid-array, solid-number, number-signed}

-- ---- names, kinds and parameters

pub named-again : (test : List ℕ → Bool) (word : List ℕ) → test word ≡ true → named_in test word ≡ Ok word
named-again test word h = ap (λ b. cond b (Ok word) (Err refusal.Name)) h

pub param-again : (p : Param) → param_named (param_word p) ≡ Some p
param-again param.Array = refl
param-again param.Unit = refl
param-again param.Bounds = refl
param-again param.Rate = refl
param-again param.Range = refl
param-again param.Radius = refl
param-again param.Op = refl
param-again param.Mode = refl
param-again param.Levels = refl
param-again param.Plane = refl
param-again param.Style = refl
param-again param.Digits = refl
param-again param.Release = refl
param-again param.Version = refl

pub kind-solid : (k : Kind) → Solid (kind_word k)
kind-solid kind.File = solid-array _ refl
kind-solid kind.Crop = solid-array _ refl
kind-solid kind.Sample = solid-array _ refl
kind-solid kind.Threshold = solid-array _ refl
kind-solid kind.Smooth = solid-array _ refl
kind-solid kind.Arith = solid-array _ refl
kind-solid kind.Tets = solid-array _ refl
kind-solid kind.Select = solid-array _ refl
kind-solid kind.Contour = solid-array _ refl
kind-solid kind.Cut = solid-array _ refl
kind-solid kind.Append = solid-array _ refl
kind-solid kind.Boundary = solid-array _ refl
kind-solid kind.Merge = solid-array _ refl
kind-solid kind.Writer = solid-array _ refl

pub param-solid : (p : Param) → Solid (param_word p)
param-solid param.Array = solid-array _ refl
param-solid param.Unit = solid-array _ refl
param-solid param.Bounds = solid-array _ refl
param-solid param.Rate = solid-array _ refl
param-solid param.Range = solid-array _ refl
param-solid param.Radius = solid-array _ refl
param-solid param.Op = solid-array _ refl
param-solid param.Mode = solid-array _ refl
param-solid param.Levels = solid-array _ refl
param-solid param.Plane = solid-array _ refl
param-solid param.Style = solid-array _ refl
param-solid param.Digits = solid-array _ refl
param-solid param.Release = solid-array _ refl
param-solid param.Version = solid-array _ refl

-- ---- values

-- a text of a table is a word like a name
table-name : (text word : List ℕ) → is_node_name word ≡ true → is_text text word ≡ true → is_node_name text ≡ true
table-name text word h same = ap is_node_name (same-text text word same) ∙ h

two-names : (text a b : List ℕ) → is_node_name a ≡ true → is_node_name b ≡ true → (is_text text a || is_text text b) ≡ true → is_node_name text ≡ true
two-names text a b ha hb h = by (or-parts _ _ h)
  where
    by : (is_text text a ≡ true) ⊎ (is_text text b ≡ true) → is_node_name text ≡ true
    by (inl e) = table-name text a ha e
    by (inr e) = table-name text b hb e

op-name : (text : List ℕ) → takes_text param.Op text ≡ true → is_node_name text ≡ true
op-name text h = by (or-parts _ _ h)
  where
    three_names : ((is_text text (codes "add") || is_text text (codes "sub")) ≡ true) ⊎ (is_text text (codes "min") ≡ true) → is_node_name text ≡ true
    three_names (inl e) = two-names text (codes "add") (codes "sub") refl refl e
    three_names (inr e) = table-name text (codes "min") refl e

    by : ((is_text text (codes "add") || is_text text (codes "sub") || is_text text (codes "min")) ≡ true) ⊎ (is_text text (codes "max") ≡ true) → is_node_name text ≡ true
    by (inl e) = three_names (or-parts _ _ e)
    by (inr e) = table-name text (codes "max") refl e

-- a text that a parameter may have
text-again : (p : Param) (text : List ℕ) → takes_text p text ≡ true → FitsValue p (Text text) → (numbers_of p ≡ None) × (text_in p text ≡ Ok text) × Solid text
text-again param.Array text h f = (refl, named-again is_array_name text f, solid-array text f)
text-again param.Op text h f = let n = op-name text h in (refl, named-again is_node_name text n, solid-node text n)
text-again param.Mode text h f = let n = two-names text (codes "all") (codes "any") refl refl h in (refl, named-again is_node_name text n, solid-node text n)
text-again param.Style text h f = let n = two-names text (codes "ascii") (codes "binary") refl refl h in (refl, named-again is_node_name text n, solid-node text n)
text-again param.Unit text h f = absurd (true≢false (sym h))
text-again param.Bounds text h f = absurd (true≢false (sym h))
text-again param.Rate text h f = absurd (true≢false (sym h))
text-again param.Range text h f = absurd (true≢false (sym h))
text-again param.Radius text h f = absurd (true≢false (sym h))
text-again param.Levels text h f = absurd (true≢false (sym h))
text-again param.Plane text h f = absurd (true≢false (sym h))
text-again param.Digits text h f = absurd (true≢false (sym h))
text-again param.Release text h f = absurd (true≢false (sym h))
text-again param.Version text h f = absurd (true≢false (sym h))

-- the number has 64 bits
abbrev is_number : ℤ → Bool
is_number n = int_le first_number n && int_le n last_number

all-take : (n : ℕ) (xs : List ℤ) → list_all is_number xs ≡ true → list_all is_number (take n xs) ≡ true
all-take zero xs h = refl
all-take (suc n) [] h = refl
all-take (suc n) (x ∷ xs) h =
    let parts = and-parts (is_number x) (list_all is_number xs) h in
    ap (λ b. b && list_all is_number (take n xs)) parts.0 ∙ all-take n xs parts.1

numbers-again : (ns : List ℤ) → list_all is_number ns ≡ true → numbers_in (map signed_decimal ns) ≡ Ok ns
numbers-again [] h = refl
numbers-again (z ∷ zs) h =
    let parts = and-parts (is_number z) (list_all is_number zs) h in
    ap (λ (o : Option ℤ). ok_or o refusal.Number >>= λ m. numbers_in (map signed_decimal zs) >>= λ ns. Ok (m ∷ ns)) (number-signed z parts.0)
    ∙ ap (λ (r : Result (List ℤ) ScriptRefusal). r >>= λ ns. Ok (z ∷ ns)) (numbers-again zs parts.1)

numbers-solid : (ns : List ℤ) → list_all is_number ns ≡ true → AllByRecursion Solid (map signed_decimal ns)
numbers-solid [] h = tt
numbers-solid (z ∷ zs) h = let parts = and-parts (is_number z) (list_all is_number zs) h in (solid-number z parts.0, numbers-solid zs parts.1)

zero-is : (z : ℤ) → (int_le (pos 0) z && int_le z (pos 0)) ≡ true → z ≡ pos 0
zero-is (pos n) h = let low = leb-true n 0 (and-parts (nat_le 0 n) (nat_le n 0) h).1 in let same : n ≡ 0 = omega arith in ap (λ (m : ℕ). pos m) same
zero-is (negsuc n) h = absurd (true≢false (sym h))

zeros-are : (xs : List ℤ) → fits_range (pos 0) (pos 0) xs ≡ true → xs ≡ replicate (length xs) (pos 0)
zeros-are [] h = refl
zeros-are (x ∷ xs) h =
    let parts = and-parts (int_le (pos 0) x && int_le x (pos 0)) (fits_range (pos 0) (pos 0) xs) h in
    ap (λ (z : ℤ). z ∷ xs) (zero-is x parts.0) ∙ ap (λ (l : List ℤ). pos 0 ∷ l) (zeros-are xs parts.1)

-- the words of a value are counted and read again
pub value-again : (p : Param) (value : Value) → is_value p value ≡ true → FitsValue p value
    → (fits_count (numbers_of p) (length (value_words value)) ≡ true) × (value_in p (numbers_of p) (value_words value) ≡ Ok value) × AllByRecursion Solid (value_words value)
unfolding one
value-again p (Text text) h f =
    let t = text-again p text h f in
    (ap (λ r. fits_count r 1) t.0, ap (λ r. value_in p r (text ∷ [])) t.0 ∙ ap (λ (r : Result (List ℕ) ScriptRefusal). r >>= λ text. Ok (Text text)) t.1, (t.2, tt))
value-again p (Numbers count items) h f = by (numbers_of p) refl h
  where
    by : (r : Option Range) → numbers_of p ≡ r → is_numbers p r count items ≡ true
        → (fits_count (numbers_of p) (length (map signed_decimal (take count items))) ≡ true) × (value_in p (numbers_of p) (map signed_decimal (take count items)) ≡ Ok (Numbers count items))
        × AllByRecursion Solid (map signed_decimal (take count items))
    by None e g = absurd (true≢false (sym g))
    by (Some range) e g =
        let ws = map signed_decimal (take count items) in
        let whole = and-parts _ (fits_rest p items) g in
        let halves = and-parts (nat_le range.least count && nat_le count range.most && nat_le count 8) (fits_range range.low range.high (take count items) && fits_range (pos 0) (pos 0) (drop count items)) whole.0 in
        let few = leb-true count 8 (and-parts (nat_le range.least count && nat_le count range.most) (nat_le count 8) halves.0).1 in
        let front : length (take count items) ≡ count = length-take-le count items (omega (arith, few, f.0)) in
        let long : length ws ≡ count = length-map (take count items) signed_decimal ∙ front in
        let zeros = zeros-are (drop count items) (and-parts (fits_range range.low range.high (take count items)) (fits_range (pos 0) (pos 0) (drop count items)) halves.1).1 in
        let behind : length (drop count items) ≡ 8 - length (take count items) = omega (arith, length-drop count items, front, f.0) in
        let fills : padded (take count items) ≡ items =
        ap (λ m. take count items ++ replicate m (pos 0)) (sym behind) ∙ ap (λ l. take count items ++ l) (sym zeros) ∙ take-append-drop count items in
        let fit = all-take count items f.1 in (
          ap (λ r. fits_count r (length ws)) e ∙ ap (λ n. nat_le range.least n && nat_le n range.most && nat_le n 8) long ∙ halves.0,
          ap (λ r. value_in p r ws) e
              ∙ ap (λ (r : Result (List ℤ) ScriptRefusal). (r >>= λ ns. Ok (padded ns)) >>= λ is. Ok (Numbers (length ws) is)) (numbers-again (take count items) fit)
              ∙ ap (λ l. Ok (Numbers (length ws) l)) fills ∙ ap (λ n. Ok (Numbers n items)) long,
          numbers-solid (take count items) fit,
        )

-- a set that is accepted has a value that the parameter may have
pub accepted-value : (at : ℕ) (name : List ℕ) (p : Param) (value : Value) (net : Network) → is_ok (apply at (edit.Set name p value) net) ≡ true → is_value p value ≡ true
accepted-value at name p value net h = by (named net name) h
  where
    inner : (a b : Bool) (made : Network) → is_ok {T = Network} {E = Refusal} (cond (not a) (Err cause.NoParam) (cond (not b) (Err cause.BadValue) (Ok made))) ≡ true → b ≡ true
    inner true true made g = refl
    inner true false made g = absurd (true≢false (sym g))
    inner false b made g = absurd (true≢false (sym g))

    by : (o : Option Node) → is_ok {T = Network} {E = Refusal} (option_map_or (λ n. cond (not (has_param (kind_of n.settings) p)) (Err cause.NoParam)
        (cond (not (is_value p value)) (Err cause.BadValue) (Ok (change (valued at p value) net name)))) o (Err cause.Unknown)) ≡ true → is_value p value ≡ true
    by None g = absurd (true≢false (sym g))
    by (Some n) g = inner (has_param (kind_of n.settings) p) (is_value p value) (change (valued at p value) net name) g
