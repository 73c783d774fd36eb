-- Cells of two sheets with the same names, by their ranks.
use Rattle.std.proofs.Common.{◌≡◌, ℕ, ◌+◌, ◌<◌, ◌≤◌, Bool, true, false, not, List, [], ◌∷◌, ◌++◌, length, get_or, take, nat_eq, refl, sym, ap, ap₂, ◌∙◌, arith}
use Rattle.std.proofs.lemmas.Bool.{and_parts, eqb-true, eq-eqb, false≢true}
use Rattle.std.specs.Cmp.Lexicographic.{pointwise}
use Rattle.std.proofs.lemmas.List.{get_or-map, map-append, take_more}
use Rattle.viz_sheet.specs.Ranked.{names_at}

-- the name of a rank of a cell
pub name-at : (ns : List (List ℕ)) (xs : List ℕ) (i d : ℕ) → i < length xs → get_or (names_at ns xs) i [] ≡ get_or ns (get_or xs i d) []
name-at ns xs i d l = get_or-map (λ r. get_or ns r []) xs i d [] l

-- cells of the same names have the same name at each place
pub names-alike : (ns ms : List (List ℕ)) (xs ys : List ℕ) (i d e : ℕ) → i < length xs → i < length ys → names_at ns xs ≡ names_at ms ys → get_or ns (get_or xs i d) [] ≡ get_or ms (get_or ys i e) []
names-alike ns ms xs ys i d e l m h = sym (name-at ns xs i d l) ∙ ap (λ cs. get_or cs i []) h ∙ name-at ms ys i e m

-- one name more
pub names-more : (ns ms : List (List ℕ)) (xs ys : List ℕ) (i d e : ℕ) → i < length xs → i < length ys → get_or ns (get_or xs i d) [] ≡ get_or ms (get_or ys i e) []
    → names_at ns (take i xs) ≡ names_at ms (take i ys) → names_at ns (take (i + 1) xs) ≡ names_at ms (take (i + 1) ys)
names-more ns ms xs ys i d e l m is h =
    ap (names_at ns) (take_more xs i d l) ∙ map-append (λ r. get_or ns r []) (take i xs) (get_or xs i d ∷ [])
    ∙ ap₂ (λ a b. a ++ b ∷ []) h is
    ∙ sym (ap (names_at ms) (take_more ys i e m) ∙ map-append (λ r. get_or ms r []) (take i ys) (get_or ys i e ∷ []))

-- ---- names that are compared leaf by leaf

pub leaves-same : (xs ys : List ℕ) → pointwise nat_eq xs ys ≡ true → xs ≡ ys
leaves-same [] [] h = refl
leaves-same [] (y ∷ ys) h = absurd (false≢true h)
leaves-same (x ∷ xs) [] h = absurd (false≢true h)
leaves-same (x ∷ xs) (y ∷ ys) h =
    let both = and_parts (nat_eq x y) (pointwise nat_eq xs ys) h in
    ap (λ n. n ∷ xs) (eqb-true x y both.0) ∙ ap (λ l. y ∷ l) (leaves-same xs ys both.1)

pub leaves-itself : (xs : List ℕ) → pointwise nat_eq xs xs ≡ true
leaves-itself [] = refl
leaves-itself (x ∷ xs) = rw (eq-eqb x x refl) (leaves-itself xs)

-- ---- cells of three and of four

pub three-items : (xs : List ℕ) → 3 ≤ length xs → length xs < 4 → get_or xs 0 0 ∷ get_or xs 1 0 ∷ get_or xs 2 0 ∷ [] ≡ xs
three-items [] l m = absurd (omega (arith, l))
three-items (a ∷ []) l m = absurd (omega (arith, l))
three-items (a ∷ b ∷ []) l m = absurd (omega (arith, l))
three-items (a ∷ b ∷ c ∷ []) l m = refl
three-items (a ∷ b ∷ c ∷ d ∷ xs) l m = absurd (omega (arith, m))

pub four-items : (xs : List ℕ) → 4 ≤ length xs → length xs < 5 → get_or xs 0 0 ∷ get_or xs 1 0 ∷ get_or xs 2 0 ∷ get_or xs 3 0 ∷ [] ≡ xs
four-items [] l m = absurd (omega (arith, l))
four-items (a ∷ []) l m = absurd (omega (arith, l))
four-items (a ∷ b ∷ []) l m = absurd (omega (arith, l))
four-items (a ∷ b ∷ c ∷ []) l m = absurd (omega (arith, l))
four-items (a ∷ b ∷ c ∷ d ∷ []) l m = refl
four-items (a ∷ b ∷ c ∷ d ∷ e ∷ xs) l m = absurd (omega (arith, m))

pub not-false : (b : Bool) → not b ≡ false → b ≡ true
not-false true h = refl
not-false false h = h' h
  where
    h' : true ≡ false → false ≡ true
    h' e = sym e

-- the only item of a list
pub one-item : {X : Type 0} (xs : List X) (x : X) → 1 ≤ length xs → length xs < 2 → x ≡ get_or xs 0 x → x ∷ [] ≡ xs
one-item [] x l m e = absurd (omega (arith, l))
one-item (y ∷ []) x l m e = ap (λ z. z ∷ []) e
one-item (y ∷ z ∷ xs) x l m e = absurd (omega (arith, m))
