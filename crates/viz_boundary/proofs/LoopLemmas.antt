-- The marked facets of the first so many cells, and of one more.
use Rattle.std.proofs.Common.{◌≡◌, ℕ, zero, suc, ◌+◌, ◌<◌, ◌≤◌, Bool, true, false, cond, List, [], ◌∷◌, ◌++◌, length, get_or, take, drop, refl, sym, ap, ap₂, ◌∙◌, append_assoc, append-nil, arith}
use Rattle.std.specs.List.{All, flat_map}
use Rattle.std.proofs.lemmas.List.{length-append}
use Rattle.std.proofs.lemmas.List.Elements.{All-head, All-tail}
use Rattle.viz_sheet.specs.Kept.{kept}
use Rattle.viz_mesh_meaning.specs.Facets.{facets_of}

pub flat-more : {X Y : Type 0} (f : X → List Y) (xs : List X) (i : ℕ) (d : X) → i < length xs → flat_map f (take (i + 1) xs) ≡ flat_map f (take i xs) ++ f (get_or xs i d)
flat-more f [] i d l = absurd (omega arith)
flat-more f (x ∷ xs) zero d l = append-nil (f x)
flat-more f (x ∷ xs) (suc i) d l =
    ap (λ n. flat_map f (take n (x ∷ xs))) {x = suc i + 1} {y = suc (i + 1)} (omega arith)
    ∙ ap (λ t. f x ++ t) (flat-more f xs i d (omega arith)) ∙ sym (append_assoc (f x) (flat_map f (take i xs)) (f (get_or xs i d)))

flat-most : {X Y : Type 0} (f : X → List Y) (xs : List X) (i : ℕ) → length (flat_map f (take i xs)) ≤ length (flat_map f xs)
flat-most f [] zero = omega arith
flat-most f [] (suc i) = omega arith
flat-most f (x ∷ xs) zero = omega arith
flat-most f (x ∷ xs) (suc i) =
    omega (arith, length-append (f x) (flat_map f (take i xs)), length-append (f x) (flat_map f xs), flat-most f xs i)

kept-append : {X : Type 0} (a n : ℕ) (ms : List Bool) (xs ys : List X) → length xs ≡ a → a ≤ length ms → kept (take (a + n) ms) (xs ++ ys) ≡ kept (take a ms) xs ++ kept (take n (drop a ms)) ys
kept-append zero n ms [] ys e l = ap (λ k. kept (take k ms) ys) {x = zero + n} {y = n} (omega arith) ∙ none ms
  where
    none : (ns : List Bool) → kept (take n ms) ys ≡ kept (take zero ns) [] ++ kept (take n (drop zero ms)) ys
    none [] = refl
    none (b ∷ bs) = refl
kept-append zero n ms (x ∷ xs) ys e l = absurd (omega (arith, e))
kept-append (suc a) n ms [] ys e l = absurd (omega (arith, e))
kept-append (suc a) n [] (x ∷ xs) ys e l = absurd (omega arith)
kept-append (suc a) n (m ∷ ms) (x ∷ xs) ys e l =
    ap (λ k. kept (take k (m ∷ ms)) (x ∷ (xs ++ ys))) {x = suc a + n} {y = suc (a + n)} (omega arith)
    ∙ one m (kept-append a n ms xs ys (omega arith) (omega arith))
  where
    one : (b : Bool) → kept (take (a + n) ms) (xs ++ ys) ≡ kept (take a ms) xs ++ kept (take n (drop a ms)) ys
        → cond b (x ∷ kept (take (a + n) ms) (xs ++ ys)) (kept (take (a + n) ms) (xs ++ ys)) ≡ cond b (x ∷ kept (take a ms) xs) (kept (take a ms) xs) ++ kept (take n (drop a ms)) ys
    one true h = ap (λ t. x ∷ t) h
    one false h = h

-- where the facets of the first i cells end
pub record IsUpTo (cells : List (List ℕ)) (marks : List Bool) (i at : ℕ) (out : List (List ℕ)) : Type 0 where
  pub place : at ≡ length (flat_map facets_of (take i cells))
  pub made : out ≡ kept (take at marks) (flat_map facets_of (take i cells))

pub room-for : (cells : List (List ℕ)) (marks : List Bool) (i at : ℕ) (cell : List ℕ) → length marks ≡ length (flat_map facets_of cells) → i < length cells → cell ≡ get_or cells i cell
    → at ≡ length (flat_map facets_of (take i cells)) → at + length (facets_of cell) ≤ length marks
room-for cells marks i at cell size l is place =
    let more = flat-more facets_of cells i cell l in
    let both : length (flat_map facets_of (take (i + 1) cells)) ≡ length (flat_map facets_of (take i cells)) + length (facets_of cell) =
    ap length more ∙ length-append (flat_map facets_of (take i cells)) (facets_of (get_or cells i cell)) ∙ ap (λ c. length (flat_map facets_of (take i cells)) + length (facets_of c)) (sym is) in
    omega (arith, both, flat-most facets_of cells (i + 1))

pub one-more : (cells : List (List ℕ)) (marks : List Bool) (i at : ℕ) (cell : List ℕ) (old new : List (List ℕ)) → length marks ≡ length (flat_map facets_of cells) → i < length cells → cell ≡ get_or cells i cell
    → at ≡ length (flat_map facets_of (take i cells)) → old ≡ kept (take at marks) (flat_map facets_of (take i cells))
    → new ≡ old ++ kept (take (length (facets_of cell)) (drop at marks)) (facets_of cell)
    → IsUpTo cells marks (i + 1) (at + length (facets_of cell)) new
one-more cells marks i at cell old new size l is place made more =
    let n = length (facets_of cell) in
    let all = flat_map facets_of (take i cells) in
    let flat : flat_map facets_of (take (i + 1) cells) ≡ all ++ facets_of cell = flat-more facets_of cells i cell l ∙ ap (λ c. all ++ facets_of c) (sym is) in
    let room = room-for cells marks i at cell size l is place in
    record {
      place = omega (arith, place, ap length flat, length-append all (facets_of cell));
      made =
          more ∙ ap (λ t. t ++ kept (take n (drop at marks)) (facets_of cell)) made
          ∙ sym (kept-append at n marks all (facets_of cell) (sym place) (omega (arith, room)))
          ∙ ap (kept (take (at + n) marks)) (sym flat);
    }

pub kept-nothing : {X : Type 0} (marks : List Bool) → kept {X = X} marks [] ≡ []
kept-nothing [] = refl
kept-nothing (m ∷ ms) = refl

pub vertices-none : (cells : List (List ℕ)) → All (λ c. length c ≡ 1) cells → flat_map facets_of cells ≡ []
vertices-none [] h = refl
vertices-none (c ∷ cs) h = ap₂ (λ a b. a ++ b) (one c (All-head (λ d. length d ≡ 1) c cs h)) (vertices-none cs (All-tail (λ d. length d ≡ 1) c cs h))
  where
    one : (d : List ℕ) → length d ≡ 1 → facets_of d ≡ []
    one [] e = absurd (omega (arith, e))
    one (a ∷ []) e = refl
    one (a ∷ b ∷ rest) e = absurd (omega (arith, e))

-- how many facets cells of each size have
pub two-count : (c : List ℕ) → length c ≡ 2 → length (facets_of c) ≡ 2
two-count [] e = absurd (omega (arith, e))
two-count (a ∷ []) e = absurd (omega (arith, e))
two-count (a ∷ b ∷ []) e = refl
two-count (a ∷ b ∷ c ∷ rest) e = absurd (omega (arith, e))

pub three-count : (c : List ℕ) → length c ≡ 3 → length (facets_of c) ≡ 3
three-count [] e = absurd (omega (arith, e))
three-count (a ∷ []) e = absurd (omega (arith, e))
three-count (a ∷ b ∷ []) e = absurd (omega (arith, e))
three-count (a ∷ b ∷ c ∷ []) e = refl
three-count (a ∷ b ∷ c ∷ d ∷ rest) e = absurd (omega (arith, e))

pub four-count : (c : List ℕ) → length c ≡ 4 → length (facets_of c) ≡ 4
four-count [] e = absurd (omega (arith, e))
four-count (a ∷ []) e = absurd (omega (arith, e))
four-count (a ∷ b ∷ []) e = absurd (omega (arith, e))
four-count (a ∷ b ∷ c ∷ []) e = absurd (omega (arith, e))
four-count (a ∷ b ∷ c ∷ d ∷ []) e = refl
four-count (a ∷ b ∷ c ∷ d ∷ f ∷ rest) e = absurd (omega (arith, e))

pub facets-most : (c : List ℕ) → length c ≤ 4 → length (facets_of c) ≤ 4
facets-most [] l = omega arith
facets-most (a ∷ []) l = omega arith
facets-most (a ∷ b ∷ []) l = omega arith
facets-most (a ∷ b ∷ c ∷ []) l = omega arith
facets-most (a ∷ b ∷ c ∷ d ∷ []) l = omega arith
facets-most (a ∷ b ∷ c ∷ d ∷ e ∷ rest) l = absurd (omega arith)
