-- In how many kept tetrahedra of one tetrahedron a facet lies, by spots: over all cases.
use Rattle.std.proofs.Common.{◌≡◌, ℕ, zero, suc, ◌+◌, ◌<◌, ◌==◌, Bool, true, false, not, ◌&&◌, ◌||◌, List, [], ◌∷◌, length, get_or, cond, ltb, is_lt, is_eq, refl, sym, ap, ◌∙◌, arith}
use Rattle.std.specs.List.{All, count_by, list_all, list_any}
use Rattle.std.proofs.lemmas.Bool.{and_parts}
use Rattle.viz_clip_meaning.proofs.SpotLemmas.{Spot, c0, c1, c2, c3, e01, e02, e03, e12, e13, e23, spot_cmp, spot_id, spot_tets}

abbrev pub all_spots : List Spot
all_spots = c0 ∷ c1 ∷ c2 ∷ c3 ∷ e01 ∷ e02 ∷ e03 ∷ e12 ∷ e13 ∷ e23 ∷ []

-- whether a tetrahedron has three spots
abbrev pub has_spots : Spot → Spot → Spot → List Spot → Bool
has_spots i j k tet = list_all (λ s. list_any (λ t. is_eq (spot_cmp s t)) tet) (i ∷ j ∷ k ∷ [])

-- in how many kept tetrahedra they lie, by which corners are inside
abbrev pub spot_count : Bool → Bool → Bool → Bool → Spot → Spot → Spot → ℕ
spot_count p q r s i j k = count_by (has_spots i j k) (spot_tets p q r s)

-- whether a spot is of a corner
abbrev pub of0 : Spot → Bool
of0 s = list_any (λ t. spot_id s == spot_id t) (c0 ∷ e01 ∷ e02 ∷ e03 ∷ [])

abbrev pub of1 : Spot → Bool
of1 s = list_any (λ t. spot_id s == spot_id t) (c1 ∷ e01 ∷ e12 ∷ e13 ∷ [])

abbrev pub of2 : Spot → Bool
of2 s = list_any (λ t. spot_id s == spot_id t) (c2 ∷ e02 ∷ e12 ∷ e23 ∷ [])

abbrev pub of3 : Spot → Bool
of3 s = list_any (λ t. spot_id s == spot_id t) (c3 ∷ e03 ∷ e13 ∷ e23 ∷ [])

abbrev pub any3 : (Spot → Bool) → Spot → Spot → Spot → Bool
any3 f i j k = f i || (f j || f k)

abbrev pub cut_spot : Spot → Bool
cut_spot s = not (spot_id s == 0) && (not (spot_id s == 1) && (not (spot_id s == 2) && not (spot_id s == 3)))

-- three spots in order
abbrev pub ascends : Spot → Spot → Spot → Bool
ascends i j k = is_lt (spot_cmp i j) && is_lt (spot_cmp j k)

abbrev pub all_cuts : Spot → Spot → Spot → Bool
all_cuts i j k = cut_spot i && (cut_spot j && cut_spot k)

-- the spots of three corners alone: which corner is missing
pub data Face : Type 0 where
  no0 : Face
  no1 : Face
  no2 : Face
  no3 : Face

-- what is found of three spots: they have all corners, or those of a face
abbrev pub count_law : Bool → Bool → Bool → Bool → Spot → Spot → Spot → Bool
count_law p q r s i j k =
    let n = spot_count p q r s i j k in
    not (ascends i j k) || ((n == 0) || cond (any3 of0 i j k)
    (cond (any3 of1 i j k)
    (cond (any3 of2 i j k) (cond (any3 of3 i j k) (n == cond (all_cuts i j k) 1 2) ((n == 1) && not (all_cuts i j k))) (any3 of3 i j k && ((n == 1) && not (all_cuts i j k))))
    (any3 of2 i j k && (any3 of3 i j k && ((n == 1) && not (all_cuts i j k)))))
    (any3 of1 i j k && (any3 of2 i j k && (any3 of3 i j k && ((n == 1) && not (all_cuts i j k))))))

abbrev pub each_spot : (Spot → Bool) → Bool
each_spot f = list_all f all_spots

abbrev pub each_flag : (Bool → Bool) → Bool
each_flag f = f true && f false

abbrev all_counts : Bool
all_counts = each_flag (λ p. each_flag (λ q. each_flag (λ r. each_flag (λ s. each_spot (λ i. each_spot (λ j. each_spot (λ k. count_law p q r s i j k)))))))

all_counts-hold : all_counts ≡ true
all_counts-hold = refl

-- ---- from a test of all to each

pub flag-each : (f : Bool → Bool) → each_flag f ≡ true → (b : Bool) → f b ≡ true
flag-each f h true = (and_parts (f true) (f false) h).0
flag-each f h false = (and_parts (f true) (f false) h).1

list-each : {X : Type 0} (f : X → Bool) (xs : List X) (k : ℕ) (d : X) → list_all f xs ≡ true → k < length xs → f (get_or xs k d) ≡ true
list-each f [] k d h l = absurd (omega arith)
list-each f (x ∷ xs) zero d h l = (and_parts (f x) (list_all f xs) h).0
list-each f (x ∷ xs) (suc k) d h l = list-each f xs k d (and_parts (f x) (list_all f xs) h).1 (omega arith)

at-spot : (s : Spot) → get_or all_spots (spot_id s) c0 ≡ s
at-spot c0 = refl
at-spot c1 = refl
at-spot c2 = refl
at-spot c3 = refl
at-spot e01 = refl
at-spot e02 = refl
at-spot e03 = refl
at-spot e12 = refl
at-spot e13 = refl
at-spot e23 = refl

below : (s : Spot) → spot_id s < 10
below c0 = omega arith
below c1 = omega arith
below c2 = omega arith
below c3 = omega arith
below e01 = omega arith
below e02 = omega arith
below e03 = omega arith
below e12 = omega arith
below e13 = omega arith
below e23 = omega arith

pub spot-each : (f : Spot → Bool) → each_spot f ≡ true → (s : Spot) → f s ≡ true
spot-each f h s = ap f (sym (at-spot s)) ∙ list-each f all_spots (spot_id s) c0 h (below s)

pub count-law : (p q r s : Bool) (i j k : Spot) → count_law p q r s i j k ≡ true
count-law p q r s i j k =
    let a = flag-each (λ p. each_flag (λ q. each_flag (λ r. each_flag (λ s. each_spot (λ i. each_spot (λ j. each_spot (λ k. count_law p q r s i j k))))))) all_counts-hold p in
    let b = flag-each (λ q. each_flag (λ r. each_flag (λ s. each_spot (λ i. each_spot (λ j. each_spot (λ k. count_law p q r s i j k)))))) a q in
    let c = flag-each (λ r. each_flag (λ s. each_spot (λ i. each_spot (λ j. each_spot (λ k. count_law p q r s i j k))))) b r in
    let d = flag-each (λ s. each_spot (λ i. each_spot (λ j. each_spot (λ k. count_law p q r s i j k)))) c s in
    spot-each (λ k. count_law p q r s i j k) (spot-each (λ j. each_spot (λ k. count_law p q r s i j k)) (spot-each (λ i. each_spot (λ j. each_spot (λ k. count_law p q r s i j k))) d i) j) k

-- ---- faces

-- a spot of a face, among those of the corners 0, 1 and 2
abbrev pub turned_to : Face → Spot → Spot
turned_to no3 s = s
turned_to no2 c0 = c0
turned_to no2 c1 = c1
turned_to no2 c2 = c3
turned_to no2 e01 = e01
turned_to no2 e02 = e03
turned_to no2 e12 = e13
turned_to no2 s = s
turned_to no1 c0 = c0
turned_to no1 c1 = c2
turned_to no1 c2 = c3
turned_to no1 e01 = e02
turned_to no1 e02 = e03
turned_to no1 e12 = e23
turned_to no1 s = s
turned_to no0 c0 = c1
turned_to no0 c1 = c2
turned_to no0 c2 = c3
turned_to no0 e01 = e12
turned_to no0 e02 = e13
turned_to no0 e12 = e23
turned_to no0 s = s

-- the spots of the corners 0, 1 and 2
abbrev pub flat : Spot → Bool
flat s = not (of3 s)

-- flags of a tetrahedron by those of a face and of the corner that it misses
abbrev pub face_count : Face → Bool → Bool → Bool → Bool → Spot → Spot → Spot → ℕ
face_count no3 p q r s i j k = spot_count p q r s i j k
face_count no2 p q r s i j k = spot_count p q s r (turned_to no2 i) (turned_to no2 j) (turned_to no2 k)
face_count no1 p q r s i j k = spot_count p s q r (turned_to no1 i) (turned_to no1 j) (turned_to no1 k)
face_count no0 p q r s i j k = spot_count s p q r (turned_to no0 i) (turned_to no0 j) (turned_to no0 k)

-- three spots of a face lie in as many tetrahedra, whichever face of which tetrahedron it is
abbrev pub face_law : Face → Bool → Bool → Bool → Bool → Spot → Spot → Spot → Bool
face_law face p q r s i j k =
    not (ascends i j k) || (not (flat i && (flat j && flat k)) || (not (any3 of0 i j k && (any3 of1 i j k && any3 of2 i j k))
    || (face_count face p q r s i j k == spot_count p q r false i j k)))

abbrev all_faces : Face → Bool
all_faces face = each_flag (λ p. each_flag (λ q. each_flag (λ r. each_flag (λ s. each_spot (λ i. each_spot (λ j. each_spot (λ k. face_law face p q r s i j k)))))))

all_faces-hold : (face : Face) → all_faces face ≡ true
all_faces-hold no0 = refl
all_faces-hold no1 = refl
all_faces-hold no2 = refl
all_faces-hold no3 = refl

pub face-law : (face : Face) (p q r s : Bool) (i j k : Spot) → face_law face p q r s i j k ≡ true
face-law face p q r s i j k =
    let a = flag-each (λ p. each_flag (λ q. each_flag (λ r. each_flag (λ s. each_spot (λ i. each_spot (λ j. each_spot (λ k. face_law face p q r s i j k))))))) (all_faces-hold face) p in
    let b = flag-each (λ q. each_flag (λ r. each_flag (λ s. each_spot (λ i. each_spot (λ j. each_spot (λ k. face_law face p q r s i j k)))))) a q in
    let c = flag-each (λ r. each_flag (λ s. each_spot (λ i. each_spot (λ j. each_spot (λ k. face_law face p q r s i j k))))) b r in
    let d = flag-each (λ s. each_spot (λ i. each_spot (λ j. each_spot (λ k. face_law face p q r s i j k)))) c s in
    spot-each (λ k. face_law face p q r s i j k) (spot-each (λ j. each_spot (λ k. face_law face p q r s i j k)) (spot-each (λ i. each_spot (λ j. each_spot (λ k. face_law face p q r s i j k))) d i) j) k
