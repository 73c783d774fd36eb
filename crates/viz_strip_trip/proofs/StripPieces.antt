-- The pieces that are read of strips are the triangles of the strips.
use Rattle.std.proofs.Common.{◌≡◌, ◌≢◌, ℕ, zero, suc, ◌+◌, ◌-◌, ◌%◌, ◌<◌, ◌==◌, Bool, true, false, not, cond, List, [], ◌∷◌, ◌++◌, length, get_or, refl, sym, ap, ap₂, subst, ◌∙◌, append_assoc, append-nil, arith}
use Rattle.std.specs.List.{All, flat_map}
use Rattle.std.proofs.lemmas.Bool.{ne_eqb}
use Rattle.std.proofs.lemmas.List.Elements.{All-nil, All-cons, All-head, All-tail, All-append}
use Rattle.viz_sheet.specs.Ranked.{IsCell}
use Rattle.viz_mesh_read.specs.Pieces.{pieces_up_to, kept, triangle_of, is_triangle, triangles_of}
use Rattle.viz_strip.specs.Strips.{AreStrips, piece, pieces_from, pieces_of, all_pieces}
use Rattle.viz_round_trip.proofs.PieceLemmas.{kept_whole}
use Rattle.viz_strip_trip.proofs.SameLemmas.{IsThree}

-- ---- a piece by its number

-- it is turned, where the first one is or isn't
abbrev turn : Bool → ℕ → Bool
turn turned zero = turned
turn turned (suc i) = turn (not turned) i

abbrev nth : Bool → List ℕ → ℕ → List ℕ
nth turned names i = piece (turn turned i) (get_or names i 0) (get_or names (suc i) 0) (get_or names (suc (suc i)) 0)

even_again : (i : ℕ) → (suc (suc i) % 2) ≡ i % 2
even_again i = omega arith

turned-odd : (i : ℕ) → turn false i ≡ not (i % 2 == 0)
turned-odd zero = refl
turned-odd (suc zero) = refl
turned-odd (suc (suc i)) = turned-odd i ∙ ap (λ (k : ℕ). not (k == 0)) (sym (even_again i))

swapped : (b : Bool) (x y : List ℕ) → cond b x y ≡ cond (not b) y x
swapped true x y = refl
swapped false x y = refl

-- the triangle of a strip that is read
triangle-is : (names : List ℕ) (i : ℕ) → triangle_of true names i ≡ nth false names i
triangle-is names i =
    let one : i + 1 ≡ suc i = omega arith in
    let two : i + 2 ≡ suc (suc i) = omega arith in
    let a = get_or names i 0 in
    ap₂ (λ (j k : ℕ). cond (i % 2 == 0) (a ∷ get_or names j 0 ∷ get_or names k 0 ∷ []) (get_or names j 0 ∷ a ∷ get_or names k 0 ∷ [])) one two
    ∙ swapped (i % 2 == 0) (a ∷ get_or names (suc i) 0 ∷ get_or names (suc (suc i)) 0 ∷ []) (get_or names (suc i) 0 ∷ a ∷ get_or names (suc (suc i)) 0 ∷ [])
    ∙ ap (λ (b : Bool). piece b a (get_or names (suc i) 0) (get_or names (suc (suc i)) 0)) (sym (turned-odd i))

-- ---- the pieces one after the other

up_to-front : (f : ℕ → List (List ℕ)) (n : ℕ) → pieces_up_to f (suc n) ≡ f 0 ++ pieces_up_to (λ i. f (suc i)) n
up_to-front f zero = sym (append-nil (f 0))
up_to-front f (suc n) =
    ap (λ (xs : List (List ℕ)). xs ++ f (suc n)) (up_to-front f n) ∙ append_assoc (f 0) (pieces_up_to (λ i. f (suc i)) n) (f (suc n))

up_to-same : (f g : ℕ → List (List ℕ)) (n : ℕ) → ((i : ℕ) → f i ≡ g i) → pieces_up_to f n ≡ pieces_up_to g n
up_to-same f g zero h = refl
up_to-same f g (suc n) h = ap₂ (λ (xs ys : List (List ℕ)). xs ++ ys) (up_to-same f g n h) (h n)

abbrev kept_at : Bool → List ℕ → ℕ → List (List ℕ)
kept_at turned names i = kept (is_triangle (nth turned names i)) (nth turned names i)

pieces-are : (turned : Bool) (names : List ℕ) → All (λ t. is_triangle t ≡ true) (pieces_from turned names) → pieces_up_to (kept_at turned names) (length names - 2) ≡ pieces_from turned names
pieces-are turned [] h = refl
pieces-are turned (a ∷ []) h = refl
pieces-are turned (a ∷ b ∷ []) h = refl
pieces-are turned (a ∷ b ∷ c ∷ names) h =
    let P : List ℕ → Type 0 = λ t. is_triangle t ≡ true in
    let first = piece turned a b c in
    let rest = pieces_from (not turned) (b ∷ c ∷ names) in
    let long : length (a ∷ b ∷ c ∷ names) - 2 ≡ suc (length names) = omega arith in
    let shorter : length names ≡ length (b ∷ c ∷ names) - 2 = omega arith in
    let f = kept_at turned (a ∷ b ∷ c ∷ names) in
    let g = kept_at (not turned) (b ∷ c ∷ names) in
    ap (pieces_up_to f) long ∙ up_to-front f (length names)
    ∙ ap₂ (λ (xs ys : List (List ℕ)). xs ++ ys) (kept_whole (is_triangle first) first (All-head P first rest h)) (ap (pieces_up_to g) shorter ∙ pieces-are (not turned) (b ∷ c ∷ names) (All-tail P first rest h))

strip-is : (strip : List ℕ) → All (λ t. is_triangle t ≡ true) (pieces_of strip) → triangles_of true strip ≡ pieces_of strip
strip-is strip h =
    up_to-same (λ i. kept (is_triangle (triangle_of true strip i)) (triangle_of true strip i)) (kept_at false strip) (length strip - 2) (λ i. ap (λ (t : List ℕ). kept (is_triangle t) t) (triangle-is strip i))
    ∙ pieces-are false strip h

-- ---- all strips

pub All-front : {X : Type 0} (P : X → Type 0) (xs ys : List X) → All P (xs ++ ys) → All P xs
All-front P [] ys h = All-nil P
All-front P (x ∷ xs) ys h = All-cons P x xs (All-head P x (xs ++ ys) h) (All-front P xs ys (All-tail P x (xs ++ ys) h))

pub All-rest : {X : Type 0} (P : X → Type 0) (xs ys : List X) → All P (xs ++ ys) → All P ys
All-rest P [] ys h = h
All-rest P (x ∷ xs) ys h = All-rest P xs ys (All-tail P x (xs ++ ys) h)

strips-are : (strips : List (List ℕ)) → All (λ t. is_triangle t ≡ true) (all_pieces strips) → flat_map (triangles_of true) strips ≡ all_pieces strips
strips-are [] h = refl
strips-are (strip ∷ strips) h =
    let P : List ℕ → Type 0 = λ t. is_triangle t ≡ true in
    ap₂ (λ (xs ys : List (List ℕ)). xs ++ ys) (strip-is strip (All-front P (pieces_of strip) (all_pieces strips) h)) (strips-are strips (All-rest P (pieces_of strip) (all_pieces strips) h))

-- ---- pieces are of three names

piece-three : (turned : Bool) (a b c : ℕ) → IsThree (piece turned a b c)
piece-three true a b c = record { a = b; b = a; c = c; is = refl }
piece-three false a b c = record { a = a; b = b; c = c; is = refl }

pieces-three : (turned : Bool) (names : List ℕ) → All IsThree (pieces_from turned names)
pieces-three turned [] = All-nil IsThree
pieces-three turned (a ∷ []) = All-nil IsThree
pieces-three turned (a ∷ b ∷ []) = All-nil IsThree
pieces-three turned (a ∷ b ∷ c ∷ names) =
    All-cons IsThree (piece turned a b c) (pieces_from (not turned) (b ∷ c ∷ names)) (piece-three turned a b c) (pieces-three (not turned) (b ∷ c ∷ names))

pub strips-three : (strips : List (List ℕ)) → All IsThree (all_pieces strips)
strips-three [] = All-nil IsThree
strips-three (strip ∷ strips) = All-append IsThree (pieces_of strip) (all_pieces strips) (pieces-three false strip) (strips-three strips)

-- ---- where all pieces are cells

-- a cell of three names is a triangle
cell-triangle : (n : ℕ) (t : List ℕ) → IsThree t → IsCell n t → is_triangle t ≡ true
cell-triangle n t three is =
    let a = three.a in
    let b = three.b in
    let c = three.c in
    let cell = subst (IsCell n) three.is is in
    let ab = All-head (λ k. a ≢ k) b (c ∷ []) cell.apart.0 in
    let ac = All-head (λ k. a ≢ k) c [] (All-tail (λ k. a ≢ k) b (c ∷ []) cell.apart.0) in
    let bc = All-head (λ k. b ≢ k) c [] cell.apart.1.0 in
    let here : is_triangle (a ∷ b ∷ c ∷ []) ≡ true = rw (ne_eqb a b ab, ne_eqb b c bc, ne_eqb a c ac) refl in
    ap is_triangle three.is ∙ here

cells-triangles : (n : ℕ) (ts : List (List ℕ)) → All IsThree ts → All (IsCell n) ts → All (λ t. is_triangle t ≡ true) ts
cells-triangles n [] threes are = All-nil (λ t. is_triangle t ≡ true)
cells-triangles n (t ∷ ts) threes are =
    All-cons (λ t. is_triangle t ≡ true) t ts (cell-triangle n t (All-head IsThree t ts threes) (All-head (IsCell n) t ts are)) (cells-triangles n ts (All-tail IsThree t ts threes) (All-tail (IsCell n) t ts are))

pub strips-again : (n : ℕ) (strips : List (List ℕ)) → All (IsCell n) (all_pieces strips) → flat_map (triangles_of true) strips ≡ all_pieces strips
strips-again n strips are = strips-are strips (cells-triangles n (all_pieces strips) (strips-three strips) are)

-- ---- names of strips

-- names of a strip are names of its pieces
piece-below : (n : ℕ) (turned : Bool) (a b c : ℕ) → IsCell n (piece turned a b c) → (a < n) × (b < n) × (c < n)
piece-below n true a b c is =
    let P : ℕ → Type 0 = λ k. k < n in
    let rest = All-tail P b (a ∷ c ∷ []) is.below in
    (All-head P a (c ∷ []) rest, All-head P b (a ∷ c ∷ []) is.below, All-head P c [] (All-tail P a (c ∷ []) rest))
piece-below n false a b c is =
    let P : ℕ → Type 0 = λ k. k < n in
    let rest = All-tail P a (b ∷ c ∷ []) is.below in
    (All-head P a (b ∷ c ∷ []) is.below, All-head P b (c ∷ []) rest, All-head P c [] (All-tail P b (c ∷ []) rest))

names-below : (n : ℕ) (turned : Bool) (a b c : ℕ) (names : List ℕ) → All (IsCell n) (pieces_from turned (a ∷ b ∷ c ∷ names)) → All (λ k. k < n) (a ∷ b ∷ c ∷ names)
names-below n turned a b c [] h =
    let P : ℕ → Type 0 = λ k. k < n in
    let one = piece-below n turned a b c (All-head (IsCell n) (piece turned a b c) [] h) in
    All-cons P a (b ∷ c ∷ []) one.0 (All-cons P b (c ∷ []) one.1 (All-cons P c [] one.2 (All-nil P)))
names-below n turned a b c (d ∷ names) h =
    let P : ℕ → Type 0 = λ k. k < n in
    let rest = pieces_from (not turned) (b ∷ c ∷ d ∷ names) in
    let one = piece-below n turned a b c (All-head (IsCell n) (piece turned a b c) rest h) in
    All-cons P a (b ∷ c ∷ d ∷ names) one.0 (names-below n (not turned) b c d names (All-tail (IsCell n) (piece turned a b c) rest h))

pub strips-below : (n : ℕ) (left strips : List (List ℕ)) → AreStrips left strips → All (IsCell n) (all_pieces strips) → All (All (λ k. k < n)) strips
strips-below n left [] are h = All-nil (All (λ k. k < n))
strips-below n left (strip ∷ strips) are h =
    let s = are.4 in
    let here = All-front (IsCell n) (pieces_of strip) (all_pieces strips) h in
    let names = names-below n false s.a s.b s.c s.more (subst (λ (x : List ℕ). All (IsCell n) (pieces_of x)) s.is here) in
    All-cons (All (λ k. k < n)) strip strips (subst (All (λ k. k < n)) (sym s.is) names) (strips-below n are.2 strips are.5 (All-rest (IsCell n) (pieces_of strip) (all_pieces strips) h))
