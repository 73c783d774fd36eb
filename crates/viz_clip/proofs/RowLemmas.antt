-- Inside and outside corners of a tetrahedron are four together, and what their rows have.
use Rattle.std.proofs.Common.{◌≡◌, ℕ, ◌<◌, Bool, true, false, not, List, [], ◌∷◌, ◌++◌, length, get_or, map, cond, is_lt, refl, sym, ap, ap₂, subst, ◌∙◌, arith}
use Rattle.std.specs.List.{All, Contains, flat_map}
use Rattle.std.specs.Ordering.{nat_cmp}
use Rattle.std.proofs.lemmas.Bool.{cond_both}
use Rattle.std.proofs.lemmas.List.Elements.{All-nil, All-cons}
use Rattle.viz_sheet.specs.Kept.{kept}
use Rattle.viz_sheet.specs.Sheet.{AreApart}
use Rattle.viz_clip_meaning.specs.Order.{ascending}
use Rattle.viz_clip_meaning.specs.Rows.{rows}
use Rattle.viz_clip.specs.Steps.Corners.{inside_of, outside_of}
use Rattle.viz_clip.proofs.CornerLemmas.{four-ascending, four-items}

-- inside and outside corners that are four together
pub data Shape : List ℕ → List ℕ → Type 0 where
  none : (a b c d : ℕ) → Shape [] (a ∷ b ∷ c ∷ d ∷ [])
  one : (a b c d : ℕ) → Shape (a ∷ []) (b ∷ c ∷ d ∷ [])
  two : (a b c d : ℕ) → Shape (a ∷ b ∷ []) (c ∷ d ∷ [])
  three : (a b c d : ℕ) → Shape (a ∷ b ∷ c ∷ []) (d ∷ [])
  whole : (a b c d : ℕ) → Shape (a ∷ b ∷ c ∷ d ∷ []) []

shape-four : (p q r s : Bool) (w x y z : ℕ) → Shape (kept (p ∷ q ∷ r ∷ s ∷ []) (w ∷ x ∷ y ∷ z ∷ [])) (kept (map not (p ∷ q ∷ r ∷ s ∷ [])) (w ∷ x ∷ y ∷ z ∷ []))
shape-four false false false false w x y z = none w x y z
shape-four true false false false w x y z = one w x y z
shape-four false true false false w x y z = one x w y z
shape-four false false true false w x y z = one y w x z
shape-four false false false true w x y z = one z w x y
shape-four true true false false w x y z = two w x y z
shape-four true false true false w x y z = two w y x z
shape-four true false false true w x y z = two w z x y
shape-four false true true false w x y z = two x y w z
shape-four false true false true w x y z = two x z w y
shape-four false false true true w x y z = two y z w x
shape-four true true true false w x y z = three w x y z
shape-four true true false true w x y z = three w x z y
shape-four true false true true w x y z = three w y z x
shape-four false true true true w x y z = three x y z w
shape-four true true true true w x y z = whole w x y z

pub shape : (inside : List Bool) (cell : List ℕ) → length cell ≡ 4 → AreApart cell → Shape (inside_of inside cell) (outside_of inside cell)
shape inside cell four apart =
    let rs = ascending nat_cmp cell in
    let F : ℕ → Bool = λ r. get_or inside r false in
    subst (λ (l : List ℕ). Shape (kept (map F l) l) (kept (map not (map F l)) l)) (sym (four-items rs 0 (four-ascending cell four apart)))
    (shape-four (F (get_or rs 0 0)) (F (get_or rs 1 0)) (F (get_or rs 2 0)) (F (get_or rs 3 0)) (get_or rs 0 0) (get_or rs 1 0) (get_or rs 2 0) (get_or rs 3 0))

-- ---- lists of a few items

all1 : {X : Type 0} (P : X → Type 0) (a : X) → P a → All P (a ∷ [])
all1 P a pa = All-cons P a [] pa (All-nil P)

all2 : {X : Type 0} (P : X → Type 0) (a b : X) → P a → P b → All P (a ∷ b ∷ [])
all2 P a b pa pb = All-cons P a (b ∷ []) pa (all1 P b pb)

all3 : {X : Type 0} (P : X → Type 0) (a b c : X) → P a → P b → P c → All P (a ∷ b ∷ c ∷ [])
all3 P a b c pa pb pc = All-cons P a (b ∷ c ∷ []) pa (all2 P b c pb pc)

all4 : {X : Type 0} (P : X → Type 0) (a b c d : X) → P a → P b → P c → P d → All P (a ∷ b ∷ c ∷ d ∷ [])
all4 P a b c d pa pb pc pd = All-cons P a (b ∷ c ∷ d ∷ []) pa (all3 P b c d pb pc pd)

-- a choice between two orders of two items
either : {X : Type 0} (P : X → Type 0) (t : Bool) (a b : X) → P a → P b → All P (cond t (a ∷ b ∷ []) (b ∷ a ∷ []))
either P true a b pa pb = all2 P a b pa pb
either P false a b pa pb = all2 P b a pb pa

module _ {V : Type 0} (c : ℕ → V) (k : ℕ → ℕ → V) where
  first_two : ℕ → ℕ → ℕ → ℕ → List V
  first_two a b x y = c a ∷ c b ∷ k b x ∷ k b y ∷ []

  -- what holds of the vertices of corners and of cuts holds of those of the rows
  pub rows-all : (P : V → Type 0) (I O : List ℕ) → Shape I O → All (λ i. P (c i)) I → All (λ i. All (λ j. P (k i j)) O) I → All (All P) (rows c k I O)
  rows-all P I O (none w x y z) hc hk = All-nil (All P)
  rows-all P I O (one w x y z) hc hk =
      let K = hk 0 0 (omega arith) in
      all1 (All P) _ (all4 P (c w) (k w x) (k w y) (k w z) (hc 0 0 (omega arith)) (K 0 0 (omega arith)) (K 1 0 (omega arith)) (K 2 0 (omega arith)))
  rows-all P I O (two w x y z) hc hk =
      let A = hk 0 0 (omega arith) in
      let B = hk 1 0 (omega arith) in
      let pa = hc 0 0 (omega arith) in
      let pb = hc 1 0 (omega arith) in
      let ac = A 0 0 (omega arith) in
      let ad = A 1 0 (omega arith) in
      let bc = B 0 0 (omega arith) in
      let bd = B 1 0 (omega arith) in
      All-cons (All P) _ _ (all4 P (c w) (c x) (k x y) (k x z) pa pb bc bd)
      (either (All P) (is_lt (nat_cmp w y)) (c w ∷ k w y ∷ k w z ∷ k x z ∷ []) (c w ∷ k w y ∷ k x y ∷ k x z ∷ [])
      (all4 P (c w) (k w y) (k w z) (k x z) pa ac ad bd) (all4 P (c w) (k w y) (k x y) (k x z) pa ac bc bd))
  rows-all P I O (three w x y z) hc hk =
      let pa = hc 0 0 (omega arith) in
      let pb = hc 1 0 (omega arith) in
      let pc = hc 2 0 (omega arith) in
      let ad = hk 0 0 (omega arith) 0 0 (omega arith) in
      let bd = hk 1 0 (omega arith) 0 0 (omega arith) in
      let cd = hk 2 0 (omega arith) 0 0 (omega arith) in
      all3 (All P) _ _ _ (all4 P (c w) (c x) (c y) (k y z) pa pb pc cd) (all4 P (c w) (c x) (k x z) (k y z) pa pb bd cd) (all4 P (c w) (k w z) (k x z) (k y z) pa ad bd cd)
  rows-all P I O (whole w x y z) hc hk =
      all1 (All P) _ (all4 P (c w) (c x) (c y) (c z) (hc 0 0 (omega arith)) (hc 1 0 (omega arith)) (hc 2 0 (omega arith)) (hc 3 0 (omega arith)))

  -- each of the rows has four vertices
  pub rows-four : (I O : List ℕ) → Shape I O → All (λ t. length t ≡ 4) (rows c k I O)
  rows-four I O (none w x y z) = All-nil (λ (t : List V). length t ≡ 4)
  rows-four I O (one w x y z) = all1 (λ (t : List V). length t ≡ 4) _ refl
  rows-four I O (two w x y z) =
      All-cons (λ (t : List V). length t ≡ 4) _ _ refl
      (either (λ (t : List V). length t ≡ 4) (is_lt (nat_cmp w y)) (c w ∷ k w y ∷ k w z ∷ k x z ∷ []) (c w ∷ k w y ∷ k x y ∷ k x z ∷ []) refl refl)
  rows-four I O (three w x y z) = all3 (λ (t : List V). length t ≡ 4) _ _ _ refl refl refl
  rows-four I O (whole w x y z) = all1 (λ (t : List V). length t ≡ 4) _ refl

  -- the vertices of the rows
  abbrev pub flat : List (List V) → List V
  flat ts = flat_map (λ t. t) ts

  -- the corners are among them
  pub rows-corners : (I O : List ℕ) → Shape I O → All (λ i. Contains (flat (rows c k I O)) (c i)) I
  rows-corners I O (none w x y z) = All-nil (λ i. Contains (flat []) (c i))
  rows-corners I O (one w x y z) = all1 (λ i. Contains (flat (rows c k (w ∷ []) (x ∷ y ∷ z ∷ []))) (c i)) w (0, omega arith, refl)
  rows-corners I O (two w x y z) =
      let T = c w ∷ c x ∷ k x y ∷ k x z ∷ [] in
      let P : List (List V) → Type 0 = λ l. All (λ i. Contains (flat (T ∷ l)) (c i)) (w ∷ x ∷ []) in
      cond_both (is_lt (nat_cmp w y)) ((c w ∷ k w y ∷ k w z ∷ k x z ∷ []) ∷ (c w ∷ k w y ∷ k x y ∷ k x z ∷ []) ∷ []) ((c w ∷ k w y ∷ k x y ∷ k x z ∷ []) ∷ (c w ∷ k w y ∷ k w z ∷ k x z ∷ []) ∷ []) P
      (λ _. all2 (λ i. Contains (flat (T ∷ (c w ∷ k w y ∷ k w z ∷ k x z ∷ []) ∷ (c w ∷ k w y ∷ k x y ∷ k x z ∷ []) ∷ [])) (c i)) w x (0, omega arith, refl) (1, omega arith, refl))
      (λ _. all2 (λ i. Contains (flat (T ∷ (c w ∷ k w y ∷ k x y ∷ k x z ∷ []) ∷ (c w ∷ k w y ∷ k w z ∷ k x z ∷ []) ∷ [])) (c i)) w x (0, omega arith, refl) (1, omega arith, refl))
  rows-corners I O (three w x y z) =
      all3 (λ i. Contains (flat (rows c k (w ∷ x ∷ y ∷ []) (z ∷ []))) (c i)) w x y (0, omega arith, refl) (1, omega arith, refl) (2, omega arith, refl)
  rows-corners I O (whole w x y z) =
      all4 (λ i. Contains (flat (rows c k (w ∷ x ∷ y ∷ z ∷ []) [])) (c i)) w x y z (0, omega arith, refl) (1, omega arith, refl) (2, omega arith, refl) (3, omega arith, refl)

  -- and so are the cuts
  pub rows-cuts : (I O : List ℕ) → Shape I O → All (λ i. All (λ j. Contains (flat (rows c k I O)) (k i j)) O) I
  rows-cuts I O (none w x y z) = All-nil (λ i. All (λ j. Contains (flat []) (k i j)) (w ∷ x ∷ y ∷ z ∷ []))
  rows-cuts I O (one w x y z) =
      let L = flat (rows c k (w ∷ []) (x ∷ y ∷ z ∷ [])) in
      all1 (λ i. All (λ j. Contains L (k i j)) (x ∷ y ∷ z ∷ [])) w
      (all3 (λ j. Contains L (k w j)) x y z (1, omega arith, refl) (2, omega arith, refl) (3, omega arith, refl))
  rows-cuts I O (two w x y z) =
      let T = c w ∷ c x ∷ k x y ∷ k x z ∷ [] in
      let P : List (List V) → Type 0 = λ l. All (λ i. All (λ j. Contains (flat (T ∷ l)) (k i j)) (y ∷ z ∷ [])) (w ∷ x ∷ []) in
      let X = c w ∷ k w y ∷ k w z ∷ k x z ∷ [] in
      let Y = c w ∷ k w y ∷ k x y ∷ k x z ∷ [] in
      cond_both (is_lt (nat_cmp w y)) (X ∷ Y ∷ []) (Y ∷ X ∷ []) P
      (λ _. let L = flat (T ∷ X ∷ Y ∷ []) in all2 (λ i. All (λ j. Contains L (k i j)) (y ∷ z ∷ [])) w x
      (all2 (λ j. Contains L (k w j)) y z (5, omega arith, refl) (6, omega arith, refl))
      (all2 (λ j. Contains L (k x j)) y z (2, omega arith, refl) (3, omega arith, refl)))
      (λ _. let L = flat (T ∷ Y ∷ X ∷ []) in all2 (λ i. All (λ j. Contains L (k i j)) (y ∷ z ∷ [])) w x
      (all2 (λ j. Contains L (k w j)) y z (5, omega arith, refl) (10, omega arith, refl))
      (all2 (λ j. Contains L (k x j)) y z (2, omega arith, refl) (3, omega arith, refl)))
  rows-cuts I O (three w x y z) =
      let L = flat (rows c k (w ∷ x ∷ y ∷ []) (z ∷ [])) in
      let Q : ℕ → Type 0 = λ i. All (λ j. Contains L (k i j)) (z ∷ []) in
      all3 Q w x y
      (all1 (λ j. Contains L (k w j)) z (9, omega arith, refl))
      (all1 (λ j. Contains L (k x j)) z (6, omega arith, refl))
      (all1 (λ j. Contains L (k y j)) z (3, omega arith, refl))
  rows-cuts I O (whole w x y z) =
      let L = flat (rows c k (w ∷ x ∷ y ∷ z ∷ []) []) in
      let N : (i : ℕ) → All (λ j. Contains L (k i j)) [] = λ i. All-nil (λ j. Contains L (k i j)) in
      all4 (λ i. All (λ j. Contains L (k i j)) []) w x y z (N w) (N x) (N y) (N z)

-- ---- rows by another name

-- cuts go over into cuts, and the order of their ends stays
pub record IsNamed {V W : Type 0} (h : V → W) (g : ℕ → ℕ) (k : ℕ → ℕ → V) (m : ℕ → ℕ → W) (i j : ℕ) : Type 0 where
  pub cut : h (k i j) ≡ m (g i) (g j)
  pub order : nat_cmp (g i) (g j) ≡ nat_cmp i j

swapped : {V W : Type 0} (h : V → W) (t u : Bool) (X Y : List V) (A B : List W) → u ≡ t → map h X ≡ A → map h Y ≡ B
    → map (map h) (cond t (X ∷ Y ∷ []) (Y ∷ X ∷ [])) ≡ cond u (A ∷ B ∷ []) (B ∷ A ∷ [])
swapped h t u X Y A B e ex ey = at t ∙ ap (λ s. cond s (A ∷ B ∷ []) (B ∷ A ∷ [])) (sym e)
  where
    at : (s : Bool) → map (map h) (cond s (X ∷ Y ∷ []) (Y ∷ X ∷ [])) ≡ cond s (A ∷ B ∷ []) (B ∷ A ∷ [])
    at true = λ i. ex i ∷ ey i ∷ []
    at false = λ i. ey i ∷ ex i ∷ []

module _ {V W : Type 0} (h : V → W) (g : ℕ → ℕ) (c : ℕ → V) (k : ℕ → ℕ → V) (d : ℕ → W) (m : ℕ → ℕ → W) where
  pub rows-named : (I O : List ℕ) → Shape I O → All (λ i. h (c i) ≡ d (g i)) I → All (λ i. All (IsNamed h g k m i) O) I
      → map (map h) (rows c k I O) ≡ rows d m (map g I) (map g O)
  rows-named I O (none w x y z) hc hk = refl
  rows-named I O (one w x y z) hc hk =
      let K = hk 0 0 (omega arith) in
      let a = hc 0 0 (omega arith) in
      let ab = (K 0 0 (omega arith)).cut in
      let ac = (K 1 0 (omega arith)).cut in
      let ad = (K 2 0 (omega arith)).cut in
      λ i. (a i ∷ ab i ∷ ac i ∷ ad i ∷ []) ∷ []
  rows-named I O (two w x y z) hc hk =
      let A = hk 0 0 (omega arith) in
      let B = hk 1 0 (omega arith) in
      let a = hc 0 0 (omega arith) in
      let b = hc 1 0 (omega arith) in
      let ac = (A 0 0 (omega arith)).cut in
      let ad = (A 1 0 (omega arith)).cut in
      let bc = (B 0 0 (omega arith)).cut in
      let bd = (B 1 0 (omega arith)).cut in
      let first : map h (c w ∷ c x ∷ k x y ∷ k x z ∷ []) ≡ d (g w) ∷ d (g x) ∷ m (g x) (g y) ∷ m (g x) (g z) ∷ [] = λ i. a i ∷ b i ∷ bc i ∷ bd i ∷ [] in
      ap₂ (λ t ts. t ∷ ts) first
      (swapped h (is_lt (nat_cmp w y)) (is_lt (nat_cmp (g w) (g y))) (c w ∷ k w y ∷ k w z ∷ k x z ∷ []) (c w ∷ k w y ∷ k x y ∷ k x z ∷ []) _ _
      (ap is_lt (A 0 0 (omega arith)).order) (λ i. a i ∷ ac i ∷ ad i ∷ bd i ∷ []) (λ i. a i ∷ ac i ∷ bc i ∷ bd i ∷ []))
  rows-named I O (three w x y z) hc hk =
      let a = hc 0 0 (omega arith) in
      let b = hc 1 0 (omega arith) in
      let e = hc 2 0 (omega arith) in
      let ad = (hk 0 0 (omega arith) 0 0 (omega arith)).cut in
      let bd = (hk 1 0 (omega arith) 0 0 (omega arith)).cut in
      let cd = (hk 2 0 (omega arith) 0 0 (omega arith)).cut in
      λ i. (a i ∷ b i ∷ e i ∷ cd i ∷ []) ∷ (a i ∷ b i ∷ bd i ∷ cd i ∷ []) ∷ (a i ∷ ad i ∷ bd i ∷ cd i ∷ []) ∷ []
  rows-named I O (whole w x y z) hc hk =
      let a = hc 0 0 (omega arith) in
      let b = hc 1 0 (omega arith) in
      let e = hc 2 0 (omega arith) in
      let f = hc 3 0 (omega arith) in
      λ i. (a i ∷ b i ∷ e i ∷ f i ∷ []) ∷ []
