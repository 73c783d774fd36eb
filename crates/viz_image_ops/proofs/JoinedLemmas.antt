-- Lists that are joined by index, their lengths and their items.
use Rattle.std.proofs.Common.{◌≡◌, ℕ, zero, suc, ◌+◌, ◌-◌, ◌*◌, ◌<◌, ◌≤◌, ℤ, List, [], ◌∷◌, ◌++◌, length, map, get_or, refl, sym, ap, ap₂, ◌∙◌, inl, inr, arith, add-one, append_assoc}
use Rattle.std.proofs.lemmas.Bool.{cases_lt}
use Rattle.std.proofs.lemmas.List.{append-nil, length-append, get_or_append_left, get_or-append_right, map-append}
use Rattle.std.proofs.lemmas.Nat.{mul-add-lt}
use Rattle.viz_extent.specs.Extent.{Bounds, size_x, size_y, size_z, count_of, Has}
use Rattle.viz_extent.specs.Numbering.{index_at}
use Rattle.viz_image_ops.specs.Joined.{joined, run_of, values_on}

-- one list more
pub joined_more : {X : Type 0} (f : ℕ → List X) (first n : ℕ) → joined f first n ++ f (first + n) ≡ joined f first (n + 1)
joined_more f first n = rw (add-one n) refl

-- lists behind others, one list more
pub lists_more : {X : Type 0} (f : ℕ → List X) (first n : ℕ) (xs ys zs : List X) → first ≤ n → ys ≡ xs ++ joined f first (n - first)
    → zs ≡ ys ++ f n → zs ≡ xs ++ joined f first (n + 1 - first)
lists_more f first n xs ys zs from so_far more =
    let at : n ≡ first + (n - first) = omega arith in
    let next : n - first + 1 ≡ n + 1 - first = omega arith in
    more ∙ ap (λ (t : List _). t ++ f n) so_far ∙ append_assoc xs (joined f first (n - first)) (f n)
    ∙ ap (λ (m : ℕ). xs ++ (joined f first (n - first) ++ f m)) at ∙ ap (λ (t : List _). xs ++ t) (joined_more f first (n - first))
    ∙ ap (λ (m : ℕ). xs ++ joined f first m) next

-- values behind others, one value more
pub run_more : {X : Type 0} (value : X → ℤ) (f : ℕ → ℤ) (first n : ℕ) (xs : List ℤ) (ys zs : List X) (x : X) → first ≤ n
    → map value ys ≡ xs ++ run_of f first (n - first) → zs ≡ ys ++ x ∷ [] → value x ≡ f n → map value zs ≡ xs ++ run_of f first (n + 1 - first)
run_more value f first n xs ys zs x from so_far more is =
    lists_more (λ i. f i ∷ []) first n xs (map value ys) (map value zs) from so_far
    (ap (map value) more ∙ map-append value ys (x ∷ []) ∙ ap (λ (y : ℤ). map value ys ++ y ∷ []) is)

-- lists that are the same one by one
pub joined_same : {X : Type 0} (f g : ℕ → List X) (a b n : ℕ) → ((m : ℕ) → m < n → f (a + m) ≡ g (b + m)) → joined f a n ≡ joined g b n
joined_same f g a b zero same = refl
joined_same f g a b (suc n) same =
    ap₂ (λ (s t : List _). s ++ t) (joined_same f g a b n (λ m below. same m (omega arith))) (same n (omega arith))

-- values that are the same one by one
pub run_same : {X : Type 0} (f g : ℕ → X) (a b n : ℕ) → ((m : ℕ) → m < n → f (a + m) ≡ g (b + m)) → run_of f a n ≡ run_of g b n
run_same f g a b n same =
    joined_same (λ i. f i ∷ []) (λ i. g i ∷ []) a b n (λ m below. ap (λ (x : _). x ∷ []) (same m below))

-- lists of one length have together that length times their number
pub length-joined : {X : Type 0} (f : ℕ → List X) (first w n : ℕ) → ((m : ℕ) → length (f m) ≡ w) → length (joined f first n) ≡ n * w
length-joined f first w zero each = omega arith
length-joined f first w (suc n) each =
    omega (arith, length-append (joined f first n) (f (first + n)), each (first + n), length-joined f first w n each)

-- an item of one of the lists
pub get_or-joined : {X : Type 0} (f : ℕ → List X) (first w n c m : ℕ) (d : X) → ((m : ℕ) → length (f m) ≡ w) → c < n → m < w
    → get_or (joined f first n) (c * w + m) d ≡ get_or (f (first + c)) m d
get_or-joined f first w zero c m d each below in_list = absurd (omega arith)
get_or-joined f first w (suc n) c m d each below in_list =
    let long = length-joined f first w n each in
    elim (cases_lt c n) [
      | inl before ↦
          let place : c * w + m < length (joined f first n) = omega (arith, long, mul-add-lt c w m n before in_list) in
          get_or_append_left (joined f first n) (f (first + n)) d (c * w + m) place ∙ get_or-joined f first w n c m d each before in_list
      | inr above ↦
          let same : c ≡ n = omega arith in
          let place : n * w ≡ c * w = ap (λ (x : ℕ). x * w) (sym same) in
          let start : length (joined f first n) ≡ c * w = long ∙ place in
          let offset : c * w + m - c * w ≡ m = omega arith in
          get_or-append_right (joined f first n) (f (first + n)) (c * w) (c * w + m) d start (omega arith)
          ∙ ap (λ (x : ℕ). get_or (f (first + n)) x d) offset ∙ ap (λ (x : ℕ). get_or (f (first + x)) m d) (sym same)
    ]

-- a run has so many values
pub length-run_of : {X : Type 0} (f : ℕ → X) (first n : ℕ) → length (run_of f first n) ≡ n
length-run_of f first n = length-joined (λ i. f i ∷ []) first 1 n (λ m. refl) ∙ omega arith

-- a value of a run
pub get_or-run_of : {X : Type 0} (f : ℕ → X) (first n c : ℕ) (d : X) → c < n → get_or (run_of f first n) c d ≡ f (first + c)
get_or-run_of f first n c d below =
    let place : c ≡ c * 1 + 0 = omega arith in
    ap (λ (x : ℕ). get_or (run_of f first n) x d) place ∙ get_or-joined (λ i. f i ∷ []) first 1 n c 0 d (λ m. refl) below (omega arith)

-- an extent has a value for each point
pub length-values_on : (f : ℕ → ℕ → ℕ → ℤ) (b : Bounds) → length (values_on f b) ≡ count_of b
length-values_on f b =
    let w = size_x b in
    let h = size_y b in
    let rows = λ (k j : ℕ). run_of (λ i. f i j k) b.x0 w in
    let planes = λ (k : ℕ). joined (rows k) b.y0 h in
    length-joined planes b.z0 (h * w) (size_z b) (λ k. length-joined (rows k) b.y0 w h (λ j. length-run_of (λ i. f i j k) b.x0 w))
    ∙ by_planes w h (size_z b)
  where
    by_planes : (a b c : ℕ) → c * (b * a) ≡ a * b * c
    by_planes a b c = omega arith

-- the value at a point
pub get_or-values_on : (f : ℕ → ℕ → ℕ → ℤ) (b : Bounds) (i j k : ℕ) (d : ℤ) → Has b i j k → get_or (values_on f b) (index_at b i j k) d ≡ f i j k
get_or-values_on f b i j k d has =
    let w = size_x b in
    let h = size_y b in
    let rows = λ (k j : ℕ). run_of (λ i. f i j k) b.x0 w in
    let planes = λ (k : ℕ). joined (rows k) b.y0 h in
    let row_long : (k j : ℕ) → length (rows k j) ≡ w = λ k j. length-run_of (λ i. f i j k) b.x0 w in
    let plane_long : (k : ℕ) → length (planes k) ≡ h * w = λ k. length-joined (rows k) b.y0 w h (row_long k) in
    let in_row : i - b.x0 < w = omega (arith, has.x.at_least, has.x.at_most) in
    let in_plane : j - b.y0 < h = omega (arith, has.y.at_least, has.y.at_most) in
    let in_all : k - b.z0 < size_z b = omega (arith, has.z.at_least, has.z.at_most) in
    let x : b.x0 + (i - b.x0) ≡ i = omega (arith, has.x.at_least) in
    let y : b.y0 + (j - b.y0) ≡ j = omega (arith, has.y.at_least) in
    let z : b.z0 + (k - b.z0) ≡ k = omega (arith, has.z.at_least) in
    ap (λ (n : ℕ). get_or (values_on f b) n d) (by_places (i - b.x0) (j - b.y0) (k - b.z0) w h)
    ∙ get_or-joined planes b.z0 (h * w) (size_z b) (k - b.z0) ((j - b.y0) * w + (i - b.x0)) d plane_long in_all
    (omega (arith, mul-add-lt (j - b.y0) w (i - b.x0) h in_plane in_row))
    ∙ ap (λ (n : ℕ). get_or (planes n) ((j - b.y0) * w + (i - b.x0)) d) z
    ∙ get_or-joined (rows k) b.y0 w h (j - b.y0) (i - b.x0) d (row_long k) in_plane in_row
    ∙ ap (λ (n : ℕ). get_or (rows k n) (i - b.x0) d) y
    ∙ get_or-run_of (λ i. f i j k) b.x0 w (i - b.x0) d in_row ∙ ap (λ (n : ℕ). f n j k) x
  where
    by_places : (a b c w h : ℕ) → a + b * w + c * (w * h) ≡ c * (h * w) + (b * w + a)
    by_places a b c w h = omega arith

-- lists behind others, and lists behind these
pub joined_behind : {X : Type 0} (f : ℕ → List X) (first m n : ℕ) → joined f first m ++ joined f (first + m) n ≡ joined f first (m + n)
joined_behind f first m zero = let none : m ≡ m + 0 = omega arith in append-nil (joined f first m) ∙ ap (joined f first) none
joined_behind f first m (suc n) =
    let more : suc (m + n) ≡ m + suc n = omega arith in
    let place : first + m + n ≡ first + (m + n) = omega arith in
    sym (append_assoc (joined f first m) (joined f (first + m) n) (f (first + m + n)))
    ∙ ap₂ (λ (s t : List _). s ++ t) (joined_behind f first m n) (ap f place) ∙ ap (joined f first) more

-- values up to an index, and values from there on
pub run_on : (f : ℕ → ℤ) (first i n : ℕ) (xs ys zs : List ℤ) → first ≤ i → ys ≡ xs ++ run_of f first (i - first)
    → zs ≡ ys ++ run_of f i n → zs ≡ xs ++ run_of f first (i + n - first)
run_on f first i n xs ys zs from so_far more =
    let at : i ≡ first + (i - first) = omega arith in
    let all : i - first + n ≡ i + n - first = omega arith in
    more ∙ ap (λ (t : List ℤ). t ++ run_of f i n) so_far ∙ append_assoc xs (run_of f first (i - first)) (run_of f i n)
    ∙ ap (λ (m : ℕ). xs ++ (run_of f first (i - first) ++ run_of f m n)) at
    ∙ ap (λ (t : List ℤ). xs ++ t) (joined_behind (λ i. f i ∷ []) first (i - first) n)
    ∙ ap (λ (m : ℕ). xs ++ run_of f first m) all
