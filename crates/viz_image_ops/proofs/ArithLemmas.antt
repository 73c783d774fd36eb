-- What is reckoned of two images, row by row.
use Rattle.std.proofs.Common.{◌≡◌, ℕ, ◌+◌, ◌-◌, ◌*◌, ◌<◌, ◌≤◌, ℤ, pos, ◌≢◌, List, length, map, take, drop, get_or, set, sym, ap, ◌∙◌, arith, inl, inr}
use Rattle.std.proofs.lemmas.Bool.{cases_lt}
use Rattle.std.proofs.lemmas.List.{ext_get_or, get_or-take, get_or-drop, get_or-set_same, get_or-set_other, take-map, drop-map}
use Rattle.viz_column.specs.declared.kind.Kind8.TheVariants.{I64}
use Rattle.viz_extent.specs.Extent.{Bounds, size_x, plane_size, count_of, IsOnAxis, Has}
use Rattle.viz_extent.specs.Numbering.{index_at}
use Rattle.viz_extent.specs.Parts.{IsPart}
use Rattle.viz_extent.proofs.NumberingLemmas.{index_at_below}
use Rattle.viz_extent.proofs.PartLemmas.{points_of_part}
use Rattle.viz_dataset.specs.Images.{ImageData, IsImage}
use Rattle.viz_meaning.specs.declared.op.Op.{Op}
use Rattle.viz_meaning.specs.ImageFilters.{arith_of, reckoned, clamped}
use Rattle.viz_meaning.specs.WholeImages.{GivesOnBoth}
use Rattle.viz_image_ops.specs.Joined.{run_of, values_on}
use Rattle.viz_image_ops.specs.Reckoned.{reckoned_at}
use Rattle.viz_image_ops.specs.declared.arithmetic.Grids.{Grids}
use Rattle.viz_image_ops.proofs.JoinedLemmas.{length-run_of, get_or-run_of, get_or-values_on}

-- a list with the values of a run is the run
pub run_from_items : (xs : List ℤ) (f : ℕ → ℤ) (first n : ℕ) → length xs ≡ n
    → ((m : ℕ) → m < n → get_or xs m (pos 0) ≡ f (first + m)) → xs ≡ run_of f first n
run_from_items xs f first n long each =
    ext_get_or (pos 0) xs (run_of f first n) (long ∙ sym (length-run_of f first n)) (λ m below.
    let here : m < n = omega (arith, long) in
    each m here ∙ sym (get_or-run_of f first n m (pos 0) here))

-- the first so many items of a row
abbrev pub AreMade : (ℕ → ℤ) → ℕ → List ℤ → Type 0
AreMade f n row = (p : ℕ) → p < n → get_or row p (pos 0) ≡ f p

-- one item more
pub made_more : (f : ℕ → ℤ) (row : List ℤ) (n : ℕ) (z : ℤ) → n < length row → AreMade f n row → z ≡ f n → AreMade f (n + 1) (set row n z)
made_more f row n z place so_far value p below = elim (cases_lt p n) [
  | inl before ↦ let other : p ≢ n = omega arith in get_or-set_other row n p z (pos 0) other ∙ so_far p before
  | inr above ↦
      let same : p ≡ n = omega arith in
      ap (λ (m : ℕ). get_or (set row n z) m (pos 0)) same ∙ get_or-set_same row n z (pos 0) place ∙ value ∙ ap f (sym same)
]

-- the points of a row follow each other
pub along_row : (b : Bounds) (x m j k : ℕ) → b.x0 ≤ x → index_at b x j k + m ≡ index_at b (x + m) j k
along_row b x m j k from = along x m b.x0 ((j - b.y0) * size_x b) ((k - b.z0) * plane_size b) from
  where
    along : (a n low y z : ℕ) → low ≤ a → (a - low) + y + z + n ≡ (a + n - low) + y + z
    along a n low y z from = omega arith

-- a number of a row that begins at a point
pub number_of_row : {X : Type 0} (value : X → ℤ) (xs row : List X) (whole : Bounds) (start long x m j k : ℕ) → m < long → whole.x0 ≤ x
    → start ≡ index_at whole x j k → row ≡ take long (drop start xs)
    → get_or (map value row) m (pos 0) ≡ get_or (map value xs) (index_at whole (x + m) j k) (pos 0)
number_of_row value xs row whole start long x m j k below from at is =
    ap (λ (t : List _). get_or (map value t) m (pos 0)) is
    ∙ ap (λ (t : List ℤ). get_or t m (pos 0)) (sym (take-map value long (drop start xs)) ∙ ap (take long) (sym (drop-map value start xs)))
    ∙ get_or-take long (drop start (map value xs)) m (pos 0) below ∙ get_or-drop start (map value xs) m (pos 0)
    ∙ ap (λ (n : ℕ). get_or (map value xs) n (pos 0)) (ap (λ (n : ℕ). n + m) at ∙ along_row whole x m j k from)

-- a row of a part lies in the numbers of the whole
pub row_within : (whole out : Bounds) (j k : ℕ) → IsPart whole out → out.x0 ≤ out.x1 → IsOnAxis out.y0 out.y1 j → IsOnAxis out.z0 out.z1 k
    → index_at whole out.x0 j k + size_x out ≤ count_of whole
row_within whole out j k within order y z =
    let has : Has out out.x1 j k =
    record { x = record { at_least = order; at_most = omega arith }; y = y; z = z } in
    let below = index_at_below whole out.x1 j k (points_of_part whole out within out.x1 j k has) in
    let last : out.x0 + (out.x1 - out.x0) ≡ out.x1 = omega (arith, order) in
    let along = along_row whole out.x0 (out.x1 - out.x0) j k within.x.first ∙ ap (λ (n : ℕ). index_at whole n j k) last in
    one_more (index_at whole out.x0 j k) (index_at whole out.x1 j k) (out.x1 - out.x0) (count_of whole) along below
  where
    one_more : (a b d c : ℕ) → a + d ≡ b → b < c → a + (d + 1) ≤ c
    one_more a b d c along below = omega (arith, along, below)

abbrev pub with_extents : Bounds → Bounds → Bounds → Grids
with_extents first second out = record { first = first; second = second; out = out }

-- an image of what is reckoned at each point is the part of the arithmetic
pub reckoned-on : (op : Op) (a b output : ImageData) (out : Bounds) → IsPart a.extent out → IsPart b.extent out → output.extent ≡ out
    → output.origin ≡ a.origin → output.spacing ≡ a.spacing → output.values.kind ≡ I64
    → output.values.items ≡ values_on (reckoned_at op (with_extents a.extent b.extent out) a.values.items b.values.items) out → IsImage output
    → GivesOnBoth (arith_of op) a b out output
reckoned-on op a b output out in_a in_b extent origin spacing kind items valid v w on_v on_w =
    record {
      extent = extent;
      origin = origin ∙ on_v.origin;
      spacing = spacing ∙ on_v.spacing;
      kind = kind;
      numbers = λ i j k has.
          ap (λ (e : Bounds). get_or output.values.items (index_at e i j k) (pos 0)) extent
          ∙ ap (λ (xs : List ℤ). get_or xs (index_at out i j k) (pos 0)) items
          ∙ get_or-values_on (reckoned_at op (with_extents a.extent b.extent out) a.values.items b.values.items) out i j k (pos 0) has
          ∙ ap (λ (n : ℤ). clamped (reckoned op n (get_or b.values.items (index_at b.extent i j k) (pos 0))))
          (on_v.numbers i j k (points_of_part a.extent out in_a i j k has))
          ∙ ap (λ (n : ℤ). clamped (reckoned op (v.number i j k) n)) (on_w.numbers i j k (points_of_part b.extent out in_b i j k has));
      valid = valid;
    }
