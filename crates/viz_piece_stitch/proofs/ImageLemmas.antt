-- All slabs of an image have its numbers, in order.
use Rattle.std.proofs.Common.{◌≡◌, ℕ, ℤ, pos, zero, suc, ◌+◌, ◌-◌, ◌*◌, ◌/◌, ◌%◌, ◌<◌, ◌≤◌, Bool, true, false, Option, Some, None, if◌then◌else◌, List, [], ◌∷◌, ◌++◌, length, drop, get_or, map, append-nil, inl, inr, refl, sym, ap, ap₂, subst, ◌∙◌, arith}
use Rattle.std.specs.Prelude.{nat_lt, option_to_list}
use Rattle.std.specs.List.{All, AllZip, Contains, flat_map, range_with_len}
use Rattle.std.proofs.lemmas.List.Elements.{All-nil, All-cons}
use Rattle.std.proofs.lemmas.Bool.{cases_lt, ltb-true}
use Rattle.std.proofs.lemmas.List.{get_or_append_left, length-append, map-append}
use Rattle.std.proofs.lemmas.List.FromFn.{length-range_with_len, get_or-range_with_len}
use Rattle.std.proofs.lemmas.List.Concat.{flat_map-append}
use Rattle.std.proofs.lemmas.Nat.{div-add-mod', mod_below, mul-le}
use Rattle.viz_dataset.specs.Images.{ImageData, IsImage, IsRestricted, number_at}
use Rattle.viz_extent.specs.Extent.{Bounds, IsExtent, Has, size_x, size_y, size_z, plane_size, count_of}
use Rattle.viz_extent.specs.Numbering.{index_at}
use Rattle.viz_extent.specs.Slabs.{planes, planes_in, share_begin, slab_of}
use Rattle.viz_extent.proofs.SlabLemmas.{range-split, slabs_are_all}
use Rattle.viz_parts.specs.Pieces.{IsBlockOf, IsImageBlock}
use Rattle.viz_parts.specs.Stitching.{AreSlabsOf, slabs_in}
use Rattle.viz_parts.specs.declared.request.Part.{Part}
use Rattle.viz_parts.specs.declared.request.Part.TheVariants.{Image, Mesh}
use Rattle.viz_piece_stitch.specs.Steps.Slabs.{HasKind, IsImageAt, IsPicture, spanned, values_in}
use Rattle.viz_piece_stitch.proofs.ListLemmas.{from_flat_map}
use Rattle.viz_piece_stitch.proofs.WholeLemmas.{by_place}
use Rattle.viz_sheet.proofs.MemberLemmas.{here, there, member_cases, no_member}

-- ---- slabs

-- some planes of an extent
pub record IsSlabOf (whole b : Bounds) : Type 0 where
  pub first : ℕ
  pub last : ℕ
  pub order : first ≤ last
  pub is : b ≡ planes first last whole

abbrev pub its_planes : Bounds → List ℕ
its_planes b = range_with_len b.z0 (size_z b)

a_slab : (whole b : Bounds) (first next : ℕ) → Contains (option_to_list (if nat_lt first next then Some (planes first (next - 1) whole) else None)) b → IsSlabOf whole b
a_slab whole b first next c = tested (nat_lt first next) refl c
  where
    only : (x : Bounds) → Contains (x ∷ []) b → x ≡ b
    only x d = elim (member_cases x [] b d) [ inl e ↦ e | inr n ↦ absurd (no_member b n) ]

    tested : (t : Bool) → nat_lt first next ≡ t → Contains (option_to_list (if t then Some (planes first (next - 1) whole) else None)) b → IsSlabOf whole b
    tested true is d =
        let less : first < next = ltb-true first next is in
        record { first = first; last = next - 1; order = omega (arith, less); is = sym (only (planes first (next - 1) whole) d) }
    tested false is d = absurd (no_member b d)

pub in_slabs : (n : ℕ) (whole b : Bounds) → Contains (slabs_in n whole) b → IsSlabOf whole b
in_slabs n whole b c =
    let from = from_flat_map (λ p. option_to_list (slab_of p n whole)) (range_with_len 0 n) b c in
    a_slab whole b (share_begin n (size_z whole) from.0) (share_begin n (size_z whole) (from.0 + 1)) from.2

flat-flat : {X Y Z : Type 0} (f : Y → List Z) (g : X → List Y) (xs : List X) → flat_map f (flat_map g xs) ≡ flat_map (λ x. flat_map f (g x)) xs
flat-flat f g [] = refl
flat-flat f g (x ∷ xs) = flat_map-append f (g x) (flat_map g xs) ∙ ap (λ t. flat_map f (g x) ++ t) (flat-flat f g xs)

one-slab : (o : Option Bounds) → flat_map its_planes (option_to_list o) ≡ planes_in o
one-slab None = refl
one-slab (Some b) = append-nil (its_planes b)

flat-each : {X Y : Type 0} (f g : X → List Y) → ((x : X) → f x ≡ g x) → (xs : List X) → flat_map f xs ≡ flat_map g xs
flat-each f g h [] = refl
flat-each f g h (x ∷ xs) = ap₂ (λ a b. a ++ b) (h x) (flat-each f g h xs)

-- the planes of all slabs
pub all-planes : (n : ℕ) (whole : Bounds) → 0 < n → flat_map its_planes (slabs_in n whole) ≡ its_planes whole
all-planes n whole some =
    flat-flat its_planes (λ p. option_to_list (slab_of p n whole)) (range_with_len 0 n)
    ∙ flat-each (λ p. flat_map its_planes (option_to_list (slab_of p n whole))) (λ p. planes_in (slab_of p n whole)) (λ p. one-slab (slab_of p n whole)) (range_with_len 0 n)
    ∙ slabs_are_all whole n some

-- ---- ranges that follow each other

cancel : {X : Type 0} (xs ys zs : List X) → xs ++ ys ≡ xs ++ zs → ys ≡ zs
cancel [] ys zs e = e
cancel (x ∷ xs) ys zs e = cancel xs ys zs (ap (drop 1) e)

-- the first begins where all begin
pub first-begins : (b : Bounds) (bs : List Bounds) (a n : ℕ) → flat_map its_planes (b ∷ bs) ≡ range_with_len a n → b.z0 ≡ a
first-begins b bs a n e =
    let long : size_z b ≤ n = omega (arith, ap length e, length-append (its_planes b) (flat_map its_planes bs), length-range_with_len b.z0 (size_z b), length-range_with_len a n) in
    let mine : get_or (flat_map its_planes (b ∷ bs)) 0 0 ≡ b.z0 + 0 =
    get_or_append_left (its_planes b) (flat_map its_planes bs) 0 0 (omega (arith, length-range_with_len b.z0 (size_z b))) ∙ get_or-range_with_len b.z0 (size_z b) 0 0 (omega arith) in
    let its : get_or (range_with_len a n) 0 0 ≡ a + 0 = get_or-range_with_len a n 0 0 (omega (arith, long)) in
    omega (arith, mine, its, ap (λ xs. get_or xs 0 0) e)

-- the last ends where all end
pub last-ends : (b : Bounds) (bs : List Bounds) (d : Bounds) (a n : ℕ) → ((x : Bounds) → Contains (b ∷ bs) x → x.z0 ≤ x.z1) → flat_map its_planes (b ∷ bs) ≡ range_with_len a n
    → (get_or (b ∷ bs) (length bs) d).z1 + 1 ≡ a + n
last-ends b [] d a n order e =
    let start = first-begins b [] a n e in
    let long : size_z b ≡ n = sym (length-range_with_len b.z0 (size_z b)) ∙ ap length (sym (append-nil (its_planes b))) ∙ ap length e ∙ length-range_with_len a n in
    omega (arith, start, long, order b (here b []))
last-ends b (c ∷ cs) d a n order e =
    let start = first-begins b (c ∷ cs) a n e in
    let rest = flat_map its_planes (c ∷ cs) in
    let long : size_z b + length rest ≡ n = omega (arith, ap length e, length-append (its_planes b) rest, length-range_with_len b.z0 (size_z b), length-range_with_len a n) in
    let split : range_with_len a n ≡ its_planes b ++ range_with_len (a + size_z b) (length rest) =
    ap (range_with_len a) (sym long) ∙ range-split a (size_z b) (length rest) ∙ ap (λ k. range_with_len k (size_z b) ++ range_with_len (a + size_z b) (length rest)) (sym start) in
    let others : rest ≡ range_with_len (a + size_z b) (length rest) = cancel (its_planes b) rest (range_with_len (a + size_z b) (length rest)) (e ∙ split) in
    omega (arith, last-ends c cs d (a + size_z b) (length rest) (λ x m. order x (there b (c ∷ cs) x m)) others, long)

-- ---- the numbers of some planes

-- the numbers of an image on a plane
pub plane_numbers : ImageData → ℕ → List ℤ
plane_numbers w z = map (λ m. number_at w (w.extent.x0 + m % size_x w.extent) (w.extent.y0 + m / size_x w.extent) z) (range_with_len 0 (plane_size w.extent))

map-from : {X : Type 0} (f : ℕ → X) (from a n : ℕ) → map f (range_with_len (from + a) n) ≡ map (λ m. f (from + m)) (range_with_len a n)
map-from f from a zero = refl
map-from f from a (suc n) =
    ap (λ t. f (from + a) ∷ t) (ap (λ k. map f (range_with_len k n)) {x = from + a + 1} {y = from + (a + 1)} (omega arith) ∙ map-from f from (a + 1) n)

map-same : {X : Type 0} (f g : ℕ → X) (a n : ℕ) → ((m : ℕ) → a ≤ m → m < a + n → f m ≡ g m) → map f (range_with_len a n) ≡ map g (range_with_len a n)
map-same f g a zero h = refl
map-same f g a (suc n) h = ap₂ (λ x xs. x ∷ xs) (h a (omega arith) (omega arith)) (map-same f g (a + 1) n (λ m l b. h m (omega (arith, l)) (omega (arith, b))))

-- so many items at a time
in_turns : {X : Type 0} (f : ℕ → X) (g : ℕ → List X) (size n a z : ℕ) → ((q : ℕ) → q < n → g (z + q) ≡ map f (range_with_len (a + q * size) size)) → map f (range_with_len a (size * n)) ≡ flat_map g (range_with_len z n)
in_turns f g size zero a z h = ap (λ k. map f (range_with_len a k)) {x = size * 0} {y = 0} (omega arith)
in_turns f g size (suc n) a z h =
    ap (λ k. map f (range_with_len a k)) {x = size * suc n} {y = size + size * n} (omega arith)
    ∙ ap (map f) (range-split a size (size * n))
    ∙ map-append f (range_with_len a size) (range_with_len (a + size) (size * n))
    ∙ ap₂ (λ x y. x ++ y)
    (ap (λ k. map f (range_with_len k size)) {x = a} {y = a + 0 * size} (omega arith) ∙ sym (h 0 (omega arith)) ∙ ap g {x = z + 0} {y = z} (omega arith))
    (in_turns f g size n (a + size) (z + 1) (λ q l.
    ap g {x = z + 1 + q} {y = z + (q + 1)} (omega arith) ∙ h (q + 1) (omega (arith, l))
    ∙ ap (λ k. map f (range_with_len k size)) {x = a + (q + 1) * size} {y = a + size + q * size} (omega arith)))

below-div : (m w h : ℕ) → 0 < w → m < w * h → m / w < h
below-div m w h some l =
    let parts : m / w * w + m % w ≡ m = div-add-mod' m w in
    elim (cases_lt (m / w) h) [
      | inl b ↦ b
      | inr far ↦ let more : h * w ≤ m / w * w = mul-le h w (m / w) w far (omega arith) in absurd (omega (arith, parts, more, l))
    ]

-- a point of a plane, by its number there
module _ (w image : ImageData) (b : Bounds) (valid : IsExtent w.extent) (slab : IsSlabOf w.extent b) (is : IsRestricted w b image) where
  width : size_x b ≡ size_x w.extent
  width = ap (λ (e : Bounds). size_x e) slab.is

  area : plane_size b ≡ plane_size w.extent
  area = ap (λ (e : Bounds). plane_size e) slab.is

  point_number : (q m : ℕ) → q < size_z b → m < plane_size w.extent
      → number_at w (w.extent.x0 + m % size_x w.extent) (w.extent.y0 + m / size_x w.extent) (b.z0 + q) ≡ get_or image.values.items (q * plane_size w.extent + m) (pos 0)
  point_number q m in_z in_plane =
      let e = w.extent in
      let column : m % size_x e < size_x e = mod_below m (size_x e) (omega arith) in
      let row : m / size_x e < size_y e = below-div m (size_x e) (size_y e) (omega arith) in_plane in
      let x0 : b.x0 ≡ e.x0 = ap (λ (x : Bounds). x.x0) slab.is in
      let x1 : b.x1 ≡ e.x1 = ap (λ (x : Bounds). x.x1) slab.is in
      let y0 : b.y0 ≡ e.y0 = ap (λ (x : Bounds). x.y0) slab.is in
      let y1 : b.y1 ≡ e.y1 = ap (λ (x : Bounds). x.y1) slab.is in
      let z0 : b.z0 ≡ e.z0 + slab.first = ap (λ (x : Bounds). x.z0) slab.is in
      let z1 : b.z1 ≡ e.z0 + slab.last = ap (λ (x : Bounds). x.z1) slab.is in
      let i = e.x0 + m % size_x e in
      let j = e.y0 + m / size_x e in
      let k = b.z0 + q in
      let has : Has b i j k = record {
        x = record { at_least = omega (arith, x0); at_most = omega (arith, x1, column, valid.x.order) };
        y = record { at_least = omega (arith, y0); at_most = omega (arith, y1, row, valid.y.order) };
        z = record { at_least = omega arith; at_most = omega (arith, in_z, z0, z1, slab.order) };
      } in
      let number : index_at b i j k ≡ q * plane_size e + m =
      place (m % size_x e) (m / size_x e) (size_x e) q (plane_size e) m b.x0 e.x0 b.y0 e.y0 b.z0 (size_x b) (plane_size b) x0 y0 width area (div-add-mod' m (size_x e)) in
      sym (is.values i j k has) ∙ ap (λ (x : Bounds). get_or image.values.items (index_at x i j k) (pos 0)) is.extent ∙ ap (λ n. get_or image.values.items n (pos 0)) number
    where
      place : (column row w q p m bx ex by ey bz bw bp : ℕ) → bx ≡ ex → by ≡ ey → bw ≡ w → bp ≡ p → row * w + column ≡ m → (ex + column - bx) + (ey + row - by) * bw + (bz + q - bz) * bp ≡ q * p + m
      place column row w q p m bx ex by ey bz bw bp x y e f parts =
          let i : ex + column - bx ≡ column = omega (arith, x) in
          let j : ey + row - by ≡ row = omega (arith, y) in
          let k : bz + q - bz ≡ q = omega arith in
          ap₂ (λ a c. a + c * bw + (bz + q - bz) * bp) i j ∙ ap₂ (λ a c. column + row * a + c * bp) e k ∙ ap (λ a. column + row * w + q * a) f ∙ omega (arith, parts)

  -- the numbers of a slab
  pub values-by : length image.values.items ≡ count_of b → image.values.items ≡ flat_map (plane_numbers w) (its_planes b)
  unfolding plane_numbers
  values-by count =
      let items = image.values.items in
      let p = plane_size w.extent in
      let long : length items ≡ p * size_z b = count ∙ ap (λ a. a * size_z b) area in
      sym (by_place (pos 0) items)
      ∙ ap (λ n. map (λ i. get_or items i (pos 0)) (range_with_len 0 n)) long
      ∙ in_turns (λ i. get_or items i (pos 0)) (plane_numbers w) p (size_z b) 0 b.z0
      (λ q l.
      map-same (λ m. number_at w (w.extent.x0 + m % size_x w.extent) (w.extent.y0 + m / size_x w.extent) (b.z0 + q)) (λ m. get_or items (q * p + m) (pos 0)) 0 p (λ m least below. point_number q m l (omega (arith, below)))
      ∙ sym (map-from (λ i. get_or items i (pos 0)) (q * p) 0 p)
      ∙ ap (λ k. map (λ i. get_or items i (pos 0)) (range_with_len k p)) {x = q * p + 0} {y = 0 + q * p} (omega arith))

-- ---- all parts

-- the numbers of parts that are blocks of an image
flat-blocks : (w : ImageData) (blocks : List Bounds) (parts : List Part) → IsExtent w.extent → ((b : Bounds) → Contains blocks b → IsSlabOf w.extent b) → AllZip (IsImageBlock w) blocks parts
    → flat_map values_in parts ≡ flat_map (λ b. flat_map (plane_numbers w) (its_planes b)) blocks
flat-blocks w [] [] valid slabs z = refl
flat-blocks w [] (p ∷ ps) valid slabs z = elim z [ ]
flat-blocks w (b ∷ bs) [] valid slabs z = elim z [ ]
flat-blocks w (b ∷ bs) (Image image ∷ ps) valid slabs z =
    let block : IsBlockOf w b image = z.0 in
    ap₂ (λ xs ys. xs ++ ys)
    (values-by w image b valid (slabs b (here b bs)) block.same (block.part_is.count ∙ ap (λ (e : Bounds). count_of e) block.same.extent))
    (flat-blocks w bs ps valid (λ c m. slabs c (there b bs c m)) z.1)
flat-blocks w (b ∷ bs) (Mesh parts ∷ ps) valid slabs z = absurd z.0

-- each is an image of the whole's kind
blocks-kind : (w : ImageData) (blocks : List Bounds) (parts : List Part) → AllZip (IsImageBlock w) blocks parts → All (HasKind w.values.kind) parts
blocks-kind w [] [] z = All-nil (HasKind w.values.kind)
blocks-kind w [] (p ∷ ps) z = elim z [ ]
blocks-kind w (b ∷ bs) [] z = elim z [ ]
blocks-kind w (b ∷ bs) (Image image ∷ ps) z = All-cons (HasKind w.values.kind) (Image image) ps z.0.same.kind (blocks-kind w bs ps z.1)
blocks-kind w (b ∷ bs) (Mesh parts ∷ ps) z = absurd z.0

-- the block at a place
block-at : (w : ImageData) (blocks : List Bounds) (parts : List Part) (k : ℕ) (image : ImageData) (d : Bounds) → AllZip (IsImageBlock w) blocks parts → k < length parts → get_or parts k (Image image) ≡ Image image
    → IsBlockOf w (get_or blocks k d) image
block-at w [] [] k image d z l e = absurd (omega (arith, l))
block-at w [] (p ∷ ps) k image d z l e = elim z [ ]
block-at w (b ∷ bs) [] k image d z l e = elim z [ ]
block-at w (b ∷ bs) (p ∷ ps) zero image d z l e = subst (IsImageBlock w b) e z.0
block-at w (b ∷ bs) (p ∷ ps) (suc k) image d z l e = block-at w bs ps k image d z.1 (omega (arith, l)) e

same_length : {A B : Type 0} (R : A → B → Type 0) (xs : List A) (ys : List B) → AllZip R xs ys → length xs ≡ length ys
same_length R [] [] z = refl
same_length R [] (y ∷ ys) z = elim z [ ]
same_length R (x ∷ xs) [] z = elim z [ ]
same_length R (x ∷ xs) (y ∷ ys) z = ap suc (same_length R xs ys z.1)

-- an image is a block of itself
itself : (w : ImageData) → IsRestricted w w.extent w
itself w = record { extent = refl; origin = refl; spacing = refl; kind = refl; values = λ i j k has. refl }

whole-slab : (e : Bounds) → IsExtent e → IsSlabOf e e
whole-slab e valid = record {
  first = 0;
  last = e.z1 - e.z0;
  order = omega arith;
  is = λ i. record { x0 = e.x0; x1 = e.x1; y0 = e.y0; y1 = e.y1; z0 = low i; z1 = high i };
}
  where
    low : e.z0 ≡ e.z0 + 0
    low = omega arith

    high : e.z1 ≡ e.z0 + (e.z1 - e.z0)
    high = let order = valid.z.order in omega (arith, order)

module _ (w : ImageData) (parts : List Part) (h : AreSlabsOf w parts) where
  blocks : List Bounds
  blocks = slabs_in h.slabs w.extent

  planes-are : flat_map its_planes blocks ≡ its_planes w.extent
  unfolding blocks
  planes-are = all-planes h.slabs w.extent h.some

  are-slabs : (b : Bounds) → Contains blocks b → IsSlabOf w.extent b
  unfolding blocks
  are-slabs b c = in_slabs h.slabs w.extent b c

  zipped : AllZip (IsImageBlock w) blocks parts
  unfolding blocks
  zipped = h.each

  -- there are some
  pub some-parts : 0 < length parts
  some-parts = elim (cases_lt 0 (length parts)) [
    | inl b ↦ b
    | inr none ↦
        let nothing : length blocks ≡ 0 = omega (arith, none, same_length (IsImageBlock w) blocks parts zipped) in
        absurd (omega (arith, ap length planes-are, length-range_with_len w.extent.z0 (size_z w.extent), no_planes blocks nothing))
  ]
    where
      no_planes : (bs : List Bounds) → length bs ≡ 0 → length (flat_map its_planes bs) ≡ 0
      no_planes [] e = refl
      no_planes (b ∷ bs) e = absurd (omega (arith, e))

-- what is told by the first and the last image, and by all
pub record IsStacked (w : ImageData) (parts : List Part) (first last : ImageData) : Type 0 where
  pub valid : IsImage w
  pub extent : spanned first.extent last.extent ≡ w.extent
  pub origin : first.origin ≡ w.origin
  pub spacing : first.spacing ≡ w.spacing
  pub kind : first.values.kind ≡ w.values.kind
  pub kinds : All (HasKind w.values.kind) parts
  pub items : flat_map values_in parts ≡ w.values.items

stacked-of : (w : ImageData) (blocks : List Bounds) (parts : List Part) (first last : ImageData) → 0 < length parts → flat_map its_planes blocks ≡ its_planes w.extent
    → ((b : Bounds) → Contains blocks b → IsSlabOf w.extent b) → AllZip (IsImageBlock w) blocks parts → IsImageAt parts 0 first → IsImageAt parts (length parts - 1) last → IsStacked w parts first last
stacked-of w [] parts first last some planes slabs z f l = absurd (omega (arith, some, same_length (IsImageBlock w) [] parts z))
stacked-of w (b ∷ bs) parts first last some planes slabs z f l =
    let long : length parts ≡ length bs + 1 = omega (arith, same_length (IsImageBlock w) (b ∷ bs) parts z) in
    let low : IsBlockOf w b first = block-at w (b ∷ bs) parts 0 first b z some f in
    let high : IsBlockOf w (get_or (b ∷ bs) (length parts - 1) b) last = block-at w (b ∷ bs) parts (length parts - 1) last b z (omega (arith, some)) l in
    let top : last.extent ≡ get_or (b ∷ bs) (length bs) b = high.same.extent ∙ ap (λ k. get_or (b ∷ bs) k b) (omega (arith, long)) in
    let slab = slabs b (here b bs) in
    let valid = low.whole_is in
    let order = valid.extent.z.order in
    let begins = first-begins b bs w.extent.z0 (size_z w.extent) planes in
    let ends = last-ends b bs b w.extent.z0 (size_z w.extent) (λ x m. order-of w.extent x (slabs x m)) planes in
    let x0 : first.extent.x0 ≡ w.extent.x0 = ap (λ (e : Bounds). e.x0) (low.same.extent ∙ slab.is) in
    let x1 : first.extent.x1 ≡ w.extent.x1 = ap (λ (e : Bounds). e.x1) (low.same.extent ∙ slab.is) in
    let y0 : first.extent.y0 ≡ w.extent.y0 = ap (λ (e : Bounds). e.y0) (low.same.extent ∙ slab.is) in
    let y1 : first.extent.y1 ≡ w.extent.y1 = ap (λ (e : Bounds). e.y1) (low.same.extent ∙ slab.is) in
    let z0 : first.extent.z0 ≡ w.extent.z0 = ap (λ (e : Bounds). e.z0) low.same.extent ∙ begins in
    let z1 : last.extent.z1 ≡ w.extent.z1 = ap (λ (e : Bounds). e.z1) top ∙ omega (arith, ends, order) in
    record {
      valid = valid;
      extent = λ i. record { x0 = x0 i; x1 = x1 i; y0 = y0 i; y1 = y1 i; z0 = z0 i; z1 = z1 i };
      origin = low.same.origin;
      spacing = low.same.spacing;
      kind = low.same.kind;
      kinds = blocks-kind w (b ∷ bs) parts z;
      items = flat-blocks w (b ∷ bs) parts valid.extent slabs z
          ∙ sym (flat-flat (plane_numbers w) its_planes (b ∷ bs))
          ∙ ap (flat_map (plane_numbers w)) planes
          ∙ sym (values-by w w w.extent valid.extent (whole-slab w.extent valid.extent) (itself w) valid.count);
    }
  where
    order-of : (e x : Bounds) → IsSlabOf e x → x.z0 ≤ x.z1
    order-of e x h =
        let low : x.z0 ≡ e.z0 + h.first = ap (λ (a : Bounds). a.z0) h.is in
        let high : x.z1 ≡ e.z0 + h.last = ap (λ (a : Bounds). a.z1) h.is in
        omega (arith, low, high, h.order)

pub stacked : (w : ImageData) (parts : List Part) (first last : ImageData) → AreSlabsOf w parts → IsImageAt parts 0 first → IsImageAt parts (length parts - 1) last → IsStacked w parts first last
stacked w parts first last h f l =
    stacked-of w (slabs_in h.slabs w.extent) parts first last (some-parts w parts h) (all-planes h.slabs w.extent h.some) (λ b c. in_slabs h.slabs w.extent b c) h.each f l

-- all are images
blocks-images : (w : ImageData) (blocks : List Bounds) (parts : List Part) → AllZip (IsImageBlock w) blocks parts → All IsPicture parts
blocks-images w [] [] z = All-nil IsPicture
blocks-images w [] (p ∷ ps) z = elim z [ ]
blocks-images w (b ∷ bs) [] z = elim z [ ]
blocks-images w (b ∷ bs) (Image image ∷ ps) z = All-cons IsPicture (Image image) ps tt (blocks-images w bs ps z.1)
blocks-images w (b ∷ bs) (Mesh parts ∷ ps) z = absurd z.0

pub all-images : (w : ImageData) (parts : List Part) → AreSlabsOf w parts → All IsPicture parts
all-images w parts h = blocks-images w (slabs_in h.slabs w.extent) parts h.each

-- the only one is the image
pub only-image : (w : ImageData) (parts : List Part) (image : ImageData) → length parts ≡ 1 → IsImageAt parts 0 image → AreSlabsOf w parts → image ≡ w
only-image w [] image one at h = absurd (omega (arith, one))
only-image w (p ∷ q ∷ ps) image one at h = absurd (omega (arith, one))
only-image w (p ∷ []) image one at h =
    let k = stacked w (p ∷ []) image image h at (ap (λ n. get_or (p ∷ []) n (Image image)) {x = length (p ∷ []) - 1} {y = 0} (omega (arith, one)) ∙ at) in
    let items : image.values.items ≡ w.values.items = sym (append-nil image.values.items) ∙ sym (ap (λ (x : Part). values_in x ++ []) at) ∙ k.items in
    let extent : image.extent ≡ w.extent = k.extent in
    let kind = k.kind in
    let origin = k.origin in
    let spacing = k.spacing in
    λ i. record { extent = extent i; origin = origin i; spacing = spacing i; values = record { kind = kind i; items = items i } }
