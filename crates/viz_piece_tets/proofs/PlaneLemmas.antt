-- What a piece asks for is some planes of the whole, and its tetrahedra have a level each.
use Rattle.std.proofs.Common.{◌≡◌, ℕ, ◌+◌, ◌-◌, ◌*◌, ◌<◌, ◌≤◌, ⊎_elim, cond, None, Some, [], ◌++◌, append-nil, length, map, replicate, sym, ap, ap₂, subst, ◌∙◌, arith}
use Rattle.std.specs.List.{flat_map, range_with_len}
use Rattle.std.proofs.lemmas.Bool.{cases_lt, lt-ltb, le-ltb}
use Rattle.std.proofs.lemmas.List.{length-map, length-replicate}
use Rattle.std.proofs.lemmas.List.Concat.{flat_map-append}
use Rattle.viz_dataset.specs.Images.{ImageData}
use Rattle.viz_extent.specs.Extent.{Bounds, IsExtent}
use Rattle.viz_extent.specs.Parts.{IsPart}
use Rattle.viz_extent.specs.Slabs.{first_layer, next_layer, planes, touched}
use Rattle.viz_kuhn.specs.Cubes.{cubes_of, cubes_x, cubes_y, cubes_z, tetrahedra_of}
use Rattle.viz_kuhn.proofs.CubeLemmas.{length-tetrahedra_of}
use Rattle.viz_meaning.specs.Tetrahedra.{tetrahedra_sheet}
use Rattle.viz_piece_layers.specs.Layers.{distance, layer_size}
use Rattle.viz_piece_layers.specs.Pieces.{first_seen, last_seen, seen_planes}
use Rattle.viz_piece_layers.specs.Sheets.{shifted_sheet}
use Rattle.viz_piece_layers.proofs.PartLemmas.{last_within, some_there}
use Rattle.viz_piece_layers.proofs.PieceLemmas.{owns_within}
use Rattle.viz_piece_layers.proofs.RangeLemmas.{flat-range_same, flat-replicate, length-range, range-split}
use Rattle.viz_piece_tets.specs.Asked.{asked, or_lowest}
use Rattle.viz_piece_tets.specs.Layers.{block_levels, levels_between}

-- some planes of an extent, from one on, up to another
pub record ArePlanes (whole block : Bounds) : Type 0 where
  pub low : ℕ
  pub high : ℕ
  pub order : low ≤ high
  pub within : high ≤ cubes_z whole
  pub is : block ≡ planes low high whole

-- ---- what a piece asks for

pub asked-some : (p n ghosts : ℕ) (b : Bounds) → first_layer p n b < next_layer p n b → asked p n ghosts b ≡ seen_planes p n ghosts b
asked-some p n ghosts b l =
    ap (λ t. or_lowest b (cond t (Some (touched (first_layer p n b) (next_layer p n b) ghosts b)) None)) (lt-ltb (first_layer p n b) (next_layer p n b) l)

pub asked-none : (p n ghosts : ℕ) (b : Bounds) → next_layer p n b ≤ first_layer p n b → asked p n ghosts b ≡ planes 0 0 b
asked-none p n ghosts b l =
    ap (λ t. or_lowest b (cond t (Some (touched (first_layer p n b) (next_layer p n b) ghosts b)) None)) (le-ltb (first_layer p n b) (next_layer p n b) l)

pub asked-planes : (p n ghosts : ℕ) (b : Bounds) → p < n → ArePlanes b (asked p n ghosts b)
asked-planes p n ghosts b less =
    let within = owns_within p n b less in
    let first = first_layer p n b in
    let next = next_layer p n b in
    ⊎_elim
    (λ some. record {
      low = first_seen p n ghosts b;
      high = last_seen p n ghosts b;
      order = some_there (cubes_z b) first next ghosts within.0 within.1;
      within = last_within (cubes_z b) next ghosts;
      is = asked-some p n ghosts b some;
    })
    (λ none. record {
      low = 0;
      high = 0;
      order = omega arith;
      within = omega arith;
      is = asked-none p n ghosts b none;
    })
    (cases_lt first next)

pub planes-part : (whole block : Bounds) → IsExtent whole → ArePlanes whole block → IsPart whole block
planes-part whole block is s =
    let order = is.z.order in
    let within = s.within in
    let up = s.order in
    subst (IsPart whole) (sym s.is) (record {
      x = record { first = omega arith; last = omega arith };
      y = record { first = omega arith; last = omega arith };
      z = record { first = omega arith; last = omega (arith, within, order) };
    })

-- ---- a level each

-- the layers of some planes, counted from the lowest plane of the whole
pub low-is : (whole block : Bounds) (s : ArePlanes whole block) → block.z0 - whole.z0 ≡ s.low
low-is whole block s = ap (λ (e : Bounds). e.z0 - whole.z0) s.is ∙ plus whole.z0 s.low
  where
    plus : (a b : ℕ) → a + b - a ≡ b
    plus a b = omega arith

pub high-is : (whole block : Bounds) (s : ArePlanes whole block) → block.z1 - whole.z0 ≡ s.high
high-is whole block s = ap (λ (e : Bounds). e.z1 - whole.z0) s.is ∙ plus whole.z0 s.high
  where
    plus : (a b : ℕ) → a + b - a ≡ b
    plus a b = omega arith

pub levels-are : (p n : ℕ) (whole block : Bounds) (s : ArePlanes whole block)
    → block_levels p n whole block ≡ levels_between (first_layer p n whole) (next_layer p n whole) (layer_size whole) s.low s.high
levels-are p n whole block s = ap₂ (levels_between (first_layer p n whole) (next_layer p n whole) (layer_size whole)) (low-is whole block s) (high-is whole block s)

pub length-levels : (first next size low high : ℕ) → length (levels_between first next size low high) ≡ size * (high - low)
length-levels first next size low high =
    length-range (λ z. replicate size (distance first next z)) size (λ z. length-replicate size (distance first next z)) low (high - low)

cubes-in : (whole : Bounds) (low high : ℕ) → 6 * cubes_of (planes low high whole) ≡ layer_size whole * (high - low)
cubes-in whole low high =
    ap (λ k. 6 * (cubes_x whole * cubes_y whole * k)) (minus whole.z0 low high) ∙ turned (cubes_x whole) (cubes_y whole) (high - low)
  where
    minus : (a b c : ℕ) → a + c - (a + b) ≡ c - b
    minus a b c = omega arith

    turned : (x y z : ℕ) → 6 * (x * y * z) ≡ 6 * (x * y) * z
    turned x y z = omega arith

pub levels-match : (p n by : ℕ) (whole : Bounds) (block : ImageData) → ArePlanes whole block.extent
    → length (shifted_sheet by (tetrahedra_sheet block)).cells ≡ length (block_levels p n whole block.extent)
levels-match p n by whole block s =
    let b = block.extent in
    length-map (tetrahedra_sheet block).cells (map (map (λ leaf. leaf + by)))
    ∙ length-map (tetrahedra_of b) _
    ∙ length-tetrahedra_of b
    ∙ ap (λ e. 6 * cubes_of e) s.is ∙ cubes-in whole s.low s.high
    ∙ sym (ap length (levels-are p n whole b s) ∙ length-levels (first_layer p n whole) (next_layer p n whole) (layer_size whole) s.low s.high)

-- own layers alone have level 0
pub own-levels : (first next size low high : ℕ) → first ≤ low → high ≤ next
    → levels_between first next size low high ≡ replicate (length (levels_between first next size low high)) 0
own-levels first next size low high l m =
    flat-range_same (λ z. replicate size (distance first next z)) (λ z. replicate size 0) low (high - low)
    (λ z a b. ap (replicate size) {x = distance first next z} {y = 0} (omega (arith, a, b, l, m)))
    ∙ flat-replicate size low (high - low) 0
    ∙ ap (λ k. replicate k 0) (sym (length-levels first next size low high))

-- ---- layer after layer

pub between-none : (first next size low : ℕ) → levels_between first next size low low ≡ []
between-none first next size low =
    ap (λ k. flat_map (λ z. replicate size (distance first next z)) (range_with_len low k)) {x = low - low} {y = 0} (omega arith)

pub between-more : (first next size low z : ℕ) → low ≤ z
    → levels_between first next size low (z + 1) ≡ levels_between first next size low z ++ replicate size (distance first next z)
between-more first next size low z l =
    let f = λ (z : ℕ). replicate size (distance first next z) in
    ap (λ k. flat_map f (range_with_len low k)) {x = z + 1 - low} {y = z - low + 1} (omega (arith, l))
    ∙ ap (flat_map f) (range-split low (z - low) 1)
    ∙ flat_map-append f (range_with_len low (z - low)) (range_with_len (low + (z - low)) 1)
    ∙ ap (λ t. flat_map f (range_with_len low (z - low)) ++ t)
    (append-nil (f (low + (z - low))) ∙ ap f {x = low + (z - low)} {y = z} (omega (arith, l)))

pub between-all : (first next size low high z : ℕ) → z - low ≡ high - low → levels_between first next size low z ≡ levels_between first next size low high
between-all first next size low high z e = ap (λ k. flat_map (λ z. replicate size (distance first next z)) (range_with_len low k)) e
