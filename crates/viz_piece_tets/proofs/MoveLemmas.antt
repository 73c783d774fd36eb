-- A sheet with other leaves in the same order, as it is kept.
use Rattle.std.proofs.Common.{◌≡◌, ℕ, ◌+◌, ◌-◌, ◌^◌, ◌≤◌, Bool, true, false, ◌&&◌, leb, List, [], ◌∷◌, length, map, replicate, refl, sym, ap, ap₂, subst, ◌∙◌, arith}
use Rattle.std.specs.List.{All}
use Rattle.std.proofs.lemmas.Bool.{leb-true}
use Rattle.std.proofs.lemmas.List.{length-map}
use Rattle.std.proofs.Math.ListN as listn
use Rattle.viz_extent.specs.Extent.{Bounds}
use Rattle.viz_extent.specs.Slabs.{first_layer, next_layer}
use Rattle.viz_fraction.specs.Points.{Point}
use Rattle.viz_parts.specs.Parts.{PartSheetData}
use Rattle.viz_piece_layers.specs.Layers.{layer_size}
use Rattle.viz_piece_layers.specs.Sheets.{ShiftedIsSheet, shifted_sheet}
use Rattle.viz_sheet.specs.Ranked.{AreRanks, AreUsed, IsCell, by_names, names_at}
use Rattle.viz_sheet.specs.Sheet.{SheetData, IsSheet}
use Rattle.viz_sheet.proofs.UsedLemmas.{seen_is}
use Rattle.viz_piece_tets.specs.Layers.{block_levels}
use Rattle.viz_piece_tets.proofs.PlaneLemmas.{own-levels}

abbrev up : ℕ → List ℕ → List ℕ
up by n = map (λ leaf. leaf + by) n

-- ---- cells by names

at-moved : (by : ℕ) (names : List (List ℕ)) (ranks : List ℕ) → names_at (map (up by) names) ranks ≡ map (up by) (names_at names ranks)
at-moved by names [] = refl
at-moved by names (r ∷ rs) = ap₂ (λ a b. a ∷ b) (listn.get_or-map (up by) names r []) (at-moved by names rs)

cells-moved : (by : ℕ) (names cells : List (List ℕ)) → by_names (map (up by) names) cells ≡ map (map (up by)) (by_names names cells)
cells-moved by names [] = refl
cells-moved by names (c ∷ cs) = ap₂ (λ a b. a ∷ b) (at-moved by names c) (cells-moved by names cs)

-- ---- the sheet

moved-ranks : ShiftedIsSheet → (by : ℕ) (s : SheetData) (cells : List (List ℕ)) → IsSheet s → AreRanks s.names s.points cells
    → AreRanks (map (up by) s.names) s.points cells
moved-ranks moved by s cells is r =
    let sheet = moved by s is in
    let count = sym (length-map s.names (up by)) in
    record {
      rule = record {
        ascending = sheet.ascending;
        matched = sheet.matched;
        few = subst (λ k. k ≤ 2 ^ 32) count r.rule.few;
        each = subst (λ k. All (IsCell k) cells) count r.rule.each;
      };
      used = subst (λ k. AreUsed k cells) count r.used;
    }

pub ranks-from : ShiftedIsSheet → (by : ℕ) (s : SheetData) (names cells : List (List ℕ)) (points : List Point) → IsSheet s → AreRanks s.names s.points cells
    → names ≡ map (up by) s.names → points ≡ s.points → AreRanks names points cells
ranks-from moved by s names cells points is r en ep =
    subst (λ ns. AreRanks ns points cells) (sym en) (subst (λ ps. AreRanks (map (up by) s.names) ps cells) (sym ep) (moved-ranks moved by s cells is r))

pub moved-is : (by : ℕ) (s r : SheetData) (names cells : List (List ℕ)) (points : List Point) → names ≡ map (up by) s.names → points ≡ s.points
    → by_names s.names cells ≡ s.cells → r.names ≡ names → r.points ≡ points → r.cells ≡ by_names names cells → r ≡ shifted_sheet by s
moved-is by s r names cells points en ep ec rn rp rc =
    seen_is r (map (up by) s.names) s.points (map (map (up by)) s.cells) (rn ∙ en) (rp ∙ ep)
    (rc ∙ ap (λ ns. by_names ns cells) en ∙ cells-moved by s.names cells ∙ ap (map (map (up by))) ec)

-- ---- where nothing moves

name-stays : (n : List ℕ) → up 0 n ≡ n
name-stays [] = refl
name-stays (l ∷ ls) = ap₂ (λ a b. a ∷ b) (plus l) (name-stays ls)
  where
    plus : (a : ℕ) → a + 0 ≡ a
    plus a = omega arith

names-stay : (ns : List (List ℕ)) → map (up 0) ns ≡ ns
names-stay [] = refl
names-stay (n ∷ ns) = ap₂ (λ a b. a ∷ b) (name-stays n) (names-stay ns)

cells-stay : (cs : List (List (List ℕ))) → map (map (up 0)) cs ≡ cs
cells-stay [] = refl
cells-stay (c ∷ cs) = ap₂ (λ a b. a ∷ b) (names-stay c) (cells-stay cs)

abbrev made : SheetData → List (List ℕ) → List (List (List ℕ)) → SheetData
made s names cells = record { names = names; points = s.points; cells = cells }

pub sheet-stays : (by : ℕ) (s : SheetData) → by ≡ 0 → s ≡ shifted_sheet by s
sheet-stays by s e = sym (ap (λ b. shifted_sheet b s) e ∙ ap₂ (made s) (names-stay s.names) (cells-stay s.cells))

-- ---- parts

pub part-is : (r : PartSheetData) (s : SheetData) (ls : List ℕ) → r.sheet ≡ s → r.levels ≡ ls → r ≡ record { sheet = s; levels = ls }
part-is r s ls a b = λ i. record { sheet = a i; levels = b i }

both : (a b : Bool) → (a && b) ≡ true → (a ≡ true) × (b ≡ true)
both true b e = (refl, e)
both false b e = absurd (apart e)
  where
    apart : false ≡ true → ⊥
    apart e = cc

-- own layers alone have level 0
pub own-part : (p n : ℕ) (whole block : Bounds) (count low high first next : ℕ) → count ≡ length (block_levels p n whole block)
    → first ≡ first_layer p n whole → next ≡ next_layer p n whole → low ≡ block.z0 - whole.z0 → high ≡ block.z1 - whole.z0
    → (leb first low && leb high next) ≡ true → replicate count 0 ≡ block_levels p n whole block
own-part p n whole block count low high first next all ef en el eh e =
    let two = both (leb first low) (leb high next) e in
    let l = leb-true first low two.0 in
    let m = leb-true high next two.1 in
    ap (λ k. replicate k 0) all
    ∙ sym (own-levels (first_layer p n whole) (next_layer p n whole) (layer_size whole) (block.z0 - whole.z0) (block.z1 - whole.z0)
    (omega (arith, l, ef, el)) (omega (arith, m, en, eh)))
