-- The counts of one sheet more.
use Rattle.std.proofs.Common.{◌≡◌, ℕ, ◌+◌, ◌<◌, List, [], ◌∷◌, ◌++◌, length, get_or, take, sym, ap, ◌∙◌, arith}
use Rattle.std.proofs.lemmas.List.{take_more}
use Rattle.viz_extent.specs.Extent.{Bounds}
use Rattle.viz_sheet.specs.Sheet.{SheetData}
use Rattle.viz_grid_section.specs.Edges.{Edge}
use Rattle.viz_surface_law.specs.declared.audits.Counts.{Counts}
use Rattle.viz_surface_law.specs.Audit.{count_sides, count_two, count_lone, count_border}
use Rattle.viz_surface_law.specs.Surfaces.{by_edges}
use Rattle.viz_account.specs.Audited.{summed, AreSums}
use Rattle.viz_account.specs.Steps.Ground.{IsAdded}

-- the number of a sheet behind others
summed_more : (count : List (List Edge) → ℕ) (sheets : List SheetData) (s : SheetData) → summed count (sheets ++ s ∷ []) ≡ summed count sheets + count (by_edges s.cells)
summed_more count [] s = let e : count (by_edges s.cells) + 0 ≡ 0 + count (by_edges s.cells) = omega arith in e
summed_more count (t ∷ sheets) s =
    let rest = summed_more count sheets s in
    let e : count (by_edges t.cells) + summed count (sheets ++ s ∷ []) ≡ (count (by_edges t.cells) + summed count sheets) + count (by_edges s.cells) = omega (arith, rest) in
    e

module _ (whole : Bounds) (sheets : List SheetData) (i : ℕ) (s : SheetData) (lt : i < length sheets) (is : s ≡ get_or sheets i s) where
  more : (count : List (List Edge) → ℕ) → summed count (take (i + 1) sheets) ≡ summed count (take i sheets) + count (by_edges s.cells)
  more count = ap (summed count) (take_more sheets i s lt ∙ ap (λ (y : SheetData). take i sheets ++ y ∷ []) (sym is)) ∙ summed_more count (take i sheets) s

  pub sums_more : (a b c : Counts) → AreSums whole (take i sheets) a → b.sides ≡ count_sides (by_edges s.cells) → b.two ≡ count_two (by_edges s.cells)
      → b.lone ≡ count_lone (by_edges s.cells) → b.border ≡ count_border whole (by_edges s.cells) → IsAdded a b c → AreSums whole (take (i + 1) sheets) c
  sums_more a b c before sides two lone border added =
      record {
        sides = (let m = more count_sides in let e : c.sides ≡ summed count_sides (take (i + 1) sheets) = omega (arith, m, before.sides, sides, added.sides) in e);
        two = (let m = more count_two in let e : c.two ≡ summed count_two (take (i + 1) sheets) = omega (arith, m, before.two, two, added.two) in e);
        lone = (let m = more count_lone in let e : c.lone ≡ summed count_lone (take (i + 1) sheets) = omega (arith, m, before.lone, lone, added.lone) in e);
        border = (let m = more (count_border whole) in let e : c.border ≡ summed (count_border whole) (take (i + 1) sheets) = omega (arith, m, before.border, border, added.border) in e);
      }
