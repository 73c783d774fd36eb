use Rattle.std.proofs.Common.{◌≡◌, ◌+◌, ◌∷◌, [], List, Bool, map, refl, ap, ap₂, ◌∙◌, arith}
use Rattle.viz_column.specs.Numbers.{Numbers}
use Rattle.viz_extent.specs.Extent.{Bounds}
use Rattle.viz_grid_section.specs.Edges.{Edge, edges_of, edge_leaves, rank_of}
use Rattle.viz_grid_section.specs.GridSection.{grid_cells}
use Rattle.viz_grid_section.specs.ImageSection.{insides}
use Rattle.viz_flags.specs.Edges.{leaves_from}
use Rattle.viz_contour.proofs.surfaces.ranked.Goals as goal

cells_same : (b c : Bounds) (inside flags : List Bool) → b ≡ c → inside ≡ flags → grid_cells b inside ≡ grid_cells c flags
cells_same b c inside flags p q = ap (λ e. grid_cells e inside) p ∙ ap (grid_cells c) q

from_first : (edges : List Edge) → map (leaves_from 0) edges ≡ map edge_leaves edges
from_first [] = refl
from_first (e ∷ es) =
    let low : 0 + e.low ≡ e.low = omega arith in
    let high : 0 + e.high ≡ e.high = omega arith in
    ap₂ (λ n ns. n ∷ ns) (λ i. low i ∷ high i ∷ []) (from_first es)

pub returns-clause-names : goal.returns-clause-names
returns-clause-names c =
    let same = cells_same _ _ _ _ c.extent.ensures.value (c.in_ok-inside.ensures.value ∙ ap (λ (v : Numbers). insides c.args.level.now v.items) c.column.ensures.value) in
    c.in_ok-ranked.ensures.names ∙ ap (λ cells. map (leaves_from 0) (edges_of cells)) same ∙ from_first _

pub returns-clause-ranks : goal.returns-clause-ranks
returns-clause-ranks c =
    let same = cells_same _ _ _ _ c.extent.ensures.value (c.in_ok-inside.ensures.value ∙ ap (λ (v : Numbers). insides c.args.level.now v.items) c.column.ensures.value) in
    c.in_ok-ranked.ensures.ranks ∙ ap (λ cells. map (map (rank_of (edges_of cells))) cells) same
