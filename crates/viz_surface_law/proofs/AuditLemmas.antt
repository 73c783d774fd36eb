-- The counts of a sheet's sides by the keys of its ranks.
use Rattle.std.proofs.Common.{◌≡◌, ℕ, ◌≤◌, ◌^◌, List, length, sym, ap, subst, ◌∙◌}
use Rattle.std.specs.List.{All}
use Rattle.viz_extent.specs.Extent.{Bounds}
use Rattle.viz_sheet.specs.Ranked.{AreRanks, by_names}
use Rattle.viz_sheet.specs.Sheet.{SheetData}
use Rattle.viz_surface_law.proofs.Sharing.FacetTable.{Each}
use Rattle.viz_surface_law.specs.Audit.{count_sides, count_two, count_lone, count_border}
use Rattle.viz_surface_law.specs.Surfaces.{by_edges, IsSurface}
use Rattle.viz_surface_law.specs.Steps.Keys.{half, keys_in, passing, any_side, in_two, in_one}
use Rattle.viz_surface_law.specs.Steps.Ranked.{edges_by, in_border, IsTriangle, HasRanks}
use Rattle.viz_surface_law.proofs.Ranks.{Sorted}
use Rattle.viz_surface_law.proofs.RankCounts.{counts_by_names, keys_have_ranks}
use Rattle.viz_surface_law.proofs.SheetLemmas.{three_ranks, triangles-from_cells, edges-by_names, edges_ascend}

module _ (b : Bounds) (s : SheetData) (ranks : List (List ℕ)) (seen : by_names s.names ranks ≡ s.cells) (rule : AreRanks s.names s.points ranks) (surface : IsSurface b s) (few : length s.names ≤ 2 ^ 31) where
  -- each cell has three ranks
  pub sizes : All (λ cell. length cell ≡ 3) ranks
  sizes = three_ranks s.names ranks (subst (All (λ cell. length cell ≡ 3)) (sym seen) surface.triangles)

  triangles : Each (IsTriangle (length s.names)) ranks
  triangles = triangles-from_cells (length s.names) ranks rule.rule.each sizes

  ascend : Sorted s.names
  ascend = edges_ascend s.names (λ k d less. (surface.names k d less).two) rule.rule.ascending

  same : edges_by s.names ranks ≡ by_edges s.cells
  same = edges-by_names s.names ranks ∙ ap by_edges seen

  -- the ranks of each key are those of names
  pub have_ranks : All (λ key. HasRanks (length s.names) (half key)) (keys_in ranks)
  have_ranks = keys_have_ranks s.names ranks few triangles

  pub sides-keys : passing any_side (keys_in ranks) ≡ count_sides (by_edges s.cells)
  sides-keys = sym (counts_by_names s.names ranks ascend few triangles).0 ∙ ap count_sides same

  pub two-keys : passing in_two (keys_in ranks) ≡ count_two (by_edges s.cells)
  two-keys = sym (counts_by_names s.names ranks ascend few triangles).1 ∙ ap count_two same

  pub lone-keys : passing in_one (keys_in ranks) ≡ count_lone (by_edges s.cells)
  lone-keys = sym (counts_by_names s.names ranks ascend few triangles).2 ∙ ap count_lone same

  pub border-keys : passing (in_border b s.names) (keys_in ranks) ≡ count_border b (by_edges s.cells)
  border-keys = sym ((counts_by_names s.names ranks ascend few triangles).3 b) ∙ ap (count_border b) same
