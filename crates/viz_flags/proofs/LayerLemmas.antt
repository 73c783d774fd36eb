-- All layers of an extent, by its numbers.
use Rattle.std.proofs.Common.{◌≡◌, ℕ, ◌+◌, ◌-◌, ◌*◌, List, Bool, sym, ap, ◌∙◌, slice_index}
use Rattle.viz_extent.specs.Extent.{Bounds, size_x, plane_size, numbers_of}
use Rattle.viz_grid_section.specs.GridSection.{grid_cells}
use Rattle.viz_grid_section.specs.Steps.Rows.{cells_in_layers}
use Rattle.viz_grid_section.proofs.SectionLemmas.{layers-are}
use Rattle.viz_flags.specs.Edges.{cells_by}

abbrev pub row_in : List ℕ → ℕ
row_in numbers = slice_index numbers 1 - slice_index numbers 0 + 1

abbrev pub plane_in : List ℕ → ℕ
plane_in numbers = row_in numbers * (slice_index numbers 3 - slice_index numbers 2 + 1)

abbrev layers_in : List ℕ → ℕ
layers_in numbers = slice_index numbers 5 - slice_index numbers 4

pub layers-by : (numbers : List ℕ) (b : Bounds) (inside : List Bool) (k : ℕ) (out : List (List ℕ)) → numbers ≡ numbers_of b
    → k ≡ layers_in numbers
    → cells_by (row_in numbers) (plane_in numbers) out ≡ cells_in_layers inside (row_in numbers) (plane_in numbers) (slice_index numbers 1 - slice_index numbers 0) (slice_index numbers 3 - slice_index numbers 2) k
    → cells_by (size_x b) (plane_size b) out ≡ grid_cells b inside
layers-by numbers b inside k out is last so_far =
    ap (λ n. cells_by (row_in n) (plane_in n) out) (sym is)
    ∙ layers-are numbers b inside k (cells_by (row_in numbers) (plane_in numbers) out) is last so_far
