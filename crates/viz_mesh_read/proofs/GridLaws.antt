-- The reader of a grid decides its rule.
use Rattle.std.proofs.Common.{◌≡◌, ℕ, suc, Bool, List, [], ◌∷◌, ◌++◌, length, Result, Ok, Err, refl, ap, ◌∙◌, add-one}
use Rattle.std.specs.Prelude.{codes, drop, unwrap_or, ◌==◌}
use Rattle.viz_lex.specs.declared.fault.FileFault.{FileFault}
use Rattle.viz_lex.specs.declared.fault.FileKind.TheVariants.{Count, CellType}
use Rattle.viz_lex.specs.Reading.{Reading, ◌>>=◌}
use Rattle.viz_lex.specs.Steps.{has, due_word, due_number, keyword_at, is_next}
use Rattle.viz_lex.specs.Rules.{Decides}
use Rattle.viz_lex.specs.Repeats.{Skips}
use Rattle.viz_lex.specs.Items.{word, number, keyword}
use Rattle.viz_lex.specs.Readers.{skip_at}
use Rattle.viz_lex.proofs.RuleLemmas.{decides-gives, decides-follow, decides-demand}
use Rattle.viz_lex.proofs.ItemLemmas.{decides-word, decides-number, decides-keyword, onward-follow}
use Rattle.viz_lex.proofs.PassRules.{decides-same}
use Rattle.viz_lex.proofs.SkipLemmas.{decides-skip, is_next-ends}
use Rattle.viz_attr.specs.Counts.{is_number, same_count}
use Rattle.viz_attr.specs.Passed.{passed_field}
use Rattle.viz_attr.specs.PassedSteps.{passed_field_at}
use Rattle.viz_attr.specs.Steps.{same_count_at}
use Rattle.viz_attr.proofs.PassedLaws.{decides-passed_field}
use Rattle.viz_mesh_read.specs.declared.coordinates.FilePoints.{FilePoints}
use Rattle.viz_mesh_read.specs.Points.{points}
use Rattle.viz_counted_cells.specs.Sections.{section_number, section_start}
use Rattle.viz_counted_cells.specs.Numbered.{cell_numbers, numbers_of_cells, behind_first}
use Rattle.viz_counted_cells.proofs.NumberedLemmas.{behind_cell}
use Rattle.viz_counted_cells.specs.Steps.{section_number_at, section_start_at}
use Rattle.viz_mesh_read.specs.CellSections.{cell_section}
use Rattle.viz_mesh_read.specs.Steps.{points_at, cell_section_at}
use Rattle.viz_mesh_read.specs.Grid.{one_field, fields, points_of_type, cell_type, cell_types, types, Grid, grid, grid_numbers}
use Rattle.viz_mesh_read.specs.GridSteps.{one_field_at, fields_in_at, fields_at, cell_type_at, cell_types_at, types_at, grid_at}
use Rattle.viz_mesh_read.proofs.GridLoops.{Passed}
use Rattle.viz_mesh_read.proofs.PointLaws.{decides-points}
use Rattle.viz_counted_cells.proofs.SectionLaws.{in_front, as_numbers, decides-section_number, decides-section_start}
use Rattle.viz_mesh_read.proofs.SectionLaws.{cell_list_at, decides-cell_section, cell_section-list}

-- ---- FIELDs

decides-one_field : (binary : Bool) → Decides (one_field binary) (one_field_at binary)
unfolding one_field_at
decides-one_field binary = decides-follow word _ due_word _ decides-word (λ key. decides-passed_field binary)

skips-fields : (binary : Bool) → Skips (is_next (codes "FIELD")) (one_field binary) (one_field_at binary)
skips-fields binary = record {
  decides = decides-one_field binary;
  onward = onward-follow (λ key. passed_field binary) (λ key. passed_field_at binary) (λ key. decides-passed_field binary);
  ends = is_next-ends (codes "FIELD");
}

same_fields : (binary : Bool) (r : Reading) → fields_at binary r ≡ skip_at (is_next (codes "FIELD")) (one_field_at binary) (suc (length r.bytes)) r
unfolding fields_at fields_in_at
same_fields binary r = ap (λ n. skip_at (is_next (codes "FIELD")) (one_field_at binary) n r) (add-one (length r.bytes))

pub decides-fields : (binary : Bool) → Decides (fields binary) (fields_at binary)
decides-fields binary =
    decides-same (fields binary) (λ r. skip_at (is_next (codes "FIELD")) (one_field_at binary) (suc (length r.bytes)) r) (fields_at binary) (same_fields binary)
    (decides-skip (is_next (codes "FIELD")) (one_field binary) (one_field_at binary) (skips-fields binary))

-- ---- keywords and types

decides-cell_type : (binary : Bool) (size : ℕ) → Decides (cell_type binary size) (cell_type_at binary size)
unfolding cell_type_at
decides-cell_type binary size =
    decides-follow (section_number binary) _ (section_number_at binary) _ (decides-section_number binary) (λ t.
    decides-demand (has (points_of_type t.1)) (CellType t.1) t.0 _ _ (
    decides-demand (unwrap_or (points_of_type t.1) 0 == size) Count t.0 _ _ (decides-gives tt)))

decides-same_count : (count : ℕ) → Decides (same_count count) (same_count_at count)
unfolding same_count_at
decides-same_count count =
    decides-follow number _ due_number _ decides-number (λ n. decides-demand (is_number count n.1) Count n.0 _ _ (decides-gives tt))

-- the types of cells, by their indices
abbrev cell_types_list_at : Bool → List (List ℕ) → Reading → Passed
cell_types_list_at binary [] r = Ok (tt, r)
cell_types_list_at binary (cell ∷ cells) r = cell_type_at binary (length cell) r >>= λ x. cell_types_list_at binary cells x.1

decides-cell_types_list : (binary : Bool) (cells : List (List ℕ)) → Decides (cell_types binary cells) (cell_types_list_at binary cells)
decides-cell_types_list binary [] = decides-gives tt
decides-cell_types_list binary (cell ∷ cells) =
    decides-follow (cell_type binary (length cell)) _ (cell_type_at binary (length cell)) _ (decides-cell_type binary (length cell)) (λ x. decides-cell_types_list binary cells)

types_step : (binary : Bool) (cells : List (List ℕ)) (numbers : List ℕ) (read : Passed) → ((r : Reading) → cell_types_at binary (length cells) (numbers_of_cells cells) r ≡ cell_types_list_at binary cells r) → numbers ≡ numbers_of_cells cells
    → (read >>= λ x. cell_types_at binary (length cells) numbers x.1) ≡ (read >>= λ x. cell_types_list_at binary cells x.1)
types_step binary cells numbers (Ok x) later e = rw e (later x.1)
types_step binary cells numbers (Err f) later e = refl

cell_types-list : (binary : Bool) (cells : List (List ℕ)) (r : Reading) → cell_types_at binary (length cells) (numbers_of_cells cells) r ≡ cell_types_list_at binary cells r
unfolding cell_types_at
cell_types-list binary [] r = refl
cell_types-list binary (cell ∷ cells) r =
    types_step binary cells (behind_first (cell_numbers cell ++ numbers_of_cells cells)) (cell_type_at binary (length cell) r) (cell_types-list binary cells) (behind_cell cell (numbers_of_cells cells))

decides-cell_types : (binary : Bool) (cells : List (List ℕ)) → Decides (cell_types binary cells) (cell_types_at binary (length cells) (numbers_of_cells cells))
decides-cell_types binary cells =
    decides-same (cell_types binary cells) (cell_types_list_at binary cells) (cell_types_at binary (length cells) (numbers_of_cells cells)) (cell_types-list binary cells) (decides-cell_types_list binary cells)

decides-types : (binary : Bool) (cells : List (List ℕ)) → Decides (types binary cells) (types_at binary (length cells, numbers_of_cells cells))
unfolding types_at
decides-types binary cells =
    decides-follow (keyword (codes "CELL_TYPES")) _ (keyword_at (codes "CELL_TYPES")) _ (decides-keyword (codes "CELL_TYPES")) (λ key.
    decides-follow (same_count (length cells)) _ (same_count_at (length cells)) _ (decides-same_count (length cells)) (λ n.
    decides-follow (section_start binary) _ (section_start_at binary) _ (decides-section_start binary) (λ started. decides-cell_types binary cells)))

-- ---- the grid

-- the grid, with the indices of its cells
abbrev pub grid_list_at : Bool → Bool → Reading → Result (Grid × Reading) FileFault
grid_list_at binary later r =
    fields_at binary r >>= λ before. points_at binary before.1 >>= λ p. fields_at binary p.1 >>= λ between. keyword_at (codes "CELLS") between.1
    >>= λ key. cell_list_at later binary p.0.count key.1 >>= λ cells. fields_at binary cells.1 >>= λ behind. types_at binary (length cells.0, numbers_of_cells cells.0) behind.1
    >>= λ all. Ok (record { points = p.0; cells = cells.0 }, all.1)

pub decides-grid : (binary later : Bool) → Decides (grid binary later) (grid_list_at binary later)
decides-grid binary later =
    decides-follow (fields binary) _ (fields_at binary) _ (decides-fields binary) (λ before.
    decides-follow (points binary) _ (points_at binary) _ (decides-points binary) (λ p.
    decides-follow (fields binary) _ (fields_at binary) _ (decides-fields binary) (λ between.
    decides-follow (keyword (codes "CELLS")) _ (keyword_at (codes "CELLS")) _ (decides-keyword (codes "CELLS")) (λ key.
    decides-follow (cell_section later binary p.count) _ (cell_list_at later binary p.count) _ (decides-cell_section later binary p.count) (λ cells.
    decides-follow (fields binary) _ (fields_at binary) _ (decides-fields binary) (λ behind.
    decides-follow (types binary cells) _ (types_at binary (length cells, numbers_of_cells cells)) _ (decides-types binary cells) (λ all. decides-gives _)))))))

-- the grid by the numbers of its cells
abbrev as_grid : Grid × Reading → Result ((FilePoints × (ℕ × List ℕ)) × Reading) FileFault
as_grid g = Ok ((g.0.points, (length g.0.cells, numbers_of_cells g.0.cells)), g.1)

-- what stands behind the cells
abbrev behind_numbers : Bool → FilePoints → (ℕ × List ℕ) × Reading → Result ((FilePoints × (ℕ × List ℕ)) × Reading) FileFault
behind_numbers binary p cells = fields_at binary cells.1 >>= λ behind. types_at binary cells.0 behind.1 >>= λ all. Ok ((p, cells.0), all.1)

abbrev behind_cells : Bool → FilePoints → List (List ℕ) × Reading → Result (Grid × Reading) FileFault
behind_cells binary p cells =
    fields_at binary cells.1 >>= λ behind. types_at binary (length cells.0, numbers_of_cells cells.0) behind.1 >>= λ all. Ok (record { points = p; cells = cells.0 }, all.1)

numbers_behind : (binary : Bool) (p : FilePoints) (cells : List (List ℕ) × Reading) → behind_numbers binary p ((length cells.0, numbers_of_cells cells.0), cells.1) ≡ (behind_cells binary p cells >>= as_grid)
numbers_behind binary p cells =
    in_front (fields_at binary cells.1) _ as_grid _ (λ behind. in_front (types_at binary (length cells.0, numbers_of_cells cells.0) behind.1) _ as_grid _ (λ all. refl))

cells_read : (binary : Bool) (p : FilePoints) (read : Result (List (List ℕ) × Reading) FileFault) → ((read >>= as_numbers) >>= behind_numbers binary p) ≡ ((read >>= behind_cells binary p) >>= as_grid)
cells_read binary p (Ok cells) = numbers_behind binary p cells
cells_read binary p (Err f) = refl

cells_behind : (later binary : Bool) (p : FilePoints) (r : Reading) → (cell_section_at later binary p.count r >>= behind_numbers binary p) ≡ ((cell_list_at later binary p.count r >>= behind_cells binary p) >>= as_grid)
cells_behind later binary p r =
    ap (λ (o : Result ((ℕ × List ℕ) × Reading) FileFault). o >>= behind_numbers binary p) (cell_section-list later binary p.count r) ∙ cells_read binary p (cell_list_at later binary p.count r)

grid_at-list : (binary later : Bool) (r : Reading) → grid_at binary later r ≡ (grid_list_at binary later r >>= as_grid)
unfolding grid_at
grid_at-list binary later r =
    in_front (fields_at binary r) _ as_grid _ (λ before.
    in_front (points_at binary before.1) _ as_grid _ (λ p.
    in_front (fields_at binary p.1) _ as_grid _ (λ between.
    in_front (keyword_at (codes "CELLS") between.1) _ as_grid _ (λ key. cells_behind later binary p.0 key.1))))

pub decides-grid_numbers : (binary later : Bool) → Decides (grid_numbers binary later) (grid_at binary later)
decides-grid_numbers binary later =
    decides-same (grid_numbers binary later) (λ r. grid_list_at binary later r >>= as_grid) (grid_at binary later) (grid_at-list binary later)
    (decides-follow (grid binary later) _ (grid_list_at binary later) _ (decides-grid binary later) (λ g. decides-gives (g.points, (length g.cells, numbers_of_cells g.cells))))
