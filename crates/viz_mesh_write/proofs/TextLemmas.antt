-- The texts of points and scalars are a line or lines and a block.
use Rattle.std.proofs.Common.{◌≡◌, ℕ, nat_lt, Bool, List, [], ◌∷◌, ◌++◌, length, refl, sym, ap, ap₂, ◌∙◌}
use Rattle.viz_column.specs.declared.kind.Kind8.TheVariants.{I64}
use Rattle.viz_fraction.specs.Points.{Point}
use Rattle.viz_sheet.specs.Sheet.{SheetData}
use Rattle.viz_image_write.proofs.PassLemmas.{appended}
use Rattle.viz_mesh_write.specs.Cells.{cells_of, has_tetrahedra}
use Rattle.viz_mesh_write.specs.Rows.{block_end}
use Rattle.viz_mesh_write.specs.MeshText.{points_line, coordinates, scalars_head, scalars, points_text, scalars_text}
use Rattle.viz_mesh_write.specs.Steps.Passes.{point_rows}
use Rattle.viz_mesh_write.specs.Steps.Tallies.{IsReady}
use Rattle.viz_mesh_write.specs.declared.tally.Tally.{Tally}
use Rattle.viz_mesh_write.proofs.TallyLemmas.{has_some}
use Rattle.viz_mesh_write.proofs.SectionLemmas.{block_is}

-- a tetrahedron is there where one is counted
pub is_there : (sheets : List SheetData) (t : Tally) → IsReady sheets t → nat_lt 0 t.tetrahedra ≡ has_tetrahedra (cells_of sheets)
is_there sheets t is = ap (λ (k : ℕ). nat_lt 0 k) is.counts.tetrahedra ∙ sym (has_some (cells_of sheets))

-- the points are written
pub points_are : (binary : Bool) (digits : ℕ) (points : List Point) (n : ℕ) (old line rows new : List ℕ) → n ≡ length points → line ≡ old ++ points_line n → rows ≡ line ++ point_rows (coordinates digits) binary points
    → new ≡ rows ++ block_end binary n → new ≡ old ++ points_text binary digits points
unfolding points_text
points_are binary digits points n old line rows new e h k l =
    let block = point_rows (coordinates digits) binary points in
    appended old line new (points_line n) (block ++ block_end binary n) h (appended line rows new block (block_end binary n) k l)
    ∙ ap (λ (t : List ℕ). old ++ t) (ap₂ (λ (a : ℕ) (b : List ℕ). points_line a ++ b) e (block_is binary I64 (coordinates digits) points n block e refl))

-- the scalars are written
pub scalars_are : (binary : Bool) (points : List Point) (n : ℕ) (old head rows new : List ℕ) → (n ≡ 0 → ⊥) → n ≡ length points → head ≡ old ++ scalars_head n → rows ≡ head ++ point_rows scalars binary points
    → new ≡ rows ++ block_end binary n → new ≡ old ++ scalars_text binary points
scalars_are binary [] n old head rows new some e h k l = absurd (some e)
scalars_are binary (p ∷ points) n old head rows new some e h k l =
    let block = point_rows scalars binary (p ∷ points) in
    appended old head new (scalars_head n) (block ++ block_end binary n) h (appended head rows new block (block_end binary n) k l)
    ∙ ap (λ (t : List ℕ). old ++ t) (ap₂ (λ (a : ℕ) (b : List ℕ). scalars_head a ++ b) e (block_is binary I64 scalars (p ∷ points) n block e refl))
