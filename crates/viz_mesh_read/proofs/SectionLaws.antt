-- The readers of sections in both forms decide their rules.
use Rattle.std.proofs.Common.{◌≡◌, ℕ, Bool, true, false, List, Result, refl, if◌then◌else◌}
use Rattle.viz_lex.specs.declared.fault.FileFault.{FileFault}
use Rattle.viz_lex.specs.Reading.{Reading, ◌>>=◌}
use Rattle.viz_lex.specs.Rules.{Decides}
use Rattle.viz_lex.proofs.RuleLemmas.{decides-gives, decides-follow, decides-choose}
use Rattle.viz_lex.proofs.PassRules.{decides-same}
use Rattle.viz_counted_cells.specs.Sections.{section, HaveIndices}
use Rattle.viz_counted_cells.proofs.IndexLaws.{section-below}
use Rattle.viz_offset_cells.proofs.IndexLaws.{section-below as offset-below}
use Rattle.viz_counted_cells.proofs.SectionLaws.{section_list_at, as_numbers, section_at-list, decides-section}
use Rattle.viz_offset_cells.specs.Offsets.{offset_section}
use Rattle.viz_offset_cells.proofs.OffsetLaws.{section_list_at as offset_list_at, decides-offset_section}
use Rattle.viz_offset_cells.proofs.RunLaws.{section-list}
use Rattle.viz_mesh_read.specs.CellSections.{cell_section, numbers_of_section, cell_section_numbers}
use Rattle.viz_mesh_read.specs.Steps.{cell_section_at}

-- a section in either form, with the indices of its cells
abbrev pub cell_list_at : Bool → Bool → ℕ → Reading → Result (List (List ℕ) × Reading) FileFault
cell_list_at later binary points r = if later then offset_list_at binary points r else section_list_at binary points r

pub decides-cell_section : (later binary : Bool) (points : ℕ) → Decides (cell_section later binary points) (cell_list_at later binary points)
decides-cell_section later binary points =
    decides-choose later (offset_section binary points) (section binary points) (offset_list_at binary points) (section_list_at binary points) (decides-offset_section binary points) (decides-section binary points)

pub cell_section-list : (later binary : Bool) (points : ℕ) (r : Reading) → cell_section_at later binary points r ≡ (cell_list_at later binary points r >>= as_numbers)
unfolding cell_section_at
cell_section-list true binary points r = section-list binary points r
cell_section-list false binary points r = section_at-list binary points r

pub decides-cell_section_numbers : (later binary : Bool) (points : ℕ) → Decides (cell_section_numbers later binary points) (cell_section_at later binary points)
decides-cell_section_numbers later binary points =
    decides-same (cell_section_numbers later binary points) (λ r. cell_list_at later binary points r >>= as_numbers) (cell_section_at later binary points) (cell_section-list later binary points)
    (decides-follow (cell_section later binary points) _ (cell_list_at later binary points) _ (decides-cell_section later binary points) (λ all. decides-gives (numbers_of_section all)))

pub cell_section-below : (later binary : Bool) (points : ℕ) (old new : Reading) (all : List (List ℕ)) → (cell_section later binary points).is old new all → HaveIndices points all
cell_section-below true binary points old new all h = offset-below binary points old new all h
cell_section-below false binary points old new all h = section-below binary points old new all h
