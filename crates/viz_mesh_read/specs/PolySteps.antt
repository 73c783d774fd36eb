-- The readers of polydata, which proofs compare with the rules (docs/FORMATS-OF-FILES.md, "Grids
-- and polydata").
use Rattle.std.specs.Prelude.{ℕ, zero, suc, Bool, List, [], Result, Ok, if◌then◌else◌}
use Rattle.viz_lex.specs.declared.fault.FileFault.{FileFault}
use Rattle.viz_lex.specs.Reading.{Reading, ◌>>=◌}
use Rattle.viz_lex.specs.Steps.{due_word}
use Rattle.viz_mesh_read.specs.declared.coordinates.FilePoints.{FilePoints}
use Rattle.viz_mesh_read.specs.declared.poly.SectionKind.{SectionKind}
use Rattle.viz_mesh_read.specs.declared.poly.Seen.{Seen}
use Rattle.viz_mesh_read.specs.Poly.{ByKind, for_each, with_kind, kind_named, none_seen, seen_with}
use Rattle.viz_mesh_read.specs.Poly.{is_due}
use Rattle.viz_mesh_read.specs.Steps.{points_at, cell_section_at}
use Rattle.viz_mesh_read.specs.GridSteps.{fields_at}

-- a section, with its keyword
unfoldable pub kind_at : Bool → Bool → ℕ → Reading
    → Result ((SectionKind × (ℕ × List ℕ)) × Reading) FileFault
kind_at binary later points r = do
  key ← due_word r
  cells ← cell_section_at later binary points key.1
  Ok ((kind_named key.0.1, cells.0), cells.1)

-- at most so many sections more
unfoldable pub sections_at : Bool → Bool → ℕ → ℕ → Seen → ByKind (ℕ × List ℕ) → Reading
    → Result (ByKind (ℕ × List ℕ) × Reading) FileFault
sections_at binary later points zero seen all r = Ok (all, r)
sections_at binary later points (suc n) seen all r =
    fields_at binary r >>= λ passed. if is_due seen passed.1
    then (kind_at binary later points passed.1 >>= λ x. sections_at binary later points n
    (seen_with seen x.0.0) (with_kind all x.0.0 x.0.1) x.1) else Ok (all, passed.1)

-- polydata
unfoldable pub polydata_at : Bool → Bool → Reading
    → Result ((FilePoints × ByKind (ℕ × List ℕ)) × Reading) FileFault
polydata_at binary later r = do
  before ← fields_at binary r
  p ← points_at binary before.1
  cells ← sections_at binary later p.0.count 4 none_seen (for_each (0, [])) p.1
  Ok ((p.0, cells.0), cells.1)
