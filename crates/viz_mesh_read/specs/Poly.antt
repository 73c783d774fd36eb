-- The geometry of polydata (VTK User's Guide, "Simple legacy formats"; docs/FORMATS-OF-FILES.md,
-- "Grids and polydata").
use Rattle.std.specs.Prelude.{ℕ, zero, suc, Bool, true, false, not, ◌&&◌, ◌||◌, List, []}
use Rattle.std.specs.Prelude.{codes, if◌then◌else◌}
use Rattle.viz_lex.specs.Reading.{Reading}
use Rattle.viz_lex.specs.Steps.{same_word, is_next}
use Rattle.viz_lex.specs.Rules.{Rule, gives, beside, ◌>>=◌}
use Rattle.viz_lex.specs.Items.{word}
use Rattle.viz_mesh_read.specs.declared.coordinates.FilePoints.{FilePoints}
use Rattle.viz_mesh_read.specs.declared.poly.SectionKind.{SectionKind}
use Rattle.viz_mesh_read.specs.declared.poly.SectionKind.TheVariants.{Vertices, Lines, Polygons}
use Rattle.viz_mesh_read.specs.declared.poly.SectionKind.TheVariants.{Strips}
use Rattle.viz_mesh_read.specs.declared.poly.Seen.{Seen}
use Rattle.viz_mesh_read.specs.declared.poly.PolyCells.{PolyCells}
use Rattle.viz_mesh_read.specs.declared.poly.PolyFile.{PolyFile}
use Rattle.viz_mesh_read.specs.Points.{points}
use Rattle.viz_counted_cells.specs.Sections.{section_of, HaveIndices}
use Rattle.viz_mesh_read.specs.CellSections.{cell_section, numbers_of_section}
use Rattle.viz_mesh_read.specs.Grid.{fields}

-- something of each kind of section
pub record ByKind (A : Type 0) : Type 0 where
  pub vertices : A
  pub lines : A
  pub polygons : A
  pub strips : A

-- the same of each kind
abbrev pub for_each : {A : Type 0} → A → ByKind A
for_each x = record { vertices = x; lines = x; polygons = x; strips = x }

-- another for one kind
abbrev pub with_kind : {A : Type 0} → ByKind A → SectionKind → A → ByKind A
with_kind all Vertices x =
    record { vertices = x; lines = all.lines; polygons = all.polygons; strips = all.strips }
with_kind all Lines x =
    record { vertices = all.vertices; lines = x; polygons = all.polygons; strips = all.strips }
with_kind all Polygons x =
    record { vertices = all.vertices; lines = all.lines; polygons = x; strips = all.strips }
with_kind all Strips x =
    record { vertices = all.vertices; lines = all.lines; polygons = all.polygons; strips = x }

-- the kind of section that a keyword begins, where it begins one
abbrev pub kind_named : List ℕ → SectionKind
kind_named word =
    if same_word word (codes "VERTICES") then Vertices
    else (if same_word word (codes "LINES") then Lines
    else (if same_word word (codes "POLYGONS") then Polygons
    else Strips))

-- no section was read
abbrev pub none_seen : Seen
none_seen = record { vertices = false; lines = false; polygons = false; strips = false }

-- one kind more was read
abbrev pub seen_with : Seen → SectionKind → Seen
seen_with s Vertices =
    record { vertices = true; lines = s.lines; polygons = s.polygons; strips = s.strips }
seen_with s Lines =
    record { vertices = s.vertices; lines = true; polygons = s.polygons; strips = s.strips }
seen_with s Polygons =
    record { vertices = s.vertices; lines = s.lines; polygons = true; strips = s.strips }
seen_with s Strips =
    record { vertices = s.vertices; lines = s.lines; polygons = s.polygons; strips = true }

-- the keyword of a section stands next, of a kind that wasn't read
abbrev pub is_due : Seen → Reading → Bool
is_due s r =
    is_next (codes "VERTICES") r && not s.vertices || is_next (codes "LINES") r && not s.lines
    || is_next (codes "POLYGONS") r && not s.polygons || is_next (codes "TRIANGLE_STRIPS") r
    && not s.strips

-- at most so many sections more, each of a kind that wasn't read, in front of which FIELDs may
-- stand: all cells by kind
abbrev pub sections : Bool → Bool → ℕ → ℕ → Seen → ByKind (List (List ℕ))
    → Rule (ByKind (List (List ℕ)))
sections binary later points zero seen all = gives all
sections binary later points (suc n) seen all = do
  passed ← fields binary
  beside (is_due seen) (do
    key ← word
    cells ← cell_section later binary points
    sections binary later points n (seen_with seen (kind_named key.1))
        (with_kind all (kind_named key.1) cells))
      (gives all)

-- the points and the cells of polydata
pub record Poly : Type 0 where
  pub points : FilePoints
  pub cells : ByKind (List (List ℕ))

-- the geometry of polydata, which ends where no section is due
abbrev pub polydata : Bool → Bool → Rule Poly
polydata binary later = do
  before ← fields binary
  p ← points binary
  cells ← sections binary later p.count 4 none_seen (for_each [])
  gives (record { points = p; cells = cells })

-- the numbers of all sections
abbrev pub numbers_by_kind : ByKind (List (List ℕ)) → ByKind (ℕ × List ℕ)
numbers_by_kind all = record {
  vertices = numbers_of_section all.vertices;
  lines = numbers_of_section all.lines;
  polygons = numbers_of_section all.polygons;
  strips = numbers_of_section all.strips;
}

-- polydata by the numbers of its cells
abbrev pub polydata_numbers : Bool → Bool → Rule (FilePoints × ByKind (ℕ × List ℕ))
polydata_numbers binary later = do
  p ← polydata binary later
  gives (p.points, numbers_by_kind p.cells)

-- the sections, as the code holds them
abbrev pub sections_of : PolyCells → ByKind (ℕ × List ℕ)
sections_of all = record {
  vertices = section_of all.vertices;
  lines = section_of all.lines;
  polygons = section_of all.polygons;
  strips = section_of all.strips;
}

-- polydata, as the code holds it
abbrev pub polydata_of : PolyFile → FilePoints × ByKind (ℕ × List ℕ)
polydata_of p = (p.points, sections_of p.cells)

-- each index of each cell of each kind is that of one of so many points
pub record HaveIndicesByKind (points : ℕ) (all : ByKind (List (List ℕ))) : Type 0 where
  pub vertices : HaveIndices points all.vertices
  pub lines : HaveIndices points all.lines
  pub polygons : HaveIndices points all.polygons
  pub strips : HaveIndices points all.strips
