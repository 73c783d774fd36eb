-- Where the cuts of a clipped volume lie: at zeros of the form (Doi and Koide 1991).
use Rattle.std.specs.Prelude.{◌≡◌, ℤ, pos, ◌<ℤ◌, IsTrue, All, Contains}
use Rattle.viz_fraction.specs.declared.forms.Form.{Form}
use Rattle.viz_fraction.specs.Points.{Point}
use Rattle.viz_fraction.specs.Forms.{value_of}
use Rattle.viz_sheet.specs.PairNames.{AreNames}
use Rattle.viz_sheet.specs.Sheet.{IsSheet, SheetData}
use Rattle.viz_clip_meaning.specs.declared.vertex.Vertex.{Vertex}
use Rattle.viz_clip_meaning.specs.Clip.{AreTetrahedra, clipped_of, vertex_point}
use Rattle.viz_clip_law.specs.Facets.{is_cut}

-- the form is 0 at each cut of a clip, where all weights are positive
abbrev pub CutsAreZeros : Type 0
CutsAreZeros =
    (f : Form) (s : SheetData) (v : Vertex) → IsSheet s → AreNames 1 s.names → AreTetrahedra s
    → All (λ (p : Point). pos 0 <ℤ p.w) s.points → Contains (clipped_of f s).vertices v
    → IsTrue (is_cut v) → value_of f (vertex_point f s v) ≡ pos 0
