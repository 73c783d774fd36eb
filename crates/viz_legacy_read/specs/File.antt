-- A whole file (VTK User's Guide, "Simple legacy formats"; docs/FORMATS-OF-FILES.md, "Reading").
use Rattle.std.specs.Prelude.{ℕ}
use Rattle.viz_base.specs.declared.node.Pick.{Pick}
use Rattle.viz_dataset.specs.declared.dataset.Dataset.{Dataset}
use Rattle.viz_dataset.specs.declared.dataset.Dataset.TheVariants.{Image, Mesh}
use Rattle.viz_lex.specs.Rules.{Rule, gives, ◌>>=◌}
use Rattle.viz_legacy_read.specs.Header.{Heading, header}
use Rattle.viz_legacy_read.specs.Header.Heading.{OfImage, OfMesh}
use Rattle.viz_legacy_read.specs.ImageFile.{image_behind}
use Rattle.viz_legacy_read.specs.MeshFile.{mesh_behind}

-- what stands behind a header, to the end
abbrev pub contents : Pick → ℕ → Heading → Rule Dataset
contents pick unit (OfImage h) = do
  i ← image_behind pick h
  gives (Image i)
contents pick unit (OfMesh p) = do
  m ← mesh_behind pick unit p
  gives (Mesh m)

-- a file: its header, and what stands behind it
abbrev pub file : Pick → ℕ → Rule Dataset
file pick unit = do
  h ← header
  contents pick unit h
