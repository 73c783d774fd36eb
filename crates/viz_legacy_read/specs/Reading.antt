-- What a file is read as, and where its first fault is (VTK User's Guide, "Simple legacy formats";
-- docs/FORMATS-OF-FILES.md, "Reading").
use Rattle.std.specs.Prelude.{◌≡◌, ℕ, List, All}
use Rattle.viz_base.specs.declared.node.Pick.{Pick}
use Rattle.viz_extent.specs.Extent.{Bounds}
use Rattle.viz_dataset.specs.declared.dataset.Info.{Info}
use Rattle.viz_dataset.specs.declared.dataset.Info.TheVariants.{Image, Mesh}
use Rattle.viz_dataset.specs.declared.dataset.Dataset.{Dataset}
use Rattle.viz_dataset.specs.declared.dataset.Dataset.TheVariants as dataset
use Rattle.viz_dataset.specs.Images.{Vector, vector_of, IsImage}
use Rattle.viz_sheet.specs.Sheet.{IsSheet, IsFit}
use Rattle.viz_lex.specs.declared.fault.FileFault.{FileFault}
use Rattle.viz_lex.specs.Reading as lexer
use Rattle.viz_legacy_read.specs.declared.front.Preamble.{Preamble}
use Rattle.viz_legacy_read.specs.declared.stop.ReadStop.{ReadStop}
use Rattle.viz_legacy_read.specs.declared.stop.ReadStop.TheVariants.{File, Memory}
use Rattle.viz_legacy_read.specs.Header.{Header, Heading, header}
use Rattle.viz_legacy_read.specs.Header.Heading.{OfImage, OfMesh}
use Rattle.viz_legacy_read.specs.File.{file}

-- the front of a text
abbrev pub front : List ℕ → lexer.Reading
front bytes = record { bytes = bytes; place = 0 }

-- the bytes are a file of this dataset, where 10^unit of its coordinates make 1
abbrev pub Reads : List ℕ → Pick → ℕ → Dataset → Type 0
Reads bytes pick unit d = (behind : lexer.Reading) × (file pick unit).is (front bytes) behind d

-- the first fault of a file
abbrev pub Stops : List ℕ → Pick → ℕ → FileFault → Type 0
Stops bytes pick unit fault = (file pick unit).isnt (front bytes) fault

-- the bytes begin with this header
abbrev pub ReadsHeader : List ℕ → Heading → Type 0
ReadsHeader bytes h = (behind : lexer.Reading) × header.is (front bytes) behind h

-- the first fault lies within the header
abbrev pub StopsInHeader : List ℕ → FileFault → Type 0
StopsInHeader bytes fault = header.isnt (front bytes) fault

-- the bytes begin with the header of an image
abbrev pub IsImageFile : List ℕ → Type 0
IsImageFile bytes = (h : Header) × ReadsHeader bytes (OfImage h)

-- the bytes begin with the header of a mesh
abbrev pub IsMeshFile : List ℕ → Type 0
IsMeshFile bytes = (p : Preamble) × ReadsHeader bytes (OfMesh p)

-- a header with this whole extent, origin and spacing
pub record HasParts (h : Header) (extent : Bounds) (position step : Vector) : Type 0 where
  pub whole : h.whole ≡ extent
  pub origin : h.origin ≡ position
  pub spacing : h.spacing ≡ step

-- this is what the header of a file says
abbrev pub IsInfo : List ℕ → Info → Type 0
IsInfo bytes (Image whole origin spacing) =
    (h : Header) × ReadsHeader bytes (OfImage h)
    × HasParts h whole (vector_of origin) (vector_of spacing)
IsInfo bytes Mesh = IsMeshFile bytes

-- the dataset keeps the rule of its type, and sections of a mesh have names
abbrev pub IsSound : Dataset → Type 0
IsSound (dataset.Image image) = IsImage image
IsSound (dataset.Mesh sheets) = All IsSheet sheets × All IsFit sheets

-- reading stops at the first fault, or where memory ran out
abbrev pub IsStop : List ℕ → Pick → ℕ → ReadStop → Type 0
IsStop bytes pick unit (File fault) = Stops bytes pick unit fault
IsStop bytes pick unit Memory = Unit {0}
