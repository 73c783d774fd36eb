-- What a reader of the code gave, beside what reading gives (docs/FORMATS-OF-FILES.md, "Reading").
use Rattle.std.specs.Prelude.{◌≡◌, option_map, IfSome, Result, Ok, Err}
use Rattle.viz_lex.specs.declared.fault.FileFault.{FileFault}
use Rattle.viz_lex.specs.Reading.{Reading}
use Rattle.viz_dataset.specs.Images.{vector_of, IsOrigin, IsSpacing}
use Rattle.viz_legacy_read.specs.declared.stop.ReadStop.{ReadStop}
use Rattle.viz_legacy_read.specs.declared.stop.ReadStop.TheVariants.{File, Memory}
use Rattle.viz_legacy_read.specs.declared.lines.Lines.{Lines}
use Rattle.viz_legacy_read.specs.declared.lines.ImageHeader.{ImageHeader}
use Rattle.viz_dataset.specs.declared.dataset.Info.{Info}
use Rattle.viz_dataset.specs.declared.dataset.Info.TheVariants.{Image, Mesh}
use Rattle.viz_legacy_read.specs.declared.front.FileHeader.{FileHeader}
use Rattle.viz_legacy_read.specs.declared.front.FileHeader.TheVariants as head
use Rattle.viz_legacy_read.specs.Header.{Geometry, Header, Heading}
use Rattle.viz_legacy_read.specs.Header.Heading.{OfImage, OfMesh}

-- the fault, or nothing where memory ran out
abbrev pub StopsAt : {Y : Type 0} → ReadStop → Result Y FileFault → Type 0
StopsAt (File fault) read = read ≡ Err fault
StopsAt Memory read = Unit {0}

-- a value, seen by view, and the new place; or the fault; or memory ran out
abbrev pub ReadsUnlessMemory : {X Y : Type 0} → (X → Y) → Result X ReadStop → Reading
    → Result (Y × Reading) FileFault → Type 0
ReadsUnlessMemory view (Ok x) new read = read ≡ Ok (view x, new)
ReadsUnlessMemory view (Err stop) new read = StopsAt stop read

-- the value that reading gives, wherever it ends
abbrev pub GivesUnlessMemory : {X : Type 0} → Result X ReadStop → Result (X × Reading) FileFault
    → Type 0
GivesUnlessMemory (Ok x) read = (next : Reading) × (read ≡ Ok (x, next))
GivesUnlessMemory (Err stop) read = StopsAt stop read

-- the lines so far, as the code holds them
abbrev pub lines_of : Lines → Geometry
lines_of l =
    record {
      whole = l.whole;
      origin = option_map vector_of l.origin;
      spacing = option_map vector_of l.spacing;
    }

-- the header of an image, as the code holds it
abbrev pub image_seen : ImageHeader → Header
image_seen h =
    record {
      binary = h.binary;
      whole = h.whole;
      origin = vector_of h.origin;
      spacing = vector_of h.spacing;
    }

-- the origin and the spacing of these lines, where they stand, are those of an image
pub record AreWithin (l : Lines) : Type 0 where
  pub origin : IfSome l.origin (λ v. IsOrigin (vector_of v))
  pub spacing : IfSome l.spacing (λ v. IsSpacing (vector_of v))

-- the header of a file, as the code holds it
abbrev pub header_seen : FileHeader → Heading
header_seen (head.Image h) = OfImage (image_seen h)
header_seen (head.Mesh p) = OfMesh p

-- the origin and the spacing of a header are those of an image
pub record HasLimits (h : ImageHeader) : Type 0 where
  pub origin : IsOrigin (vector_of h.origin)
  pub spacing : IsSpacing (vector_of h.spacing)

-- a header of an image has the origin and the spacing of one
abbrev pub IsWithin : FileHeader → Type 0
IsWithin (head.Image h) = HasLimits h
IsWithin (head.Mesh p) = Unit {0}

-- what is known of a file from its header, as the code holds it
abbrev pub info_of : FileHeader → Info
info_of (head.Image h) = Image h.whole h.origin h.spacing
info_of (head.Mesh p) = Mesh
