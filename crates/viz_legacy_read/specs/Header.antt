-- The header of a file: up to the word of the dataset, and of an image up to its third header line
-- (VTK User's Guide, "Simple legacy formats"; docs/FORMATS-OF-FILES.md, "Images").
use Rattle.std.specs.Prelude.{ℕ, ℤ, pos, negsuc, ◌-◌, ◌*◌, ◌^◌, Bool, true, false, not, ◌&&◌, ◌||◌}
use Rattle.std.specs.Prelude.{nat_le, nat_lt, List, [], ◌∷◌, codes, fold, Option, Some, None}
use Rattle.std.specs.Prelude.{unwrap_or, unsigned_abs}
use Rattle.viz_extent.specs.Extent.{Bounds, bounds_of}
use Rattle.viz_dataset.specs.Images.{Vector}
use Rattle.viz_attr.specs.Counts.{is_at_least}
use Rattle.viz_attr.specs.Passed.{passed_field}
use Rattle.viz_lex.specs.declared.fault.FileKind.TheVariants.{Form, Count, Spacing, HeaderNumber}
use Rattle.viz_lex.specs.declared.fault.FileKind.TheVariants.{TooMany, Unsupported}
use Rattle.viz_lex.specs.Reading.{fault_at}
use Rattle.viz_lex.specs.Steps.{has, same_word, keyword_kind, is_next}
use Rattle.viz_lex.specs.Rules.{Rule, gives, refuses, demand, choose, ◌>>=◌}
use Rattle.viz_lex.specs.Repeats.{times_knowing, skip}
use Rattle.viz_lex.specs.Items.{word, number, decimal, keyword}
use Rattle.viz_legacy_read.specs.declared.front.DatasetWord.{DatasetWord}
use Rattle.viz_legacy_read.specs.declared.front.DatasetWord.TheVariants.{Points, Grid, Polydata}
use Rattle.viz_legacy_read.specs.declared.front.Preamble.{Preamble}
use Rattle.viz_legacy_read.specs.Magic.{two_lines}

-- ASCII or BINARY
abbrev pub form : Rule Bool
form = do
  w ← word
  choose (same_word w.1 (codes "ASCII")) (gives false)
      (choose (same_word w.1 (codes "BINARY")) (gives true) (refuses (fault_at Form w.0)))

-- the datasets of the format that aren't read here
abbrev pub is_left_out_dataset : List ℕ → Bool
is_left_out_dataset word = same_word word (codes "STRUCTURED_GRID")
    || same_word word (codes "RECTILINEAR_GRID")

-- a word for a dataset
abbrev pub dataset_word : ℕ × List ℕ → Rule DatasetWord
dataset_word w =
    choose (same_word w.1 (codes "STRUCTURED_POINTS")) (gives Points)
    (choose (same_word w.1 (codes "UNSTRUCTURED_GRID")) (gives Grid)
    (choose (same_word w.1 (codes "POLYDATA")) (gives Polydata)
    (choose (is_left_out_dataset w.1) (refuses (fault_at Unsupported w.0))
    (refuses (fault_at (keyword_kind w.1) w.0)))))

-- DATASET and a word for a dataset
abbrev pub dataset : Rule DatasetWord
dataset = do
  key ← keyword (codes "DATASET")
  w ← word
  dataset_word w

-- what stands in front of the geometry: the two lines, the form and the word of the dataset
abbrev pub preamble : Rule Preamble
preamble = do
  later ← two_lines
  binary ← form
  points ← dataset
  gives (record { later = later; binary = binary; dataset = points })

-- the word of images
abbrev pub is_points : DatasetWord → Bool
is_points Points = true
is_points Grid = false
is_points Polydata = false

-- the dataset is an image
abbrev pub is_image : Preamble → Bool
is_image p = is_points p.dataset

-- ---- the three header lines

-- a header line: the whole extent, the origin or the spacing
pub data Line : Type 0 where
  Sizes : Bounds → Line
  Origin : Vector → Line
  Spacing_of : Vector → Line

-- what the lines so far say
pub record Geometry : Type 0 where
  pub whole : Option Bounds
  pub origin : Option Vector
  pub spacing : Option Vector

-- no line yet
abbrev pub no_line : Geometry
no_line = record { whole = None; origin = None; spacing = None }

-- with one line more
abbrev pub with_line : Geometry → Line → Geometry
with_line g (Sizes whole) = record { whole = Some whole; origin = g.origin; spacing = g.spacing }
with_line g (Origin v) = record { whole = g.whole; origin = Some v; spacing = g.spacing }
with_line g (Spacing_of v) = record { whole = g.whole; origin = g.origin; spacing = Some v }

-- what these lines say
abbrev pub geometry_of : List Line → Geometry
geometry_of lines = fold with_line no_line lines

-- a size of at least 1, with its place
abbrev pub size : Rule (ℕ × ℕ)
size = do
  n ← number
  demand (is_at_least 1 n.1) (fault_at Count n.0) (gives (n.0, unsigned_abs n.1))

-- the extent of so many points along each axis
abbrev pub whole_of : ℕ → ℕ → ℕ → Bounds
whole_of x y z = bounds_of (0 ∷ (x - 1) ∷ 0 ∷ (y - 1) ∷ 0 ∷ (z - 1) ∷ [])

-- DIMENSIONS nx ny nz, of at most 2^31 - 1 points
abbrev pub sizes : Rule Bounds
sizes = do
  x ← size
  y ← size
  z ← size
  demand (nat_lt (x.1 * y.1 * z.1) (2 ^ 31)) (fault_at TooMany z.0) (gives (whole_of x.1 y.1 z.1))

-- ORIGIN x y z
abbrev pub origin : Rule Vector
origin = do
  x ← decimal
  y ← decimal
  z ← decimal
  gives (record { x = x.1; y = y.1; z = z.1 })

-- a number above 0
abbrev pub is_above : ℤ → Bool
is_above (pos n) = nat_lt 0 n
is_above (negsuc n) = false

-- a step between points: positive, and at most 10^9
abbrev pub step : Rule ℤ
step = do
  n ← decimal
  demand (nat_le (unsigned_abs n.1) (10 ^ 18)) (fault_at HeaderNumber n.0)
      (demand (is_above n.1) (fault_at Spacing n.0) (gives n.1))

-- SPACING x y z, or ASPECT_RATIO x y z
abbrev pub spacing : Rule Vector
spacing = do
  x ← step
  y ← step
  z ← step
  gives (record { x = x; y = y; z = z })

-- what stands behind the keyword of a header line: each line stands once
abbrev pub behind : Geometry → ℕ × List ℕ → Rule Line
behind g key =
    choose (same_word key.1 (codes "DIMENSIONS") && not (has g.whole)) (do
      v ← sizes
      gives (Sizes v))
    (choose (same_word key.1 (codes "ORIGIN") && not (has g.origin)) (do
      v ← origin
      gives (Origin v))
    (choose ((same_word key.1 (codes "SPACING") || same_word key.1 (codes "ASPECT_RATIO"))
    && not (has g.spacing)) (do
      v ← spacing
      gives (Spacing_of v))
    (refuses (fault_at (keyword_kind key.1) key.0))))

-- a FIELD that is passed over
abbrev pub one_field : Bool → Rule (Unit {0})
one_field binary = do
  key ← word
  passed_field binary

-- a header line, in front of which FIELDs may stand
abbrev pub header_line : Bool → List Line → Rule Line
header_line binary before = do
  fields ← skip (is_next (codes "FIELD")) (one_field binary)
  key ← word
  behind (geometry_of before) key

-- ---- the header

-- of an image: the form of the values, the whole extent, the origin and the spacing
pub record Header : Type 0 where
  pub binary : Bool
  pub whole : Bounds
  pub origin : Vector
  pub spacing : Vector

-- three times this number
abbrev pub all_of : ℤ → Vector
all_of n = record { x = n; y = n; z = n }

-- what three lines say, each of which stands once
abbrev pub header_of : Bool → Geometry → Header
header_of binary g = record {
  binary = binary;
  whole = unwrap_or g.whole (whole_of 1 1 1);
  origin = unwrap_or g.origin (all_of (pos 0));
  spacing = unwrap_or g.spacing (all_of (pos (10 ^ 9)));
}

-- three header lines, and the header that they make
abbrev pub image_header : Bool → Rule Header
image_header binary = do
  all ← times_knowing 3 (header_line binary)
  gives (header_of binary (geometry_of all))

-- what the header of a file says: that of an image, or that a mesh stands behind the preamble
pub data Heading : Type 0 where
  OfImage : Header → Heading
  OfMesh : Preamble → Heading

-- the header lines of an image; there are none of a mesh
abbrev pub behind_preamble : Preamble → Rule Heading
behind_preamble p = choose (is_image p) (do
  h ← image_header p.binary
  gives (OfImage h))
    (gives (OfMesh p))

-- the header of a file
abbrev pub header : Rule Heading
header = do
  p ← preamble
  behind_preamble p
