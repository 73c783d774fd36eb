-- The whole header, as it is written.
use Rattle.std.proofs.Common.{◌≡◌, ℕ, Bool, List, ◌∷◌, ◌++◌}
use Rattle.viz_lex.specs.Reading.{Reading, rest_of}
use Rattle.viz_lex.specs.Rules.{gives}
use Rattle.viz_lex.specs.Repeats.{times_knowing}
use Rattle.viz_extent.specs.Extent.{Bounds}
use Rattle.viz_dataset.specs.Images.{Vector, IsOrigin, IsSpacing}
use Rattle.viz_legacy_read.specs.Header.{geometry_of, whole_of, header_line, Header, header_of, header}
use Rattle.viz_legacy_read.specs.Header.Heading.{OfImage}
use Rattle.viz_image_write.specs.ImageText.{title_lines, form_line, dataset_line, dimensions_line, origin_line, spacing_line}
use Rattle.viz_round_trip.proofs.StandingLemmas.{Stands, stands-gives, stands-follow}
use Rattle.viz_round_trip.proofs.HeadStanding.{stands-dataset}
use Rattle.viz_round_trip.proofs.SizeStanding.{AreSizes}
use Rattle.viz_round_trip.proofs.GeometryStanding.{lines_of, stands-lines}

-- a header of these parts
abbrev pub header_with : Bool → Bounds → Vector → Vector → Header
header_with binary whole v w = record { binary = binary; whole = whole; origin = v; spacing = w }

-- the text of a header, and what is behind it
abbrev pub header_text : Bool → Bool → ℕ → ℕ → ℕ → Vector → Vector → List ℕ → List ℕ
header_text later binary x y z v w tail =
    title_lines later ++ (form_line binary ++ (dataset_line ++ (dimensions_line x y z ++ (origin_line v ++ (spacing_line w ++ tail)))))

pub stands-header : (later binary : Bool) (old : Reading) (x y z : ℕ) (v w : Vector) (tail : List ℕ) → AreSizes x y z → IsOrigin v → IsSpacing w
    → rest_of old ≡ header_text later binary x y z v w tail → Stands header old (OfImage (header_with binary (whole_of x y z) v w)) (10 ∷ tail)
stands-header later binary old x y z v w tail are is_origin is_spacing e =
    let h = header_with binary (whole_of x y z) v w in
    let all = lines_of (whole_of x y z) v w in
    stands-dataset later binary old h (dimensions_line x y z ++ (origin_line v ++ (spacing_line w ++ tail))) (10 ∷ tail) e (λ new rest.
    let lines = stands-lines binary new x y z v w tail are is_origin is_spacing rest in
    stands-follow (times_knowing 3 (header_line binary)) (λ all. gives (header_of binary (geometry_of all))) new all h (10 ∷ tail) (10 ∷ tail) lines (stands-gives h lines.new (10 ∷ tail) lines.rest))
