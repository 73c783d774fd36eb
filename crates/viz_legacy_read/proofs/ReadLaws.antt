-- What reading gives, beside the rules of a file.
use Rattle.std.proofs.Common.{◌≡◌, ℕ, zero, suc, ℤ, pos, List, ◌∷◌, length, Option, Some, None, Result, Ok, Err, refl, ap, subst}
use Rattle.std.specs.Prelude.{map, replicate, IfSome, IfOk, IfErr}
use Rattle.viz_base.specs.declared.node.Pick.{Pick}
use Rattle.viz_column.specs.Numbers.{Numbers}
use Rattle.viz_dataset.specs.declared.dataset.Dataset.{Dataset}
use Rattle.viz_lex.specs.declared.fault.FileFault.{FileFault}
use Rattle.viz_lex.specs.Reading.{Reading}
use Rattle.viz_legacy_read.specs.declared.stop.ReadStop.{ReadStop}
use Rattle.viz_legacy_read.specs.declared.stop.ReadStop.TheVariants.{File, Memory}
use Rattle.viz_legacy_read.specs.declared.front.FileHeader.{FileHeader}
use Rattle.viz_legacy_read.specs.declared.front.FileHeader.TheVariants as head
use Rattle.viz_legacy_read.specs.Header.Heading.{OfImage, OfMesh}
use Rattle.viz_legacy_read.specs.ImageFile.{numbers_or_zeros}
use Rattle.viz_legacy_read.specs.Reading.{front, IsInfo, Reads, StopsInHeader, IsStop}
use Rattle.viz_legacy_read.specs.Reads.{StopsAt, ReadsUnlessMemory, image_seen, header_seen, info_of}
use Rattle.viz_legacy_read.specs.Steps.{header_at, file_at}
use Rattle.viz_legacy_read.proofs.HeaderLaws.{decides-header}
use Rattle.viz_legacy_read.proofs.FileLaws.{decides-file}

-- zeros of a byte are zeros
pub zeros_are : (n : ℕ) → map (λ (b : ℕ). pos b) (replicate n 0) ≡ replicate n (pos 0)
zeros_are zero = refl
zeros_are (suc n) = ap (λ (xs : List ℤ). pos 0 ∷ xs) (zeros_are n)

length_zeros : (n : ℕ) → length (replicate n (pos 0)) ≡ n
length_zeros zero = refl
length_zeros (suc n) = ap suc (length_zeros n)

-- there is a number for each point
pub count_is : (points : ℕ) (picked : Option Numbers) → IfSome picked (λ n. length n.items ≡ points) → length (numbers_or_zeros points picked).items ≡ points
count_is points None h = length_zeros points
count_is points (Some n) h = h

-- the header of the front
pub header_is : (bytes : List ℕ) (r next : Reading) (h : FileHeader) → r ≡ front bytes → header_at r ≡ Ok (header_seen h, next) → IsInfo bytes (info_of h)
header_is bytes r next (head.Image h) e read =
    (image_seen h, (next, decides-header.found (front bytes) (OfImage (image_seen h), next) (subst (λ (s : Reading). header_at s ≡ Ok (OfImage (image_seen h), next)) e read)), record { whole = refl; origin = refl; spacing = refl })
header_is bytes r next (head.Mesh p) e read =
    (p, (next, decides-header.found (front bytes) (OfMesh p, next) (subst (λ (s : Reading). header_at s ≡ Ok (OfMesh p, next)) e read)))

pub header_stops : (bytes : List ℕ) (r : Reading) (f : FileFault) → r ≡ front bytes → header_at r ≡ Err f → StopsInHeader bytes f
header_stops bytes r f e read = decides-header.stops (front bytes) f (subst (λ (s : Reading). header_at s ≡ Err f) e read)

-- the dataset, or where reading stops
pub file_is : (bytes : List ℕ) (pick : Pick) (unit : ℕ) (r next : Reading) (d : Dataset) → r ≡ front bytes → file_at pick unit r ≡ Ok (d, next) → Reads bytes pick unit d
file_is bytes pick unit r next d e read =
    (next, (decides-file pick unit).found (front bytes) (d, next) (subst (λ (s : Reading). file_at pick unit s ≡ Ok (d, next)) e read))

pub file_stops : (bytes : List ℕ) (pick : Pick) (unit : ℕ) (r : Reading) (stop : ReadStop) → r ≡ front bytes → StopsAt stop (file_at pick unit r) → IsStop bytes pick unit stop
file_stops bytes pick unit r (File f) e read = (decides-file pick unit).stops (front bytes) f (subst (λ (s : Reading). file_at pick unit s ≡ Err f) e read)
file_stops bytes pick unit r Memory e read = tt

pub file_found : (bytes : List ℕ) (pick : Pick) (unit : ℕ) (r next : Reading) (found : Result Dataset ReadStop) → r ≡ front bytes → ReadsUnlessMemory (λ (d : Dataset). d) found next (file_at pick unit r) → IfOk found (Reads bytes pick unit)
file_found bytes pick unit r next (Ok d) e read = file_is bytes pick unit r next d e read
file_found bytes pick unit r next (Err stop) e read = tt

pub file_fault : (bytes : List ℕ) (pick : Pick) (unit : ℕ) (r next : Reading) (found : Result Dataset ReadStop) → r ≡ front bytes → ReadsUnlessMemory (λ (d : Dataset). d) found next (file_at pick unit r) → IfErr found (IsStop bytes pick unit)
file_fault bytes pick unit r next (Ok d) e read = tt
file_fault bytes pick unit r next (Err stop) e read = file_stops bytes pick unit r stop e read
