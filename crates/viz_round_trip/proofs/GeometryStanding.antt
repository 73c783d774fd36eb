-- The three header lines, as they are written.
use Rattle.std.proofs.Common.{◌≡◌, ℕ, ◌+◌, Bool, true, false, List, [], ◌∷◌, ◌++◌, refl, ap, ◌∙◌}
use Rattle.std.specs.Prelude.{codes}
use Rattle.std.specs.Fmt.{decimal}
use Rattle.viz_lex.specs.Reading.{Reading, rest_of}
use Rattle.viz_lex.specs.Words.{IsNextWord}
use Rattle.viz_lex.specs.Steps.{same_word, is_next}
use Rattle.viz_lex.specs.Rules.{gives, follow}
use Rattle.viz_lex.specs.Repeats.{skip, times_knowing}
use Rattle.viz_lex.specs.Items.{word}
use Rattle.viz_extent.specs.Extent.{Bounds}
use Rattle.viz_dataset.specs.Images.{Vector, IsOrigin, IsSpacing}
use Rattle.viz_legacy_read.specs.Header.{Line, geometry_of, whole_of, sizes, origin, spacing, behind, one_field, header_line}
use Rattle.viz_legacy_read.specs.Header.Line.{Sizes, Origin, Spacing_of}
use Rattle.viz_image_write.specs.ImageText.{dimensions_line, vector_line, origin_line, spacing_line}
use Rattle.viz_round_trip.proofs.StandingLemmas.{Stands, stands-gives, stands-follow, stands-none}
use Rattle.viz_round_trip.proofs.WordStanding.{is_solid, word-solid, blank-one, stands-next, is_next-word}
use Rattle.viz_round_trip.proofs.SizeStanding.{spaced, three_spaced, AreSizes, stands-sizes}
use Rattle.viz_round_trip.proofs.VectorStanding.{vector_text, stands-origin, stands-spacing}

-- ---- a line

-- a word behind a newline, and a space behind it
line_word : (old : Reading) (key behind : List ℕ) → is_solid key ≡ true → rest_of old ≡ 10 ∷ (key ++ 32 ∷ behind) → IsNextWord (rest_of old) (10 ∷ []) key (32 ∷ behind)
line_word old key behind solid e = record { parts = e; blank = blank-one 10 refl; is_word = word-solid key solid; ends = refl }

stands-header_line : (binary : Bool) (before : List Line) (old : Reading) (key tail left : List ℕ) (x : Line) → is_solid key ≡ true → same_word key (codes "FIELD") ≡ false → rest_of old ≡ 10 ∷ (key ++ 32 ∷ tail)
    → ((new : Reading) (place : ℕ) → rest_of new ≡ 32 ∷ tail → Stands (behind (geometry_of before) (place, key)) new x left)
    → Stands (header_line binary before) old x left
stands-header_line binary before old key tail left x solid other e later =
    let next = line_word old key tail solid e in
    let none = stands-none (is_next (codes "FIELD")) (one_field binary) old (rest_of old) (is_next-word (codes "FIELD") old (10 ∷ []) key (32 ∷ tail) next ∙ other) refl in
    let first = stands-next none.new (10 ∷ []) key (32 ∷ tail) (line_word none.new key tail solid (none.rest ∙ e)) in
    stands-follow (skip (is_next (codes "FIELD")) (one_field binary)) (λ none. follow word (behind (geometry_of before))) old tt x (rest_of old) left none
    (stands-follow word (behind (geometry_of before)) none.new (none.new.place + 1, key) x (32 ∷ tail) left first (later first.new (none.new.place + 1) first.rest))

-- ---- the three of them

dimensions_parts : (x y z : ℕ) (tail : List ℕ) → dimensions_line x y z ++ tail ≡ codes "DIMENSIONS" ++ spaced (decimal x) (decimal y) (decimal z) tail
unfolding dimensions_line
dimensions_parts x y z tail = three_spaced (codes "DIMENSIONS") (decimal x) (decimal y) (decimal z) tail

origin_parts : (v : Vector) (tail : List ℕ) → origin_line v ++ tail ≡ codes "ORIGIN" ++ vector_text v tail
unfolding origin_line vector_line
origin_parts v tail = three_spaced (codes "ORIGIN") _ _ _ tail

spacing_parts : (v : Vector) (tail : List ℕ) → spacing_line v ++ tail ≡ codes "SPACING" ++ vector_text v tail
unfolding spacing_line vector_line
spacing_parts v tail = three_spaced (codes "SPACING") _ _ _ tail

on_line : (old : Reading) (a b : List ℕ) → rest_of old ≡ 10 ∷ a → a ≡ b → rest_of old ≡ 10 ∷ b
on_line old a b e same = e ∙ ap (λ (t : List ℕ). 10 ∷ t) same

stands-dimensions : (binary : Bool) (old : Reading) (x y z : ℕ) (tail : List ℕ) → AreSizes x y z → rest_of old ≡ 10 ∷ (dimensions_line x y z ++ tail) → Stands (header_line binary []) old (Sizes (whole_of x y z)) (10 ∷ tail)
stands-dimensions binary old x y z tail are e =
    stands-header_line binary [] old (codes "DIMENSIONS") _ (10 ∷ tail) (Sizes (whole_of x y z)) refl refl (on_line old _ _ e (dimensions_parts x y z tail)) (λ new place rest.
    let all = stands-sizes new x y z tail are rest in
    stands-follow sizes (λ v. gives (Sizes v)) new (whole_of x y z) (Sizes (whole_of x y z)) (10 ∷ tail) (10 ∷ tail) all (stands-gives _ all.new (10 ∷ tail) all.rest))

stands-origin_line : (binary : Bool) (whole : Bounds) (old : Reading) (v : Vector) (tail : List ℕ) → IsOrigin v → rest_of old ≡ 10 ∷ (origin_line v ++ tail) → Stands (header_line binary (Sizes whole ∷ [])) old (Origin v) (10 ∷ tail)
stands-origin_line binary whole old v tail is e =
    stands-header_line binary (Sizes whole ∷ []) old (codes "ORIGIN") _ (10 ∷ tail) (Origin v) refl refl (on_line old _ _ e (origin_parts v tail)) (λ new place rest.
    let all = stands-origin new v tail is rest in
    stands-follow origin (λ v. gives (Origin v)) new v (Origin v) (10 ∷ tail) (10 ∷ tail) all (stands-gives _ all.new (10 ∷ tail) all.rest))

stands-spacing_line : (binary : Bool) (whole : Bounds) (v : Vector) (old : Reading) (w : Vector) (tail : List ℕ) → IsSpacing w → rest_of old ≡ 10 ∷ (spacing_line w ++ tail) → Stands (header_line binary (Sizes whole ∷ Origin v ∷ [])) old (Spacing_of w) (10 ∷ tail)
stands-spacing_line binary whole v old w tail is e =
    stands-header_line binary (Sizes whole ∷ Origin v ∷ []) old (codes "SPACING") _ (10 ∷ tail) (Spacing_of w) refl refl (on_line old _ _ e (spacing_parts w tail)) (λ new place rest.
    let all = stands-spacing new w tail is rest in
    stands-follow spacing (λ v. gives (Spacing_of v)) new w (Spacing_of w) (10 ∷ tail) (10 ∷ tail) all (stands-gives _ all.new (10 ∷ tail) all.rest))

-- the lines of this extent, origin and spacing
abbrev pub lines_of : Bounds → Vector → Vector → List Line
lines_of whole v w = Sizes whole ∷ Origin v ∷ Spacing_of w ∷ []

pub stands-lines : (binary : Bool) (old : Reading) (x y z : ℕ) (v w : Vector) (tail : List ℕ) → AreSizes x y z → IsOrigin v → IsSpacing w
    → rest_of old ≡ 10 ∷ (dimensions_line x y z ++ (origin_line v ++ (spacing_line w ++ tail)))
    → Stands (times_knowing 3 (header_line binary)) old (lines_of (whole_of x y z) v w) (10 ∷ tail)
stands-lines binary old x y z v w tail are is_origin is_spacing e =
    let a = stands-dimensions binary old x y z (origin_line v ++ (spacing_line w ++ tail)) are e in
    let b = stands-origin_line binary (whole_of x y z) a.new v (spacing_line w ++ tail) is_origin a.rest in
    let c = stands-spacing_line binary (whole_of x y z) v b.new w tail is_spacing b.rest in
    record { new = c.new; is = (a.new, a.is, (b.new, b.is, (c.new, c.is, refl))); rest = c.rest }
