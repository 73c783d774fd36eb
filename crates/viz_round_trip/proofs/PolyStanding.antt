-- Polydata, as it is written: vertices, lines and polygons, each where there is one.
use Rattle.std.proofs.Common.{◌≡◌, ℕ, suc, ◌+◌, ◌<◌, ◌≤◌, ◌^◌, Bool, true, false, List, [], ◌∷◌, ◌++◌, length, map, refl, sym, ap, subst, ◌∙◌, append-nil, arith}
use Rattle.std.specs.Prelude.{codes}
use Rattle.std.specs.List.{list_all}
use Rattle.std.proofs.lemmas.List.{length-map}
use Rattle.std.proofs.lemmas.List.Elements.{All-nil}
use Rattle.viz_fraction.specs.Points.{Point}
use Rattle.viz_column.specs.declared.kind.Kind8.TheVariants.{I64}
use Rattle.viz_column.specs.Kinds.{fits}
use Rattle.viz_lex.specs.Reading.{Reading, rest_of}
use Rattle.viz_lex.specs.Words.{IsBlank, IsNextWord}
use Rattle.viz_lex.specs.Steps.{same_word, is_next}
use Rattle.viz_lex.specs.Rules.{Rule, gives, beside, follow}
use Rattle.viz_lex.specs.Items.{word}
use Rattle.viz_counted_cells.specs.Sections.{HasIndices}
use Rattle.viz_mesh_read.specs.CellSections.{cell_section}
use Rattle.viz_mesh_read.specs.Points.{points}
use Rattle.viz_mesh_read.specs.Grid.{fields}
use Rattle.viz_mesh_read.specs.Poly.{ByKind, for_each, with_kind, kind_named, none_seen, seen_with, is_due, sections, Poly, polydata}
use Rattle.viz_mesh_write.specs.MeshText.{cell_numbers, coordinates}
use Rattle.viz_round_trip.proofs.StandingLemmas.{Stands, stands-gives, stands-follow, stands-beside, stands-otherwise}
use Rattle.viz_round_trip.proofs.WordStanding.{is_solid, blank-one, stands-next, is_next-word, is_next-blank}
use Rattle.viz_round_trip.specs.MeshTrip.{points_in_file}
use Rattle.viz_round_trip.proofs.FrontLemmas.{gap-blank, gap-some}
use Rattle.viz_round_trip.proofs.SectionStanding.{cells_gap}
use Rattle.viz_round_trip.proofs.CellStanding.{AreRead, may-be-runs, section_behind, stands-cells}
use Rattle.viz_round_trip.proofs.PointStanding.{numbers_of_points, points_gap, points_behind, stands-points}
use Rattle.viz_round_trip.proofs.GridStanding.{key-next, stands-no_fields}

-- ---- one section

-- the tests of the four keywords are those of the next word
pub record AreNext (r : Reading) (key : List ℕ) : Type 0 where
  pub vertices : is_next (codes "VERTICES") r ≡ same_word key (codes "VERTICES")
  pub lines : is_next (codes "LINES") r ≡ same_word key (codes "LINES")
  pub polygons : is_next (codes "POLYGONS") r ≡ same_word key (codes "POLYGONS")
  pub strips : is_next (codes "TRIANGLE_STRIPS") r ≡ same_word key (codes "TRIANGLE_STRIPS")

pub are-next : (r : Reading) (gap key behind : List ℕ) → IsNextWord (rest_of r) gap key behind → AreNext r key
are-next r gap key behind h = record {
  vertices = is_next-word (codes "VERTICES") r gap key behind h;
  lines = is_next-word (codes "LINES") r gap key behind h;
  polygons = is_next-word (codes "POLYGONS") r gap key behind h;
  strips = is_next-word (codes "TRIANGLE_STRIPS") r gap key behind h;
}

-- a section that is due, and what stands behind it
abbrev pub one_section : {V : Type 0} → Bool → Bool → ℕ → (Reading → Bool) → (ℕ × List ℕ → List (List ℕ) → Rule V) → V → Rule V
one_section later binary points due next all =
    follow (fields binary) (λ passed. beside due (follow word (λ key. follow (cell_section later binary points) (λ cells. next key cells))) (gives all))

pub stands-one : {V : Type 0} (later binary : Bool) (points : ℕ) (due : Reading → Bool) (next : ℕ × List ℕ → List (List ℕ) → Rule V) (all x : V) (key : List ℕ) (cs : List (List ℕ)) (old : Reading) (gap tail left : List ℕ)
    → IsBlank gap → is_solid key ≡ true → same_word key (codes "FIELD") ≡ false → points < 2 ^ 31 → AreRead later points cs → ((r : Reading) → AreNext r key → due r ≡ true)
    → rest_of old ≡ gap ++ (key ++ section_behind later binary cs tail) → ((place : ℕ) (new : Reading) → rest_of new ≡ cells_gap binary cs ++ tail → Stands (next (place, key) cs) new x left)
    → Stands (one_section later binary points due next all) old x left
stands-one later binary points due next all x key cs old gap tail left blank solid other few are test e behind =
    let text = gap ++ (key ++ section_behind later binary cs tail) in
    let none = stands-no_fields binary old gap key _ blank solid other e in
    let here = key-next none.new gap key _ blank solid none.rest in
    let due_here = test none.new (are-next none.new gap key _ here) in
    let first = stands-next none.new gap key (section_behind later binary cs tail) here in
    let place = none.new.place + length gap in
    let cells = stands-cells later binary points cs first.new tail few are first.rest in
    let rest = behind place cells.new cells.rest in
    stands-follow (fields binary) (λ passed. beside due (follow word (λ key. follow (cell_section later binary points) (λ cells. next key cells))) (gives all)) old tt x text left none
    (stands-beside due (follow word (λ key. follow (cell_section later binary points) (λ cells. next key cells))) (gives all) none.new x left due_here
    (stands-follow word (λ key. follow (cell_section later binary points) (λ cells. next key cells)) none.new (place, key) x (section_behind later binary cs tail) left first
    (stands-follow (cell_section later binary points) (λ cells. next (place, key) cells) first.new cs x (cells_gap binary cs ++ tail) left cells rest)))

-- no section is due
pub stands-end : {V : Type 0} (later binary : Bool) (points : ℕ) (due : Reading → Bool) (next : ℕ × List ℕ → List (List ℕ) → Rule V) (all : V) (old : Reading) (left : List ℕ) → is_next (codes "FIELD") old ≡ false → due old ≡ false → rest_of old ≡ left
    → Stands (one_section later binary points due next all) old all left
stands-end later binary points due next all old left no_field free e =
    let none : Stands (fields binary) old tt left = record { new = old; is = (0, refl, no_field); rest = e } in
    stands-follow (fields binary) (λ passed. beside due (follow word (λ key. follow (cell_section later binary points) (λ cells. next key cells))) (gives all)) old tt all left left none
    (stands-otherwise due (follow word (λ key. follow (cell_section later binary points) (λ cells. next key cells))) (gives all) none.new all left free (stands-gives all none.new left none.rest))

-- ---- which sections were read

-- the sections behind those of vertices and of lines, where these were read
abbrev rest_of_sections : Bool → Bool → ℕ → Bool → Bool → ℕ → ByKind (List (List ℕ)) → Rule (ByKind (List (List ℕ)))
rest_of_sections later binary points true true n all = sections binary later points n (seen_with (seen_with none_seen (kind_named (codes "VERTICES"))) (kind_named (codes "LINES"))) all
rest_of_sections later binary points true false n all = sections binary later points n (seen_with none_seen (kind_named (codes "VERTICES"))) all
rest_of_sections later binary points false true n all = sections binary later points n (seen_with none_seen (kind_named (codes "LINES"))) all
rest_of_sections later binary points false false n all = sections binary later points n none_seen all

-- the cells of each kind that is written
abbrev pub kinds_of : List (List ℕ) → List (List ℕ) → List (List ℕ) → ByKind (List (List ℕ))
kinds_of a b c = record { vertices = a; lines = b; polygons = c; strips = [] }

-- a section where it has a cell, and what is behind it
abbrev pub some_behind : Bool → Bool → List ℕ → List (List ℕ) → List ℕ → List ℕ
some_behind later binary key [] tail = tail
some_behind later binary key (c ∷ cs) tail = key ++ section_behind later binary (c ∷ cs) tail

-- behind the cells stand the attributes of points
abbrev pub with_data : List ℕ → List ℕ
with_data behind = codes "POINT_DATA" ++ 32 ∷ behind

data_next : (r : Reading) (behind : List ℕ) → rest_of r ≡ 10 ∷ with_data behind → IsNextWord (rest_of r) (10 ∷ []) (codes "POINT_DATA") (32 ∷ behind)
data_next r behind e = key-next r (10 ∷ []) (codes "POINT_DATA") behind (blank-one 10 refl) refl e

pub no_field : (r : Reading) (behind : List ℕ) → rest_of r ≡ 10 ∷ with_data behind → is_next (codes "FIELD") r ≡ false
no_field r behind e = is_next-word (codes "FIELD") r (10 ∷ []) (codes "POINT_DATA") (32 ∷ behind) (data_next r behind e)

pub no_section : (r : Reading) (behind : List ℕ) → rest_of r ≡ 10 ∷ with_data behind → AreNext r (codes "POINT_DATA")
no_section r behind e = are-next r (10 ∷ []) (codes "POINT_DATA") (32 ∷ behind) (data_next r behind e)

pub full_gap : (binary : Bool) (c : List ℕ) (cs : List (List ℕ)) (new : Reading) (tail : List ℕ) → rest_of new ≡ cells_gap binary (c ∷ cs) ++ tail → rest_of new ≡ 10 ∷ tail
full_gap binary c cs new tail e =
    e ∙ ap (λ (gap : List ℕ). gap ++ tail) (gap-some binary (length (map cell_numbers (c ∷ cs))) (omega arith))

-- none is left
stands-behind : (later binary : Bool) (points : ℕ) (v l : Bool) (n : ℕ) (all : ByKind (List (List ℕ))) (old : Reading) (behind : List ℕ) → rest_of old ≡ 10 ∷ with_data behind → Stands (rest_of_sections later binary points v l (suc n) all) old all (10 ∷ with_data behind)
stands-behind later binary points true true n all old behind e =
    let h = no_section old behind e in
    let seen = seen_with (seen_with none_seen (kind_named (codes "VERTICES"))) (kind_named (codes "LINES")) in
    stands-end later binary points (is_due seen) (λ key cells. sections binary later points n (seen_with seen (kind_named key.1)) (with_kind all (kind_named key.1) cells)) all old (10 ∷ with_data behind) (no_field old behind e) (rw (h.vertices, h.lines, h.polygons, h.strips) refl) e
stands-behind later binary points true false n all old behind e =
    let h = no_section old behind e in
    let seen = seen_with none_seen (kind_named (codes "VERTICES")) in
    stands-end later binary points (is_due seen) (λ key cells. sections binary later points n (seen_with seen (kind_named key.1)) (with_kind all (kind_named key.1) cells)) all old (10 ∷ with_data behind) (no_field old behind e) (rw (h.vertices, h.lines, h.polygons, h.strips) refl) e
stands-behind later binary points false true n all old behind e =
    let h = no_section old behind e in
    let seen = seen_with none_seen (kind_named (codes "LINES")) in
    stands-end later binary points (is_due seen) (λ key cells. sections binary later points n (seen_with seen (kind_named key.1)) (with_kind all (kind_named key.1) cells)) all old (10 ∷ with_data behind) (no_field old behind e) (rw (h.vertices, h.lines, h.polygons, h.strips) refl) e
stands-behind later binary points false false n all old behind e =
    let h = no_section old behind e in
    let seen = none_seen in
    stands-end later binary points (is_due seen) (λ key cells. sections binary later points n (seen_with seen (kind_named key.1)) (with_kind all (kind_named key.1) cells)) all old (10 ∷ with_data behind) (no_field old behind e) (rw (h.vertices, h.lines, h.polygons, h.strips) refl) e

-- the polygons, where there are any
stands-polygons : (later binary : Bool) (points : ℕ) (v l : Bool) (n : ℕ) (a b c : List (List ℕ)) (old : Reading) (behind : List ℕ) → points < 2 ^ 31 → AreRead later points c → rest_of old ≡ 10 ∷ some_behind later binary (codes "POLYGONS") c (with_data behind)
    → Stands (rest_of_sections later binary points v l (suc (suc n)) (kinds_of a b [])) old (kinds_of a b c) (10 ∷ with_data behind)
stands-polygons later binary points v l n a b [] old behind few are e = stands-behind later binary points v l (suc n) (kinds_of a b []) old behind e
stands-polygons later binary points true true n a b (c ∷ cs) old behind few are e =
    let seen = seen_with (seen_with none_seen (kind_named (codes "VERTICES"))) (kind_named (codes "LINES")) in
    let all = kinds_of a b [] in
    let value = kinds_of a b (c ∷ cs) in
    stands-one later binary points (is_due seen) (λ key cells. sections binary later points (suc n) (seen_with seen (kind_named key.1)) (with_kind all (kind_named key.1) cells)) all value (codes "POLYGONS") (c ∷ cs) old (10 ∷ []) (with_data behind) (10 ∷ with_data behind) (blank-one 10 refl) refl refl few are (λ r h. rw (h.vertices, h.lines, h.polygons) refl) e (λ place new rest.
    let e2 = full_gap binary c cs new (with_data behind) rest in
    let h = no_section new behind e2 in
    let seen2 = seen_with seen (kind_named (codes "POLYGONS")) in
    stands-end later binary points (is_due seen2) (λ key cells. sections binary later points n (seen_with seen2 (kind_named key.1)) (with_kind value (kind_named key.1) cells)) value new (10 ∷ with_data behind) (no_field new behind e2) (rw (h.vertices, h.lines, h.polygons, h.strips) refl) e2)
stands-polygons later binary points true false n a b (c ∷ cs) old behind few are e =
    let seen = seen_with none_seen (kind_named (codes "VERTICES")) in
    let all = kinds_of a b [] in
    let value = kinds_of a b (c ∷ cs) in
    stands-one later binary points (is_due seen) (λ key cells. sections binary later points (suc n) (seen_with seen (kind_named key.1)) (with_kind all (kind_named key.1) cells)) all value (codes "POLYGONS") (c ∷ cs) old (10 ∷ []) (with_data behind) (10 ∷ with_data behind) (blank-one 10 refl) refl refl few are (λ r h. rw (h.vertices, h.lines, h.polygons) refl) e (λ place new rest.
    let e2 = full_gap binary c cs new (with_data behind) rest in
    let h = no_section new behind e2 in
    let seen2 = seen_with seen (kind_named (codes "POLYGONS")) in
    stands-end later binary points (is_due seen2) (λ key cells. sections binary later points n (seen_with seen2 (kind_named key.1)) (with_kind value (kind_named key.1) cells)) value new (10 ∷ with_data behind) (no_field new behind e2) (rw (h.vertices, h.lines, h.polygons, h.strips) refl) e2)
stands-polygons later binary points false true n a b (c ∷ cs) old behind few are e =
    let seen = seen_with none_seen (kind_named (codes "LINES")) in
    let all = kinds_of a b [] in
    let value = kinds_of a b (c ∷ cs) in
    stands-one later binary points (is_due seen) (λ key cells. sections binary later points (suc n) (seen_with seen (kind_named key.1)) (with_kind all (kind_named key.1) cells)) all value (codes "POLYGONS") (c ∷ cs) old (10 ∷ []) (with_data behind) (10 ∷ with_data behind) (blank-one 10 refl) refl refl few are (λ r h. rw (h.vertices, h.lines, h.polygons) refl) e (λ place new rest.
    let e2 = full_gap binary c cs new (with_data behind) rest in
    let h = no_section new behind e2 in
    let seen2 = seen_with seen (kind_named (codes "POLYGONS")) in
    stands-end later binary points (is_due seen2) (λ key cells. sections binary later points n (seen_with seen2 (kind_named key.1)) (with_kind value (kind_named key.1) cells)) value new (10 ∷ with_data behind) (no_field new behind e2) (rw (h.vertices, h.lines, h.polygons, h.strips) refl) e2)
stands-polygons later binary points false false n a b (c ∷ cs) old behind few are e =
    let seen = none_seen in
    let all = kinds_of a b [] in
    let value = kinds_of a b (c ∷ cs) in
    stands-one later binary points (is_due seen) (λ key cells. sections binary later points (suc n) (seen_with seen (kind_named key.1)) (with_kind all (kind_named key.1) cells)) all value (codes "POLYGONS") (c ∷ cs) old (10 ∷ []) (with_data behind) (10 ∷ with_data behind) (blank-one 10 refl) refl refl few are (λ r h. rw (h.vertices, h.lines, h.polygons) refl) e (λ place new rest.
    let e2 = full_gap binary c cs new (with_data behind) rest in
    let h = no_section new behind e2 in
    let seen2 = seen_with seen (kind_named (codes "POLYGONS")) in
    stands-end later binary points (is_due seen2) (λ key cells. sections binary later points n (seen_with seen2 (kind_named key.1)) (with_kind value (kind_named key.1) cells)) value new (10 ∷ with_data behind) (no_field new behind e2) (rw (h.vertices, h.lines, h.polygons, h.strips) refl) e2)

-- the lines, where there are any, and the polygons
stands-lines : (later binary : Bool) (points : ℕ) (v : Bool) (n : ℕ) (a b c : List (List ℕ)) (old : Reading) (behind : List ℕ) → points < 2 ^ 31 → AreRead later points b → AreRead later points c
    → rest_of old ≡ 10 ∷ some_behind later binary (codes "LINES") b (some_behind later binary (codes "POLYGONS") c (with_data behind))
    → Stands (rest_of_sections later binary points v false (suc (suc (suc n))) (kinds_of a [] [])) old (kinds_of a b c) (10 ∷ with_data behind)
stands-lines later binary points v n a [] c old behind few are others e = stands-polygons later binary points v false (suc n) a [] c old behind few others e
stands-lines later binary points true n a (b ∷ bs) c old behind few are others e =
    let seen = seen_with none_seen (kind_named (codes "VERTICES")) in
    let all = kinds_of a [] [] in
    let tail = some_behind later binary (codes "POLYGONS") c (with_data behind) in
    stands-one later binary points (is_due seen) (λ key cells. sections binary later points (suc (suc n)) (seen_with seen (kind_named key.1)) (with_kind all (kind_named key.1) cells)) all (kinds_of a (b ∷ bs) c) (codes "LINES") (b ∷ bs) old (10 ∷ []) tail (10 ∷ with_data behind) (blank-one 10 refl) refl refl few are (λ r h. rw (h.vertices, h.lines) refl) e (λ place new rest.
    stands-polygons later binary points true true n a (b ∷ bs) c new behind few others (full_gap binary b bs new tail rest))
stands-lines later binary points false n a (b ∷ bs) c old behind few are others e =
    let seen = none_seen in
    let all = kinds_of a [] [] in
    let tail = some_behind later binary (codes "POLYGONS") c (with_data behind) in
    stands-one later binary points (is_due seen) (λ key cells. sections binary later points (suc (suc n)) (seen_with seen (kind_named key.1)) (with_kind all (kind_named key.1) cells)) all (kinds_of a (b ∷ bs) c) (codes "LINES") (b ∷ bs) old (10 ∷ []) tail (10 ∷ with_data behind) (blank-one 10 refl) refl refl few are (λ r h. rw (h.vertices, h.lines) refl) e (λ place new rest.
    stands-polygons later binary points false true n a (b ∷ bs) c new behind few others (full_gap binary b bs new tail rest))

-- the vertices, where there are any, the lines and the polygons
stands-kinds : (later binary : Bool) (points : ℕ) (a b c : List (List ℕ)) (old : Reading) (behind : List ℕ) → points < 2 ^ 31 → AreRead later points a → AreRead later points b → AreRead later points c
    → rest_of old ≡ 10 ∷ some_behind later binary (codes "VERTICES") a (some_behind later binary (codes "LINES") b (some_behind later binary (codes "POLYGONS") c (with_data behind)))
    → Stands (sections binary later points 4 none_seen (for_each [])) old (kinds_of a b c) (10 ∷ with_data behind)
stands-kinds later binary points [] b c old behind few are lines others e = stands-lines later binary points false 1 [] b c old behind few lines others e
stands-kinds later binary points (a ∷ more) b c old behind few are lines others e =
    let seen = none_seen in
    let all = kinds_of [] [] [] in
    let tail = some_behind later binary (codes "LINES") b (some_behind later binary (codes "POLYGONS") c (with_data behind)) in
    stands-one later binary points (is_due seen) (λ key cells. sections binary later points 3 (seen_with seen (kind_named key.1)) (with_kind all (kind_named key.1) cells)) all (kinds_of (a ∷ more) b c) (codes "VERTICES") (a ∷ more) old (10 ∷ []) tail (10 ∷ with_data behind) (blank-one 10 refl) refl refl few are (λ r h. rw h.vertices refl) e (λ place new rest.
    stands-lines later binary points true 0 (a ∷ more) b c new behind few lines others (full_gap binary a more new tail rest))

-- ---- polydata

-- the next word is that of a section, or of attributes
pub metadata_other : (r : Reading) (key behind : List ℕ) → is_solid key ≡ true → same_word key (codes "METADATA") ≡ false → rest_of r ≡ 10 ∷ (key ++ 32 ∷ behind) → is_next (codes "METADATA") r ≡ false
metadata_other r key behind solid other e = is_next-word (codes "METADATA") r (10 ∷ []) key (32 ∷ behind) (key-next r (10 ∷ []) key behind (blank-one 10 refl) solid e) ∙ other

-- the cells of polydata, kind by kind, and the attributes of points
abbrev pub kinds_behind : Bool → Bool → List (List ℕ) → List (List ℕ) → List (List ℕ) → List ℕ → List ℕ
kinds_behind later binary a b c behind =
    some_behind later binary (codes "VERTICES") a (some_behind later binary (codes "LINES") b (some_behind later binary (codes "POLYGONS") c (with_data behind)))

no_metadata : (later binary : Bool) (a b c : List (List ℕ)) (behind : List ℕ) (r : Reading) → rest_of r ≡ 10 ∷ kinds_behind later binary a b c behind → is_next (codes "METADATA") r ≡ false
no_metadata later binary (a ∷ more) b c behind r e = metadata_other r (codes "VERTICES") _ refl refl e
no_metadata later binary [] (b ∷ more) c behind r e = metadata_other r (codes "LINES") _ refl refl e
no_metadata later binary [] [] (c ∷ more) behind r e = metadata_other r (codes "POLYGONS") _ refl refl e
no_metadata later binary [] [] [] behind r e = metadata_other r (codes "POINT_DATA") _ refl refl e

-- polydata of these
abbrev pub poly_with : ℕ → List Point → List (List ℕ) → List (List ℕ) → List (List ℕ) → Poly
poly_with digits ps a b c = record { points = points_in_file digits ps; cells = kinds_of a b c }

pub some_gap : (binary : Bool) (digits : ℕ) (ps : List Point) (tail text : List ℕ) → 0 < length ps → text ≡ points_gap binary digits ps ++ tail → text ≡ 10 ∷ tail
some_gap binary digits ps tail text some e =
    e ∙ ap (λ (gap : List ℕ). gap ++ tail) (gap-some binary (length (map (coordinates digits) ps)) (omega (arith, some, length-map ps (coordinates digits))))

pub stands-poly : (later binary : Bool) (digits : ℕ) (ps : List Point) (a b c : List (List ℕ)) (old : Reading) (behind : List ℕ) → 0 < length ps → length ps < 2 ^ 31 → list_all (fits I64) (numbers_of_points digits ps) ≡ true
    → AreRead later (length ps) a → AreRead later (length ps) b → AreRead later (length ps) c → rest_of old ≡ 10 ∷ (codes "POINTS" ++ points_behind binary digits ps (kinds_behind later binary a b c behind))
    → Stands (polydata binary later) old (poly_with digits ps a b c) (10 ∷ with_data behind)
stands-poly later binary digits ps a b c old behind some few within vertices lines polygons e =
    let p = poly_with digits ps a b c in
    let tail = kinds_behind later binary a b c behind in
    let left = 10 ∷ with_data behind in
    let first = stands-no_fields binary old (10 ∷ []) (codes "POINTS") _ (blank-one 10 refl) refl refl e in
    let all = stands-points binary digits ps first.new (10 ∷ []) tail (blank-one 10 refl) few within (λ r h. no_metadata later binary a b c behind r (some_gap binary digits ps tail (rest_of r) some h)) first.rest in
    let kinds = stands-kinds later binary (length ps) a b c all.new behind few vertices lines polygons (some_gap binary digits ps tail (rest_of all.new) some all.rest) in
    stands-follow (fields binary) _ old tt p (10 ∷ (codes "POINTS" ++ points_behind binary digits ps tail)) left first
    (stands-follow (points binary) _ first.new (points_in_file digits ps) p (points_gap binary digits ps ++ tail) left all
    (stands-follow (sections binary later (length ps) 4 none_seen (for_each [])) _ all.new (kinds_of a b c) p left left kinds (stands-gives p kinds.new left kinds.rest)))

-- ---- polydata of nothing

-- behind the section of no polygons
blank_next : (r : Reading) → IsBlank (rest_of r) → is_due (seen_with none_seen (kind_named (codes "POLYGONS"))) r ≡ false
blank_next r h = rw (is_next-blank (codes "VERTICES") r h, is_next-blank (codes "LINES") r h, is_next-blank (codes "POLYGONS") r h, is_next-blank (codes "TRIANGLE_STRIPS") r h) refl

blank_left : (binary : Bool) → IsBlank (cells_gap binary [] ++ [])
blank_left binary = subst IsBlank (sym (append-nil (cells_gap binary []))) (gap-blank binary _)

none_read : (later : Bool) → AreRead later 0 []
none_read later = record { small = omega arith; below = All-nil (HasIndices 0); some = may-be-runs later [] (All-nil (λ c. 1 ≤ length c)) }

pub stands-no_poly : (later binary : Bool) (digits : ℕ) (old : Reading) → rest_of old ≡ 10 ∷ (codes "POINTS" ++ points_behind binary digits [] (codes "POLYGONS" ++ section_behind later binary [] []))
    → Stands (polydata binary later) old (poly_with digits [] [] [] []) (cells_gap binary [] ++ [])
stands-no_poly later binary digits old e =
    let p = poly_with digits [] [] [] [] in
    let tail = codes "POLYGONS" ++ section_behind later binary [] [] in
    let left = cells_gap binary [] ++ [] in
    let gap = points_gap binary digits [] in
    let blank = gap-blank binary _ in
    let none = kinds_of [] [] [] in
    let first = stands-no_fields binary old (10 ∷ []) (codes "POINTS") _ (blank-one 10 refl) refl refl e in
    let all = stands-points binary digits [] first.new (10 ∷ []) tail (blank-one 10 refl) (omega arith) refl (λ r h. is_next-word (codes "METADATA") r gap (codes "POLYGONS") _ (key-next r gap (codes "POLYGONS") _ blank refl h)) first.rest in
    let kinds : Stands (sections binary later 0 4 none_seen (for_each [])) all.new none left =
    stands-one later binary 0 (is_due none_seen) (λ key cells. sections binary later 0 3 (seen_with none_seen (kind_named key.1)) (with_kind none (kind_named key.1) cells)) none none (codes "POLYGONS") [] all.new gap [] left blank refl refl (omega arith) (none_read later)
    (λ r h. rw (h.vertices, h.lines, h.polygons) refl) all.rest (λ place new rest.
    let h = subst IsBlank (sym rest) (blank_left binary) in
    let seen = seen_with none_seen (kind_named (codes "POLYGONS")) in
    stands-end later binary 0 (is_due seen) (λ key cells. sections binary later 0 2 (seen_with seen (kind_named key.1)) (with_kind none (kind_named key.1) cells)) none new left (is_next-blank (codes "FIELD") new h) (blank_next new h) rest) in
    stands-follow (fields binary) _ old tt p (10 ∷ (codes "POINTS" ++ points_behind binary digits [] tail)) left first
    (stands-follow (points binary) _ first.new (points_in_file digits []) p (gap ++ tail) left all
    (stands-follow (sections binary later 0 4 none_seen (for_each [])) _ all.new none p left left kinds (stands-gives p kinds.new left kinds.rest)))
