-- Polydata in words with strips: vertices, lines and strips, each where there is one.
use Rattle.std.proofs.Common.{◌≡◌, ℕ, suc, ◌<◌, ◌^◌, true, false, List, [], ◌∷◌, ◌++◌, length, refl}
use Rattle.std.specs.Prelude.{codes}
use Rattle.std.specs.List.{list_all}
use Rattle.viz_fraction.specs.Points.{Point}
use Rattle.viz_column.specs.declared.kind.Kind8.TheVariants.{I64}
use Rattle.viz_column.specs.Kinds.{fits}
use Rattle.viz_lex.specs.Reading.{Reading, rest_of}
use Rattle.viz_lex.specs.Steps.{is_next}
use Rattle.viz_mesh_read.specs.Points.{points}
use Rattle.viz_mesh_read.specs.Grid.{fields}
use Rattle.viz_mesh_read.specs.Poly.{ByKind, for_each, with_kind, kind_named, none_seen, seen_with, is_due, sections, Poly, polydata}
use Rattle.viz_round_trip.specs.MeshTrip.{points_in_file}
use Rattle.viz_round_trip.proofs.StandingLemmas.{Stands, stands-gives, stands-follow}
use Rattle.viz_round_trip.proofs.WordStanding.{blank-one}
use Rattle.viz_round_trip.proofs.GridStanding.{stands-no_fields}
use Rattle.viz_round_trip.proofs.PointStanding.{numbers_of_points, points_gap, points_behind, stands-points}
use Rattle.viz_round_trip.proofs.CellStanding.{AreRead}
use Rattle.viz_round_trip.proofs.PolyStanding.{AreNext, full_gap, metadata_other, no_field, no_section, some_behind, some_gap, stands-end, stands-one, with_data}

-- the cells of each kind that is written
abbrev pub kinds_with : List (List ℕ) → List (List ℕ) → List (List ℕ) → ByKind (List (List ℕ))
kinds_with a b s = record { vertices = a; lines = b; polygons = []; strips = s }

-- ---- the sections

-- none is left
stands-behind : (points n : ℕ) (seen : _) (all : ByKind (List (List ℕ))) (old : Reading) (behind : List ℕ) → rest_of old ≡ 10 ∷ with_data behind → Stands (sections false false points (suc n) seen all) old all (10 ∷ with_data behind)
stands-behind points n seen all old behind e =
    let h = no_section old behind e in
    stands-end false false points (is_due seen) (λ key cells. sections false false points n (seen_with seen (kind_named key.1)) (with_kind all (kind_named key.1) cells)) all old (10 ∷ with_data behind) (no_field old behind e) (rw (h.vertices, h.lines, h.polygons, h.strips) refl) e

-- the strips, where there are any
stands-strips : (points n : ℕ) (seen : _) (a b s : List (List ℕ)) (old : Reading) (behind : List ℕ) → ((r : Reading) → AreNext r (codes "TRIANGLE_STRIPS") → is_due seen r ≡ true) → points < 2 ^ 31 → AreRead false points s → rest_of old ≡ 10 ∷ some_behind false false (codes "TRIANGLE_STRIPS") s (with_data behind)
    → Stands (sections false false points (suc (suc n)) seen (kinds_with a b [])) old (kinds_with a b s) (10 ∷ with_data behind)
stands-strips points n seen a b [] old behind free few are e = stands-behind points (suc n) seen (kinds_with a b []) old behind e
stands-strips points n seen a b (c ∷ cs) old behind free few are e =
    let all = kinds_with a b [] in
    let value = kinds_with a b (c ∷ cs) in
    stands-one false false points (is_due seen) (λ key cells. sections false false points (suc n) (seen_with seen (kind_named key.1)) (with_kind all (kind_named key.1) cells)) all value (codes "TRIANGLE_STRIPS") (c ∷ cs) old (10 ∷ []) (with_data behind) (10 ∷ with_data behind) (blank-one 10 refl) refl refl few are free e (λ place new rest.
    stands-behind points n (seen_with seen (kind_named (codes "TRIANGLE_STRIPS"))) value new behind (full_gap false c cs new (with_data behind) rest))

-- the lines, where there are any, and the strips
stands-lines : (points n : ℕ) (seen : _) (a b s : List (List ℕ)) (old : Reading) (behind : List ℕ) → ((r : Reading) → AreNext r (codes "LINES") → is_due seen r ≡ true) → ((r : Reading) → AreNext r (codes "TRIANGLE_STRIPS") → is_due seen r ≡ true)
    → ((r : Reading) → AreNext r (codes "TRIANGLE_STRIPS") → is_due (seen_with seen (kind_named (codes "LINES"))) r ≡ true) → points < 2 ^ 31 → AreRead false points b → AreRead false points s
    → rest_of old ≡ 10 ∷ some_behind false false (codes "LINES") b (some_behind false false (codes "TRIANGLE_STRIPS") s (with_data behind))
    → Stands (sections false false points (suc (suc (suc n))) seen (kinds_with a [] [])) old (kinds_with a b s) (10 ∷ with_data behind)
stands-lines points n seen a [] s old behind free strips_free later_free few are others e = stands-strips points (suc n) seen a [] s old behind strips_free few others e
stands-lines points n seen a (b ∷ bs) s old behind free strips_free later_free few are others e =
    let all = kinds_with a [] [] in
    let tail = some_behind false false (codes "TRIANGLE_STRIPS") s (with_data behind) in
    stands-one false false points (is_due seen) (λ key cells. sections false false points (suc (suc n)) (seen_with seen (kind_named key.1)) (with_kind all (kind_named key.1) cells)) all (kinds_with a (b ∷ bs) s) (codes "LINES") (b ∷ bs) old (10 ∷ []) tail (10 ∷ with_data behind) (blank-one 10 refl) refl refl few are free e (λ place new rest.
    stands-strips points n (seen_with seen (kind_named (codes "LINES"))) a (b ∷ bs) s new behind later_free few others (full_gap false b bs new tail rest))

-- the vertices, where there are any, the lines and the strips
stands-kinds : (points : ℕ) (a b s : List (List ℕ)) (old : Reading) (behind : List ℕ) → points < 2 ^ 31 → AreRead false points a → AreRead false points b → AreRead false points s
    → rest_of old ≡ 10 ∷ some_behind false false (codes "VERTICES") a (some_behind false false (codes "LINES") b (some_behind false false (codes "TRIANGLE_STRIPS") s (with_data behind)))
    → Stands (sections false false points 4 none_seen (for_each [])) old (kinds_with a b s) (10 ∷ with_data behind)
stands-kinds points [] b s old behind few are lines strips e = stands-lines points 1 none_seen [] b s old behind (λ r h. rw (h.vertices, h.lines) refl) (λ r h. rw (h.vertices, h.lines, h.polygons, h.strips) refl) (λ r h. rw (h.vertices, h.lines, h.polygons, h.strips) refl) few lines strips e
stands-kinds points (a ∷ more) b s old behind few are lines strips e =
    let seen = none_seen in
    let all = kinds_with [] [] [] in
    let tail = some_behind false false (codes "LINES") b (some_behind false false (codes "TRIANGLE_STRIPS") s (with_data behind)) in
    stands-one false false points (is_due seen) (λ key cells. sections false false points 3 (seen_with seen (kind_named key.1)) (with_kind all (kind_named key.1) cells)) all (kinds_with (a ∷ more) b s) (codes "VERTICES") (a ∷ more) old (10 ∷ []) tail (10 ∷ with_data behind) (blank-one 10 refl) refl refl few are (λ r h. rw h.vertices refl) e (λ place new rest.
    stands-lines points 0 (seen_with seen (kind_named (codes "VERTICES"))) (a ∷ more) b s new behind (λ r h. rw (h.vertices, h.lines) refl) (λ r h. rw (h.vertices, h.lines, h.polygons, h.strips) refl) (λ r h. rw (h.vertices, h.lines, h.polygons, h.strips) refl) few lines strips (full_gap false a more new tail rest))

-- ---- polydata

-- the cells of polydata, kind by kind, and the attributes of points
abbrev pub kinds_behind : List (List ℕ) → List (List ℕ) → List (List ℕ) → List ℕ → List ℕ
kinds_behind a b s behind =
    some_behind false false (codes "VERTICES") a (some_behind false false (codes "LINES") b (some_behind false false (codes "TRIANGLE_STRIPS") s (with_data behind)))

no_metadata : (a b s : List (List ℕ)) (behind : List ℕ) (r : Reading) → rest_of r ≡ 10 ∷ kinds_behind a b s behind → is_next (codes "METADATA") r ≡ false
no_metadata (a ∷ more) b s behind r e = metadata_other r (codes "VERTICES") _ refl refl e
no_metadata [] (b ∷ more) s behind r e = metadata_other r (codes "LINES") _ refl refl e
no_metadata [] [] (s ∷ more) behind r e = metadata_other r (codes "TRIANGLE_STRIPS") _ refl refl e
no_metadata [] [] [] behind r e = metadata_other r (codes "POINT_DATA") _ refl refl e

-- polydata of these
abbrev pub poly_with : List Point → List (List ℕ) → List (List ℕ) → List (List ℕ) → Poly
poly_with ps a b s = record { points = points_in_file 3 ps; cells = kinds_with a b s }

pub stands-poly : (ps : List Point) (a b s : List (List ℕ)) (old : Reading) (behind : List ℕ) → 0 < length ps → length ps < 2 ^ 31 → list_all (fits I64) (numbers_of_points 3 ps) ≡ true → AreRead false (length ps) a → AreRead false (length ps) b → AreRead false (length ps) s
    → rest_of old ≡ 10 ∷ (codes "POINTS" ++ points_behind false 3 ps (kinds_behind a b s behind)) → Stands (polydata false false) old (poly_with ps a b s) (10 ∷ with_data behind)
stands-poly ps a b s old behind some few within vertices lines strips e =
    let p = poly_with ps a b s in
    let tail = kinds_behind a b s behind in
    let left = 10 ∷ with_data behind in
    let first = stands-no_fields false old (10 ∷ []) (codes "POINTS") _ (blank-one 10 refl) refl refl e in
    let all = stands-points false 3 ps first.new (10 ∷ []) tail (blank-one 10 refl) few within (λ r h. no_metadata a b s behind r (some_gap false 3 ps tail (rest_of r) some h)) first.rest in
    let kinds = stands-kinds (length ps) a b s all.new behind few vertices lines strips (some_gap false 3 ps tail (rest_of all.new) some all.rest) in
    stands-follow (fields false) _ old tt p (10 ∷ (codes "POINTS" ++ points_behind false 3 ps tail)) left first
    (stands-follow (points false) _ first.new (points_in_file 3 ps) p (points_gap false 3 ps ++ tail) left all
    (stands-follow (sections false false (length ps) 4 none_seen (for_each [])) _ all.new (kinds_with a b s) p left left kinds (stands-gives p kinds.new left kinds.rest)))
