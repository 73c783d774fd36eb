-- A grid, as it is written.
use Rattle.std.proofs.Common.{◌≡◌, ℕ, ◌^◌, ◌<◌, Bool, true, false, List, ◌∷◌, ◌++◌, length, refl, ◌∙◌}
use Rattle.std.specs.Prelude.{codes}
use Rattle.std.specs.List.{All, list_all}
use Rattle.viz_fraction.specs.Points.{Point}
use Rattle.viz_column.specs.declared.kind.Kind8.TheVariants.{I64}
use Rattle.viz_column.specs.Kinds.{fits}
use Rattle.viz_lex.specs.Reading.{Reading, rest_of}
use Rattle.viz_lex.specs.Words.{IsBlank, IsNextWord}
use Rattle.viz_lex.specs.Steps.{same_word, is_next}
use Rattle.viz_lex.specs.Items.{keyword}
use Rattle.viz_attr.specs.Counts.{same_count}
use Rattle.viz_counted_cells.specs.Sections.{section_start}
use Rattle.viz_mesh_read.specs.CellSections.{cell_section}
use Rattle.viz_mesh_read.specs.Points.{points}
use Rattle.viz_mesh_read.specs.Grid.{one_field, fields, cell_types, types, Grid, grid}
use Rattle.viz_round_trip.proofs.StandingLemmas.{Stands, stands-gives, stands-follow, stands-none}
use Rattle.viz_round_trip.proofs.WordStanding.{is_solid, word-solid, stands-keyword, is_next-word}
use Rattle.viz_round_trip.specs.MeshTrip.{points_in_file}
use Rattle.viz_round_trip.proofs.FrontLemmas.{gap-blank}
use Rattle.viz_round_trip.proofs.SectionStanding.{HasSize, cells_gap, types_gap, types_behind, stands-types}
use Rattle.viz_round_trip.proofs.CellStanding.{AreRead, section_behind, stands-cells}
use Rattle.viz_round_trip.proofs.PointStanding.{numbers_of_points, points_gap, points_behind, stands-points}

-- a word behind blanks, with a space behind it
pub key-next : (r : Reading) (gap key behind : List ℕ) → IsBlank gap → is_solid key ≡ true → rest_of r ≡ gap ++ (key ++ 32 ∷ behind) → IsNextWord (rest_of r) gap key (32 ∷ behind)
key-next r gap key behind blank solid e = record { parts = e; blank = blank; is_word = word-solid key solid; ends = refl }

-- no FIELD stands there
pub stands-no_fields : (binary : Bool) (old : Reading) (gap key behind : List ℕ) → IsBlank gap → is_solid key ≡ true → same_word key (codes "FIELD") ≡ false → rest_of old ≡ gap ++ (key ++ 32 ∷ behind)
    → Stands (fields binary) old tt (gap ++ (key ++ 32 ∷ behind))
stands-no_fields binary old gap key behind blank solid other e =
    stands-none (is_next (codes "FIELD")) (one_field binary) old (gap ++ (key ++ 32 ∷ behind)) (is_next-word (codes "FIELD") old gap key (32 ∷ behind) (key-next old gap key behind blank solid e) ∙ other) e

-- the text of a grid
abbrev pub grid_behind : Bool → Bool → ℕ → List Point → List (List ℕ) → List ℕ → List ℕ
grid_behind later binary digits ps cs tail =
    codes "POINTS" ++ points_behind binary digits ps (codes "CELLS" ++ section_behind later binary cs (codes "CELL_TYPES" ++ types_behind binary cs tail))

-- a grid of these
abbrev pub grid_with : ℕ → List Point → List (List ℕ) → Grid
grid_with digits ps cs = record { points = points_in_file digits ps; cells = cs }

stands-grid_types : (binary : Bool) (cs : List (List ℕ)) (old : Reading) (gap tail : List ℕ) → IsBlank gap → length cs < 2 ^ 31 → All HasSize cs → rest_of old ≡ gap ++ (codes "CELL_TYPES" ++ types_behind binary cs tail)
    → Stands (types binary cs) old tt (types_gap binary cs ++ tail)
stands-grid_types binary cs old gap tail blank few sized e =
    let left = types_gap binary cs ++ tail in
    let key = stands-keyword (codes "CELL_TYPES") old gap (codes "CELL_TYPES") (types_behind binary cs tail) refl (key-next old gap (codes "CELL_TYPES") _ blank refl e) in
    let all = stands-types binary cs key.new tail few sized key.rest in
    stands-follow (keyword (codes "CELL_TYPES")) _ old tt tt (types_behind binary cs tail) left key
    (stands-follow (same_count (length cs)) _ key.new tt tt all.behind left all.counted
    (stands-follow (section_start binary) (λ started. cell_types binary cs) all.counted.new tt tt all.text left all.started all.all))

pub stands-grid : (later binary : Bool) (digits : ℕ) (ps : List Point) (cs : List (List ℕ)) (old : Reading) (gap tail : List ℕ) → IsBlank gap → length ps < 2 ^ 31 → list_all (fits I64) (numbers_of_points digits ps) ≡ true
    → length cs < 2 ^ 31 → AreRead later (length ps) cs → All HasSize cs → rest_of old ≡ gap ++ grid_behind later binary digits ps cs tail
    → Stands (grid binary later) old (grid_with digits ps cs) (types_gap binary cs ++ tail)
stands-grid later binary digits ps cs old gap tail blank few within short are sized e =
    let g = grid_with digits ps cs in
    let left = types_gap binary cs ++ tail in
    let typed = codes "CELL_TYPES" ++ types_behind binary cs tail in
    let celled = codes "CELLS" ++ section_behind later binary cs typed in
    let pointed = points_behind binary digits ps celled in
    let p_gap = points_gap binary digits ps in
    let p_blank = gap-blank binary _ in
    let c_gap = cells_gap binary cs in
    let c_blank = gap-blank binary _ in
    let f1 = stands-no_fields binary old gap (codes "POINTS") _ blank refl refl e in
    let p = stands-points binary digits ps f1.new gap celled blank few within (λ r h. is_next-word (codes "METADATA") r p_gap (codes "CELLS") _ (key-next r p_gap (codes "CELLS") _ p_blank refl h)) f1.rest in
    let f2 = stands-no_fields binary p.new p_gap (codes "CELLS") _ p_blank refl refl p.rest in
    let key = stands-keyword (codes "CELLS") f2.new p_gap (codes "CELLS") (section_behind later binary cs typed) refl (key-next f2.new p_gap (codes "CELLS") _ p_blank refl f2.rest) in
    let all = stands-cells later binary (length ps) cs key.new typed few are key.rest in
    let f3 = stands-no_fields binary all.new c_gap (codes "CELL_TYPES") _ c_blank refl refl all.rest in
    let last = stands-grid_types binary cs f3.new c_gap tail c_blank short sized f3.rest in
    stands-follow (fields binary) _ old tt g (gap ++ (codes "POINTS" ++ pointed)) left f1
    (stands-follow (points binary) _ f1.new (points_in_file digits ps) g (p_gap ++ celled) left p
    (stands-follow (fields binary) _ p.new tt g (p_gap ++ celled) left f2
    (stands-follow (keyword (codes "CELLS")) _ f2.new tt g (section_behind later binary cs typed) left key
    (stands-follow (cell_section later binary (length ps)) _ key.new cs g (c_gap ++ typed) left all
    (stands-follow (fields binary) _ all.new tt g (c_gap ++ typed) left f3
    (stands-follow (types binary cs) _ f3.new tt g left left last (stands-gives g last.new left last.rest)))))))
