-- The points of a mesh, as they are written.
use Rattle.std.proofs.Common.{◌≡◌, ℕ, ℤ, ◌*◌, ◌^◌, ◌<◌, Bool, true, false, List, [], ◌∷◌, ◌++◌, length, map, refl, ap, subst, ◌∙◌, append_assoc, append-nil, arith}
use Rattle.std.specs.Prelude.{codes}
use Rattle.std.specs.List.{flat_map, list_all}
use Rattle.std.specs.Fmt.{decimal}
use Rattle.std.proofs.lemmas.Bool.{and_parts}
use Rattle.viz_fraction.specs.Points.{Point}
use Rattle.viz_fraction.specs.Decimals.{fixed_of}
use Rattle.viz_column.specs.declared.kind.Kind8.TheVariants.{I64}
use Rattle.viz_column.specs.Bytes.{bytes_of, numbers_of}
use Rattle.viz_column.specs.Kinds.{fits, size_of}
use Rattle.viz_column.specs.Numbers.{Numbers}
use Rattle.viz_column.proofs.ListLemmas.{length-block, numbers_again}
use Rattle.viz_lex.specs.declared.fault.FileKind.TheVariants.{ValueRange}
use Rattle.viz_lex.specs.Reading.{Reading, rest_of, fault_at}
use Rattle.viz_lex.specs.Words.{IsBlank}
use Rattle.viz_lex.specs.Steps.{is_next}
use Rattle.viz_lex.specs.Rules.{gives, demand}
use Rattle.viz_lex.specs.Repeats.{times}
use Rattle.viz_lex.specs.Items.{number, keyword, line_end, block, metadata}
use Rattle.viz_attr.specs.declared.types.Stored.TheVariants.{Whole}
use Rattle.viz_attr.specs.Types.{type_word}
use Rattle.viz_attr.specs.Counts.{count_from}
use Rattle.viz_mesh_read.specs.Points.{value, column, points}
use Rattle.viz_mesh_write.specs.MeshText.{coordinates}
use Rattle.viz_mesh_write.specs.Rows.{row_of, block_end, block_text}
use Rattle.viz_round_trip.proofs.StandingLemmas.{Stands, stands-gives, stands-follow, stands-demand, stands-otherwise}
use Rattle.viz_round_trip.proofs.WordStanding.{word-solid, stands-keyword}
use Rattle.viz_round_trip.proofs.NumberStanding.{stands-number}
use Rattle.viz_round_trip.proofs.ValueStanding.{kind_wide}
use Rattle.viz_round_trip.proofs.BlockStanding.{stands-line_end, stands-block}
use Rattle.viz_round_trip.proofs.TypeStanding.{stands-type}
use Rattle.viz_round_trip.specs.MeshTrip.{points_in_file}
use Rattle.viz_round_trip.proofs.FrontLemmas.{AreInFront, filled, gap_of, words-rows}
use Rattle.viz_round_trip.proofs.SectionStanding.{stands-count_from}

-- ---- numbers in words

stands-value : (n : ℤ) (old : Reading) (text later : List ℕ) → fits I64 n ≡ true → AreInFront false I64 (n ∷ []) text later → rest_of old ≡ text → Stands (value I64) old n later
stands-value n old text later within h e =
    let first = stands-number old h.1.0 h.0 n (kind_wide I64 n within) h.1.1 h.1.2 (e ∙ h.1.3) in
    stands-follow number (λ m. demand (fits I64 m.1) (fault_at ValueRange m.0) (gives m.1)) old (first.0, n) n h.0 later first.1
    (stands-demand _ _ _ first.1.new n later within (stands-gives n first.1.new later (first.1.rest ∙ h.2)))

stands-numbers : (ns : List ℤ) (old : Reading) (text behind : List ℕ) → list_all (fits I64) ns ≡ true → AreInFront false I64 ns text behind → rest_of old ≡ text → Stands (times (length ns) (value I64)) old ns behind
stands-numbers [] old text behind within h e = record { new = old; is = refl; rest = e ∙ h }
stands-numbers (n ∷ ns) old text behind within h e =
    let both = and_parts (fits I64 n) (list_all (fits I64) ns) within in
    let first = stands-value n old text h.0 both.0 (h.0, h.1, refl) e in
    let others = stands-numbers ns first.new h.0 behind both.1 h.2 first.rest in
    record { new = others.new; is = (first.new, first.is, others.is); rest = others.rest }

-- ---- the coordinates

-- the numbers of these points
abbrev pub numbers_of_points : ℕ → List Point → List ℤ
numbers_of_points digits ps = flat_map (coordinates digits) ps

-- the same as a column of signed numbers of 64 bits
abbrev pub column_of : List ℤ → Numbers
column_of ns = record { kind = I64; items = ns }

-- what is left in front of what is behind the points
abbrev pub points_gap : Bool → ℕ → List Point → List ℕ
points_gap binary digits ps = gap_of binary (length (map (coordinates digits) ps))

bytes_flat : (rows : List Point) (digits : ℕ) → flat_map (row_of true I64) (map (coordinates digits) rows) ≡ flat_map (bytes_of I64) (flat_map (coordinates digits) rows)
bytes_flat [] digits = refl
bytes_flat (p ∷ ps) digits =
    let b : ℤ → List ℕ = bytes_of I64 in
    let rest = flat_map b (flat_map (coordinates digits) ps) in
    ap (λ (t : List ℕ). flat_map b (coordinates digits p) ++ t) (bytes_flat ps digits) ∙ three_flat (coordinates digits p) rest
  where
    three_flat : (ns : List ℤ) (rest : List ℕ) → flat_map (bytes_of I64) ns ++ rest ≡ flat_map (bytes_of I64) ns ++ rest
    three_flat ns rest = refl

count_numbers : (digits : ℕ) (ps : List Point) → length (flat_map (coordinates digits) ps) ≡ 3 * length ps
count_numbers digits [] = refl
count_numbers digits (p ∷ ps) = let rest = count_numbers digits ps in omega (arith, rest)

block_long : (ns : List ℤ) (n : ℕ) → length ns ≡ n → length (flat_map (bytes_of I64) ns) ≡ n * size_of I64
block_long ns n e = let long = length-block I64 ns in omega (arith, long, e)

stands-column : (binary : Bool) (digits : ℕ) (ps : List Point) (old : Reading) (tail : List ℕ) → list_all (fits I64) (numbers_of_points digits ps) ≡ true
    → rest_of old ≡ 10 ∷ (block_text binary I64 (map (coordinates digits) ps) ++ tail) → Stands (column binary I64 (3 * length ps)) old (column_of (numbers_of_points digits ps)) (points_gap binary digits ps ++ tail)
stands-column true digits ps old tail within e =
    let ns = numbers_of_points digits ps in
    let bytes = flat_map (bytes_of I64) ns in
    let rows = flat_map (row_of true I64) (map (coordinates digits) ps) in
    let gap = block_end true (length (map (coordinates digits) ps)) in
    let left = gap ++ tail in
    let same : (rows ++ gap) ++ tail ≡ bytes ++ left = append_assoc rows gap tail ∙ ap (λ (t : List ℕ). t ++ left) (bytes_flat ps digits) in
    let size = 3 * length ps * size_of I64 in
    let first = stands-line_end old (bytes ++ left) (e ∙ ap (λ (t : List ℕ). 10 ∷ t) same) in
    let second = stands-block first.new size bytes left (block_long ns (3 * length ps) (count_numbers digits ps)) first.rest in
    let read : numbers_of I64 bytes ≡ column_of ns = ap column_of (numbers_again I64 ns within) in
    let last = subst (λ (n : Numbers). Stands (gives (numbers_of I64 bytes)) second.new n left) read (stands-gives (numbers_of I64 bytes) second.new left second.rest) in
    stands-follow line_end _ old tt (column_of ns) (bytes ++ left) left first
    (stands-follow (block size) (λ bytes. gives (numbers_of I64 bytes)) first.new bytes (column_of ns) left left second last)
stands-column false digits ps old tail within e =
    let ns = numbers_of_points digits ps in
    let rows = flat_map (row_of false I64) (map (coordinates digits) ps) in
    let left = 10 ∷ tail in
    let front = words-rows I64 (coordinates digits) ps tail (filled (λ (p : Point). fixed_of p.x p.w digits) (λ (p : Point). fixed_of p.y p.w digits ∷ fixed_of p.z p.w digits ∷ []) ps) in
    let here = e ∙ ap (λ (t : List ℕ). 10 ∷ (t ++ tail)) (append-nil rows) in
    let all = stands-numbers ns old (10 ∷ (rows ++ tail)) left within front here in
    let many = subst (λ (k : ℕ). Stands (times k (value I64)) old ns left) (count_numbers digits ps) all in
    stands-follow (times (3 * length ps) (value I64)) (λ items. gives (column_of items)) old ns (column_of ns) left left many (stands-gives (column_of ns) many.new left many.rest)

-- ---- the points

-- the text of points behind their keyword
abbrev pub points_behind : Bool → ℕ → List Point → List ℕ → List ℕ
points_behind binary digits ps tail =
    32 ∷ (decimal (length ps) ++ 32 ∷ (codes "long" ++ 10 ∷ (block_text binary I64 (map (coordinates digits) ps) ++ tail)))

-- the next word isn't METADATA
abbrev pub IsOther : List ℕ → Reading → Type 0
IsOther key old = is_next key old ≡ false

-- the points stand, whatever word is next but METADATA
pub stands-points : (binary : Bool) (digits : ℕ) (ps : List Point) (old : Reading) (gap tail : List ℕ) → IsBlank gap → length ps < 2 ^ 31 → list_all (fits I64) (numbers_of_points digits ps) ≡ true
    → ((r : Reading) → rest_of r ≡ points_gap binary digits ps ++ tail → is_next (codes "METADATA") r ≡ false)
    → rest_of old ≡ gap ++ (codes "POINTS" ++ points_behind binary digits ps tail) → Stands (points binary) old (points_in_file digits ps) (points_gap binary digits ps ++ tail)
stands-points binary digits ps old gap tail blank few within other e =
    let value = points_in_file digits ps in
    let left = points_gap binary digits ps ++ tail in
    let lines = 10 ∷ (block_text binary I64 (map (coordinates digits) ps) ++ tail) in
    let typed = 32 ∷ (codes "long" ++ lines) in
    let a = stands-keyword (codes "POINTS") old gap (codes "POINTS") (32 ∷ (decimal (length ps) ++ typed)) refl (record { parts = e; blank = blank; is_word = word-solid (codes "POINTS") refl; ends = refl }) in
    let b = stands-count_from a.new (length ps) typed few refl a.rest in
    let c = stands-type I64 b.new lines refl b.rest in
    let d = stands-column binary digits ps c.new tail within c.rest in
    let f : Stands metadata d.new tt left = stands-otherwise (is_next (codes "METADATA")) _ _ d.new tt left (other d.new d.rest) (stands-gives tt d.new left d.rest) in
    stands-follow (keyword (codes "POINTS")) _ old tt value (32 ∷ (decimal (length ps) ++ typed)) left a
    (stands-follow (count_from 0) _ a.new (length ps) value typed left b
    (stands-follow (type_word true) _ b.new (Whole I64) value lines left c
    (stands-follow (column binary I64 (3 * length ps)) _ c.new (column_of (numbers_of_points digits ps)) value left left d
    (stands-follow metadata _ d.new tt value left left f (stands-gives value f.new left f.rest)))))
