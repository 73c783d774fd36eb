-- The text of a mesh is a file of it.
use Rattle.std.proofs.Common.{◌≡◌, ◌≢◌, ℕ, ℤ, pos, negsuc, ◌*◌, ◌^◌, ◌<◌, ◌≤◌, Bool, true, false, List, [], ◌∷◌, ◌++◌, length, map, inl, inr, refl, sym, ap, subst, ◌∙◌, append_assoc, append-nil, lt-ltb, arith}
use Rattle.std.specs.Prelude.{codes, Some, None, ◌||◌, FitsSigned, if◌then◌else◌}
use Rattle.std.specs.Int.{w64}
use Rattle.std.specs.List.{All, list_all}
use Rattle.std.specs.Fmt.{decimal}
use Rattle.std.proofs.lemmas.List.{length-map}
use Rattle.std.proofs.lemmas.List.Elements.{All-head, All-tail, All-weaker}
use Rattle.viz_base.specs.declared.node.Pick.TheVariants.{First, Zero}
use Rattle.viz_dataset.specs.declared.dataset.Dataset.TheVariants.{Mesh}
use Rattle.viz_fraction.specs.Points.{Point}
use Rattle.viz_fraction.specs.Decimals.{fixed_of}
use Rattle.viz_column.specs.declared.kind.Kind8.TheVariants.{I64}
use Rattle.viz_column.specs.Kinds.{fits}
use Rattle.viz_lex.specs.declared.fault.FileKind.TheVariants.{NoArray}
use Rattle.viz_lex.specs.Reading.{Reading, rest_of, fault_at}
use Rattle.viz_lex.specs.Words.{IsBlank}
use Rattle.viz_lex.specs.Rules.{gives, choose}
use Rattle.viz_attr.specs.Picks.{has_fit, picked_of}
use Rattle.viz_attr.specs.Grammar.{joined, parts, is_zero, no_array, attributes}
use Rattle.viz_counted_cells.specs.Sections.{HasIndices, HaveIndices}
use Rattle.viz_mesh_read.specs.Grid.{grid}
use Rattle.viz_mesh_read.specs.Poly.{polydata}
use Rattle.viz_mesh_read.specs.Pieces.{pieces_of}
use Rattle.viz_mesh_read.proofs.PolyLaws.{decides-polydata}
use Rattle.viz_file_mesh.specs.FileMesh.{mesh_of}
use Rattle.viz_file_mesh.specs.GridPieces.{grid_pieces}
use Rattle.viz_sheet.specs.Sheet.{SheetData, IsSheet}
use Rattle.viz_sheet.specs.Ranked.{IsCell}
use Rattle.viz_legacy_read.specs.MeshFile.{cells_by_kind}
use Rattle.viz_legacy_read.specs.File.{file}
use Rattle.viz_legacy_read.specs.Reading.{front, Reads, Stops}
use Rattle.viz_image_write.specs.ImageText.{form_line, values_text}
use Rattle.viz_mesh_write.specs.Cells.{points_of, cells_of, of_size, has_tetrahedra}
use Rattle.viz_mesh_write.specs.Fits.{FitsRow}
use Rattle.viz_mesh_write.specs.MeshText.{coordinates, scalar, scalars, size_of, title_lines, dataset_line, points_text, grid_text, parts_text, poly_text, section_text, cells_text, scalars_text, mesh_text}
use Rattle.viz_round_trip.proofs.StandingLemmas.{Stands, stands-gives, stands-follow}
use Rattle.viz_round_trip.proofs.WordStanding.{blank-one}
use Rattle.viz_round_trip.proofs.ArrayStanding as array
use Rattle.viz_round_trip.proofs.AttributeStanding.{parts_text as data_text, stands-attributes}
use Rattle.viz_round_trip.specs.MeshTrip.{AreWritable, points_in_file, scalars_in_file, by_kinds, read_of, empty_mesh}
use Rattle.viz_round_trip.proofs.FrontLemmas.{gap-blank, gap-some}
use Rattle.viz_round_trip.proofs.SectionStanding.{HasSize, type_row, types_gap, cells_gap, size_long}
use Rattle.viz_round_trip.proofs.PointStanding.{numbers_of_points, points_behind}
use Rattle.viz_round_trip.proofs.GridStanding.{grid_behind, grid_with, stands-grid}
use Rattle.viz_round_trip.proofs.CellStanding.{AreRead, may-be-runs}
use Rattle.viz_round_trip.proofs.PolyStanding.{kinds_of, kinds_behind, poly_with, stands-poly, stands-no_poly}
use Rattle.viz_round_trip.proofs.MeshHeads.{StandsHere, given_by, grid_rule, poly_rule, stands-grid_file, stands-poly_file, stops-poly_file}
use Rattle.viz_round_trip.proofs.IndexLemmas.{cells-are, no_points-no_cells, no_cells-no_points}
use Rattle.viz_round_trip.proofs.PieceLemmas.{grid-pieces, poly-pieces, all-of_size}
use Rattle.viz_round_trip.proofs.MeshTexts.{points_parts, section_parts, grid_parts, kinds_parts, scalars_parts}

-- ---- numbers that fit

number_fits : (n : ℤ) → FitsSigned w64 n → fits I64 n ≡ true
number_fits (pos n) h = lt-ltb n (2 ^ 63) h.sfits
number_fits (negsuc n) h = lt-ltb n (2 ^ 63) h.sfits

abbrev Fits64 : ℤ → Type 0
Fits64 n = FitsSigned w64 n

pub points_fit : (digits : ℕ) (ps : List Point) → All (λ p. FitsRow (coordinates digits p)) ps → list_all (fits I64) (numbers_of_points digits ps) ≡ true
points_fit digits [] h = refl
points_fit digits (p ∷ ps) h =
    let row = (All-head (λ p. FitsRow (coordinates digits p)) p ps h).each in
    let x = fixed_of p.x p.w digits in
    let y = fixed_of p.y p.w digits in
    let z = fixed_of p.z p.w digits in
    let yz = All-tail Fits64 x (y ∷ z ∷ []) row in
    let x_fits = number_fits x (All-head Fits64 x (y ∷ z ∷ []) row) in
    let y_fits = number_fits y (All-head Fits64 y (z ∷ []) yz) in
    let z_fits = number_fits z (All-head Fits64 z [] (All-tail Fits64 y (z ∷ []) yz)) in
    rw (x_fits, y_fits, z_fits, points_fit digits ps (All-tail (λ p. FitsRow (coordinates digits p)) p ps h)) refl

pub scalars_fit : (ps : List Point) → All (λ p. FitsRow (scalars p)) ps → list_all (fits I64) (map scalar ps) ≡ true
scalars_fit [] h = refl
scalars_fit (p ∷ ps) h =
    let here = number_fits (scalar p) (All-head Fits64 (scalar p) [] (All-head (λ p. FitsRow (scalars p)) p ps h).each) in
    rw (here, scalars_fit ps (All-tail (λ p. FitsRow (scalars p)) p ps h)) refl

-- ---- what is known of points and cells

-- points and cells that are written
record AreKnown (digits : ℕ) (ps : List Point) (cs : List (List ℕ)) : Type 0 where
  few : length ps < 2 ^ 31
  within : list_all (fits I64) (numbers_of_points digits ps) ≡ true
  range : list_all (fits I64) (map scalar ps) ≡ true
  cells : All (IsCell (length ps)) cs

known-from : (digits : ℕ) (sheets : List SheetData) → AreWritable digits sheets → AreKnown digits (points_of sheets) (cells_of sheets)
known-from digits sheets are = record {
  few = are.counts.points;
  within = points_fit digits (points_of sheets) are.numbers.coordinates.each;
  range = scalars_fit (points_of sheets) are.numbers.scalars.each;
  cells = cells-are sheets are.known;
}

pub below-of : (n : ℕ) (cs : List (List ℕ)) → All (IsCell n) cs → HaveIndices n cs
below-of n cs h = All-weaker (IsCell n) (HasIndices n) (λ c is. is.below) cs h

sized-of : (n : ℕ) (cs : List (List ℕ)) → All (IsCell n) cs → All HasSize cs
sized-of n cs h = All-weaker (IsCell n) HasSize (λ c is. (is.some, is.most)) cs h

-- few cells of so many points may be read
read-of : (later : Bool) (n : ℕ) (cs : List (List ℕ)) → All (IsCell n) cs → size_of cs < 2 ^ 31 → AreRead later n cs
read-of later n cs h small = record {
  small = small;
  below = below-of n cs h;
  some = may-be-runs later cs (All-weaker (IsCell n) (λ c. 1 ≤ length c) (λ c is. is.some) cs h);
}

-- ---- the attributes of points

-- the text of the scalars
abbrev data_behind : Bool → List Point → List ℕ
data_behind binary ps = data_text (scalars_in_file ps) (length ps) (values_text binary (length ps) 1 (scalars_in_file ps))

-- the same behind the number of points
abbrev data_lines : Bool → List Point → List ℕ
data_lines binary ps = codes "SCALARS" ++ array.scalars_text (scalars_in_file ps) (values_text binary (length ps) 1 (scalars_in_file ps))

one_wide : (n : ℕ) → n ≡ n * 1
one_wide n = omega arith

stands-scalars : (binary : Bool) (digits : ℕ) (ps : List Point) (cs : List (List ℕ)) (cells : ℕ) (old : Reading) → AreKnown digits ps cs → rest_of old ≡ 10 ∷ data_behind binary ps
    → (left : List ℕ) × Stands (attributes (given_by binary (length ps) cells First)) old (Some (scalars_in_file ps)) left
stands-scalars binary digits ps cs cells old known e =
    let long : length (map scalar ps) ≡ length ps = length-map ps scalar in
    stands-attributes binary (length ps) cells (scalars_in_file ps) (length ps) 1 old known.few known.range long (long ∙ one_wide (length ps)) e

-- ---- a grid

size_above : (cs : List (List ℕ)) (c : List ℕ) → 0 < length (map type_row (c ∷ cs))
size_above cs c = omega arith

stands-grid_all : (later binary : Bool) (digits : ℕ) (ps : List Point) (c : List ℕ) (cs : List (List ℕ)) (old : Reading) → AreKnown digits ps (c ∷ cs) → length (c ∷ cs) < 2 ^ 31 → size_of (c ∷ cs) < 2 ^ 31
    → rest_of old ≡ 10 ∷ grid_behind later binary digits ps (c ∷ cs) (data_behind binary ps) → StandsHere (grid_rule later binary First digits) old (mesh_of digits (points_in_file digits ps) (Some (scalars_in_file ps)) (c ∷ cs))
stands-grid_all later binary digits ps c cs old known short small e =
    let all = c ∷ cs in
    let picked = Some (scalars_in_file ps) in
    let p = points_in_file digits ps in
    let n = length ps in
    let values = data_behind binary ps in
    let g = stands-grid later binary digits ps all old (10 ∷ []) values (blank-one 10 refl) known.few known.within short (read-of later n all known.cells small) (sized-of n all known.cells) e in
    let here = g.rest ∙ ap (λ (gap : List ℕ). gap ++ values) (gap-some binary (length (map type_row all)) (size_above cs c)) in
    let a = stands-scalars binary digits ps all (length all) g.new known here in
    let m = mesh_of digits p picked (grid_pieces all) in
    let read = stands-follow (grid binary later) _ old (grid_with digits ps all) m (types_gap binary all ++ values) a.0 g
    (stands-follow (attributes (given_by binary n (length all) First)) (λ picked. gives (mesh_of digits p picked (grid_pieces all))) g.new picked m a.0 a.0 a.1 (stands-gives m a.1.new a.0 a.1.rest)) in (
      a.0,
      subst (λ (cells : List (List ℕ)). Stands (grid_rule later binary First digits) old (mesh_of digits p picked cells) a.0) (grid-pieces n all known.cells) read,
    )

-- ---- polydata

-- each section has few enough numbers
record AreSmall (cs : List (List ℕ)) : Type 0 where
  vertices : size_of (of_size 1 cs) < 2 ^ 31
  lines : size_of (of_size 2 cs) < 2 ^ 31
  triangles : size_of (of_size 3 cs) < 2 ^ 31

are-read : (later : Bool) (n size : ℕ) (cs : List (List ℕ)) → All (IsCell n) cs → size_of (of_size size cs) < 2 ^ 31 → AreRead later n (of_size size cs)
are-read later n size cs h small = read-of later n (of_size size cs) (all-of_size (IsCell n) size cs h) small

stands-poly_all : (later binary : Bool) (digits : ℕ) (ps : List Point) (cs : List (List ℕ)) (old : Reading) → AreKnown digits ps cs → 0 < length ps → AreSmall cs
    → rest_of old ≡ 10 ∷ (codes "POINTS" ++ points_behind binary digits ps (kinds_behind later binary (of_size 1 cs) (of_size 2 cs) (of_size 3 cs) (decimal (length ps) ++ 10 ∷ data_lines binary ps)))
    → StandsHere (poly_rule later binary First digits) old (mesh_of digits (points_in_file digits ps) (Some (scalars_in_file ps)) (by_kinds cs))
stands-poly_all later binary digits ps cs old known some small e =
    let picked = Some (scalars_in_file ps) in
    let p = points_in_file digits ps in
    let n = length ps in
    let a = of_size 1 cs in
    let b = of_size 2 cs in
    let c = of_size 3 cs in
    let values = data_behind binary ps in
    let poly = stands-poly later binary digits ps a b c old (decimal n ++ 10 ∷ data_lines binary ps) some known.few known.within (are-read later n 1 cs known.cells small.vertices) (are-read later n 2 cs known.cells small.lines) (are-read later n 3 cs known.cells small.triangles) e in
    let count = cells_by_kind (kinds_of a b c) in
    let d = stands-scalars binary digits ps cs count poly.new known poly.rest in
    let m = mesh_of digits p picked (pieces_of (kinds_of a b c)) in
    let read = stands-follow (polydata binary later) _ old (poly_with digits ps a b c) m (10 ∷ values) d.0 poly
    (stands-follow (attributes (given_by binary n count First)) (λ picked. gives (mesh_of digits p picked (pieces_of (kinds_of a b c)))) poly.new picked m d.0 d.0 d.1 (stands-gives m d.1.new d.0 d.1.rest)) in (
      d.0,
      subst (λ (cells : List (List ℕ)). Stands (poly_rule later binary First digits) old (mesh_of digits p picked cells) d.0) (poly-pieces n cs known.cells) read,
    )

-- ---- the whole file

pub regrouped : (title form dataset points cells scalars : List ℕ) → title ++ form ++ dataset ++ points ++ cells ++ scalars ≡ title ++ (form ++ (dataset ++ (points ++ (cells ++ scalars))))
regrouped title form dataset points cells scalars = simp append_assoc refl

-- the text of these points and cells
abbrev text_with : Bool → Bool → Bool → ℕ → List Point → List (List ℕ) → List ℕ
text_with tetrahedra later binary digits ps cs =
    title_lines later digits ++ form_line binary ++ dataset_line tetrahedra ++ points_text binary digits ps ++ (if tetrahedra then grid_text later binary cs else poly_text later binary cs) ++ scalars_text binary ps

-- each section that these cells have is small
abbrev AllSmall : Bool → List (List ℕ) → Type 0
AllSmall tetrahedra cs =
    All (λ cells. size_of cells < 2 ^ 31) (if tetrahedra then cs ∷ [] else of_size 1 cs ∷ of_size 2 cs ∷ of_size 3 cs ∷ [])

small-from : (cs : List (List ℕ)) → AllSmall false cs → AreSmall cs
small-from cs h =
    let P : List (List ℕ) → Type 0 = λ cells. size_of cells < 2 ^ 31 in
    let t = All-tail P (of_size 1 cs) (of_size 2 cs ∷ of_size 3 cs ∷ []) h in
    record {
      vertices = All-head P (of_size 1 cs) (of_size 2 cs ∷ of_size 3 cs ∷ []) h;
      lines = All-head P (of_size 2 cs) (of_size 3 cs ∷ []) t;
      triangles = All-head P (of_size 3 cs) [] (All-tail P (of_size 2 cs) (of_size 3 cs ∷ []) t);
    }

short_of : (cs : List (List ℕ)) → size_of cs < 2 ^ 31 → length cs < 2 ^ 31
short_of cs small = let long = size_long cs in omega (arith, long, small)

stands-with : (tetrahedra later binary : Bool) (digits : ℕ) (p : Point) (ps : List Point) (c : List ℕ) (cs : List (List ℕ)) (old : Reading) → digits ≤ 9 → AreKnown digits (p ∷ ps) (c ∷ cs) → AllSmall tetrahedra (c ∷ cs)
    → rest_of old ≡ text_with tetrahedra later binary digits (p ∷ ps) (c ∷ cs)
    → StandsHere (file First digits) old (Mesh (mesh_of digits (points_in_file digits (p ∷ ps)) (Some (scalars_in_file (p ∷ ps))) (if tetrahedra then c ∷ cs else by_kinds (c ∷ cs))))
stands-with true later binary digits p ps c cs old few known small e =
    let points = p ∷ ps in
    let cells = c ∷ cs in
    let size = All-head (λ cells. size_of cells < 2 ^ 31) cells [] small in
    let values = data_behind binary points in
    let tail = ap (λ (t : List ℕ). grid_text later binary cells ++ t) (scalars_parts binary p ps) ∙ grid_parts later binary cells values in
    let behind = points_text binary digits points ++ (grid_text later binary cells ++ scalars_text binary points) in
    let parts = regrouped (title_lines later digits) (form_line binary) (dataset_line true) (points_text binary digits points) (grid_text later binary cells) (scalars_text binary points) in
    let lines : behind ≡ grid_behind later binary digits points cells values = ap (λ (t : List ℕ). points_text binary digits points ++ t) tail ∙ points_parts binary digits points _ in
    stands-grid_file later binary digits First digits old _ behind few (e ∙ parts) (λ new rest.
    stands-grid_all later binary digits points c cs new known (short_of cells size) size (rest ∙ ap (λ (t : List ℕ). 10 ∷ t) lines))
stands-with false later binary digits p ps c cs old few known small e =
    let points = p ∷ ps in
    let cells = c ∷ cs in
    let values = data_behind binary points in
    let tail = ap (λ (t : List ℕ). parts_text later binary cells ++ t) (scalars_parts binary p ps) ∙ kinds_parts later binary cells values in
    let behind = points_text binary digits points ++ (parts_text later binary cells ++ scalars_text binary points) in
    let parts = regrouped (title_lines later digits) (form_line binary) (dataset_line false) (points_text binary digits points) (parts_text later binary cells) (scalars_text binary points) in
    let lines = ap (λ (t : List ℕ). points_text binary digits points ++ t) tail ∙ points_parts binary digits points _ in
    stands-poly_file later binary digits First digits old _ behind few (e ∙ parts) (λ new rest.
    stands-poly_all later binary digits points cells new known (omega arith) (small-from cells small) (rest ∙ ap (λ (t : List ℕ). 10 ∷ t) lines))

-- ---- sheets

reads-with : (later binary : Bool) (digits : ℕ) (text : List ℕ) (tetrahedra : Bool) (ps : List Point) (cs : List (List ℕ)) → digits ≤ 9 → AreKnown digits ps cs → AllSmall tetrahedra cs → ps ≢ [] → cs ≢ []
    → text ≡ text_with tetrahedra later binary digits ps cs → Reads text First digits (Mesh (mesh_of digits (points_in_file digits ps) (Some (scalars_in_file ps)) (if tetrahedra then cs else by_kinds cs)))
reads-with later binary digits text tetrahedra [] cs few known small some cells e = absurd (some refl)
reads-with later binary digits text tetrahedra (p ∷ ps) [] few known small some cells e = absurd (cells refl)
reads-with later binary digits text tetrahedra (p ∷ ps) (c ∷ cs) few known small some cells e =
    let all = stands-with tetrahedra later binary digits p ps c cs (front text) few known small e in
    (all.1.new, all.1.is)

pub reads-again : (later binary : Bool) (digits : ℕ) (sheets : List SheetData) → AreWritable digits sheets → points_of sheets ≢ [] → Reads (mesh_text later binary digits sheets) First digits (Mesh (read_of digits sheets))
unfolding mesh_text
reads-again later binary digits sheets are some =
    let cells = cells_of sheets in
    let none : cells ≢ [] = λ e. some (no_cells-no_points sheets are.known e) in
    reads-with later binary digits (mesh_text later binary digits sheets) (has_tetrahedra cells) (points_of sheets) cells are.few (known-from digits sheets are) are.counts.sizes some none refl

-- ---- a mesh without points

abbrev pub empty_text : Bool → Bool → ℕ → List ℕ
empty_text later binary digits =
    title_lines later digits ++ form_line binary ++ dataset_line false ++ points_text binary digits [] ++ section_text later binary (codes "POLYGONS") [] ++ []

blank_end : (binary : Bool) → IsBlank (cells_gap binary [] ++ [])
blank_end binary = subst IsBlank (sym (append-nil (cells_gap binary []))) (gap-blank binary _)

stands-none : (binary : Bool) (old : Reading) (left : List ℕ) → IsBlank left → rest_of old ≡ left → Stands (attributes (given_by binary 0 0 Zero)) old None left
stands-none binary old left blank e =
    let g = given_by binary 0 0 Zero in
    let all : Stands (parts g) old [] left = record { new = old; is = (refl, subst IsBlank (sym e) blank); rest = e } in
    stands-follow (parts g) (λ all. choose (is_zero g.pick || has_fit g (joined all)) (gives (picked_of g (joined all))) no_array) old [] None left left all (stands-gives None all.new left all.rest)

pub stands-empty : (later binary : Bool) (digits : ℕ) (old : Reading) → digits ≤ 9 → rest_of old ≡ empty_text later binary digits → StandsHere (file Zero digits) old (Mesh empty_mesh)
stands-empty later binary digits old few e =
    let section = section_text later binary (codes "POLYGONS") [] in
    let behind = points_text binary digits [] ++ (section ++ []) in
    let parts = regrouped (title_lines later digits) (form_line binary) (dataset_line false) (points_text binary digits []) section [] in
    let lines = ap (λ (t : List ℕ). points_text binary digits [] ++ t) (section_parts later binary (codes "POLYGONS") [] []) ∙ points_parts binary digits [] _ in
    stands-poly_file later binary digits Zero digits old empty_mesh behind few (e ∙ parts) (λ new rest.
    let left = cells_gap binary [] ++ [] in
    let poly = stands-no_poly later binary digits new (rest ∙ ap (λ (t : List ℕ). 10 ∷ t) lines) in
    let d = stands-none binary poly.new left (blank_end binary) poly.rest in (
      left,
      stands-follow (polydata binary later) _ new (poly_with digits [] [] [] []) empty_mesh left left poly
          (stands-follow (attributes (given_by binary 0 0 Zero)) _ poly.new None empty_mesh left left d (stands-gives empty_mesh d.new left d.rest)),
    ))

empty-text : (later binary : Bool) (digits : ℕ) (sheets : List SheetData) → points_of sheets ≡ [] → cells_of sheets ≡ [] → mesh_text later binary digits sheets ≡ empty_text later binary digits
unfolding mesh_text
empty-text later binary digits sheets e f =
    ap (λ (cs : List (List ℕ)). title_lines later digits ++ form_line binary ++ dataset_line (has_tetrahedra cs) ++ points_text binary digits (points_of sheets) ++ cells_text later binary cs ++ scalars_text binary (points_of sheets)) f
    ∙ ap (λ (ps : List Point). title_lines later digits ++ form_line binary ++ dataset_line false ++ points_text binary digits ps ++ section_text later binary (codes "POLYGONS") [] ++ scalars_text binary ps) e

-- where an array is asked for there is none, and the fault lies at the end
stops-empty : (later binary : Bool) (digits : ℕ) (old : Reading) → digits ≤ 9 → rest_of old ≡ empty_text later binary digits → (file First digits).isnt old (fault_at NoArray (length old.bytes))
stops-empty later binary digits old few e =
    let section = section_text later binary (codes "POLYGONS") [] in
    let behind = points_text binary digits [] ++ (section ++ []) in
    let parts = regrouped (title_lines later digits) (form_line binary) (dataset_line false) (points_text binary digits []) section [] in
    let lines = ap (λ (t : List ℕ). points_text binary digits [] ++ t) (section_parts later binary (codes "POLYGONS") [] []) ∙ points_parts binary digits [] _ in
    stops-poly_file later binary digits First digits old (fault_at NoArray (length old.bytes)) behind few (e ∙ parts) (λ new same rest.
    let poly = stands-no_poly later binary digits new (rest ∙ ap (λ (t : List ℕ). 10 ∷ t) lines) in
    let p = poly_with digits [] [] [] [] in
    let blank = subst IsBlank (sym poly.rest) (blank_end binary) in
    let bytes : old.bytes ≡ poly.new.bytes = sym (((decides-polydata binary later).along new poly.new p poly.is).same ∙ same) in
    inr (p, poly.new, poly.is, inl (inr ([], poly.new, (refl, blank), ap (λ (bs : List ℕ). fault_at NoArray (length bs)) bytes))))

no_cells : (sheets : List SheetData) → All IsSheet sheets → points_of sheets ≡ [] → cells_of sheets ≡ []
no_cells sheets known none =
    no_points-no_cells (cells_of sheets) (subst (λ (ps : List Point). All (IsCell (length ps)) (cells_of sheets)) none (cells-are sheets known))

pub reads-nothing : (later binary : Bool) (digits : ℕ) (sheets : List SheetData) → AreWritable digits sheets → points_of sheets ≡ [] → Reads (mesh_text later binary digits sheets) Zero digits (Mesh empty_mesh)
reads-nothing later binary digits sheets are none =
    let all = stands-empty later binary digits (front (mesh_text later binary digits sheets)) are.few (empty-text later binary digits sheets none (no_cells sheets are.known none)) in
    (all.1.new, all.1.is)

pub stops-nothing : (later binary : Bool) (digits : ℕ) (sheets : List SheetData) → AreWritable digits sheets → points_of sheets ≡ [] → Stops (mesh_text later binary digits sheets) First digits (fault_at NoArray (length (mesh_text later binary digits sheets)))
stops-nothing later binary digits sheets are none =
    stops-empty later binary digits (front (mesh_text later binary digits sheets)) are.few (empty-text later binary digits sheets none (no_cells sheets are.known none))
