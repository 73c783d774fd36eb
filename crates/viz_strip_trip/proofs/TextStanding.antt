-- The text of a mesh with strips is a file of a mesh with its cells.
use Rattle.std.proofs.Common.{◌≡◌, ℕ, ◌^◌, ◌<◌, true, false, List, [], ◌∷◌, ◌++◌, length, map, refl, sym, ap, ap₂, subst, ◌∙◌, append_assoc, arith}
use Rattle.std.specs.Prelude.{codes, Option, None}
use Rattle.std.specs.List.{All, Contains, list_all}
use Rattle.std.proofs.lemmas.List.{length-map}
use Rattle.std.proofs.lemmas.List.Elements.{All-nil, All-cons, All-contains}
use Rattle.viz_base.specs.declared.node.Pick.TheVariants.{Zero}
use Rattle.viz_dataset.specs.declared.dataset.Dataset.{Dataset}
use Rattle.viz_dataset.specs.declared.dataset.Dataset.TheVariants.{Mesh}
use Rattle.viz_fraction.specs.Points.{Point}
use Rattle.viz_column.specs.declared.kind.Kind8.TheVariants.{I64}
use Rattle.viz_column.specs.Kinds.{fits}
use Rattle.viz_column.specs.Numbers.{Numbers}
use Rattle.viz_lex.specs.declared.fault.FileFault.{FileFault}
use Rattle.viz_lex.specs.Reading.{Reading, rest_of}
use Rattle.viz_lex.specs.Rules.{gives, IsDefinite}
use Rattle.viz_lex.proofs.DecidedLemmas.{IsDefinite-decided}
use Rattle.viz_attr.specs.Grammar.{attributes}
use Rattle.viz_mesh_read.specs.Poly.{polydata}
use Rattle.viz_mesh_read.specs.Pieces.{pieces_of, vertices_of, lines_of}
use Rattle.viz_file_mesh.specs.FileMesh.{mesh_of}
use Rattle.viz_sheet.specs.Sheet.{SheetData}
use Rattle.viz_sheet.specs.Ranked.{IsCell}
use Rattle.viz_sheet.proofs.MemberLemmas.{here, there}
use Rattle.viz_legacy_read.specs.MeshFile.{cells_by_kind}
use Rattle.viz_legacy_read.specs.File.{file}
use Rattle.viz_legacy_read.specs.Reading.{front, Reads, Stops}
use Rattle.viz_legacy_read.specs.Steps.{file_at}
use Rattle.viz_legacy_read.proofs.FileLaws.{decides-file}
use Rattle.viz_image_write.specs.ImageText.{form_line}
use Rattle.viz_mesh_write.specs.Cells.{points_of, cells_of, of_size}
use Rattle.viz_mesh_write.specs.MeshText.{scalar, title_lines, dataset_line, points_text, some_section, scalars_text}
use Rattle.viz_strip.specs.Strips.{AreStrips, IsTriangle, all_pieces}
use Rattle.viz_strip.specs.Kept.{AreSameTriangles}
use Rattle.viz_strip.proofs.KeptLemmas.{keep}
use Rattle.viz_strip.proofs.RunLemmas.{shape}
use Rattle.viz_strip_write.specs.StripText.{IsStripText, head_text, sections_text, text_by}
use Rattle.viz_strip_write.proofs.CellLemmas.{all-triangles}
use Rattle.viz_round_trip.specs.MeshTrip.{points_in_file}
use Rattle.viz_round_trip.proofs.StandingLemmas.{Stands, stands-gives, stands-follow}
use Rattle.viz_round_trip.proofs.PointStanding.{numbers_of_points, points_behind}
use Rattle.viz_round_trip.proofs.CellStanding.{AreRead}
use Rattle.viz_round_trip.proofs.PolyStanding.{some_behind}
use Rattle.viz_round_trip.proofs.MeshHeads.{StandsHere, poly_rule, stands-poly_file}
use Rattle.viz_round_trip.proofs.IndexLemmas.{cells-are, no_cells-no_points, no_points-no_cells}
use Rattle.viz_round_trip.proofs.PieceLemmas.{all-of_size, line_piece, vertex_piece, whole_size}
use Rattle.viz_round_trip.proofs.MeshTexts.{points_parts, scalars_parts, some_parts}
use Rattle.viz_round_trip.proofs.MeshStanding.{below-of, empty_text, points_fit, regrouped, scalars_fit, stands-empty}
use Rattle.viz_round_trip.proofs.AgainLemmas.{members, of_some_size, used_index}
use Rattle.viz_strip_trip.specs.StripTrip.{HasSameCells, IsReadAgain, IsStrippable}
use Rattle.viz_strip_trip.proofs.PassedStanding.{data_text, passing, stands-passed}
use Rattle.viz_strip_trip.proofs.StripStanding.{kinds_with, kinds_behind, poly_with, stands-poly}
use Rattle.viz_strip_trip.proofs.SameLemmas.{IsThree, same-cells, same-names}
use Rattle.viz_strip_trip.proofs.StripPieces.{strips-again, strips-below, strips-three}
use Rattle.viz_strip_trip.proofs.MeshAgain.{flat-none, in-read, mesh-is, read_cells, read-cells, read_sheet, same-cells-read}

-- ---- what is known of points, cells and strips

record AreFit (ps : List Point) (cs strips : List (List ℕ)) : Type 0 where
  few : length ps < 2 ^ 31
  within : list_all (fits I64) (numbers_of_points 3 ps) ≡ true
  range : list_all (fits I64) (map scalar ps) ≡ true
  cells : All (IsCell (length ps)) cs
  vertices : AreRead false (length ps) (of_size 1 cs)
  lines : AreRead false (length ps) (of_size 2 cs)
  strips_read : AreRead false (length ps) strips
  pieces : All (IsCell (length ps)) (all_pieces strips)

-- the pieces that are read
pieces-again : (n : ℕ) (cs strips : List (List ℕ)) → All (IsCell n) cs → All (IsCell n) (all_pieces strips) → pieces_of (kinds_with (of_size 1 cs) (of_size 2 cs) strips) ≡ read_cells cs (all_pieces strips)
pieces-again n cs strips are h =
    ap₂ (λ (x y : List (List ℕ)). x ++ y) (whole_size n 1 vertices_of cs (vertex_piece n) are)
    (ap₂ (λ (x y : List (List ℕ)). x ++ y) (whole_size n 2 lines_of cs (line_piece n) are) (strips-again n strips h))

-- the mesh that is read of these points, cells and strips
abbrev read_mesh : List Point → List (List ℕ) → List (List ℕ) → List SheetData
read_mesh ps cs strips = mesh_of 3 (points_in_file 3 ps) None (read_cells cs (all_pieces strips))

-- ---- polydata and its attributes

stands-all : (ps : List Point) (cs strips : List (List ℕ)) (old : Reading) (behind : List ℕ) → AreFit ps cs strips → 0 < length ps → data_text ps ≡ codes "POINT_DATA" ++ 32 ∷ behind
    → rest_of old ≡ 10 ∷ (codes "POINTS" ++ points_behind false 3 ps (kinds_behind (of_size 1 cs) (of_size 2 cs) strips behind)) → StandsHere (poly_rule false false Zero 3) old (read_mesh ps cs strips)
stands-all ps cs strips old behind fit some same e =
    let n = length ps in
    let p = points_in_file 3 ps in
    let none : Option Numbers = None in
    let a = of_size 1 cs in
    let b = of_size 2 cs in
    let kinds = kinds_with a b strips in
    let poly = stands-poly ps a b strips old behind some fit.few fit.within fit.vertices fit.lines fit.strips_read e in
    let later = poly.rest ∙ ap (λ (t : List ℕ). 10 ∷ t) (sym same) in
    let d = stands-passed ps (cells_by_kind kinds) poly.new fit.few fit.range (length-map ps scalar) later in
    let m = mesh_of 3 p none (pieces_of kinds) in
    let read = stands-follow (polydata false false) _ old (poly_with ps a b strips) m (10 ∷ (codes "POINT_DATA" ++ 32 ∷ behind)) d.0 poly
    (stands-follow (attributes (passing n (cells_by_kind kinds))) (λ picked. gives (mesh_of 3 p picked (pieces_of kinds))) poly.new none m d.0 d.0 d.1 (stands-gives m d.1.new d.0 d.1.rest)) in (
      d.0,
      subst (λ (cells : List (List ℕ)). Stands (poly_rule false false Zero 3) old (mesh_of 3 p none cells) d.0) (pieces-again n cs strips fit.cells fit.pieces) read,
    )

-- ---- the whole file

sections-parts : (cs strips : List (List ℕ)) (tail : List ℕ)
    → sections_text cs strips ++ tail ≡ some_behind false false (codes "VERTICES") (of_size 1 cs) (some_behind false false (codes "LINES") (of_size 2 cs) (some_behind false false (codes "TRIANGLE_STRIPS") strips tail))
sections-parts cs strips tail =
    let v = some_section false false (codes "VERTICES") (of_size 1 cs) in
    let l = some_section false false (codes "LINES") (of_size 2 cs) in
    let p = some_section false false (codes "TRIANGLE_STRIPS") strips in
    let behind = some_behind false false (codes "TRIANGLE_STRIPS") strips tail in
    append_assoc (v ++ l) p tail ∙ append_assoc v l (p ++ tail) ∙ ap (λ (t : List ℕ). v ++ (l ++ t)) (some_parts false false (codes "TRIANGLE_STRIPS") strips tail) ∙ ap (λ (t : List ℕ). v ++ t) (some_parts false false (codes "LINES") (of_size 2 cs) behind)
    ∙ some_parts false false (codes "VERTICES") (of_size 1 cs) _

text-parts : (ps : List Point) (c : List ℕ) (cs strips : List (List ℕ)) → text_by ps (c ∷ cs) strips ≡ title_lines false 3 ++ (form_line false ++ (dataset_line false ++ (points_text false 3 ps ++ (sections_text (c ∷ cs) strips ++ scalars_text false ps))))
unfolding text_by head_text
text-parts ps c cs strips = regrouped (title_lines false 3) (form_line false) (dataset_line false) (points_text false 3 ps) (sections_text (c ∷ cs) strips) (scalars_text false ps)

empty-parts : text_by [] [] [] ≡ empty_text false false 3
unfolding text_by head_text
empty-parts = refl

stands-with : (p : Point) (ps : List Point) (c : List ℕ) (cs strips : List (List ℕ)) (old : Reading) → AreFit (p ∷ ps) (c ∷ cs) strips → rest_of old ≡ text_by (p ∷ ps) (c ∷ cs) strips → StandsHere (file Zero 3) old (Mesh (read_mesh (p ∷ ps) (c ∷ cs) strips))
stands-with p ps c cs strips old fit e =
    let points = p ∷ ps in
    let cells = c ∷ cs in
    let tail = ap (λ (t : List ℕ). sections_text cells strips ++ t) (scalars_parts false p ps) ∙ sections-parts cells strips (data_text points) in
    let behind = points_text false 3 points ++ (sections_text cells strips ++ scalars_text false points) in
    let lines = ap (λ (t : List ℕ). points_text false 3 points ++ t) tail ∙ points_parts false 3 points _ in
    stands-poly_file false false 3 Zero 3 old _ behind (omega arith) (e ∙ text-parts points c cs strips) (λ new rest.
    stands-all points cells strips new _ fit (omega arith) refl (rest ∙ ap (λ (t : List ℕ). 10 ∷ t) lines))

-- ---- any points and cells

no-strips : (strips : List (List ℕ)) → AreStrips [] strips → strips ≡ []
no-strips [] are = refl
no-strips (s ∷ strips) are = let e : [] ≡ are.0 ∷ are.1 = are.3 in absurd cc

reads-nothing : (strips : List (List ℕ)) (text : List ℕ) → strips ≡ [] → text ≡ text_by [] [] strips → Reads text Zero 3 (Mesh (read_mesh [] [] strips))
reads-nothing strips text none e =
    let here : text ≡ empty_text false false 3 = e ∙ ap (text_by [] []) none ∙ empty-parts in
    let all = stands-empty false false 3 (front text) (omega arith) here in
    subst (λ (s : List (List ℕ)). Reads text Zero 3 (Mesh (read_mesh [] [] s))) (sym none) (all.1.new, all.1.is)

reads-by : (ps : List Point) (cs strips : List (List ℕ)) (text : List ℕ) → AreFit ps cs strips → AreStrips (of_size 3 cs) strips → (cs ≡ [] → ps ≡ []) → text ≡ text_by ps cs strips → Reads text Zero 3 (Mesh (read_mesh ps cs strips))
reads-by [] [] strips text fit are some e = reads-nothing strips text (no-strips strips are) e
reads-by [] (c ∷ cs) strips text fit are some e = let none = no_points-no_cells (c ∷ cs) fit.cells in absurd cc
reads-by (p ∷ ps) [] strips text fit are some e = let none = some refl in absurd cc
reads-by (p ∷ ps) (c ∷ cs) strips text fit are some e =
    let all = stands-with p ps c cs strips (front text) fit e in
    (all.1.new, all.1.is)

-- ---- sheets

all-of : (P : List ℕ → Type 0) (ts : List (List ℕ)) → ((t : List ℕ) → Contains ts t → P t) → All P ts
all-of P [] h = All-nil P
all-of P (t ∷ ts) h = All-cons P t ts (h t (here t ts)) (all-of P ts (λ s c. h s (there t ts s c)))

-- the strips of a mesh have its triangles, each as often, and these are cells
record KeepCells (sheets : List SheetData) (strips : List (List ℕ)) : Type 0 where
  are : All (IsCell (length (points_of sheets))) (cells_of sheets)
  same : AreSameTriangles (of_size 3 (cells_of sheets)) (all_pieces strips)
  pieces : All (IsCell (length (points_of sheets))) (all_pieces strips)

keep-cells : (sheets : List SheetData) (strips : List (List ℕ)) → IsStrippable sheets → AreStrips (of_size 3 (cells_of sheets)) strips → KeepCells sheets strips
keep-cells sheets strips may strips_are =
    let n = length (points_of sheets) in
    let cells = cells_of sheets in
    let triangles = of_size 3 cells in
    let known = cells-are sheets may.known in
    let kept = keep triangles strips (all-triangles n cells known) strips_are in
    let threes = strips-three strips in
    record {
      are = known;
      same = kept.same;
      pieces = all-of (IsCell n) (all_pieces strips) (λ t c. same-cells n triangles (all_pieces strips) kept.same (all-of_size (IsCell n) 3 cells known) t (All-contains IsThree (all_pieces strips) t threes c) c);
    }

fit-from : (sheets : List SheetData) (strips : List (List ℕ)) → IsStrippable sheets → AreStrips (of_size 3 (cells_of sheets)) strips → KeepCells sheets strips → AreFit (points_of sheets) (cells_of sheets) strips
fit-from sheets strips may strips_are k =
    let n = length (points_of sheets) in
    let cells = cells_of sheets in
    record {
      few = may.counts.few;
      within = points_fit 3 (points_of sheets) may.numbers.coordinates.each;
      range = scalars_fit (points_of sheets) may.numbers.scalars.each;
      cells = k.are;
      vertices = record { small = may.counts.vertices; below = below-of n (of_size 1 cells) (all-of_size (IsCell n) 1 cells k.are); some = tt };
      lines = record { small = may.counts.lines; below = below-of n (of_size 2 cells) (all-of_size (IsCell n) 2 cells k.are); some = tt };
      strips_read = record { small = may.counts.strips strips strips_are; below = strips-below n (of_size 3 cells) strips strips_are k.pieces; some = tt };
      pieces = k.pieces;
    }

triangle-three : (t : List ℕ) → IsTriangle t → IsThree t
triangle-three t is = let s = shape t is in record { a = s.0; b = s.1; c = s.2; is = s.3 }

-- each point has a cell that is read
used-again : (sheets : List SheetData) (strips : List (List ℕ)) → IsStrippable sheets → KeepCells sheets strips → (i : ℕ) → i < length (points_of sheets) → Contains (members (read_cells (cells_of sheets) (all_pieces strips))) i
used-again sheets strips may k i lt =
    let n = length (points_of sheets) in
    let cells = cells_of sheets in
    let triangles = of_size 3 cells in
    let used = of_some_size n cells i k.are (flat-none sheets may.flat) (used_index sheets i may.known lt) in
    in-read cells (all_pieces strips) i used.size used.some used.most
    (λ h. same-names triangles (all_pieces strips) k.same (λ t c. triangle-three t (All-contains IsTriangle triangles t (all-triangles n cells k.are) c)) i h) used.member

pub reads-strips : (sheets : List SheetData) (text : List ℕ) → IsStrippable sheets → IsStripText sheets text → IsReadAgain sheets text
reads-strips sheets text may is =
    let ps = points_of sheets in
    let cells = cells_of sheets in
    let pieces = all_pieces is.strips in
    let k = keep-cells sheets is.strips may is.are in
    let read = reads-by ps cells is.strips text (fit-from sheets is.strips may is.are k) is.are (no_cells-no_points sheets may.known) is.text_is in
    let same = mesh-is ps (read_cells cells pieces) (read-cells (length ps) cells pieces k.are k.pieces) (used-again sheets is.strips may k) in
    record {
      again = read_sheet ps (read_cells cells pieces) ∷ [];
      reads = subst (λ (m : List SheetData). Reads text Zero 3 (Mesh m)) (sym same) read;
      same = same-cells-read sheets pieces k.are k.pieces (strips-three is.strips) k.same;
    }

-- ---- nothing else

one-answer : IsDefinite (file Zero 3)
one-answer = IsDefinite-decided (file Zero 3) (file_at Zero 3) (decides-file Zero 3)

pub reads-only : (sheets : List SheetData) (text : List ℕ) (d : Dataset) → IsStrippable sheets → IsStripText sheets text → Reads text Zero 3 d → (again : List SheetData) × (d ≡ Mesh again) × HasSameCells sheets again
reads-only sheets text d may is found =
    let read = reads-strips sheets text may is in
    (read.again, (one-answer.one (front text) found.0 read.reads.0 d (Mesh read.again) found.1 read.reads.1).0, read.same)

pub reads-no_fault : (sheets : List SheetData) (text : List ℕ) (fault : FileFault) → IsStrippable sheets → IsStripText sheets text → ¬ Stops text Zero 3 fault
reads-no_fault sheets text fault may is stops =
    let read = reads-strips sheets text may is in
    one-answer.not_both (front text) read.reads.0 (Mesh read.again) fault read.reads.1 stops
