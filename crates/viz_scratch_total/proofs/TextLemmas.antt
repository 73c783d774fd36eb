-- It is decided whether a dataset has a text.
use Rattle.std.proofs.Common.{
  ℕ,
  suc,
  ◌^◌,
  ◌<◌,
  ℤ,
  pos,
  negsuc,
  inl,
  inr,
  List,
  length,
  Result,
  Ok,
  Err,
  refl,
  subst,
}
use Rattle.std.specs.Int.{w64}
use Rattle.std.specs.Prelude.{FitsSigned, unsigned_abs}
use mir.Val.{hbits}
use Rattle.viz_dataset.specs.Images.{IsPosition, corner}
use Rattle.viz_dataset.specs.declared.dataset.Dataset.{Dataset}
use Rattle.viz_dataset.specs.declared.dataset.Dataset.TheVariants.{Image, Mesh}
use Rattle.viz_fraction.specs.Points.{Point}
use Rattle.viz_mesh_write.specs.Cells.{cells_of, points_of}
use Rattle.viz_mesh_write.specs.Fits.{FitRows, FitsRow, sections_of}
use Rattle.viz_mesh_write.specs.MeshText.{coordinates, scalars, size_of}
use Rattle.viz_network.specs.Cone.{cone_of}
use Rattle.viz_network.specs.History.{net_of}
use Rattle.viz_network.specs.declared.fault.Cause.TheVariants.{TooMany, TooWide}
use Rattle.viz_network.specs.declared.fault.Fault.{Fault}
use Rattle.viz_network.specs.declared.node.Node.{Node}
use Rattle.viz_network.proofs.TaleLemmas.{node_id}
use Rattle.viz_node_total.specs.Laws.{HistoriesHaveBytes, NodesGive}
use Rattle.viz_node_total.proofs.DecidedLemmas.{
  IsDecided,
  all_decided,
  both_decided,
  least_decided,
  like_decided,
}
use Rattle.viz_scratch.specs.Written.{
  HasFewCounts,
  HasFitNumbers,
  IsTextBehind,
  IsTextOf,
  Style,
  style_of,
  text_with,
}
use Rattle.viz_scratch_total.specs.Laws.{FilesAreGiven, HistoriesHaveFiles}

-- ---- counts

few_decided : (d : Dataset) → IsDecided (HasFewCounts d)
few_decided (Image i) = inl tt
few_decided (Mesh sheets) =
    like_decided (λ h. record { points = h.0; sizes = h.1 }) (λ h. (h.points, h.sizes))
    (both_decided (least_decided (suc (length (points_of sheets))) (2 ^ 31))
    (all_decided (λ cells. size_of cells < 2 ^ 31)
    (λ cells. least_decided (suc (size_of cells)) (2 ^ 31)) (sections_of (cells_of sheets))))

-- ---- numbers

number_decided : (n : ℤ) → IsDecided (FitsSigned w64 n)
number_decided (pos n) =
    like_decided (λ h. record { sfits = h }) (λ h. h.sfits)
    (least_decided (suc n) (2 ^ hbits w64))
number_decided (negsuc n) =
    like_decided (λ h. record { sfits = h }) (λ h. h.sfits)
    (least_decided (suc n) (2 ^ hbits w64))

row_decided : (row : List ℤ) → IsDecided (FitsRow row)
row_decided row =
    like_decided (λ h. record { each = h }) (λ h. h.each)
    (all_decided (λ n. FitsSigned w64 n) number_decided row)

rows_decided : (numbers : Point → List ℤ) (points : List Point)
    → IsDecided (FitRows numbers points)
rows_decided numbers points =
    like_decided (λ h. record { each = h }) (λ h. h.each)
    (all_decided (λ p. FitsRow (numbers p)) (λ p. row_decided (numbers p)) points)

numbers_decided : (style : Style) (d : Dataset) → IsDecided (HasFitNumbers style d)
numbers_decided style (Image i) =
    let at = corner i in
    let three : Type 0 = IsPosition at.x × (IsPosition at.y × IsPosition at.z) in
    like_decided {P = three} (λ h. record { x = h.0; y = h.1.0; z = h.1.1 })
    (λ h. (h.x, (h.y, h.z)))
    (both_decided (least_decided (unsigned_abs at.x) (10 ^ 27))
    (both_decided (least_decided (unsigned_abs at.y) (10 ^ 27))
    (least_decided (unsigned_abs at.z) (10 ^ 27))))
numbers_decided style (Mesh sheets) =
    like_decided (λ h. record { coordinates = h.0; scalars = h.1 })
    (λ h. (h.coordinates, h.scalars))
    (both_decided (rows_decided (coordinates style.digits) (points_of sheets))
    (rows_decided scalars (points_of sheets)))

-- ---- texts

text_decided : (style : Style) (n : Node) (d : Dataset) → IsDecided (HasFewCounts d)
    → IsDecided (HasFitNumbers style d)
    → (r : Result (List ℕ) Fault) × IsTextOf style n.id.0 d r
text_decided style n d (inl few) (inl fit) =
    (Ok (text_with style d), (few, fit, refl))
text_decided style n d (inl few) (inr wide) =
    (Err (record { node = n.id; cause = TooWide }), (refl, (few, wide)))
text_decided style n d (inr many) fit =
    (Err (record { node = n.id; cause = TooMany }), (refl, many))

text_behind : (style : Style) (n : Node) (s : Result Dataset Fault)
    → (r : Result (List ℕ) Fault) × IsTextBehind style n.id.0 s r
text_behind style n (Ok d) = text_decided style n d (few_decided d) (numbers_decided style d)
text_behind style n (Err fault) = (Err fault, refl)

pub files_given : NodesGive → FilesAreGiven
files_given nodes net id n bytes e =
    let s = nodes net id n bytes e in
    let style = style_of (cone_of net id) in
    let text : (r : Result (List ℕ) Fault) × IsTextBehind style id s.0 r =
    subst (λ (k : ℕ). (r : Result (List ℕ) Fault) × IsTextBehind style k s.0 r)
    (node_id net id n e) (text_behind style n s.0) in
    (text.0, (s.0, s.1, text.1))

pub histories_have_files : FilesAreGiven → HistoriesHaveBytes → HistoriesHaveFiles
histories_have_files files bytes edits id n loads e =
    files (net_of edits) id n (bytes edits loads) e
