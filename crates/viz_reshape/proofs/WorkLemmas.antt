-- What the work on a dataset comes to.
use Rattle.std.proofs.Common.{◌≡◌, ℕ, ◌≤◌, List, [], ◌∷◌, length, Some, Result, Ok, Err, refl, sym, ap, subst, ◌∙◌, append-nil, inl, inr}
use Rattle.std.specs.List.{All}
use Rattle.std.proofs.lemmas.List.{length-map}
use Rattle.std.proofs.lemmas.List.Elements.{All-head}
use Rattle.viz_base.specs.declared.node.NodeId.{NodeId}
use Rattle.viz_base.specs.declared.node.Pick.TheVariants.{First}
use Rattle.viz_dataset.specs.declared.dataset.Dataset.{Dataset}
use Rattle.viz_fraction.specs.declared.forms.Form.{Form}
use Rattle.viz_mesh_write.specs.Cells.{cells_of, moved, points_of}
use Rattle.viz_network.specs.declared.fault.Cause.{Cause}
use Rattle.viz_network.specs.declared.fault.Cause.TheVariants.{TooWide, WrongInput}
use Rattle.viz_node_meaning.specs.Data.{IsReadingOf}
use Rattle.viz_node_meaning.specs.Scratch.{Answers}
use Rattle.viz_clip_meaning.specs.Clip.{AreNarrowCells, AreTetrahedra, ClippedData, clipped_of, sheet_of}
use Rattle.viz_sheet.specs.Ranked.{ranks_of}
use Rattle.viz_sheet.specs.Sheet.{SheetData}
use Rattle.viz_reshape.specs.declared.reshape.Reshape.{Reshape}
use Rattle.viz_reshape.specs.declared.reshape.MadeFile.{MadeFile}
use Rattle.viz_reshape.specs.declared.stop.MakeStop.{MakeStop}
use Rattle.viz_reshape.specs.declared.stop.MakeStop.TheVariants.{Cause as Caused, Memory}
use Rattle.viz_strip_write.specs.StripText.{IsFlat}
use Rattle.viz_reshape.specs.Reshape.{HasNoTetrahedra, IsClipOf, IsMadeOf, IsOfClip, IsReshaped, IsWritten}
use Rattle.viz_reshape.specs.Steps.Work.{IsClipMesh, IsOneSheet, Makes, stop_at}

-- ---- results

abbrev Decided : Type 0 → Type 0
Decided X = Result X Cause

ok_same : {X : Type 0} (x y : X) → (let r : Decided X = Ok x in r) ≡ Ok y → x ≡ y
ok_same x y e = cc

ok_is_no_err : {X : Type 0} (x : X) (cause : Cause) → (let r : Decided X = Ok x in r) ≡ Err cause → ⊥
ok_is_no_err x cause e = cc

err_is_no_ok : {X : Type 0} (x : X) (cause : Cause) → (let r : Decided X = Err cause in r) ≡ Ok x → ⊥
err_is_no_ok x cause e = cc

err_same : {X : Type 0} (a b : Cause) → (let r : Decided X = Err a in r) ≡ Err b → a ≡ b
err_same a b e = cc

-- what follows of what is made is made
makes_more : {X : Type 0} (P Q : Decided X → Type 0) → ((v : Decided X) → P v → Q v) → (r : Result X MakeStop) → Makes P r → Makes Q r
makes_more P Q more (Ok x) h = more (Ok x) h
makes_more P Q more (Err (Caused cause)) h = more (Err cause) h
makes_more P Q more (Err Memory) h = tt

-- ---- clips

abbrev IsMesh : List SheetData → Decided (List SheetData) → Type 0
IsMesh made r = r ≡ Ok made

module _ (form : Form) (s : SheetData) where
  clip_made : (made : List SheetData) (v : Decided MadeFile) → IsOfClip IsMesh form s (Ok made) → IsWritten made v → IsOfClip IsWritten form s v
  clip_made made v (inl (t, inl (n, is))) w = inl (t, inl (n, subst (λ (m : List SheetData). IsWritten m v) (ok_same made _ is) w))
  clip_made made v (inl (t, inr (n, is))) w = absurd (ok_is_no_err made TooWide is)
  clip_made made v (inr (t, is)) w = absurd (ok_is_no_err made (WrongInput 1) is)

  clip_refused : (cause : Cause) → IsOfClip IsMesh form s (Err cause) → IsOfClip IsWritten form s (Err cause)
  clip_refused cause (inl (t, inl (n, is))) = absurd (err_is_no_ok _ cause is)
  clip_refused cause (inl (t, inr (n, is))) = inl (t, inr (n, ap (λ (c : Cause). let r : Decided MadeFile = Err c in r) (err_same {X = List SheetData} cause TooWide is)))
  clip_refused cause (inr (t, is)) = inr (t, ap (λ (c : Cause). let r : Decided MadeFile = Err c in r) (err_same {X = List SheetData} cause (WrongInput 1) is))

-- the file of a clip that was made
pub clip_written : (form : Form) (sheets made : List SheetData) (r : Result MadeFile MakeStop) → IsClipMesh form sheets (Ok made) → Makes (IsWritten made) r → Makes (IsClipOf form sheets) r
clip_written form sheets made r h w =
    makes_more (IsWritten made) (IsClipOf form sheets) (λ v is. (h.0, h.1, clip_made form h.0 made v h.2 is)) r w

-- a clip that wasn't made has no file
pub clip_stopped : (form : Form) (sheets : List SheetData) (stop : MakeStop) → Makes (IsClipMesh form sheets) (Err stop) → Makes (IsClipOf form sheets) (Err stop)
clip_stopped form sheets (Caused cause) h = (h.0, h.1, clip_refused form h.0 cause h.2)
clip_stopped form sheets Memory h = tt

-- the clip of the one sheet of a mesh
pub clip_is : (form : Form) (sheets : List SheetData) (t s : SheetData) (clipped : ClippedData) (made : List SheetData) → sheets ≡ t ∷ [] → s ≡ t → AreTetrahedra s → AreNarrowCells form s
    → clipped ≡ clipped_of form s → made ≡ sheet_of clipped ∷ [] → IsClipMesh form sheets (Ok made)
clip_is form sheets t s clipped made one same tets narrow value mesh = (
  s,
  one ∙ ap (λ (x : SheetData). x ∷ []) (sym same),
  inl (tets, inl (narrow, ap (λ (l : List SheetData). let r : Decided (List SheetData) = Ok l in r) (mesh ∙ ap (λ (c : ClippedData). sheet_of c ∷ []) value))),
)

-- ---- counts of one sheet

pub cells-alone : (s : SheetData) → length s.cells ≡ length (cells_of (s ∷ []))
cells-alone s =
    sym (length-map s.cells (λ cell. moved 0 (ranks_of s.names cell))) ∙ ap length (sym (append-nil _))

pub points-alone : (s : SheetData) → length s.points ≡ length (points_of (s ∷ []))
points-alone s = ap length (sym (append-nil s.points))

-- ---- whole files

pub source_stopped : (reshape : Reshape) (source op : NodeId) (bytes : List ℕ) (stop : MakeStop) → Makes (IsReadingOf First 0 (Some bytes)) (Err stop)
    → Answers (IsReshaped reshape source.0 op.0 bytes) (Err (stop_at source stop))
source_stopped reshape source op bytes (Caused cause) h = (Err cause, h, refl)
source_stopped reshape source op bytes Memory h = tt

pub op_stopped : (reshape : Reshape) (source op : NodeId) (bytes : List ℕ) (d : Dataset) (stop : MakeStop) → IsReadingOf First 0 (Some bytes) (Ok d) → Makes (IsMadeOf reshape d) (Err stop)
    → Answers (IsReshaped reshape source.0 op.0 bytes) (Err (stop_at op stop))
op_stopped reshape source op bytes d (Caused cause) read h = (Ok d, read, (Err cause, h, refl))
op_stopped reshape source op bytes d Memory read h = tt

pub made : (reshape : Reshape) (source op : NodeId) (bytes : List ℕ) (d : Dataset) (x : MadeFile) → IsReadingOf First 0 (Some bytes) (Ok d) → IsMadeOf reshape d (Ok x)
    → IsReshaped reshape source.0 op.0 bytes (Ok x)
made reshape source op bytes d x read h = (Ok d, read, (Ok x, h, refl))

-- ---- strips

-- a mesh of one sheet of leaves without tetrahedra may be written with strips
pub is-flat : (sheets : List SheetData) → IsOneSheet sheets → HasNoTetrahedra sheets → IsFlat sheets
is-flat sheets h small = record {
  sheet = h.sheet;
  one = h.one;
  leaves = h.leaves;
  small = All-head (λ (s : SheetData). All (λ cell. length cell ≤ 3) s.cells) h.sheet [] (subst (All (λ (s : SheetData). All (λ cell. length cell ≤ 3) s.cells)) h.one small.each);
}
