-- What is made of a file is one.
use Rattle.std.proofs.Common.{◌≡◌, ℕ, List, [], ◌∷◌, length, get_or, Result, Ok, Err, sym, ap, ap₂, subst, ◌∙◌}
use Rattle.viz_dataset.specs.declared.dataset.Dataset.{Dataset}
use Rattle.viz_dataset.specs.declared.dataset.Dataset.TheVariants.{Image, Mesh}
use Rattle.viz_fraction.specs.declared.forms.Form.{Form}
use Rattle.viz_fraction.specs.Forms.{plane_form}
use Rattle.viz_meaning.specs.Tetrahedra.{sheets_of}
use Rattle.viz_mesh_write.specs.Cells.{cells_of, points_of}
use Rattle.viz_mesh_write.specs.Fits.{FitCounts, FitNumbers}
use Rattle.viz_network.specs.declared.fault.Cause.{Cause}
use Rattle.viz_network.specs.declared.fault.Cause.TheVariants.{WrongInput, TooMany, TooWide}
use Rattle.viz_network.specs.declared.fault.Fault.{Fault}
use Rattle.viz_node_meaning.specs.Data.{DataRule}
use Rattle.viz_node_meaning.specs.Rules.{IsOne}
use Rattle.viz_sheet.specs.Sheet.{SheetData}
use Rattle.viz_clip_meaning.specs.Clip.{AreTetrahedra, AreNarrowCells}
use Rattle.viz_strip.specs.Kept.{StripsAreOne}
use Rattle.viz_strip_write.specs.FitStrips.{FitStrips}
use Rattle.viz_strip_write.specs.StripText.{text_by}
use Rattle.viz_reshape.specs.declared.reshape.FileCounts.TheVariants.{Strips}
use Rattle.viz_reshape.specs.declared.reshape.Reshape.{Reshape}
use Rattle.viz_reshape.specs.declared.reshape.Reshape.TheVariants.{Strip, Clip}
use Rattle.viz_reshape.specs.declared.reshape.MadeFile.{MadeFile}
use Rattle.viz_reshape.specs.Laws.{ReshapesAreOne}
use Rattle.viz_reshape.specs.Reshape.{AreStripsWritten, Demands, HasNoTetrahedra, Is, IsCellFile, IsClipOf, IsMadeBehind, IsMadeOf, IsOfClip, IsStripFile, IsStripsOf, IsWritten, clip_of, fault_of}
use Rattle.viz_reshape.proofs.DecisionLemmas.{IsOneOf, demands-one, is-one}
use Rattle.viz_reshape.proofs.ReadingLemmas.{reading_is_one}

made-is : (x y : MadeFile) → x.text ≡ y.text → x.counts ≡ y.counts → x ≡ y
made-is x y a b = λ i. record { text = a i; counts = b i }

-- ---- strips

strip_file-one : StripsAreOne → (sheets : List SheetData) (x y : MadeFile) → IsStripFile sheets x → IsStripFile sheets y → x ≡ y
strip_file-one strips sheets x y p q =
    let same : p.is.strips ≡ q.is.strips = strips _ p.is.strips q.is.strips p.is.are q.is.are in
    made-is x y
    (p.text_is ∙ (p.is.text_is ∙ (ap (text_by (points_of sheets) (cells_of sheets)) same ∙ (sym q.is.text_is ∙ sym q.text_is))))
    (p.counts_are
    ∙ (ap₂ (λ (n m : ℕ). Strips n m (length (points_of sheets))) (p.is.strips_are ∙ (ap length same ∙ sym q.is.strips_are)) (p.is.triangles_are ∙ sym q.is.triangles_are)
    ∙ sym q.counts_are))

strips_written-one : StripsAreOne → (sheets : List SheetData) → IsOneOf (AreStripsWritten sheets)
strips_written-one strips sheets =
    demands-one (FitStrips sheets) TooMany (Demands (FitNumbers 3 sheets) TooWide (Is (IsStripFile sheets)))
    (demands-one (FitNumbers 3 sheets) TooWide (Is (IsStripFile sheets)) (is-one (IsStripFile sheets) (strip_file-one strips sheets)))

strips-one : StripsAreOne → (d : Dataset) → IsOneOf (IsStripsOf d)
strips-one strips (Image image) a b p q = p ∙ sym q
strips-one strips (Mesh sheets) a b p q =
    demands-one (HasNoTetrahedra sheets) (WrongInput 1) (AreStripsWritten sheets) (strips_written-one strips sheets) a b p q

-- ---- clips

cell_file-one : (sheets : List SheetData) (x y : MadeFile) → IsCellFile sheets x → IsCellFile sheets y → x ≡ y
cell_file-one sheets x y p q = made-is x y (p.text_is ∙ sym q.text_is) (p.counts_are ∙ sym q.counts_are)

written-one : (sheets : List SheetData) → IsOneOf (IsWritten sheets)
written-one sheets =
    demands-one (FitCounts sheets) TooMany (Demands (FitNumbers 3 sheets) TooWide (Is (IsCellFile sheets)))
    (demands-one (FitNumbers 3 sheets) TooWide (Is (IsCellFile sheets)) (is-one (IsCellFile sheets) (cell_file-one sheets)))

of_clip-one : (form : Form) (s : SheetData) → IsOneOf (IsOfClip IsWritten form s)
of_clip-one form s =
    demands-one (AreTetrahedra s) (WrongInput 1) (Demands (AreNarrowCells form s) TooWide (IsWritten (clip_of form s)))
    (demands-one (AreNarrowCells form s) TooWide (IsWritten (clip_of form s)) (written-one (clip_of form s)))

sheet-one : (sheets : List SheetData) (s t : SheetData) → sheets ≡ s ∷ [] → sheets ≡ t ∷ [] → s ≡ t
sheet-one sheets s t p q = ap (λ (l : List SheetData). get_or l 0 s) (sym p ∙ q)

clip-one : (form : Form) (sheets : List SheetData) → IsOneOf (IsClipOf form sheets)
clip-one form sheets a b p q =
    of_clip-one form q.0 a b (subst (λ (s : SheetData). IsOfClip IsWritten form s a) (sheet-one sheets p.0 q.0 p.1 q.1) p.2) q.2

-- ---- files

made-one : StripsAreOne → (reshape : Reshape) (d : Dataset) → IsOneOf (IsMadeOf reshape d)
made-one strips Strip d a b p q = strips-one strips d a b p q
made-one strips (Clip a b c k) d x y p q = clip-one (plane_form a b c k) (sheets_of d) x y p q

behind-one : StripsAreOne → (reshape : Reshape) (source op : ℕ) (read : Result Dataset Cause) (a b : Result MadeFile Fault) → IsMadeBehind reshape source op read a → IsMadeBehind reshape source op read b → a ≡ b
behind-one strips reshape source op (Err cause) a b p q = p ∙ sym q
behind-one strips reshape source op (Ok d) a b p q = p.2 ∙ (ap (fault_of op) (made-one strips reshape d p.0 q.0 p.1 q.1) ∙ sym q.2)

pub reshapes_one : IsOne DataRule → StripsAreOne → ReshapesAreOne
reshapes_one reads strips reshape source op bytes a b p q =
    let same = reading_is_one reads bytes p.0 q.0 p.1 q.1 in
    behind-one strips reshape source op q.0 a b (subst (λ (r : Result Dataset Cause). IsMadeBehind reshape source op r a) same p.2) q.2
