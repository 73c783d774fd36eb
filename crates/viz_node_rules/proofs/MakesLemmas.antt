-- What one node makes, step by step.
use Rattle.std.proofs.Common.{◌≡◌, ℕ, List, [], ◌∷◌, Option, None, Some, Result, Ok, Err, IfOk, OnOk, refl, sym, ap, subst, ◌∙◌}
use Rattle.viz_base.specs.declared.node.Pick.{Pick}
use Rattle.viz_dataset.specs.declared.dataset.Dataset.{Dataset}
use Rattle.viz_dataset.specs.declared.dataset.Dataset.TheVariants.{Mesh}
use Rattle.viz_fraction.specs.declared.forms.Form.{Form}
use Rattle.viz_legacy_read.specs.Reading.{Reads, IsStop}
use Rattle.viz_legacy_read.specs.declared.stop.ReadStop.{ReadStop}
use Rattle.viz_legacy_read.specs.declared.stop.ReadStop.TheVariants.{File, Memory}
use Rattle.viz_meaning.specs.Narrow.{AreNarrowSections}
use Rattle.viz_meaning.specs.Section.{sections_of}
use Rattle.viz_meaning.specs.Tetrahedra.{sheets_of}
use Rattle.viz_meaning.specs.declared.stop.WorkStop.{WorkStop}
use Rattle.viz_meaning.specs.declared.stop.WorkStop.TheVariants as work
use Rattle.viz_sheet.specs.Sheet.{SheetData}
use Rattle.viz_network.specs.declared.fault.Cause.{Cause}
use Rattle.viz_node_rules.specs.declared.stop.OwnStop.{OwnStop}
use Rattle.viz_node_rules.specs.declared.stop.OwnStop.TheVariants as own
use Rattle.viz_node_meaning.specs.Data.{IsReadingOf, IsSection}
use Rattle.viz_node_rules.specs.Makes.{Makes}
use Rattle.viz_node_rules.specs.Steps.Made.{IsContouredBy, IsShared, of_read, sectioned_of}

-- a file that is read
pub file_read : (file : Option (List ℕ)) (bytes : List ℕ) (array : Pick) (u v : ℕ) (d : Dataset) → file ≡ Some bytes → u ≡ v → Reads bytes array u d → IsReadingOf array v file (Ok d)
file_read file bytes array u v d is same reads = subst (λ f. IsReadingOf array v f (Ok d)) (sym is) (subst (λ w. Reads bytes array w d) same reads)

stopped : (bytes : List ℕ) (array : Pick) (u : ℕ) (s : ReadStop) → IsStop bytes array u s → Makes (IsReadingOf array u (Some bytes)) (Err (of_read s))
stopped bytes array u (File fault) h = (fault, h, refl)
stopped bytes array u Memory h = tt

-- a file that has a fault
pub file_stopped : (file : Option (List ℕ)) (bytes : List ℕ) (array : Pick) (u v : ℕ) (s : ReadStop) → file ≡ Some bytes → u ≡ v → IsStop bytes array u s → Makes (IsReadingOf array v file) (Err (of_read s))
file_stopped file bytes array u v s is same stops =
    subst (λ f. Makes (IsReadingOf array v f) (Err (of_read s))) (sym is) (subst (λ w. Makes (IsReadingOf array w (Some bytes)) (Err (of_read s))) same (stopped bytes array u s stops))

-- what a section comes to
pub record IsSectioned (forms : List Form) (sheets : List SheetData) (r : Result (List SheetData) WorkStop) : Type 0 where
  pub value : IfOk r (λ m. m ≡ sections_of forms sheets)
  pub narrow : OnOk r (AreNarrowSections forms sheets)
  pub too_wide : r ≡ Err work.TooWide → AreNarrowSections forms sheets → ⊥

-- the contour of a dataset
pub contour_makes : (forms : List Form) (d : Dataset) (r : Result (List SheetData) WorkStop) → IsSectioned forms (sheets_of d) r → Makes (IsContouredBy forms (Some d)) (sectioned_of r)
contour_makes forms d (Ok sheets) h = (h.narrow, ap (λ (m : List SheetData). Mesh m) h.value)
contour_makes forms d (Err work.TooWide) h = (h.too_wide refl, refl)
contour_makes forms d (Err work.Memory) h = tt

-- what is shared is what was made
pub shared_makes : (rule : Result Dataset Cause → Type 0) (made result : Result Dataset OwnStop) → IsShared made result → Makes rule made → Makes rule result
shared_makes rule made (Ok d) is h = subst (Makes rule) is h
shared_makes rule made (Err (own.Cause cause)) is h = subst (Makes rule) is h
shared_makes rule made (Err own.Memory) is h = tt

pub shared_sound : (P : Dataset → Type 0) (made result : Result Dataset OwnStop) → IsShared made result → IfOk made P → IfOk result P
shared_sound P made (Ok d) is h = subst (λ r. IfOk r P) is h
shared_sound P made (Err stop) is h = tt

-- a rule that follows from another
pub makes_more : (rule more : Result Dataset Cause → Type 0) → ((r : Result Dataset Cause) → rule r → more r) → (result : Result Dataset OwnStop) → Makes rule result → Makes more result
makes_more rule more f (Ok d) h = f (Ok d) h
makes_more rule more f (Err (own.Cause cause)) h = f (Err cause) h
makes_more rule more f (Err own.Memory) h = tt
