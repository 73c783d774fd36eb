-- The exact rule has one result, and makes what the data rule makes.
use Rattle.std.proofs.Common.{◌≡◌, ℕ, List, Option, None, Some, Result, Ok, Err, sym, ap, ◌∙◌}
use Rattle.viz_dataset.specs.declared.dataset.Dataset.{Dataset}
use Rattle.viz_fraction.specs.declared.forms.Form.{Form}
use Rattle.viz_kinds.specs.declared.settings.Settings.{Settings}
use Rattle.viz_kinds.specs.declared.settings.Settings.TheVariants as settings
use Rattle.viz_network.specs.declared.fault.Cause.{Cause}
use Rattle.viz_network.specs.declared.node.Node.{Node}
use Rattle.viz_node_meaning.specs.Data.{
  DataRule,
  IsEvaluated,
  IsMadeWith,
  IsSectionOf,
  all_information,
  contour_forms,
  cut_forms,
}
use Rattle.viz_node_meaning.specs.Information.{fed_at, filter_information}
use Rattle.viz_node_meaning.specs.Rules.{Inputs, IsOne}
use Rattle.viz_node_meaning.specs.declared.information.Information.{Information}
use Rattle.viz_node_division.specs.Exact.{ExactRule, IsExact, IsExactSectionOf}

-- ---- one result

section_one : (forms : List Form) (port : Option Dataset) (a b : Result Dataset Cause)
    → IsExactSectionOf forms port a → IsExactSectionOf forms port b → a ≡ b
section_one forms None a b p q = absurd p
section_one forms (Some d) (Ok a) (Ok b) p q = ap (λ (w : Dataset). Ok w) (p ∙ sym q)
section_one forms (Some d) (Ok a) (Err cause) p q = absurd q
section_one forms (Some d) (Err cause) b p q = absurd p

with_one : (i : Result Information Cause) (P : Result Dataset Cause → Type 0)
    → ((a b : Result Dataset Cause) → P a → P b → a ≡ b)
    → (a b : Result Dataset Cause) → IsMadeWith i P a → IsMadeWith i P b → a ≡ b
with_one (Ok i) P one a b p q = one a b p q
with_one (Err cause) P one a b p q = p ∙ sym q

row_one : (s : Settings) (file : Option (List ℕ)) (inputs : Inputs Dataset)
    → ((a b : Result Dataset Cause) → IsEvaluated s file inputs a → IsEvaluated s file inputs b → a ≡ b)
    → (a b : Result Dataset Cause) → IsExact s file inputs a → IsExact s file inputs b → a ≡ b
row_one (settings.Contour count levels) file inputs one a b p q =
    with_one (filter_information (settings.Contour count levels) (all_information inputs))
    (IsExactSectionOf (contour_forms count levels) (fed_at 1 inputs))
    (section_one (contour_forms count levels) (fed_at 1 inputs)) a b p q
row_one (settings.Cut x y z r) file inputs one a b p q =
    with_one (filter_information (settings.Cut x y z r) (all_information inputs))
    (IsExactSectionOf (cut_forms x y z r) (fed_at 1 inputs))
    (section_one (cut_forms x y z r) (fed_at 1 inputs)) a b p q
row_one (settings.File array unit) file inputs one a b p q = one a b p q
row_one (settings.Crop x0 x1 y0 y1 z0 z1) file inputs one a b p q = one a b p q
row_one (settings.Sample x y z) file inputs one a b p q = one a b p q
row_one (settings.Threshold lo hi) file inputs one a b p q = one a b p q
row_one (settings.Smooth radius) file inputs one a b p q = one a b p q
row_one (settings.Arith op) file inputs one a b p q = one a b p q
row_one settings.Tets file inputs one a b p q = one a b p q
row_one (settings.Select lo hi all) file inputs one a b p q = one a b p q
row_one settings.Append file inputs one a b p q = one a b p q
row_one settings.Boundary file inputs one a b p q = one a b p q
row_one settings.Merge file inputs one a b p q = one a b p q
row_one (settings.Writer binary digits version) file inputs one a b p q = one a b p q

pub exact_one : IsOne DataRule → IsOne ExactRule
exact_one one n inputs a b p q =
    row_one n.settings n.file inputs (λ c d x y. one n inputs c d x y) a b p q

-- ---- what the data rule makes

section_also : (forms : List Form) (port : Option Dataset) (w : Dataset)
    → IsSectionOf forms port (Ok w) → IsExactSectionOf forms port (Ok w)
section_also forms None w m = absurd m
section_also forms (Some d) w m = m.1

with_also : (i : Result Information Cause) (P Q : Result Dataset Cause → Type 0) (w : Dataset)
    → (P (Ok w) → Q (Ok w)) → IsMadeWith i P (Ok w) → IsMadeWith i Q (Ok w)
with_also (Ok i) P Q w also m = also m
with_also (Err cause) P Q w also m = m

row_also : (s : Settings) (file : Option (List ℕ)) (inputs : Inputs Dataset) (w : Dataset)
    → IsEvaluated s file inputs (Ok w) → IsExact s file inputs (Ok w)
row_also (settings.Contour count levels) file inputs w m =
    with_also (filter_information (settings.Contour count levels) (all_information inputs))
    (IsSectionOf (contour_forms count levels) (fed_at 1 inputs))
    (IsExactSectionOf (contour_forms count levels) (fed_at 1 inputs)) w
    (section_also (contour_forms count levels) (fed_at 1 inputs) w) m
row_also (settings.Cut x y z r) file inputs w m =
    with_also (filter_information (settings.Cut x y z r) (all_information inputs))
    (IsSectionOf (cut_forms x y z r) (fed_at 1 inputs))
    (IsExactSectionOf (cut_forms x y z r) (fed_at 1 inputs)) w
    (section_also (cut_forms x y z r) (fed_at 1 inputs) w) m
row_also (settings.File array unit) file inputs w m = m
row_also (settings.Crop x0 x1 y0 y1 z0 z1) file inputs w m = m
row_also (settings.Sample x y z) file inputs w m = m
row_also (settings.Threshold lo hi) file inputs w m = m
row_also (settings.Smooth radius) file inputs w m = m
row_also (settings.Arith op) file inputs w m = m
row_also settings.Tets file inputs w m = m
row_also (settings.Select lo hi all) file inputs w m = m
row_also settings.Append file inputs w m = m
row_also settings.Boundary file inputs w m = m
row_also settings.Merge file inputs w m = m
row_also (settings.Writer binary digits version) file inputs w m = m

pub node_also : (n : Node) (inputs : Inputs Dataset) (w : Dataset) → DataRule n inputs (Ok w)
    → ExactRule n inputs (Ok w)
node_also n inputs w m = row_also n.settings n.file inputs w m
