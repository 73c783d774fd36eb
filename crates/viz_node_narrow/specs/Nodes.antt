-- At which nodes no number of a section is wide (docs/FORMATS-OF-FILTERS.md, "Exact points").
use Rattle.std.specs.Prelude.{List, Option, None, Some, Ok}
use Rattle.viz_dataset.specs.declared.dataset.Dataset.{Dataset}
use Rattle.viz_fraction.specs.declared.forms.Form.{Form}
use Rattle.viz_kinds.specs.declared.settings.Settings.{Settings}
use Rattle.viz_kinds.specs.declared.settings.Settings.TheVariants as settings
use Rattle.viz_meaning.specs.Narrow.{AreNarrowSections}
use Rattle.viz_meaning.specs.Tetrahedra.{sheets_of}
use Rattle.viz_network.specs.Cone.{Cone, Tree, none, empty, fed}
use Rattle.viz_network.specs.declared.node.Node.{Node}
use Rattle.viz_node_division.specs.Exact.{ExactRule}
use Rattle.viz_node_meaning.specs.Data.{DataRule, contour_forms, cut_forms}
use Rattle.viz_node_meaning.specs.Fold.{AreGiven, IsGiven}
use Rattle.viz_node_meaning.specs.Information.{fed_at}
use Rattle.viz_node_meaning.specs.Rules.{Inputs}

-- no number of the sections by forms of what feeds a port is wide
abbrev pub AreNarrowOf : List Form → Option Dataset → Type 0
AreNarrowOf forms None = Unit {0}
AreNarrowOf forms (Some d) = AreNarrowSections forms (sheets_of d)

-- so it is of the sections that a node with these parameters makes, if it makes any
abbrev pub IsNarrowOf : Settings → Option Dataset → Type 0
IsNarrowOf (settings.Contour count levels) port = AreNarrowOf (contour_forms count levels) port
IsNarrowOf (settings.Cut a b c r) port = AreNarrowOf (cut_forms a b c r) port
IsNarrowOf _ port = Unit {0}

-- so it is at a node, of what feeds it by the exact rule
pub record IsNarrowAt (n : Node) (ports : Cone) : Type 0 where
  pub each : (inputs : Inputs Dataset) → AreGiven ExactRule ports (Ok inputs)
      → IsNarrowOf n.settings (fed_at 1 inputs)

-- and at all nodes upstream of ports
abbrev pub AreNarrowAt : Cone → Type 0
AreNarrowAt none = Unit {0}
AreNarrowAt (empty others) = AreNarrowAt others
AreNarrowAt (fed n own others) = IsNarrowAt n own × AreNarrowAt own × AreNarrowAt others

-- at the foot of a cone, and at all nodes upstream of it
abbrev pub IsNarrowCone : Option Tree → Type 0
IsNarrowCone None = Unit {0}
IsNarrowCone (Some t) = IsNarrowAt t.0 t.1 × AreNarrowAt t.1

-- ---- laws

-- where it is, what is given by the exact rule the data come to
abbrev pub NarrowAreGiven : Type 0
NarrowAreGiven =
    (cone : Option Tree) (whole : Dataset) → IsGiven ExactRule cone (Ok whole)
    → IsNarrowCone cone → IsGiven DataRule cone (Ok whole)

-- and so it is where the data come to a dataset
abbrev pub GivenAreNarrow : Type 0
GivenAreNarrow =
    (cone : Option Tree) (whole : Dataset) → IsGiven DataRule cone (Ok whole)
    → IsNarrowCone cone
