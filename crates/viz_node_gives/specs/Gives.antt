-- A node whose information is told and whose file is read gives a dataset in whole numbers without
-- bound (VTK User's Guide, "The visualization pipeline": the data pass; docs/FORMATS-OF-FILTERS.md,
-- "Exact points").
use Rattle.std.specs.Prelude.{ℕ, List, [], ◌∷◌, Option, None, Some, Ok}
use Rattle.viz_dataset.specs.declared.dataset.Dataset.{Dataset}
use Rattle.viz_kinds.specs.declared.settings.Settings.{Settings}
use Rattle.viz_kinds.specs.declared.settings.Settings.TheVariants as settings
use Rattle.viz_network.specs.Cone.{Cone}
use Rattle.viz_network.specs.declared.node.Node.{Node}
use Rattle.viz_node_division.specs.Divided.{Divided, IsMadeOf}
use Rattle.viz_node_division.specs.Laws.{AreDivided}
use Rattle.viz_node_meaning.specs.Data.{IsReadingOf, unit_with}
use Rattle.viz_node_meaning.specs.Fold.{IsGiven}
use Rattle.viz_node_meaning.specs.Information.{InformationRule}
use Rattle.viz_node_meaning.specs.Rules.{Inputs}
use Rattle.viz_node_meaning.specs.declared.information.Information.{Information}
use Rattle.viz_node_total.specs.Files.{IsValid}

-- the node has no file, or one that is read
abbrev pub HasReading : Settings → Option (List ℕ) → Type 0
HasReading (settings.File array unit) file =
    (whole : Dataset) × IsReadingOf array (unit_with unit) file (Ok whole)
HasReading _ file = Unit {0}

-- so what feeds each port
abbrev pub AreValid : Inputs Divided → Type 0
AreValid [] = Unit {0}
AreValid (None ∷ inputs) = AreValid inputs
AreValid (Some d ∷ inputs) = IsValid d.whole × AreValid inputs

-- of what feeds it such a node makes a dataset, shared out somehow
abbrev pub NodesMakeExact : Type 0
NodesMakeExact =
    (n : Node) (cone : Cone) (inputs : Inputs Divided) (i : Information)
    → IsGiven InformationRule (Some (n, cone)) (Ok i) → AreDivided cone inputs → AreValid inputs
    → HasReading n.settings n.file → (made : Divided) × IsMadeOf n.settings n.file inputs made
