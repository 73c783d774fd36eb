-- What lies upstream of a node of a network: all nodes but writers, which pass requests on to what
-- feeds them (VTK User's Guide, "The visualization pipeline").
use Rattle.std.specs.Prelude.{◌≡◌, ℕ, Bool, true, false, List, [], ◌∷◌, Option, None, Some}
use Rattle.viz_kinds.specs.declared.settings.Settings.{Settings}
use Rattle.viz_kinds.specs.declared.settings.Settings.TheVariants as settings
use Rattle.viz_network.specs.declared.node.Node.{Node}
use Rattle.viz_network.specs.Cone.{Cone, Tree, none, empty, fed, port, cone_of}
use Rattle.viz_network.specs.Network.{Network}
use Rattle.viz_plan_meaning.specs.Plan.{Upstream as Ways, none as no_way, empty as no_node}
use Rattle.viz_plan_meaning.specs.Plan.{fed as way}

-- whether a node passes requests on
abbrev pub passes : Settings → Bool
passes (settings.Writer binary digits version) = true
passes _ = false

-- the port of one that does is fed by what feeds it
abbrev pub passed : Ways → Ways → Ways
passed no_way others = no_node others
passed (no_node c) others = no_node others
passed (way m own c) others = way m own others

abbrev pub way_of : Bool → ℕ → Ways → Ways → Ways
way_of true id own others = passed own others
way_of false id own others = way id own others

-- the ports of a cone, by the nodes that have tasks
abbrev pub ways : Cone → Ways
ways none = no_way
ways (empty others) = no_node (ways others)
ways (fed n own others) = way_of (passes n.settings) n.id.0 (ways own) (ways others)

abbrev pub ways_above : Option Tree → Ways
ways_above None = no_way
ways_above (Some t) = ways t.1

-- what lies upstream of the node with this position
abbrev pub ways_at : Network → ℕ → Ways
ways_at net id = ways_above (cone_of net id)

-- the node, or what feeds it where it is a writer, and what lies upstream
abbrev pub ways_to : Network → ℕ → Ways
ways_to net id = ways (port (cone_of net id) none)

-- a node that has tasks, and what lies upstream
abbrev pub task_at : Network → ℕ → Ways
task_at net id = way id (ways_at net id) no_way

-- what feeds the first port
abbrev pub head_of : Ways → Option ℕ
head_of no_way = None
head_of (no_node c) = None
head_of (way n own c) = Some n

-- the node that requests reach, if there is one
abbrev pub reached : Network → Option ℕ → Ways
reached net None = no_node no_way
reached net (Some id) = task_at net id
