-- What the readers tell of a node (docs/FORMATS-OF-FILTERS.md, "Kinds of node").
use Rattle.std.specs.Prelude.{ℕ, if◌then◌else◌, Option, None}
use Rattle.viz_base.specs.declared.node.NodeId.{NodeId}
use Rattle.viz_kinds.specs.declared.kind.Kind.{Kind}
use Rattle.viz_kinds.specs.declared.param.Param.{Param}
use Rattle.viz_kinds.specs.declared.param.Value.{Value}
use Rattle.viz_network.specs.declared.node.Node.{Node}
use Rattle.viz_kinds.specs.Kinds.{has_port}
use Rattle.viz_kinds.specs.Settings.{kind_of, value_of}
use Rattle.viz_network.specs.Network.{input_of}

-- the kind
abbrev pub kind_at : Node → Kind
kind_at n = kind_of n.settings

-- what feeds a port; none where the kind has no such port
abbrev pub input_at : ℕ → Node → Option NodeId
input_at port n = if has_port (kind_at n) port then input_of n port else None

-- the value of a parameter; none where the kind hasn't it
abbrev pub value_at : Param → Node → Option Value
value_at param n = value_of n.settings n.release param
