-- What an edit makes of a network, or why it is refused (docs/FORMATS-OF-SCRIPTS.md, "Edits").
use Rattle.std.specs.Prelude.{ℕ, ◌-◌, Bool, true, false, not, nat_eq, nat_le, ◌||◌, if◌then◌else◌}
use Rattle.std.specs.Prelude.{List, [], ◌∷◌, ◌++◌, length, replicate, slice_set, Option, None}
use Rattle.std.specs.Prelude.{Some, is_some, Result, Ok, Err}
use Rattle.std.specs.Option.{option_map_or}
use Rattle.viz_base.specs.declared.node.NodeId.{NodeId}
use Rattle.viz_kinds.specs.declared.kind.Kind.{Kind}
use Rattle.viz_kinds.specs.declared.kind.Kind.TheVariants as kind
use Rattle.viz_kinds.specs.declared.param.Param.{Param}
use Rattle.viz_kinds.specs.declared.param.Value.{Value}
use Rattle.viz_network.specs.declared.node.Node.{Node}
use Rattle.viz_network.specs.declared.edit.Edit.{Edit}
use Rattle.viz_network.specs.declared.edit.Edit.TheVariants.{Add, Remove, Connect, Disconnect, Set}
use Rattle.viz_network.specs.declared.edit.Edit.TheVariants.{Load}
use Rattle.viz_network.specs.declared.refusal.Refusal.{Refusal}
use Rattle.viz_network.specs.declared.refusal.Refusal.TheVariants.{Exists, Unknown, NoPort}
use Rattle.viz_network.specs.declared.refusal.Refusal.TheVariants.{NoParam, BadValue, WouldCycle}
use Rattle.viz_network.specs.declared.refusal.Refusal.TheVariants.{InUse, TooManyNodes}
use Rattle.viz_kinds.specs.Kinds.{has_port, has_param}
use Rattle.viz_kinds.specs.Values.{is_value}
use Rattle.viz_kinds.specs.Settings.{defaults, kind_of, with, release_with}
use Rattle.viz_network.specs.Network.{Network, named, change, without}
use Rattle.viz_network.specs.Cone.{nodes_limit, cone_of, has_node}

-- a new node
abbrev pub fresh : ℕ → Kind → Node
fresh at kind = record {
  id = record { 0 = at };
  settings = defaults kind;
  release = false;
  inputs = replicate 8 None;
  file = None;
  stamp = at;
}

-- the node with another connection, or none, at a port
abbrev pub connected : ℕ → ℕ → Option NodeId → Node → Node
connected at port from n = record {
  id = n.id;
  settings = n.settings;
  release = n.release;
  inputs = slice_set n.inputs (port - 1) from;
  file = n.file;
  stamp = at;
}

-- the node with another value of a parameter
abbrev pub valued : ℕ → Param → Value → Node → Node
valued at param value n = record {
  id = n.id;
  settings = with n.settings param value;
  release = release_with n.release param value;
  inputs = n.inputs;
  file = n.file;
  stamp = at;
}

-- the node with a file
abbrev pub loaded : ℕ → List ℕ → Node → Node
loaded at bytes n =
    record {
      id = n.id;
      settings = n.settings;
      release = n.release;
      inputs = n.inputs;
      file = Some bytes;
      stamp = at;
    }

-- the node of this name, or a refusal
abbrev pub known : Network → List ℕ → (Node → Result Network Refusal) → Result Network Refusal
known net name f = option_map_or f (named net name) (Err Unknown)

-- the network, unless it is refused so
abbrev pub unless : Bool → Refusal → Result Network Refusal → Result Network Refusal
unless b r done = if b then Err r else done

-- whether a port is connected to the node
abbrev pub is_input : ℕ → List (Option NodeId) → Bool
is_input id [] = false
is_input id (None ∷ inputs) = is_input id inputs
is_input id (Some from ∷ inputs) = nat_eq id from.0 || is_input id inputs

-- whether some port of the network is connected to the node
abbrev pub is_used : ℕ → Network → Bool
is_used id [] = false
is_used id (n ∷ net) = is_input id n.1.inputs || is_used id net

-- whether files are loaded into nodes of the kind
abbrev pub is_file : Kind → Bool
is_file kind.File = true
is_file _ = false

-- what the network is after the edit at this position of the history
abbrev pub apply : ℕ → Edit → Network → Result Network Refusal
apply at (Add kind name) net = unless (is_some (named net name)) Exists
    (unless (nat_le nodes_limit (length net)) TooManyNodes (Ok (net ++ (name, fresh at kind) ∷ [])))
apply at (Remove name) net = known net name (λ n. unless (is_used n.id.0 net) InUse
    (Ok (without net name)))
apply at (Connect from to port) net = known net from
    (λ a. known net to (λ b. unless (not (has_port (kind_of b.settings) port)) NoPort
    (unless (has_node b.id.0 (cone_of net a.id.0)) WouldCycle
    (Ok (change (connected at port (Some a.id)) net to)))))
apply at (Disconnect to port) net = known net to
    (λ b. unless (not (has_port (kind_of b.settings) port)) NoPort
    (Ok (change (connected at port None) net to)))
apply at (Set name param value) net = known net name
    (λ n. unless (not (has_param (kind_of n.settings) param)) NoParam
    (unless (not (is_value param value)) BadValue (Ok (change (valued at param value) net name))))
apply at (Load name bytes) net = known net name
    (λ n. unless (not (is_file (kind_of n.settings))) NoParam
    (Ok (change (loaded at bytes) net name)))
