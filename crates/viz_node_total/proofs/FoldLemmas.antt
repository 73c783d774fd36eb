-- Where a rule always makes something, each node with all upstream of it gives something.
use Rattle.std.proofs.Common.{[], ◌∷◌, None, Some, Result, Ok, Err, refl}
use Rattle.viz_network.specs.Cone.{Cone, Tree, empty, fed, none}
use Rattle.viz_network.specs.declared.fault.Cause.{Cause}
use Rattle.viz_network.specs.declared.fault.Fault.{Fault}
use Rattle.viz_network.specs.declared.node.Node.{Node}
use Rattle.viz_node_meaning.specs.Fold.{
  AreGiven,
  IsGiven,
  IsMade,
  at_node,
  filled,
  joined,
}
use Rattle.viz_node_meaning.specs.Rules.{Inputs, NodeRule}
use Rattle.viz_node_total.specs.Files.{OfCone, OfTree}

-- it holds of what is at each port, if anything is
abbrev pub OfAll : {X : Type 0} → (X → Type 0) → Inputs X → Type 0
OfAll P [] = Unit {0}
OfAll P (None ∷ xs) = OfAll P xs
OfAll P (Some x ∷ xs) = P x × OfAll P xs

-- it holds of a value
abbrev pub OfValue : {X E : Type 0} → (X → Type 0) → Result X E → Type 0
OfValue P (Ok x) = P x
OfValue P (Err e) = Unit {0}

-- of inputs with a property a rule makes something at each such node, and what it makes has the
-- property
abbrev pub AlwaysMakes : {X : Type 0} → (Node → Type 0) → NodeRule X → (X → Type 0) → Type 0
AlwaysMakes {X} Q rule P =
    (n : Node) (inputs : Inputs X) → Q n → OfAll P inputs
    → (r : Result X Cause) × rule n inputs r × OfValue P r

module _ {X : Type 0} (rule : NodeRule X) (P : X → Type 0) (Q : Node → Type 0)
    (makes : AlwaysMakes Q rule P) where
  at_of : (n : Node) (r : Result X Cause) → OfValue P r → OfValue P (at_node n r)
  at_of n (Ok x) h = h
  at_of n (Err cause) h = tt

  none_of : (rest : Result (Inputs X) Fault) → OfValue (OfAll P) rest
      → OfValue (OfAll P) (joined (Ok None) rest)
  none_of (Ok xs) h = h
  none_of (Err fault) h = tt

  joined_of : (value : Result X Fault) (rest : Result (Inputs X) Fault) → OfValue P value
      → OfValue (OfAll P) rest → OfValue (OfAll P) (joined (filled value) rest)
  joined_of (Err fault) rest v h = tt
  joined_of (Ok x) (Err fault) v h = tt
  joined_of (Ok x) (Ok xs) v h = (v, h)

  made_some : (n : Node) (inputs : Result (Inputs X) Fault) → Q n
      → OfValue (OfAll P) inputs
      → (value : Result X Fault) × IsMade rule n inputs value × OfValue P value
  made_some n (Err fault) node h = (Err fault, refl, tt)
  made_some n (Ok xs) node h =
      let own = makes n xs node h in
      (at_node n own.0, (own.0, own.1, refl), at_of n own.0 own.2)

  given_some : (cone : Cone) → OfCone Q cone
      → (all : Result (Inputs X) Fault) × AreGiven rule cone all × OfValue (OfAll P) all
  given_some none node = (Ok [], refl, tt)
  given_some (empty others) node =
      let rest = given_some others node in
      (joined (Ok None) rest.0, (rest.0, rest.1, refl), none_of rest.0 rest.2)
  given_some (fed n own others) node =
      let inputs = given_some own node.1 in
      let value = made_some n inputs.0 node.0 inputs.2 in
      let rest = given_some others node.2 in (
        joined (filled value.0) rest.0,
        (inputs.0, value.0, rest.0, inputs.1, value.1, rest.1, refl),
        joined_of value.0 rest.0 value.2 rest.2,
      )

  pub value_some : (t : Tree) → OfTree Q t
      → (value : Result X Fault) × IsGiven rule (Some t) value × OfValue P value
  value_some t node =
      let inputs = given_some t.1 node.1 in
      let value = made_some t.0 inputs.0 node.0 inputs.2 in
      (value.0, (inputs.0, inputs.1, value.1), value.2)
