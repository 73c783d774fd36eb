-- What is made of a node for its file. Only private contracts speak of it.
use Rattle.std.specs.Prelude.{◌≡◌, ℕ, ◌++◌, List, [], ◌∷◌, Option, None, Some, Result, Ok, Err}
use Rattle.std.specs.Prelude.{IsTrue}
use Rattle.viz_base.specs.declared.call.Call.TheVariants.{Write}
use Rattle.viz_base.specs.declared.call.WriteAnswer.TheVariants as write
use Rattle.viz_base.specs.declared.port.Port as port
use Rattle.viz_network.specs.declared.fault.Stop.{Stop}
use Rattle.viz_network.specs.declared.fault.Stop.TheVariants as stop
use Rattle.viz_network.specs.declared.node.Node.{Node}
use Rattle.viz_network.specs.Network.{Network, named, name_of}
use Rattle.viz_node_meaning.specs.Scratch.{IsScratch}
use Rattle.viz_parts.specs.declared.stored.Stored.{Stored}
use Rattle.viz_scratch.specs.Written.{IsFileOf}
use Rattle.viz_account.specs.Account.{RoseBy}
use Rattle.viz_account.specs.Answers.{GivesParts}
use Rattle.viz_account.specs.declared.answer.Answer.{Answer}
use Rattle.viz_account.specs.declared.answer.Answer.TheVariants as answer
use Rattle.viz_account.specs.declared.answer.Missing.{Missing}
use Rattle.viz_account.specs.declared.answer.Missing.TheVariants as missing
use Rattle.viz_account.specs.declared.made.Made.{Made}
use Rattle.viz_account.specs.declared.parts.UpdateParts.{UpdateParts}
use Rattle.viz_account.specs.declared.planned.Planned.{Planned}
use Rattle.viz_account.specs.Written.{IsWritten, HasRan}

-- the text of a node's file with its numbers, or the node's fault, unless memory ran out
abbrev pub Makes : Network → ℕ → Result Made Stop → Type 0
Makes net id (Ok m) = IsWritten net id m.text m.cells m.points
Makes net id (Err (stop.Fault fault)) = IsFileOf net id (Err fault)
Makes net id (Err stop.Memory) = Unit {0}

-- why the node of this name has no file
abbrev pub IsMissing : Network → List ℕ → Missing → Type 0
IsMissing net node missing.Unknown = named net node ≡ None
IsMissing net node (missing.Fault fault name) =
    ((x : Node) × (named net node ≡ Some x) × IsFileOf net x.id.0 (Err fault))
    × (name_of net fault.node.0 ≡ Some name)
IsMissing net node missing.Memory = Unit {0}

-- why a node that stopped so gives nothing
abbrev pub IsStop : Network → Stop → Missing → Type 0
IsStop net (stop.Fault fault) (missing.Fault f name) = (f ≡ fault)
    × (name_of net fault.node.0 ≡ Some name)
IsStop net s missing.Memory = Unit {0}
IsStop net s m = ⊥

-- the text of the file of the node of this name, with its numbers, or why there is none
abbrev pub MakesNamed : Network → List ℕ → Result Made Missing → Type 0
MakesNamed net node (Ok m) =
    (x : Node) × (named net node ≡ Some x) × IsWritten net x.id.0 m.text m.cells m.points
MakesNamed net node (Err m) = IsMissing net node m

-- ---- by a plan

-- how many tasks ran, where there is a file
abbrev pub RanFor : Network → ℕ → ℕ → Result Made Stop → ℕ → Type 0
RanFor net pieces id (Ok m) ran = HasRan net pieces id ran
RanFor net pieces id (Err s) ran = Unit {0}

-- a node has no dataset, for this fault, unless memory ran out
abbrev pub IsWithoutParts : {X : Type 0} → Network → ℕ → Result X Stop → Type 0
IsWithoutParts net id (Err (stop.Fault fault)) = IsScratch net id (Err fault)
IsWithoutParts net id (Err stop.Memory) = Unit {0}
IsWithoutParts net id (Ok x) = ⊥

-- the parts of an update or an audit of a node with this result, by what is kept and in so many
-- pieces, or that it has none
abbrev pub HasParts : {X : Type 0} → Network → List Stored → ℕ → ℕ → Result X Stop
    → Option UpdateParts → Type 0
HasParts net entries pieces id result None = IsWithoutParts net id result
HasParts net entries pieces id result (Some parts) =
    (parts.sink.0 ≡ id) × GivesParts net entries pieces parts

-- an update of a node, by its plan from what is kept and in so many pieces
pub record IsPlanned (net : Network) (entries : List Stored) (pieces id : ℕ) (p : Planned)
    : Type 0 where
  pub file : Makes net id p.file
  pub ran : RanFor net pieces id p.file p.ran
  pub parts : HasParts net entries pieces id p.file p.parts

-- ---- the write of a file

-- the port gained one call, which wrote the text, or failed, or memory ran out before it
abbrev pub WritesText : {P : Type 0} → port.Ghosts P → List ℕ → Made → ℕ → ℕ → Answer → P → P
    → Type 0
WritesText m file made ran n (answer.Written at cells points tasks) before after =
    (at ≡ n) × (cells ≡ made.cells) × (points ≡ made.points) × (tasks ≡ ran)
    × RoseBy 0 (m.faults before) (m.faults after)
    × (IsTrue m.tells_calls
    → m.calls after ≡ m.calls before ++ Write file made.text write.Written ∷ [])
WritesText m file made ran n (answer.WriteFault at) before after =
    (at ≡ n) × RoseBy 1 (m.faults before) (m.faults after)
    × (IsTrue m.tells_calls
    → m.calls after ≡ m.calls before ++ Write file made.text write.Failed ∷ [])
WritesText m file made ran n answer.Memory before after =
    RoseBy 0 (m.faults before) (m.faults after)
    × (IsTrue m.tells_calls → m.calls after ≡ m.calls before ++ [])
WritesText m file made ran n a before after = ⊥
