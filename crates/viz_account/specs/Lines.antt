-- What a line of the report says of its command, and the calls of that command
-- (docs/DEFINITIONS.md, "The account of a script").
use Rattle.std.specs.Prelude.{◌≡◌, ℕ, ◌+◌, true, ◌⊎◌, List, [], ◌∷◌, take, slice_get, None, Some}
use Rattle.std.specs.Prelude.{Ok, Err}
use Rattle.viz_base.specs.declared.call.Call.{Call}
use Rattle.viz_base.specs.declared.call.Call.TheVariants.{Read, Write}
use Rattle.viz_base.specs.declared.call.ReadAnswer.TheVariants as read
use Rattle.viz_base.specs.declared.call.WriteAnswer.TheVariants as write
use Rattle.viz_network.specs.declared.edit.Edit.{Edit}
use Rattle.viz_network.specs.declared.edit.Edit.TheVariants.{Load}
use Rattle.viz_network.specs.declared.node.Node.{Node}
use Rattle.viz_network.specs.declared.refusal.Refusal.{Refusal}
use Rattle.viz_network.specs.Network.{Network, named, name_of}
use Rattle.viz_turn.specs.Tales.{has}
use Rattle.viz_entries.specs.declared.entry.Entry.{Entry}
use Rattle.viz_entries.specs.History.{network_of, apply_behind}
use Rattle.viz_script.specs.Orders.{Asked, edit, edits, load, update, audit}
use Rattle.viz_scratch.specs.Written.{IsFileOf}
use Rattle.viz_account.specs.Audited.{IsAuditOf}
use Rattle.viz_report.specs.declared.line.Line.{Line}
use Rattle.viz_report.specs.declared.line.Line.TheVariants as line
use Rattle.viz_report.specs.declared.line.Reason.TheVariants as reason
use Rattle.viz_account.specs.Written.{IsWritten, HasRan}

-- the network of the first n entries
abbrev pub network_at : List Entry → ℕ → Network
network_at h n = network_of (take n h)

-- entry n, counted from 1, is this batch, by one of these passes
pub record IsEntry (h : List Entry) (passes : List ℕ) (n : ℕ) (batch : List Edit) : Type 0 where
  pub index : ℕ
  pub entry : Entry
  pub place : n ≡ index + 1
  pub there : slice_get h index ≡ Some entry
  pub own : has entry.pass passes ≡ true
  pub asked : entry.batch ≡ batch

-- the network of the first n entries refuses the edit at this place of the batch so, from 1, and
-- none before it
abbrev pub IsRefusedAt : List Entry → ℕ → List Edit → ℕ → Refusal → Type 0
IsRefusedAt h n batch index r = apply_behind (take n h) batch ≡ Err (index, r)

-- a line of number n, of an edit by one of these passes, in a history of at most so many entries:
-- the edit is entry n, or the network of the first n entries refuses it, or n is that limit
abbrev pub TellsEdit : ℕ → List Entry → List ℕ → ℕ → Edit → Line → Type 0
TellsEdit limit h passes n e (line.Edit at) = (at ≡ n) × IsEntry h passes n (e ∷ [])
TellsEdit limit h passes n e (line.Refused (reason.Edit r) at) = (at ≡ n)
    × IsRefusedAt h n (e ∷ []) 1 r
TellsEdit limit h passes n e (line.Refused reason.Full at) = (at ≡ n) × (n ≡ limit)
TellsEdit limit h passes n e line.Memory = Unit {0}
TellsEdit limit h passes n e l = ⊥

-- the same of a batch, whose refusal has the place of its edit
abbrev pub TellsBatch : ℕ → List Entry → List ℕ → ℕ → List Edit → Line → Type 0
TellsBatch limit h passes n batch (line.Edit at) = (at ≡ n) × IsEntry h passes n batch
TellsBatch limit h passes n batch (line.Refused (reason.Batch index r) at) = (at ≡ n)
    × IsRefusedAt h n batch index r
TellsBatch limit h passes n batch (line.Refused reason.Full at) = (at ≡ n) × (n ≡ limit)
TellsBatch limit h passes n batch line.Memory = Unit {0}
TellsBatch limit h passes n batch l = ⊥

-- no call, or a read of this file that gave bytes
abbrev pub ReadsAtMost : List ℕ → List Call → Type 0
ReadsAtMost file calls = (calls ≡ []) ⊎ ((bytes : List ℕ)
    × (calls ≡ Read file (read.Given bytes) ∷ []))

-- a load: its file was too long; or its read failed; or the line tells of the edit with the bytes
-- that the port gave
abbrev pub TellsLoad : ℕ → List Entry → List ℕ → ℕ → List ℕ → List ℕ → Line → List Call → Type 0
TellsLoad limit h passes n node file (line.Refused reason.TooLong at) calls =
    (at ≡ n) × ((taken : ℕ) × (calls ≡ Read file (read.TooLong taken) ∷ []))
TellsLoad limit h passes n node file line.ReadFault calls = calls ≡ Read file read.Failed ∷ []
TellsLoad limit h passes n node file line.Memory calls = ReadsAtMost file calls
TellsLoad limit h passes n node file l calls =
    (bytes : List ℕ) × TellsEdit limit h passes n (Load node bytes) l
    × (calls ≡ Read file (read.Given bytes) ∷ [])

-- an update of a network that n entries made, with what is said of a node and the number behind
-- `ran`: the file of its node was written; or its node is unknown; or has no file; or the write of
-- its file failed
abbrev pub TellsFile : (ℕ → ℕ → Type 0) → Network → ℕ → List ℕ → List ℕ → Line → List Call → Type 0
TellsFile Ran net n node file (line.File at cells points ran) calls =
    (at ≡ n) × ((x : Node) × (text : List ℕ) × (named net node ≡ Some x)
    × IsWritten net x.id.0 text cells points × Ran x.id.0 ran
    × (calls ≡ Write file text write.Written ∷ []))
TellsFile Ran net n node file (line.Refused reason.Unknown at) calls =
    (at ≡ n) × (named net node ≡ None) × (calls ≡ [])
TellsFile Ran net n node file (line.Refused (reason.Fault fault name) at) calls =
    (at ≡ n) × ((x : Node) × (named net node ≡ Some x) × IsFileOf net x.id.0 (Err fault))
    × (name_of net fault.node.0 ≡ Some name) × (calls ≡ [])
TellsFile Ran net n node file line.WriteFault calls =
    (x : Node) × (text : List ℕ) × (named net node ≡ Some x) × IsFileOf net x.id.0 (Ok text)
    × (calls ≡ Write file text write.Failed ∷ [])
TellsFile Ran net n node file line.Memory calls = calls ≡ []
TellsFile Ran net n node file l calls = ⊥

-- an update in so many pieces, by its plan: the number is that of the plan's tasks
abbrev pub TellsUpdate : Network → ℕ → List ℕ → List ℕ → ℕ → Line → List Call → Type 0
TellsUpdate net n node file pieces l calls = TellsFile (HasRan net pieces) net n node file l calls

-- an audit on the network of the first n entries: the counts of its node; or its node is unknown;
-- or has a fault in their place
abbrev pub TellsAudit : Network → ℕ → List ℕ → Line → Type 0
TellsAudit net n node (line.Audit at sides two lone border) =
    (at ≡ n) × ((x : Node) × (named net node ≡ Some x)
    × IsAuditOf net x.id.0 (Ok (record { sides = sides; two = two; lone = lone; border = border })))
TellsAudit net n node (line.Refused reason.Unknown at) = (at ≡ n) × (named net node ≡ None)
TellsAudit net n node (line.Refused (reason.Fault fault name) at) =
    (at ≡ n) × ((x : Node) × (named net node ≡ Some x) × IsAuditOf net x.id.0 (Err fault))
    × (name_of net fault.node.0 ≡ Some name)
TellsAudit net n node line.Memory = Unit {0}
TellsAudit net n node l = ⊥

-- a line of number n, of a command by one of these passes, and the calls of that command: an audit
-- has none
abbrev pub Tells : ℕ → List Entry → List ℕ → ℕ → Asked → Line → List Call → Type 0
Tells limit h passes n (edit e) l calls = TellsEdit limit h passes n e l × (calls ≡ [])
Tells limit h passes n (edits batch) l calls = TellsBatch limit h passes n batch l × (calls ≡ [])
Tells limit h passes n (load node file) l calls = TellsLoad limit h passes n node file l calls
Tells limit h passes n (update node file pieces workers) l calls =
    TellsUpdate (network_at h n) n node file pieces l calls
Tells limit h passes n (audit node pieces workers) l calls = TellsAudit (network_at h n) n node l
    × (calls ≡ [])
