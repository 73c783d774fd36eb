-- Which commands came to what they asked for (docs/DEFINITIONS.md, "The account of a script").
use Rattle.std.specs.Prelude.{◌≡◌, ◌↔◌, ℕ, ◌<◌, List, [], ◌∷◌, All, flat_map, Option, None, Some, Ok}
use Rattle.viz_base.specs.declared.call.Call.{Call}
use Rattle.viz_base.specs.declared.port.Port as port
use Rattle.viz_network.specs.declared.edit.Edit.{Edit}
use Rattle.viz_network.specs.declared.edit.Edit.TheVariants.{Load}
use Rattle.viz_network.specs.declared.node.Node.{Node}
use Rattle.viz_network.specs.Network.{Network, named}
use Rattle.viz_entries.specs.declared.entry.Entry.{Entry}
use Rattle.viz_script.specs.Orders.{Asked, edit, edits, load, update, audit}
use Rattle.viz_scratch.specs.Written.{IsFileOf}
use Rattle.viz_surface_law.specs.declared.audits.Counts.{Counts}
use Rattle.viz_report.specs.declared.line.Line.{Line}
use Rattle.viz_report.specs.declared.line.Line.TheVariants as line
use Rattle.viz_account.specs.Account.{IsAccountOf}
use Rattle.viz_account.specs.Audited.{IsAuditOf}
use Rattle.viz_account.specs.Lines.{IsEntry, network_at, TellsFile}

-- ---- one command

-- a batch by one of these passes was accepted: it is entry n of the history, a new one, since n is
-- past the number of the line before
pub record IsAccepted (h : List Entry) (passes : List ℕ) (low n : ℕ) (batch : List Edit) : Type 0
  where
    pub past : low < n
    pub entry : IsEntry h passes n batch

-- a node of this name is there, and has a file
abbrev pub HasFile : Network → List ℕ → Type 0
HasFile net node = (x : Node) × (text : List ℕ) × (named net node ≡ Some x)
    × IsFileOf net x.id.0 (Ok text)

-- a node of this name is there, and has counts
abbrev pub HasAudit : Network → List ℕ → Type 0
HasAudit net node = (x : Node) × (c : Counts) × (named net node ≡ Some x)
    × IsAuditOf net x.id.0 (Ok c)

-- a command came to what it asked for at number n, behind a line of number low: its edit or its
-- batch was accepted; the file that it loads was within the limit, and the load of some bytes was
-- accepted; or its node has a file, or counts, in the network of the first n entries
abbrev pub Came : List Entry → List ℕ → ℕ → ℕ → Asked → Type 0
Came h passes low n (edit e) = IsAccepted h passes low n (e ∷ [])
Came h passes low n (edits batch) = IsAccepted h passes low n batch
Came h passes low n (load node file) = (bytes : List ℕ)
    × IsAccepted h passes low n (Load node bytes ∷ [])
Came h passes low n (update node file pieces workers) = HasFile (network_at h n) node
Came h passes low n (audit node pieces workers) = HasAudit (network_at h n) node

-- ---- all commands

-- the number that a line shows
abbrev pub shown : Line → Option ℕ
shown (line.Edit at) = Some at
shown (line.File at cells points ran) = Some at
shown (line.Audit at sides two lone border) = Some at
shown (line.Refused reason at) = Some at
shown l = None

-- the commands of an actor came to what they asked for, each at the number that its line shows,
-- behind a line of number low
abbrev pub HaveCome : List Entry → List ℕ → ℕ → List Asked → List Line → Type 0
HaveCome h passes low [] [] = Unit {0}
HaveCome h passes low [] (l ∷ ls) = ⊥
HaveCome h passes low (o ∷ os) [] = ⊥
HaveCome h passes low (o ∷ os) (l ∷ ls) =
    (n : ℕ) × (shown l ≡ Some n) × Came h passes low n o × HaveCome h passes n os ls

-- those of all actors did, through all phases
abbrev pub AllCame : List Entry → List (List ℕ) → List (List (List Asked))
    → List (List (List Line)) → Type 0
AllCame h [] [] [] = Unit {0}
AllCame h (p ∷ passes) (s ∷ script) (l ∷ lines) =
    HaveCome h p 0 (flat_map (λ os. os) s) (flat_map (λ ls. ls) l) × AllCame h passes script lines
AllCame h passes script lines = ⊥

-- ---- what lines tell of it

-- a line that tells that its command came to what it asked for
abbrev pub TellsCame : Line → Type 0
TellsCame (line.Edit at) = Unit {0}
TellsCame (line.File at cells points ran) = Unit {0}
TellsCame (line.Audit at sides two lone border) = Unit {0}
TellsCame l = ⊥

-- in each account all commands came to what they asked for exactly where all lines tell so
abbrev pub AllCameAreTold : {P : Type 0} → port.Ghosts P → Type 0
AllCameAreTold {P} m = (limit : ℕ) (script : List (List (List Asked))) (h : List Entry)
    (lines : List (List (List Line)))
    (before after : List P) → (a : IsAccountOf m limit script h lines before after)
    → AllCame h a.passes script lines
    ↔ All TellsCame (flat_map (λ actor. flat_map (λ ls. ls) actor) lines)

-- what the line of an update says of whether its node has a file: it has where the line tells of
-- one, and hasn't where the line tells of a refusal
abbrev pub SaysOf : Line → Type 0 → Type 0
SaysOf (line.File at cells points ran) File = File
SaysOf (line.Refused reason at) File = File → ⊥
SaysOf l File = Unit {0}

-- so it is of each update of which this is said of the number behind `ran`
abbrev pub UpdatesSayOfFiles : (ℕ → ℕ → Type 0) → Type 0
UpdatesSayOfFiles Ran = (net : Network) (n : ℕ) (node file : List ℕ) (l : Line)
    (calls : List Call) → TellsFile Ran net n node file l calls → SaysOf l (HasFile net node)
