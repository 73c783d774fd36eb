-- Lines that a script can have (docs/FORMATS-OF-SCRIPTS.md, "Scripts").
use Rattle.std.specs.Prelude.{◌≡◌, ℕ, ℤ, pos, ◌-◌, ◌<◌, ◌≤◌, Bool, true, false, List, take, drop}
use Rattle.std.specs.Prelude.{replicate, length, count_by, Option, None, Some}
use Rattle.std.specs.List.{AllByRecursion}
use Rattle.viz_kinds.specs.declared.param.Param.{Param}
use Rattle.viz_kinds.specs.declared.param.Param.TheVariants as param
use Rattle.viz_kinds.specs.declared.param.Value.{Value}
use Rattle.viz_kinds.specs.declared.param.Value.TheVariants.{Numbers, Text}
use Rattle.viz_kinds.specs.declared.range.Range.{Range}
use Rattle.viz_kinds.specs.Values.{first_number, last_number, numbers_of, fits_range}
use Rattle.viz_network.specs.declared.edit.Edit.{Edit}
use Rattle.viz_network.specs.declared.edit.Edit.TheVariants as change
use Rattle.viz_words.specs.Names.{is_node_name, is_file_name, is_array_name}
use Rattle.viz_script.specs.Orders.{Asked, edit, edits, load, update, audit}
use Rattle.viz_script.specs.Lines.{Line, begins_phase, begins_batch, ends_batch, asks, actor_limit}
use Rattle.viz_script.specs.Script.{line_limit, phase_limit}
use Rattle.viz_script_law.specs.Parts.{IsInParts}

-- as many numbers as the range allows, of 64 bits each, and zeros, eight in all
pub record FitsNumbers (range : Range) (count : ℕ) (items : List ℤ) : Type 0 where
  pub least : range.least ≤ count
  pub most : count ≤ range.most
  pub few : count ≤ 8
  pub all : length items ≡ 8
  pub each : fits_range first_number last_number (take count items) ≡ true
  pub zeros : drop count items ≡ replicate (8 - count) (pos 0)

-- the numbers of a parameter that takes numbers
abbrev pub FitsRange : Option Range → ℕ → List ℤ → Type 0
FitsRange None count items = ⊥
FitsRange (Some range) count items = FitsNumbers range count items

-- a text is the name of an array, or else a word like the name of a node
abbrev pub is_text_of : Param → List ℕ → Bool
is_text_of param.Array text = is_array_name text
is_text_of _ text = is_node_name text

-- a value that a line can tell, be it one that the parameter may have or not
abbrev pub FitsLineValue : Param → Value → Type 0
FitsLineValue param (Numbers count items) = FitsRange (numbers_of param) count items
FitsLineValue param (Text text) = (numbers_of param ≡ None) × (is_text_of param text ≡ true)

-- an edit that a line can tell: names are names, ports 0 to 255; a load is a command of its own
abbrev pub FitsLineEdit : Edit → Type 0
FitsLineEdit (change.Add kind node) = is_node_name node ≡ true
FitsLineEdit (change.Remove node) = is_node_name node ≡ true
FitsLineEdit (change.Connect from to port) =
    (is_node_name from ≡ true) × (is_node_name to ≡ true) × (port < 256)
FitsLineEdit (change.Disconnect to port) = (is_node_name to ≡ true) × (port < 256)
FitsLineEdit (change.Set node param value) = (is_node_name node ≡ true) × FitsLineValue param value
FitsLineEdit (change.Load node file) = ⊥

-- pieces and workers are 1 to 64
abbrev pub IsShape : ℕ → ℕ → Type 0
IsShape pieces workers = (1 ≤ pieces) × (pieces ≤ 64) × (1 ≤ workers) × (workers ≤ 64)

-- a command that a line can tell
abbrev pub FitsCommand : Asked → Type 0
FitsCommand (edit e) = FitsLineEdit e
FitsCommand (edits es) = ⊥
FitsCommand (load node file) = (is_node_name node ≡ true) × (is_file_name file ≡ true)
FitsCommand (update node file pieces workers) =
    (is_node_name node ≡ true) × (is_file_name file ≡ true) × IsShape pieces workers
FitsCommand (audit node pieces workers) = (is_node_name node ≡ true) × IsShape pieces workers

-- an actor, where there are so many
abbrev pub IsActorOf : ℕ → ℕ → Type 0
IsActorOf actors actor = (1 ≤ actor) × (actor ≤ actor_limit) × (actor ≤ actors)

-- a line of a script that so many actors serve
abbrev pub FitsLine : ℕ → Line → Type 0
FitsLine actors (asks actor asked) = IsActorOf actors actor × FitsCommand asked
FitsLine actors (begins_batch actor) = IsActorOf actors actor
FitsLine actors (ends_batch actor) = IsActorOf actors actor
FitsLine actors _ = Unit {0}

-- the line begins a phase
abbrev pub is_phase : Line → Bool
is_phase begins_phase = true
is_phase _ = false

-- a script that so many actors serve can have these lines: no line begins the first phase, and the
-- lines of each actor are commands and whole batches
pub record FitsScript (actors : ℕ) (lines : List Line) : Type 0 where
  pub few : length lines ≤ line_limit
  pub phases : count_by is_phase lines < phase_limit
  pub each : AllByRecursion (FitsLine actors) lines
  pub batches : (actor : ℕ) → 1 ≤ actor → actor ≤ actor_limit → IsInParts actor lines
