-- What one command, and a list of commands, did: to the history and to the actor's port
-- (docs/DEFINITIONS.md, "The account of a script").
use Rattle.std.specs.Prelude.{◌≡◌, ℕ, ◌≤◌, IsTrue, List, [], ◌∷◌, ◌++◌, length, flat_map, map}
use Rattle.viz_base.specs.declared.call.Call.{Call}
use Rattle.viz_base.specs.declared.port.Port as port
use Rattle.viz_network.specs.Network.{Network}
use Rattle.viz_entries.specs.declared.entry.Entry.{Entry}
use Rattle.viz_script.specs.declared.order.Step.{Step}
use Rattle.viz_script.specs.Orders.{Asked, seen}
use Rattle.viz_report.specs.declared.line.Line.{Line}
use Rattle.viz_account.specs.Lines.{Tells, TellsFile}
use Rattle.viz_account.specs.Written.{HasRan}
use Rattle.viz_account.specs.Account.{edited, least, places, AreTold, faults_told, RoseBy}

-- the commands of steps
abbrev pub commands : List Step → List Asked
commands steps = map (λ s. seen s.order) steps

-- new goes on after old
abbrev pub Extends : List Entry → List Entry → Type 0
Extends old new = (more : List Entry) × (new ≡ old ++ more)

-- an update of a node of this network, which n entries made, with what is said of the number behind
-- `ran`: what its line says, and what the port gained
pub record Writes {P : Type 0} (m : port.Ghosts P) (Ran : ℕ → ℕ → Type 0) (net : Network) (n : ℕ)
    (node file : List ℕ) (l : Line) (before after : P) : Type 0 where
  pub gained : (mine : List Call) × (IsTrue m.tells_calls → m.calls after ≡ m.calls before ++ mine)
      × TellsFile Ran net n node file l mine
  pub faults : RoseBy (faults_told (l ∷ [])) (m.faults before) (m.faults after)

-- so of an update in so many pieces, by its plan
abbrev pub Updates : {P : Type 0} → port.Ghosts P → Network → ℕ → List ℕ → List ℕ → ℕ → Line
    → P → P → Type 0
Updates m net n node file pieces l before after =
    Writes m (HasRan net pieces) net n node file l before after

-- one command by a pass: entries that it has seen before and after, its line, and what the port
-- gained
pub record Serves {P : Type 0} (m : port.Ghosts P) (limit pass : ℕ) (o : Asked) (l : Line)
    (old new : List Entry)
    (before after : P) : Type 0 where
  pub further : Extends old new
  pub own : places (pass ∷ []) new ≡ places (pass ∷ []) old ++ edited l
  pub gained : (n : ℕ) × (mine : List Call) ×
      (IsTrue m.tells_calls → m.calls after ≡ m.calls before ++ mine)
      × Tells limit new (pass ∷ []) n o l mine × (least (length old) l ≤ n) × (n ≤ length new)
  pub faults : RoseBy (faults_told (l ∷ [])) (m.faults before) (m.faults after)

-- a list of commands by a pass, in order
pub record ServesAll {P : Type 0} (m : port.Ghosts P) (limit pass : ℕ) (os : List Asked)
    (ls : List Line)
    (old new : List Entry) (before after : P) : Type 0 where
  pub further : Extends old new
  pub own : places (pass ∷ []) new ≡ places (pass ∷ []) old ++ flat_map edited ls
  pub gained : (mine : List Call) × (last : ℕ)
      × (IsTrue m.tells_calls → m.calls after ≡ m.calls before ++ mine)
      × AreTold limit new (pass ∷ []) (length old) os ls mine last × (last ≤ length new)
  pub faults : RoseBy (faults_told ls) (m.faults before) (m.faults after)
  pub idle : os ≡ [] → after ≡ before
