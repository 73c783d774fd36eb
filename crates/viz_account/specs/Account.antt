-- A history, a line for each command, and the calls of each actor's port (docs/DEFINITIONS.md,
-- "The account of a script").
use Rattle.std.specs.Prelude.{◌≡◌, ℕ, ◌+◌, ◌≤◌, ◌⊎◌, IsTrue, true, if◌then◌else◌, List, [], ◌∷◌}
use Rattle.std.specs.Prelude.{◌++◌, length, flat_map}
use Rattle.viz_base.specs.Faults.{most_faults}
use Rattle.viz_base.specs.declared.call.Call.{Call}
use Rattle.viz_base.specs.declared.port.Port as port
use Rattle.viz_turn.specs.Tales.{has, once, entries_of}
use Rattle.viz_entries.specs.declared.entry.Entry.{Entry}
use Rattle.viz_entries.specs.History.{by_of, IsLegal}
use Rattle.viz_script.specs.Orders.{Asked}
use Rattle.viz_report.specs.declared.line.Line.{Line}
use Rattle.viz_report.specs.declared.line.Line.TheVariants as line
use Rattle.viz_account.specs.Lines.{Tells}

-- ---- the lines of one actor

-- the number of a line that tells of an accepted command, which is an entry
abbrev pub edited : Line → List ℕ
edited (line.Edit at) = at ∷ []
edited l = []

-- the least number of a line behind one of this number: an accepted command is a new entry
abbrev pub least : ℕ → Line → ℕ
least n (line.Edit at) = n + 1
least n l = n

-- the lines of commands, one for each in order, and all their calls
-- numbers begin at low, never fall, pass no entry of the history, and end at last
abbrev pub AreTold : ℕ → List Entry → List ℕ → ℕ → List Asked → List Line → List Call → ℕ → Type 0
AreTold limit h passes low [] [] calls last = (calls ≡ []) × (last ≡ low)
AreTold limit h passes low [] (l ∷ ls) calls last = ⊥
AreTold limit h passes low (o ∷ os) [] calls last = ⊥
AreTold limit h passes low (o ∷ os) (l ∷ ls) calls last =
    (n : ℕ) × (mine rest : List Call) × (calls ≡ mine ++ rest) × Tells limit h passes n o l mine
    × (least low l ≤ n) × (n ≤ length h)
    × AreTold limit h passes n os ls rest last

-- the same in phases: numbers lie between the lengths that the history had at the end of the phase
-- before and of this one
abbrev pub ArePhases : ℕ → List Entry → List ℕ → ℕ → List (List Asked) → List (List Line) → List ℕ
    → List Call → Type 0
ArePhases limit h passes low [] [] [] calls = calls ≡ []
ArePhases limit h passes low (os ∷ phases) (ls ∷ lines) (end ∷ ends) calls =
    (last : ℕ) × (mine rest : List Call) × (calls ≡ mine ++ rest)
    × AreTold limit h passes low os ls mine last
    × (last ≤ end) × (end ≤ length h) × ArePhases limit h passes end phases lines ends rest
ArePhases limit h passes low phases lines ends calls = ⊥

-- the positions, from n on, of the entries by these passes
abbrev pub places_from : List ℕ → ℕ → List Entry → List ℕ
places_from passes n [] = []
places_from passes n (e ∷ es) = if has e.pass passes then n ∷ places_from passes (n + 1) es
    else places_from passes (n + 1) es

-- the positions, from 1, of the entries by these passes
abbrev pub places : List ℕ → List Entry → List ℕ
places passes h = places_from passes 1 h

-- how many lines tell of a failed call
abbrev pub faults_told : List Line → ℕ
faults_told [] = 0
faults_told (line.ReadFault ∷ ls) = faults_told ls + 1
faults_told (line.WriteFault ∷ ls) = faults_told ls + 1
faults_told (l ∷ ls) = faults_told ls

-- a count of faults rose by at least so much, or stands at the greatest count; it didn't fall, and
-- is as before or within 64 bits
pub record RoseBy (n old new : ℕ) : Type 0 where
  pub risen : (old + n ≤ new) ⊎ (new ≡ most_faults)
  pub later : old ≤ new
  pub counted : (new ≡ old) ⊎ (new ≤ most_faults)

-- ---- an actor, and all actors

-- what an actor with these passes did in all phases, and its port before and after: the calls that
-- the port gained, where it tells them, are those of its lines; its entries are those that its
-- lines tell, in order; without commands the port is as it was
pub record IsActor {P : Type 0} (m : port.Ghosts P) (limit : ℕ) (h : List Entry) (passes : List ℕ)
    (phases : List (List Asked)) (lines : List (List Line)) (ends : List ℕ)
    (before after : P) : Type 0 where
  pub gained : (mine : List Call) × (IsTrue m.tells_calls → m.calls after ≡ m.calls before ++ mine)
      × ArePhases limit h passes 0 phases lines ends mine
  pub own : places passes h ≡ flat_map (λ ls. flat_map edited ls) lines
  pub faults : RoseBy (faults_told (flat_map (λ ls. ls) lines)) (m.faults before) (m.faults after)
  pub idle : flat_map (λ os. os) phases ≡ [] → after ≡ before

-- the actors by the numbers of their ports; ports past the actors are as before
abbrev pub AreActors : {P : Type 0} → port.Ghosts P → ℕ → List Entry → List (List ℕ)
    → List (List (List Asked)) → List (List (List Line))
    → List ℕ → List P → List P → Type 0
AreActors m limit h [] [] [] ends before after = after ≡ before
AreActors m limit h (p ∷ passes) (s ∷ script) (l ∷ lines) ends (b ∷ before) (a ∷ after) =
    IsActor m limit h p s l ends b a × AreActors m limit h passes script lines ends before after
AreActors m limit h passes script lines ends before after = ⊥

-- the account of a script, whose commands and lines are given by actor and phase: a legal history
-- within its limit, each entry of which is by a pass of one actor; the lengths that the history
-- had at the ends of phases; and what each actor did at its port
pub record IsAccountOf {P : Type 0} (m : port.Ghosts P) (limit : ℕ)
    (script : List (List (List Asked))) (h : List Entry)
    (lines : List (List (List Line))) (before after : List P) : Type 0 where
  pub passes : List (List ℕ)
  pub ends : List ℕ
  pub legal : IsLegal h
  pub within : length h ≤ limit
  pub apart : once (flat_map (λ ps. ps) passes) ≡ true
  pub whole : entries_of by_of (flat_map (λ ps. ps) passes) h ≡ h
  pub actors : AreActors m limit h passes script lines ends before after
