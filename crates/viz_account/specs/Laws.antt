-- What follows for accounts (docs/DEFINITIONS.md, "The account of a script").
use Rattle.std.specs.Prelude.{◌≡◌, ◌≢◌, ℕ, ◌+◌, ◌<◌, nat_eq, if◌then◌else◌, List, [], ◌∷◌, ◌++◌}
use Rattle.std.specs.Prelude.{length, flat_map, All, slice_get, Some}
use Rattle.viz_base.specs.declared.call.Call.{Call}
use Rattle.viz_base.specs.declared.port.Port as port
use Rattle.viz_entries.specs.declared.entry.Entry.{Entry}
use Rattle.viz_script.specs.Orders.{Asked}
use Rattle.viz_report.specs.declared.line.Line.{Line}
use Rattle.viz_report.specs.declared.line.Line.TheVariants as line
use Rattle.viz_account.specs.Account.{edited, AreTold, IsAccountOf}

-- lines that tell of commands in a history tell of them in each longer one
abbrev pub HoldLater : Type 0
HoldLater = (limit : ℕ) (h more : List Entry) (passes : List ℕ) (low : ℕ) (os : List Asked)
    (ls : List Line) (calls : List Call) (last : ℕ)
    → AreTold limit h passes low os ls calls last
    → AreTold limit (h ++ more) passes low os ls calls last

-- how often a number stands in a list
abbrev pub times : ℕ → List ℕ → ℕ
times n [] = 0
times n (m ∷ ms) = if nat_eq n m then times n ms + 1 else times n ms

-- the positions that all lines of edits tell, by actor and phase
abbrev pub all_edited : List (List (List Line)) → List ℕ
all_edited lines = flat_map (λ actor. flat_map (λ ls. flat_map edited ls) actor) lines

-- each entry of an account's history is told by just one line
abbrev pub EntriesAreToldOnce : {P : Type 0} → port.Ghosts P → Type 0
EntriesAreToldOnce {P} m = (limit : ℕ) (script : List (List (List Asked))) (h : List Entry)
    (lines : List (List (List Line)))
    (before after : List P) → IsAccountOf m limit script h lines before after
    → (k : ℕ) → k < length h → times (k + 1) (all_edited lines) ≡ 1

-- the line shows this number, or none
abbrev pub Shows : ℕ → Line → Type 0
Shows n (line.Edit at) = at ≡ n
Shows n (line.File at cells points ran) = at ≡ n
Shows n (line.Audit at sides two lone border) = at ≡ n
Shows n (line.Refused reason at) = at ≡ n
Shows n l = Unit {0}

-- each line shows how many entries were made up to it, its own included; n of them were before
abbrev pub CountEdits : ℕ → List Line → Type 0
CountEdits n [] = Unit {0}
CountEdits n (l ∷ ls) = Shows (n + length (edited l)) l × CountEdits (n + length (edited l)) ls

-- no actor but the one at this place has a command, in any phase
abbrev pub AsksAlone : ℕ → List (List (List Asked)) → Type 0
AsksAlone i script = (j : ℕ) (phases : List (List Asked)) → slice_get script j ≡ Some phases → j ≢ i
    → flat_map (λ os. os) phases ≡ []

-- where one actor alone has commands, whatever other actors there are, its lines count the entries
abbrev pub LinesCountEdits : {P : Type 0} → port.Ghosts P → Type 0
LinesCountEdits {P} m = (limit : ℕ) (script : List (List (List Asked))) (h : List Entry)
    (lines : List (List (List Line)))
    (before after : List P) → IsAccountOf m limit script h lines before after → (i : ℕ)
    → AsksAlone i script
    → (mine : List (List Line)) → slice_get lines i ≡ Some mine
    → CountEdits 0 (flat_map (λ ls. ls) mine)

-- what an audit's line tells is closed up to the boundary: each side lies in two triangles or in
-- one, and in one only on the boundary
abbrev pub IsClosedLine : Line → Type 0
IsClosedLine (line.Audit at sides two lone border) = (sides ≡ two + lone) × (lone ≡ border)
IsClosedLine l = Unit {0}

-- so it is in the lines of each account
abbrev pub AuditLinesAreClosed : {P : Type 0} → port.Ghosts P → Type 0
AuditLinesAreClosed {P} m = (limit : ℕ) (script : List (List (List Asked))) (h : List Entry)
    (lines : List (List (List Line)))
    (before after : List P) → IsAccountOf m limit script h lines before after
    → All IsClosedLine (flat_map (λ actor. flat_map (λ ls. ls) actor) lines)
