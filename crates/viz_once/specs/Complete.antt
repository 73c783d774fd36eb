-- When a run of a command of one file answers Done, and when Refused (docs/FORMATS.md, "Report").
use Rattle.std.specs.Prelude.{◌≡◌, ℕ, List, [], Ok}
use Rattle.viz_base.specs.Faults.{Rose}
use Rattle.viz_base.specs.declared.port.Port as port
use Rattle.viz_base.specs.declared.out.Out as out
use Rattle.viz_base.specs.declared.call.ReadAnswer.{ReadAnswer}
use Rattle.viz_base.specs.declared.call.ReadAnswer.TheVariants as read
use Rattle.viz_told.specs.declared.status.Status.{Status}
use Rattle.viz_told.specs.declared.status.Status.TheVariants as status
use Rattle.viz_told.specs.Complete.{EndsComplete}
use Rattle.viz_told.specs.Ports.{FirstRose}
use Rattle.viz_once.specs.declared.command.Filter.{Filter}
use Rattle.viz_once.specs.Account.{Deed, Nothing, Asked, Answered}
use Rattle.viz_once.specs.Command.{Command}
use Rattle.viz_once.specs.Files.{IsFileFor}
use Rattle.viz_once.specs.Promises.{FirstDid}

-- a command came to what it asked for, by what its read answered: the file was within the limit,
-- and the filter makes a file of it
abbrev pub Came : Filter → ReadAnswer → Type 0
Came filter (read.Given bytes) = (text : List ℕ) × IsFileFor filter bytes (Ok text)
Came filter answer = ⊥

-- how a run ends where no call failed, by what was done at the first port: Done, where the command
-- came to what it asked for, and Refused, where it didn't
abbrev pub EndsBy : Command → Status → Deed → Type 0
EndsBy c ended Nothing = ended ≡ status.Memory
EndsBy c ended (Asked answer) = EndsComplete (Came c.filter answer) ended
EndsBy c ended (Answered bytes text answer) = EndsComplete (Came c.filter (read.Given bytes)) ended

-- where there is a port, and no count of faults rose, of it or of the output, a run ends so
abbrev pub IsComplete : {P O : Type 0} → port.Ghosts P → out.Ghosts O → Command → List P → List P
    → O → O → Status → Type 0
IsComplete m o c old new before after ended =
    (old ≡ [] → ⊥) → (FirstRose m old new → ⊥) → (Rose (o.faults before) (o.faults after) → ⊥)
    → (deed : Deed) × FirstDid m c deed old new × EndsBy c ended deed
