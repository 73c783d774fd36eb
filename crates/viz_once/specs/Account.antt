-- What a run did to the outside: calls of a port, files, and the line put (docs/DEFINITIONS.md,
-- "The account of a run").
use Rattle.std.specs.Prelude.{◌≡◌, ℕ, List, [], ◌∷◌, ◌⊎◌, Ok}
use Rattle.viz_base.specs.declared.port.Port as port
use Rattle.viz_base.specs.declared.out.Out as out
use Rattle.viz_base.specs.declared.call.Call.{Call}
use Rattle.viz_base.specs.declared.call.Call.TheVariants.{Read, Write}
use Rattle.viz_base.specs.declared.call.ReadAnswer.{ReadAnswer}
use Rattle.viz_base.specs.declared.call.ReadAnswer.TheVariants as read
use Rattle.viz_base.specs.declared.call.WriteAnswer.{WriteAnswer}
use Rattle.viz_base.specs.declared.call.WriteAnswer.TheVariants as write
use Rattle.viz_report.specs.declared.line.Reason.{Reason}
use Rattle.viz_reshape.specs.declared.reshape.FileCounts.{FileCounts}
use Rattle.viz_told.specs.declared.status.Status.{Status}
use Rattle.viz_told.specs.Calls.{IsCalled}
use Rattle.viz_told.specs.Told.{IsTold}
use Rattle.viz_once.specs.declared.outcome.Failed.TheVariants as call
use Rattle.viz_once.specs.declared.outcome.Outcome.{Outcome}
use Rattle.viz_once.specs.declared.outcome.Outcome.TheVariants as outcome
use Rattle.viz_once.specs.Command.{Command}
use Rattle.viz_once.specs.Files.{IsFileFor, IsMadeFor}
use Rattle.viz_once.specs.Reasons.{IsReason}
use Rattle.viz_once.specs.Report.{telling_of}

-- ---- a port

-- what a command did at its port: no call that was answered; a read; or a read of these bytes, and
-- a write of this text
pub data Deed : Type 0 where
  Nothing : Deed
  Asked : ReadAnswer → Deed
  Answered : List ℕ → List ℕ → WriteAnswer → Deed

-- the calls of a deed
abbrev pub calls_of : Command → Deed → List Call
calls_of c Nothing = []
calls_of c (Asked answer) = Read c.input answer ∷ []
calls_of c (Answered bytes text answer) = Read c.input
    (read.Given bytes) ∷ Write c.output text answer ∷ []

-- ---- outcomes

-- a command is refused for a reason
abbrev pub Refuses : Command → ReadAnswer → Outcome → Type 0
Refuses c answer o = (why : Reason) × IsReason c.filter answer why × (o ≡ outcome.Refused why)

-- the outcome of a command whose read was answered so, and that wrote nothing
abbrev pub EndsUnwritten : Command → ReadAnswer → Outcome → Type 0
EndsUnwritten c (read.Given bytes) o = (o ≡ outcome.Memory) ⊎ Refuses c (read.Given bytes) o
EndsUnwritten c (read.TooLong taken) o = Refuses c (read.TooLong taken) o
EndsUnwritten c read.Failed o = o ≡ outcome.Fault call.Read

-- the outcome of a command that wrote this text, by what the write answered: the text is the file
-- that the filter makes of the bytes, and its counts are told where it was written
abbrev pub EndsWritten : Command → List ℕ → List ℕ → WriteAnswer → Outcome → Type 0
EndsWritten c bytes text write.Written o =
    (counts : FileCounts) × IsMadeFor c.filter bytes text counts × (o ≡ outcome.Written counts)
EndsWritten c bytes text write.Failed o = IsFileFor c.filter bytes (Ok text)
    × (o ≡ outcome.Fault call.Write)

-- the outcome of a command that did this
abbrev pub IsOutcomeOf : Command → Deed → Outcome → Type 0
IsOutcomeOf c Nothing o = o ≡ outcome.Memory
IsOutcomeOf c (Asked answer) o = EndsUnwritten c answer o
IsOutcomeOf c (Answered bytes text answer) o = EndsWritten c bytes text answer o

-- a port served a command, with this outcome
abbrev pub IsServed : {P : Type 0} → port.Ghosts P → Command → Outcome → P → P → Type 0
IsServed m c o old new = (deed : Deed) × IsOutcomeOf c deed o × IsCalled m (calls_of c deed) old new

-- the first port served a command, and all other ports are as before; where there is none nothing
-- is done
abbrev pub Serves : {P : Type 0} → port.Ghosts P → Command → Outcome → List P → List P → Type 0
Serves m c o [] new = (o ≡ outcome.NoPort) × (new ≡ [])
Serves m c o (p ∷ ps) [] = ⊥
Serves m c o (p ∷ ps) (q ∷ qs) = IsServed m c o p q × (qs ≡ ps)

-- ---- a run

-- what a run was: an outcome of its command, what was done at the ports, and the line put with the
-- status
pub record IsRun {P O : Type 0} (ports : port.Ghosts P) (output : out.Ghosts O) (c : Command)
    (old new : List P) (before after : O) (ended : Status) : Type 0 where
  pub found : Outcome
  pub served : Serves ports c found old new
  pub told : IsTold output (telling_of found) ended before after
