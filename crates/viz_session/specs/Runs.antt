-- What a run promises, by its command (docs/FORMATS.md, "Report").
use Rattle.std.specs.Prelude.{◌≡◌, false, List, Option, None, Some, ◌⊎◌}
use Rattle.viz_base.specs.declared.port.Port as port
use Rattle.viz_base.specs.declared.out.Out as out
use Rattle.viz_once.specs.Account as once_account
use Rattle.viz_once.specs.Commands as once
use Rattle.viz_once.specs.Promises as once_promises
use Rattle.viz_make.specs.declared.came.Came.{Came as MakeCame}
use Rattle.viz_make.specs.Make as make
use Rattle.viz_make.specs.Promises as make_promises
use Rattle.viz_make.specs.Told as make_told
use Rattle.viz_make.specs.Views.{make_of}
use Rattle.viz_migrate.specs.Migrate as migrate
use Rattle.viz_migrate.specs.Promises as migrate_promises
use Rattle.viz_migrate.specs.Told as migrate_told
use Rattle.viz_migrate.specs.Views.{migrate_view}
use Rattle.viz_migrate.specs.declared.came.Came.{Came as MigrateCame}
use Rattle.viz_replay.specs.Promises as replay_promises
use Rattle.viz_replay.specs.Replay as replay
use Rattle.viz_replay.specs.Served.{replay_of}
use Rattle.viz_replay.specs.Told as replay_told
use Rattle.viz_replay.specs.declared.came.Came.{Came}
use Rattle.viz_actor.specs.Deeds as deeds
use Rattle.viz_actor.specs.Promises as script_promises
use Rattle.viz_actor.specs.Told as script_told
use Rattle.viz_actor.specs.declared.ran.Ran.{Ran}
use Rattle.viz_told.specs.declared.status.Status.{Status}
use Rattle.viz_told.specs.declared.status.Status.TheVariants as status
use Rattle.viz_told.specs.Lines.{usage_line}
use Rattle.viz_told.specs.Ports as ports
use Rattle.viz_told.specs.Told.{Telling, IsTold}
use Rattle.viz_session.specs.Command.{Command, Once, Script, Scratch, Migrate, Make}
use Rattle.viz_session.specs.declared.command.Command.{Command as Words}
use Rattle.viz_session.specs.declared.command.Command.TheVariants as words

-- a command as contracts see it
abbrev pub command_view : Words → Command
command_view (words.Once c) = Once (once.command_view c)
command_view (words.Script script journal) = Script script.now journal.now
command_view (words.Scratch replay) = Scratch (replay_of replay)
command_view (words.Migrate migration) = Migrate (migrate_view migration)
command_view (words.Make made) = Make (make_of made)

-- what is told where the words are no command
abbrev pub usage_told : Telling
usage_told = record { text = usage_line; status = status.Usage; is_made = false }

module _ {P O : Type 0} (m : port.Ghosts P) (o : out.Ghosts O) (desk new_desk : P)
    (old new : List P) (before after : O) where
  -- what a run was: the account of its command, and what was put of it. The command of one file and
  -- that of a volume use no desk; where the words are no command nothing is used
  abbrev pub IsRun : Option Command → Status → Type 0
  IsRun (Some (Once c)) ended = once_account.IsRun m o c old new before after ended
      × (new_desk ≡ desk)
  IsRun (Some (Script script journal)) ended =
      (ran : Ran) × deeds.IsScriptRun m script journal ran desk new_desk old new
      × IsTold o (script_told.telling_of ran) ended before after
  IsRun (Some (Scratch c)) ended =
      (came : Came) × replay.IsReplayRun m c came desk new_desk old new
      × IsTold o (replay_told.telling_of came) ended before after
  IsRun (Some (Migrate c)) ended =
      (came : MigrateCame) × migrate.IsMigrateRun m c came desk new_desk old new
      × IsTold o (migrate_told.telling_of came) ended before after
  IsRun (Some (Make c)) ended =
      (came : MakeCame) × make.IsMakeRun m c came old new
      × IsTold o (make_told.telling_of came) ended before after × (new_desk ≡ desk)
  IsRun None ended = IsTold o usage_told ended before after × (new ≡ old) × (new_desk ≡ desk)

  -- a run that answers Done
  abbrev pub IsDone : Option Command → Type 0
  IsDone (Some (Once c)) = once_promises.IsDone m o c old new before after
  IsDone (Some (Script script journal)) =
      script_promises.IsReported m o script journal status.Done desk new_desk old new before after
  IsDone (Some (Scratch c)) = replay_promises.IsDone m o c desk new_desk old new before after
  IsDone (Some (Migrate c)) = migrate_promises.IsDone m o c desk new_desk old new before after
  IsDone (Some (Make c)) = make_promises.IsDone m o c old new before after
  IsDone None = ⊥

  -- a run that answers Refused
  abbrev pub IsRefused : Option Command → Type 0
  IsRefused (Some (Once c)) = once_promises.IsRefused m o c old new before after
  IsRefused (Some (Script script journal)) =
      script_promises.IsReported m o script journal status.Refused desk new_desk old new before
      after
  IsRefused (Some (Scratch c)) = replay_promises.IsRefused m o c desk new_desk old new before after
  IsRefused (Some (Migrate c)) = ⊥
  IsRefused (Some (Make c)) = ⊥
  IsRefused None = ⊥

  -- where a reason for a refusal holds, of a file, a script or a journal, or there is no port, it
  -- is told
  abbrev pub Refuses : Option Command → Status → Type 0
  Refuses (Some (Once c)) ended = once_promises.TellsRefusals m o c old new before after ended
  Refuses (Some (Script script journal)) ended =
      script_promises.TellsRefusals m o script desk new_desk old new before after ended
  Refuses (Some
      (Scratch c)) ended = replay_promises.TellsRefusals m o c desk new_desk old new before after
      ended
  Refuses (Some
      (Migrate c)) ended = migrate_promises.TellsRefusals m o c desk new_desk old new before after
      ended
  Refuses (Some (Make c)) ended = make_promises.TellsRefusals o old before after ended
  Refuses None ended = Unit {0}

  -- a run that answers Script: the script or journal is refused, or there is no port
  abbrev pub IsScript : Option Command → Type 0
  IsScript (Some (Once c)) = once_promises.IsScript m o old new before after
  IsScript (Some
      (Script script journal)) = script_promises.IsScriptRefused m o script journal desk new_desk
      old new before after
  IsScript (Some (Scratch c)) = replay_promises.IsScript m o c desk new_desk old new before after
  IsScript (Some (Migrate c)) = migrate_promises.IsScript m o c desk new_desk old new before after
  IsScript (Some (Make c)) = make_promises.IsScript m o old new before after
  IsScript None = ⊥

  -- a run that answers Fault: what failed, and what was told of it
  abbrev pub IsFault : Option Command → Type 0
  IsFault (Some (Once c)) = once_promises.IsFault m o c old new before after
  IsFault (Some (Script script journal)) =
      script_promises.IsServedWithFault m o script journal desk new_desk old new before after
      ⊎ script_promises.IsUnread m o script journal desk new_desk old new before after
  IsFault (Some (Scratch c)) = replay_promises.IsFault m o c desk new_desk old new before after
  IsFault (Some (Migrate c)) = migrate_promises.IsFault m o c desk new_desk old new before after
  IsFault (Some (Make c)) = make_promises.IsFault m o c old new before after
  IsFault None = ⊥

  -- a run that answers Memory
  abbrev pub IsCutOff : Option Command → Type 0
  IsCutOff (Some
      (Script script journal)) = script_promises.IsCutOff m script journal desk new_desk old new
  IsCutOff (Some c) = Unit {0}
  IsCutOff None = ⊥

  -- of a script a port whose actor has no command is as before; of other commands all ports but
  -- the first are, and where they use no desk the desk is; where the words are no command all is
  abbrev pub OthersStay : Option Command → Type 0
  OthersStay (Some (Once c)) = ports.OthersStay old new × (new_desk ≡ desk)
  OthersStay (Some
      (Script script journal)) = script_promises.IdleStay m script journal desk new_desk old new
  OthersStay (Some (Scratch c)) = ports.OthersStay old new
  OthersStay (Some (Migrate c)) = ports.OthersStay old new
  OthersStay (Some (Make c)) = ports.OthersStay old new × (new_desk ≡ desk)
  OthersStay None = (new ≡ old) × (new_desk ≡ desk)
