use Rattle.std.proofs.Common.{Option, Some, subst, sym, inl, inr}
use Rattle.viz_session.specs.Command.{Command}
use Rattle.viz_session.specs.declared.command.Command.{Command as Words}
use Rattle.viz_session.specs.Complete.{IsComplete}
use Rattle.viz_session.specs.Runs.{IsCutOff, IsFault, command_view}
use Rattle.viz_session.proofs.RoseLemmas.{some_of_first, none_of_all, none_of_three, none_of_two}
use Rattle.viz_session.proofs.session.run.Goals as goal

pub returns-in-Some-Script-clause-fault : goal.returns-in-Some-Script-clause-fault
returns-in-Some-Script-clause-fault g c = λ is.
    subst (λ (x : Option Command). IsFault g.P.Port g.O.Out c.args.desk.now c.run_script.new.desk c.args.ports.now.items c.run_script.new.ports.items c.args.out.now c.run_script.new.out x)
    c.in-Some-Script.ensures
    (subst (λ (w : Words). IsFault g.P.Port g.O.Out c.args.desk.now c.run_script.new.desk c.args.ports.now.items c.run_script.new.ports.items c.args.out.now c.run_script.new.out (Some (command_view w)))
    (sym c.in-Some-Script.field-0-is) (c.run_script.ensures.fault is))

pub returns-in-Some-Migrate-clause-fault : goal.returns-in-Some-Migrate-clause-fault
returns-in-Some-Migrate-clause-fault g c = λ is.
    subst (λ (x : Option Command). IsFault g.P.Port g.O.Out c.args.desk.now c.run_migrate.new.desk c.args.ports.now.items c.run_migrate.new.ports.items c.args.out.now c.run_migrate.new.out x)
    c.in-Some-Migrate.ensures
    (subst (λ (w : Words). IsFault g.P.Port g.O.Out c.args.desk.now c.run_migrate.new.desk c.args.ports.now.items c.run_migrate.new.ports.items c.args.out.now c.run_migrate.new.out (Some (command_view w)))
    (sym c.in-Some-Migrate.field-0-is) (c.run_migrate.ensures.fault is))

pub returns-in-Some-Scratch-clause-cause : goal.returns-in-Some-Scratch-clause-cause
returns-in-Some-Scratch-clause-cause g c = λ is. elim (c.run_scratch.ensures.cause is) [
  | inl desk ↦ inl desk
  | inr t ↦ elim t [
    | inl first ↦ inr (inl (some_of_first g.P.Port c.args.ports.now.items c.run_scratch.new.ports.items first))
    | inr put ↦ inr (inr put)
  ]
]

pub returns-in-Some-Migrate-clause-cause : goal.returns-in-Some-Migrate-clause-cause
returns-in-Some-Migrate-clause-cause g c = λ is. elim (c.run_migrate.ensures.cause is) [
  | inl desk ↦ inl desk
  | inr t ↦ elim t [
    | inl first ↦ inr (inl (some_of_first g.P.Port c.args.ports.now.items c.run_migrate.new.ports.items first))
    | inr put ↦ inr (inr put)
  ]
]

pub returns-in-Some-Make-clause-cause : goal.returns-in-Some-Make-clause-cause
returns-in-Some-Make-clause-cause g c = λ is. elim (c.run_make.ensures.cause is) [
  | inl first ↦ inr (inl (some_of_first g.P.Port c.args.ports.now.items c.run_make.new.ports.items first))
  | inr put ↦ inr (inr put)
]

pub returns-in-Some-Once-clause-cause : goal.returns-in-Some-Once-clause-cause
returns-in-Some-Once-clause-cause g c = λ is. elim (c.run_once.ensures.cause is) [
  | inl first ↦ inr (inl (some_of_first g.P.Port c.args.ports.now.items c.run_once.new.ports.items first))
  | inr put ↦ inr (inr put)
]

pub returns-in-Some-Script-clause-never : goal.returns-in-Some-Script-clause-never
returns-in-Some-Script-clause-never g c = λ never quiet is. none_of_all g.P.Port never _ quiet _ _ _ _ (c.run_script.ensures.cause is)

pub returns-in-Some-Scratch-clause-never : goal.returns-in-Some-Scratch-clause-never
returns-in-Some-Scratch-clause-never g c = λ never quiet is. none_of_three g.P.Port never _ quiet _ _ _ _ (c.run_scratch.ensures.cause is)

pub returns-in-Some-Migrate-clause-never : goal.returns-in-Some-Migrate-clause-never
returns-in-Some-Migrate-clause-never g c = λ never quiet is. none_of_three g.P.Port never _ quiet _ _ _ _ (c.run_migrate.ensures.cause is)

pub returns-in-Some-Make-clause-never : goal.returns-in-Some-Make-clause-never
returns-in-Some-Make-clause-never g c = λ never quiet is. none_of_two g.P.Port never _ quiet _ _ (c.run_make.ensures.cause is)

pub returns-in-Some-Once-clause-never : goal.returns-in-Some-Once-clause-never
returns-in-Some-Once-clause-never g c = λ never quiet is. none_of_two g.P.Port never _ quiet _ _ (c.run_once.ensures.cause is)

pub returns-in-Some-Script-clause-memory : goal.returns-in-Some-Script-clause-memory
returns-in-Some-Script-clause-memory g c = λ is.
    subst (λ (x : Option Command). IsCutOff g.P.Port g.O.Out c.args.desk.now c.run_script.new.desk c.args.ports.now.items c.run_script.new.ports.items c.args.out.now c.run_script.new.out x)
    c.in-Some-Script.ensures
    (subst (λ (w : Words). IsCutOff g.P.Port g.O.Out c.args.desk.now c.run_script.new.desk c.args.ports.now.items c.run_script.new.ports.items c.args.out.now c.run_script.new.out (Some (command_view w)))
    (sym c.in-Some-Script.field-0-is) (c.run_script.ensures.memory is))

pub returns-in-Some-Script-clause-complete : goal.returns-in-Some-Script-clause-complete
returns-in-Some-Script-clause-complete g c =
    subst (λ (x : Option Command). IsComplete g.P.Port g.O.Out c.args.desk.now c.run_script.new.desk c.args.ports.now.items c.run_script.new.ports.items c.args.out.now c.run_script.new.out x c.run_script.result)
    c.in-Some-Script.ensures
    (subst (λ (w : Words). IsComplete g.P.Port g.O.Out c.args.desk.now c.run_script.new.desk c.args.ports.now.items c.run_script.new.ports.items c.args.out.now c.run_script.new.out (Some (command_view w)) c.run_script.result)
    (sym c.in-Some-Script.field-0-is) (c.run_script.ensures.complete))

pub returns-in-Some-Once-clause-complete : goal.returns-in-Some-Once-clause-complete
returns-in-Some-Once-clause-complete g c =
    subst (λ (x : Option Command). IsComplete g.P.Port g.O.Out c.args.desk.now c.args.desk.now c.args.ports.now.items c.run_once.new.ports.items c.args.out.now c.run_once.new.out x c.run_once.result)
    c.in-Some-Once.ensures
    (subst (λ (w : Words). IsComplete g.P.Port g.O.Out c.args.desk.now c.args.desk.now c.args.ports.now.items c.run_once.new.ports.items c.args.out.now c.run_once.new.out (Some (command_view w)) c.run_once.result)
    (sym c.in-Some-Once.field-0-is) (c.run_once.ensures.complete))

pub returns-in-Some-Scratch-clause-complete : goal.returns-in-Some-Scratch-clause-complete
returns-in-Some-Scratch-clause-complete g c =
    subst (λ (x : Option Command). IsComplete g.P.Port g.O.Out c.args.desk.now c.run_scratch.new.desk c.args.ports.now.items c.run_scratch.new.ports.items c.args.out.now c.run_scratch.new.out x c.run_scratch.result)
    c.in-Some-Scratch.ensures
    (subst (λ (w : Words). IsComplete g.P.Port g.O.Out c.args.desk.now c.run_scratch.new.desk c.args.ports.now.items c.run_scratch.new.ports.items c.args.out.now c.run_scratch.new.out (Some (command_view w)) c.run_scratch.result)
    (sym c.in-Some-Scratch.field-0-is) (c.run_scratch.ensures.complete))

pub returns-in-Some-Migrate-clause-complete : goal.returns-in-Some-Migrate-clause-complete
returns-in-Some-Migrate-clause-complete g c =
    subst (λ (x : Option Command). IsComplete g.P.Port g.O.Out c.args.desk.now c.run_migrate.new.desk c.args.ports.now.items c.run_migrate.new.ports.items c.args.out.now c.run_migrate.new.out x c.run_migrate.result)
    c.in-Some-Migrate.ensures
    (subst (λ (w : Words). IsComplete g.P.Port g.O.Out c.args.desk.now c.run_migrate.new.desk c.args.ports.now.items c.run_migrate.new.ports.items c.args.out.now c.run_migrate.new.out (Some (command_view w)) c.run_migrate.result)
    (sym c.in-Some-Migrate.field-0-is) (c.run_migrate.ensures.complete))
