use Rattle.std.proofs.Common.{ℕ, List, Ok, rules, refl, sym, subst, inl, inr}
use Rattle.viz_base.specs.declared.call.ReadAnswer.TheVariants as read
use Rattle.viz_base.specs.declared.call.WriteAnswer.TheVariants as write
use Rattle.viz_report.specs.declared.line.Reason.TheVariants as reason
use Rattle.viz_once.specs.Account.{Asked, Answered}
use Rattle.viz_once.specs.Commands.{command_view}
use Rattle.viz_once.specs.Files.{IsFileFor, IsMadeFor}
use Rattle.viz_once.specs.Reasons.{IsFaultFor}
use Rattle.viz_once.proofs.ReasonLemmas.{made_file}
use Rattle.viz_once.proofs.ServeLemmas.{written, unwritten}
use Rattle.viz_once.proofs.serving.serve.Goals as goal

pub returns-in-Err-Failed : goal.returns-in-Err-Failed
returns-in-Err-Failed g c = (Asked read.Failed, refl, search rules)

pub returns-in-Err-TooLong : goal.returns-in-Err-TooLong
returns-in-Err-TooLong g c = (Asked (read.TooLong c.in-Err-TooLong.field-0-0), (reason.TooLong, refl, refl), search rules)

pub returns-in-Err-Fault : goal.returns-in-Err-Fault
returns-in-Err-Fault g c =
    let filter = c.args.command.now.filter in
    let fault = c.in-Err-Fault.fault in
    let made = rw c.in-Err-Fault.field-0-is at c.in-Err-Fault.ensures in
    let node = rw c.in-Err-Fault.field-0-is at c.name_at-node.ensures in
    let named = subst (IsFaultFor filter c.in-Ok.bytes fault) (sym node) made in
    (Asked (read.Given c.in-Ok.bytes), inr (reason.Fault fault c.name_at-node.result, named, search rules), search rules)

pub returns-in-Err-Memory-made_of : goal.returns-in-Err-Memory-made_of
returns-in-Err-Memory-made_of g c = (Asked (read.Given c.in-Ok.bytes), inl refl, search rules)

pub returns-in_default : goal.returns-in_default
returns-in_default g c = (Asked (read.Given c.in-Ok.bytes), inl refl, search rules)

pub returns-in-Ok-write : goal.returns-in-Ok-write
returns-in-Ok-write g c =
    let filter = c.args.command.now.filter in
    let bytes = c.in-Ok.bytes in
    let made = c.in-Ok-made_of.made in
    let text = c.in-Ok-of.text in
    let r = c.in-Ok.ensures in
    let w = c.in-Ok-write.ensures in (
      Answered bytes text write.Written,
      (made.counts, subst (λ (t : List ℕ). IsMadeFor filter bytes t made.counts) (sym c.in-Ok-of.ensures.value) c.in-Ok-made_of.ensures, refl),
      written g.P.Port (command_view c.args.command.now) c.args.port.now c.read.new.self c.write.new.self bytes r.told r.bytes r.kept r.later r.same_limit w.later w.same_limit text write.Written w.told w.written w.kept (λ f. absurd f),
    )

pub returns-in-Err-Failed-write : goal.returns-in-Err-Failed-write
returns-in-Err-Failed-write g c =
    let filter = c.args.command.now.filter in
    let bytes = c.in-Ok.bytes in
    let made = c.in-Ok-made_of.made in
    let text = c.in-Ok-of.text in
    let r = c.in-Ok.ensures in
    let w = rw c.in-Err-Failed-write.field-0-is at c.in-Err-Failed-write.ensures in (
      Answered bytes text write.Failed,
      (subst (λ (t : List ℕ). IsFileFor filter bytes (Ok t)) (sym c.in-Ok-of.ensures.value) (made_file filter bytes made.text made.counts c.in-Ok-made_of.ensures), refl),
      written g.P.Port (command_view c.args.command.now) c.args.port.now c.read.new.self c.write.new.self bytes r.told r.bytes r.kept r.later r.same_limit w.later w.same_limit text write.Failed w.told (λ t. w.prefix t refl) w.kept (λ f. w.failed refl),
    )

pub returns : goal.returns
returns g c =
    let r = c.in-Ok.ensures in
    let w = rw c.in-Err-Memory-write.field-0-is at c.in-Err-Memory-write.ensures in (
      Asked (read.Given c.in-Ok.bytes),
      inl refl,
      unwritten g.P.Port (command_view c.args.command.now) c.args.port.now c.read.new.self c.write.new.self c.in-Ok.bytes r.told r.bytes r.kept r.later r.same_limit w.later w.same_limit w.told (λ t. w.err t refl),
    )
