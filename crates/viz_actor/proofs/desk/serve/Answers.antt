use Rattle.std.proofs.Common.{rules, refl, subst, List, ℕ}
use Rattle.viz_base.specs.declared.call.ReadAnswer.TheVariants as read
use Rattle.viz_actor.specs.Deeds.{Asked}
use Rattle.viz_actor.specs.DeskServing.{IsRanBehind}
use Rattle.viz_actor.proofs.DeskLemmas.{ran_after}
use Rattle.viz_actor.proofs.desk.serve.Goals as goal

pub returns-in-Err-Failed : goal.returns-in-Err-Failed
returns-in-Err-Failed g c = (Asked read.Failed, refl, search rules)

pub returns-in-Err-TooLong : goal.returns-in-Err-TooLong
returns-in-Err-TooLong g c = (Asked (read.TooLong c.in-Err-TooLong.field-0-0), search rules, search rules)

pub returns : goal.returns
returns g c =
    let r = c.in-Ok.ensures in
    ran_after g.P.Port c.args.script.now c.args.journal.now c.args.desk.now c.read.new.self c.serve_bytes.new.desk c.in-Ok.bytes r.told r.bytes r.kept r.later r.same_limit
    c.args.ports.now.items c.serve_bytes.new.ports.items c.serve_bytes.result
    (subst (λ (b : List ℕ). IsRanBehind g.P.Port b c.args.journal.now c.serve_bytes.result c.read.new.self c.serve_bytes.new.desk c.args.ports.now.items c.serve_bytes.new.ports.items) c.list.ensures.value c.serve_bytes.ensures)
