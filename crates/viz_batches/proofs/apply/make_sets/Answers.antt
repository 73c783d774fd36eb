use Rattle.std.proofs.Common.{rules}
use Rattle.viz_batches.proofs.SetLemmas.{check_refuses, check_passes}
use Rattle.viz_batches.proofs.apply.make_sets.Goals as goal

pub returns-in_err-check_all-clause-applies : goal.returns-in_err-check_all-clause-applies
returns-in_err-check_all-clause-applies c =
    let refused = check_refuses c.args.at c.args.edits.now c.args.net.now c.in_err-check_all.field-0.0 c.requires.sets c.in_err-check_all.ensures in
    search (rules, refused)

pub returns-clause-applies : goal.returns-clause-applies
returns-clause-applies c =
    check_passes c.args.at c.args.edits.now c.args.net.now c.make_each.new.net c.make_each.result c.requires.sets c.in_ok-check_all.ensures (λ is. c.make_each.ensures.memory is c.requires.sets) c.make_each.ensures.makes
