use Rattle.std.proofs.Common.{◌+◌, ◌∙◌, length, ap, arith}
use Rattle.viz_network.specs.History.{net_after}
use Rattle.viz_replay.proofs.NetworkLemmas.{front_few, few_more, count_more, net_more}
use Rattle.viz_replay.proofs.network.network_after.Goals as goal

pub overflow_add-before : goal.overflow_add-before
overflow_add-before c = omega (arith, c.loop-entry.invariant.before, front_few c.args.entries.now c.loop-entry.entry-index, c.requires)

pub go_through-requires-clause-fits : goal.go_through-requires-clause-fits
go_through-requires-clause-fits c =
    let few = few_more c.args.entries.now c.loop-entry.entry-index c.entry-item.result c.loop-entry-test.true c.entry-item.is c.loop-entry.before c.loop-entry.invariant.before in
    omega (arith, ap length c.edits-edits.ensures.value, few, c.requires)

pub overflow_add-before-in-loop-entry : goal.overflow_add-before-in-loop-entry
overflow_add-before-in-loop-entry c =
    let few = few_more c.args.entries.now c.loop-entry.entry-index c.entry-item.result c.loop-entry-test.true c.entry-item.is c.loop-entry.before c.loop-entry.invariant.before in
    omega (arith, ap length c.edits-edits.ensures.value, few, c.requires)

pub loop-entry-preserved : goal.loop-entry-preserved
loop-entry-preserved c =
    let kept = c.loop-entry.invariant in
    let all = c.args.entries.now in
    let value = c.edits-edits.ensures.value in
    record {
      net = c.in_ok-go_through.ensures ∙ ap (λ l. net_after (c.loop-entry.before + 1) l c.loop-entry.net) value
          ∙ net_more all c.loop-entry.entry-index c.entry-item.result c.loop-entry-test.true c.entry-item.is c.loop-entry.before kept.before c.loop-entry.net kept.net;
      before = ap (λ l. c.loop-entry.before + length l) value ∙ count_more all c.loop-entry.entry-index c.entry-item.result c.loop-entry-test.true c.entry-item.is c.loop-entry.before kept.before;
    }
