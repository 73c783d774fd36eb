use Rattle.std.proofs.Common.{◌<◌, length, rules}
use Rattle.viz_executive.proofs.TableLemmas.{exact_set}
use Rattle.viz_executive.proofs.table.put.Goals as goal

pub returns : goal.returns
returns c = λ net h x.
    let within : c.args.place < length c.args.table.now.items = search rules in
    exact_set net c.args.table.now.items c.args.place c.index_mut.result.now c.push.new.items c.args.item within c.index_mut.ensures.value c.in_ok-push.ensures h x
