use Rattle.std.proofs.Common.{sym, subst}
use Rattle.std.proofs.lemmas.List.Elements.{All-push}
use Rattle.std.specs.List.{All}
use Rattle.viz_kept.specs.True.{IsTrueIn}
use Rattle.viz_parts.specs.declared.stored.Stored.{Stored}
use Rattle.viz_account.proofs.CountLemmas.{copied_true}
use Rattle.viz_account.proofs.ground.add_all.Goals as goal

pub loop-item-preserved : goal.loop-item-preserved
loop-item-preserved c =
    let net = c.args._net.now in
    let item = c.item-item.result in
    let pushed : Stored = record { key = item.key; part = c.in_ok-part.part } in
    let here : IsTrueIn net item = subst (IsTrueIn net) (sym c.item-item.is)
    (c.requires.items.each c.loop-item.item-index item c.loop-item-test.true) in
    let there = copied_true net item c.in_ok-part.part c.in_ok-part.ensures.value here in
    record {
      all = record {
        each = subst (All (IsTrueIn net)) (sym c.in_ok-push.ensures.items)
            (All-push (IsTrueIn net) c.loop-item.all.items pushed c.loop-item.invariant.all.each
            there);
      };
    }
