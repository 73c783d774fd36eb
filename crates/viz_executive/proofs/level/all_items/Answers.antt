use Rattle.std.proofs.Common.{◌≡◌, length, sym, subst, ◌∙◌, ap, rules}
use Rattle.std.proofs.lemmas.Iterator.Adapters.{YieldsList-from_vec}
use Rattle.std.proofs.lemmas.Iterator.Consumers.{YieldsList-end}
use Rattle.std.proofs.lemmas.List.{map-id}
use Rattle.viz_workers.specs.Level.{AreItems}
use Rattle.viz_executive.specs.Steps.Tasks.{HasItem}
use Rattle.viz_executive.proofs.DoneLemmas.{items_of}
use Rattle.viz_executive.proofs.level.all_items.Goals as goal

pub returns : goal.returns
returns c =
    let e = YieldsList-end (YieldsList-from_vec {s = c.into_iter-item-iterator.result} c.args.items.items (search rules) (search rules)) c.loop-item.yielded c.loop-item.item-iterator c.loop-item.yielded_by c.next.result c.next.new.self c.in-None.is c.next.ensures.steps in
    let same = sym e.0 ∙ map-id c.loop-item.yielded ∙ c.loop-item.invariant.items in
    let many : length c.args.items.items ≡ length c.args._keys.now = search rules in
    record {
      items = items_of c.args._ground.now c.args._keys.now c.args._first c.loop-item.all.items
          (subst (AreItems (HasItem c.args._ground.now c.args._keys.now c.args._first) c.args._first) same c.requires.items)
          (ap length (sym same) ∙ many);
    }
