use Rattle.std.proofs.Common.{rules, ◌<◌, Some, length, sym, ap, ◌∙◌}
use Rattle.std.proofs.lemmas.Option.{slice_get-get_or}
use Rattle.viz_plan_walk.proofs.levels.push_at.Goals as goal

pub returns-clause-pushed : goal.returns-clause-pushed
returns-clause-pushed g c =
    let lists = c.args.lists.now.items in
    let within : c.args.at < length lists = search rules in
    record {
      before = c.index_mut.result.now;
      after = c.push.new.self;
      there = slice_get-get_or lists c.args.at c.index_mut.result.now within ∙ ap Some (sym c.index_mut.ensures.value);
      longer = c.in_ok-push.ensures.items;
      is = search rules;
    }
