use Rattle.std.proofs.Common.{◌++◌, ap, ◌∙◌}
use Rattle.viz_executive.specs.Steps.Tasks.{staying}
use Rattle.viz_executive.proofs.DoneLemmas.{done_more, exact_item}
use Rattle.viz_executive.proofs.levels.keep.Goals as goal

pub returns : goal.returns
returns c = λ needs d.
    let net = c.args.ground.now.sites.net in
    let old = c.args.done.now in
    done_more net needs old.table.items c.put.new.table.items old.made.items c.keep_made.new.made.items c.args.item d c.requires.item
    (c.in_ok-keep_made.ensures ∙ ap (λ b. old.made.items ++ staying b c.args.item) c.is_staying.ensures)
    (c.in_ok-put.ensures net d.exact (exact_item net c.args.item c.requires.item))
