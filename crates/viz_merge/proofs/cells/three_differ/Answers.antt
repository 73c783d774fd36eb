use Rattle.std.proofs.Common.{◌∙◌, ◌&&◌, ap}
use Rattle.viz_merge.proofs.RepeatLemmas.{three-differ}
use Rattle.viz_merge.proofs.cells.three_differ.Goals as goal

pub returns : goal.returns
returns c =
    c.both-2.ensures ∙ ap (λ b. b && c.differ-3.result) c.both.ensures
    ∙ three-differ c.args.a c.args.b c.args.c c.differ.result c.differ-2.result c.differ-3.result c.differ.ensures c.differ-2.ensures c.differ-3.ensures
