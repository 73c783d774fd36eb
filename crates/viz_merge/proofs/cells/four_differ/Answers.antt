use Rattle.std.proofs.Common.{◌∙◌, ◌&&◌, ap}
use Rattle.viz_merge.proofs.RepeatLemmas.{four-differ}
use Rattle.viz_merge.proofs.cells.four_differ.Goals as goal

pub returns : goal.returns
returns c =
    c.both-3.ensures ∙ ap (λ b. b && c.three_differ.result) (c.both-2.ensures ∙ ap (λ b. c.differ.result && b) c.both.ensures)
    ∙ four-differ c.args.a c.args.b c.args.c c.args.d c.differ.result c.differ-2.result c.differ-3.result c.three_differ.result c.differ.ensures c.differ-2.ensures c.differ-3.ensures c.three_differ.ensures
