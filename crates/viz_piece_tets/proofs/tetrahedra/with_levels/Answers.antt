use Rattle.std.proofs.Common.{length, sym, ◌∙◌}
use Rattle.viz_piece_tets.specs.Layers.{block_levels}
use Rattle.viz_piece_tets.proofs.MoveLemmas.{own-part, part-is}
use Rattle.viz_piece_tets.proofs.tetrahedra.with_levels.Goals as goal

pub returns-then-are_all : goal.returns-then-are_all
returns-then-are_all c =
    let whole = c.args.whole.now in
    let block = c.args.block.now in
    part-is c.own.result c.args.sheet (block_levels c.args.p c.args.n whole block) c.own.ensures.sheet
    (c.own.ensures.levels
    ∙ own-part c.args.p c.args.n whole block (length c.args.sheet.cells) c.layers_between-low.result.0 c.layers_between-low.result.1 c.of-own.result.first c.of-own.result.next
    c.requires.matched c.of-own.ensures.first c.of-own.ensures.next c.layers_between-low.ensures.low c.layers_between-low.ensures.high (sym c.are_all.ensures.value ∙ c.if-are_all.true))
