use Rattle.std.proofs.Common.{arith, rules}
use Rattle.viz_sheet.specs.Arrays.{ranks_in}
use Rattle.viz_piece_restrict.proofs.LevelLemmas.{round, start, stopped}
use Rattle.viz_piece_restrict.proofs.growth.grow_levels.Goals as goal

pub loop-level-init : goal.loop-level-init
loop-level-init c = start c.args.sheet.now (ranks_in c.ranks-ranks.result.now) c.args.there.now c.args.marks.now c.args.levels.now c.requires.marks c.requires.there c.requires.levels

pub returns-then-not-take_level : goal.returns-then-not-take_level
returns-then-not-take_level c =
    stopped c.args.sheet.now (ranks_in c.ranks-ranks.result.now) c.ranks-ranks.ensures.valid c.ranks-ranks.ensures.value
    c.args.there.now c.loop-level.level c.loop-level.marks c.mark_level.new.marks c.loop-level.there c.loop-level.levels c.take_level.new.there c.take_level.new.levels
    c.loop-level.invariant c.mark_level.ensures c.take_level.ensures.grown c.args.ghosts (omega (arith, c.loop-level-test.true)) (c.take_level.ensures.none (search rules))

pub loop-level-preserved : goal.loop-level-preserved
loop-level-preserved c =
    round c.args.sheet.now (ranks_in c.ranks-ranks.result.now) c.ranks-ranks.ensures.valid c.ranks-ranks.ensures.value
    c.args.there.now c.loop-level.level c.loop-level.marks c.mark_level.new.marks c.loop-level.there c.loop-level.levels c.take_level.new.there c.take_level.new.levels
    c.loop-level.invariant c.mark_level.ensures c.take_level.ensures.grown
