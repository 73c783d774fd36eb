use Rattle.std.proofs.Common.{◌≡◌, ◌++◌, ◌∷◌, [], Ok, arith}
use Rattle.std.proofs.lemmas.Grind.{common_steps}
use Rattle.viz_offset_cells.specs.Steps.{offset_at}
use Rattle.viz_offset_cells.proofs.Loops.{known-on, known-done}
use Rattle.viz_offset_cells.proofs.offsets.listed_offsets.Goals as goal

pub loop-preserved : goal.loop-preserved
loop-preserved c =
    let n = c.in_ok-offset.field-0 in
    let pushed : c.push.new.self.items ≡ c.loop.offsets.items ++ n ∷ [] = search (arith, common_steps) in
    let read : offset_at c.args.binary c.args.kind c.args.most c.args.indices c.loop.offsets.items c.loop.lexer ≡ Ok (n, c.offset.new.lexer) = search (arith, common_steps) in
    rw pushed (known-on (offset_at c.args.binary c.args.kind c.args.most c.args.indices) c.args.most c.loop.counter c.loop.offsets.items c.loop.lexer n c.offset.new.lexer _ c.loop-test.true read c.loop.invariant)

pub returns : goal.returns
returns c = known-done (offset_at c.args.binary c.args.kind c.args.most c.args.indices) c.args.most c.loop.counter c.loop.offsets.items c.loop.lexer _ c.loop-test.false c.loop.invariant
