use Rattle.std.proofs.Common.{◌≡◌, ◌-◌, ◌++◌, ◌∷◌, [], slice_index_or, true, arith}
use Rattle.std.proofs.lemmas.Grind.{common_steps}
use Rattle.viz_offset_cells.specs.Blocks.{IsRunIn}
use Rattle.viz_offset_cells.proofs.WideRuns.{runs-room, runs-few, runs-step, runs-all}
use Rattle.viz_offset_cells.proofs.wide_runs.runs_in.Goals as goal

pub overflow_cast-count : goal.overflow_cast-count
overflow_cast-count c =
    let few = runs-few c.args.points c.args.indices c.loop-next.next-index c.loop-next.last c.args.offsets.now _ _ _ _ c.loop-next-test.true c.requires.within c.loop-next.invariant in
    record { fits = omega (arith, few) }

pub run_in-requires-clause-room : goal.run_in-requires-clause-room
run_in-requires-clause-room c = runs-room c.args.points c.args.indices c.loop-next.next-index c.loop-next.last c.args.offsets.now _ _ _ _ c.loop-next-test.true c.requires.room c.loop-next.invariant

pub overflow_mul-count : goal.overflow_mul-count
overflow_mul-count c =
    let few = runs-few c.args.points c.args.indices c.loop-next.next-index c.loop-next.last c.args.offsets.now _ _ _ _ c.loop-next-test.true c.requires.within c.loop-next.invariant in
    record { fits = omega (arith, few) }

pub behind-left-requires : goal.behind-left-requires
behind-left-requires c = runs-room c.args.points c.args.indices c.loop-next.next-index c.loop-next.last c.args.offsets.now _ _ _ _ c.loop-next-test.true c.requires.room c.loop-next.invariant

pub loop-next-preserved : goal.loop-next-preserved
loop-next-preserved c =
    let count = slice_index_or c.args.offsets.now c.loop-next.next-index 0 - c.loop-next.last in
    let pushed : c.push.new.self.items ≡ c.loop-next.numbers.items ++ count ∷ [] = search (arith, common_steps) in
    let all : c.in_ok-run_in.field-0 ≡ true = search (arith, common_steps) in
    let run : IsRunIn c.args.points count (c.loop-next.numbers.items ++ count ∷ []) c.run_in.new.numbers.items c.loop-next.left.now = rw pushed at (c.in_ok-run_in.ensures all) in
    runs-step c.args.points c.args.indices c.loop-next.next-index c.loop-next.last c.args.offsets.now c.args.numbers.now.items c.loop-next.numbers.items c.run_in.new.numbers.items c.loop-next.left.now c.behind-left.result.now c.args.bytes.now
    c.loop-next-test.true run c.behind-left.ensures c.loop-next.invariant

pub returns : goal.returns
returns c true_is = runs-all c.args.points c.args.indices c.loop-next.next-index c.loop-next.last c.args.offsets.now c.args.numbers.now.items c.loop-next.numbers.items c.loop-next.left.now c.args.bytes.now c.loop-next-test.false c.loop-next.invariant
