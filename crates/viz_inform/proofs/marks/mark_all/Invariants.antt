use Rattle.std.proofs.Common.{◌≡◌, drop, length}
use Rattle.viz_inform.specs.Above.{all_marked}
use Rattle.viz_inform.proofs.marks.mark_all.Given as goal

-- what is left to mark gives the same marks
abbrev pub invariant-loop-input : goal.invariant-loop-input
invariant-loop-input l =
    record {
      same : all_marked l.marks.items (drop l.input-index l.inputs) ≡ all_marked l.fn.marks.items l.inputs;
      count : length l.marks.items ≡ length l.fn.marks.items;
    }
