use Rattle.std.proofs.Common.{◌+◌, ◌-◌}
use Rattle.viz_inform.specs.Above.{AreMarks}
use Rattle.viz_inform.proofs.marks.marks_above.Given as goal

-- the marks of the steps behind the next one were passed on
abbrev pub invariant-loop-behind : goal.invariant-loop-behind
invariant-loop-behind l = AreMarks l.net l.steps l.sink ((l.sink + 1) - l.behind) l.marks.items
