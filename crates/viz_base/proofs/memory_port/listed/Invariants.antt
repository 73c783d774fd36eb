use Rattle.std.proofs.Common.{◌≡◌, ◌+◌, drop}
use Rattle.viz_base.specs.MemoryPort.{kept_at}
use Rattle.viz_base.proofs.memory_port.listed.Given as goal

-- what is left says it
abbrev pub invariant-loop-fail : goal.invariant-loop-fail
invariant-loop-fail l = kept_at (drop l.fail-index l.failing) (l.made + 1) ≡ kept_at l.failing (l.made + 1)
