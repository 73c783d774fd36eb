use Rattle.std.proofs.Common.{◌≡◌, ◌+◌, ◌*◌, ◌++◌, map, get_or, pos}
use Rattle.viz_image_ops.specs.Joined.{run_of}
use Rattle.viz_image_ops.proofs.sampling.push_every.Given as goal

-- the numbers so far
abbrev pub invariant-loop-m : goal.invariant-loop-m
invariant-loop-m g l =
    map g.T.Number.value l.kept.items
    ≡ map g.T.Number.value l.fn.kept.items ++ run_of (λ m. get_or (map g.T.Number.value l.numbers) (l.start + m * l.step) (pos 0)) 0 l.m
