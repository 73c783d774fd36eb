use Rattle.std.proofs.Common.{take}
use Rattle.viz_scratch.specs.Steps.Readers.{IsRaised}
use Rattle.viz_scratch.proofs.readers.raise.Given as goal

abbrev pub invariant-loop-place : goal.invariant-loop-place
invariant-loop-place l = record { raised : IsRaised l.k (take l.place-index l.places) l.fn.last.items l.last.items }
