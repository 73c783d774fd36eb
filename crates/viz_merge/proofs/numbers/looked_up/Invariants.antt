use Rattle.std.proofs.Common.{◌≡◌, get_or, map, take}
use Rattle.viz_merge.proofs.numbers.looked_up.Given as goal

abbrev pub invariant-loop-lead : goal.invariant-loop-lead
invariant-loop-lead l = l.found.items ≡ map (λ lead. get_or l.numbers lead 0) (take l.lead-index l.leads)
