use Rattle.std.proofs.Common.{◌≡◌, drop}
use Rattle.viz_inform.specs.Table.{first_fault}
use Rattle.viz_inform.proofs.gathered.fault_in.Given as goal

-- the places that are left have the fault
abbrev pub invariant-loop-place : goal.invariant-loop-place
invariant-loop-place g l = first_fault l.table (drop l.place-index l.places) ≡ first_fault l.table l.places
