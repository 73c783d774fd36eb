use Rattle.std.proofs.Common.{◌≡◌, ◌++◌, take}
use Rattle.viz_mesh_parts.proofs.copies.push_copied.Given as goal

abbrev pub invariant-loop-part : goal.invariant-loop-part
invariant-loop-part l = l.out.items ≡ l.initial.out.items ++ take l.part-index l.parts
