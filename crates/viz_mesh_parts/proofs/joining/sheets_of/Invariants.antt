use Rattle.std.proofs.Common.{◌≡◌, map, take}
use Rattle.viz_mesh_parts.proofs.joining.sheets_of.Given as goal

abbrev pub invariant-loop-part : goal.invariant-loop-part
invariant-loop-part l = l.sheets.items ≡ map (λ p. p.sheet) (take l.part-index l.parts)
