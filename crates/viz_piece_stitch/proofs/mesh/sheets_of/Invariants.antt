use Rattle.std.proofs.Common.{◌≡◌, map}
use Rattle.viz_piece_stitch.proofs.mesh.sheets_of.Given as goal

abbrev pub invariant-loop-part : goal.invariant-loop-part
invariant-loop-part l = l.sheets.items ≡ map (λ p. p.sheet) l.yielded
