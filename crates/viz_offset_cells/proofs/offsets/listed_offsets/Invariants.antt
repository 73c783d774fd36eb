use Rattle.std.proofs.Common.{◌≡◌, ◌-◌, []}
use Rattle.viz_lex.specs.Readers.{known_at}
use Rattle.viz_offset_cells.specs.Steps.{offset_at}
use Rattle.viz_offset_cells.proofs.offsets.listed_offsets.Given as goal

-- what comes of the offsets that are left is what comes of all
abbrev pub invariant-loop : goal.invariant-loop
invariant-loop l = known_at (offset_at l.binary l.kind l.most l.indices) (l.most - l.counter) l.offsets.items l.lexer ≡ known_at (offset_at l.fn.binary l.fn.kind l.fn.most l.fn.indices) l.fn.most [] l.fn.lexer
