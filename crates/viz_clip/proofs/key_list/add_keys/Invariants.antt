use Rattle.std.proofs.Common.{take}
use Rattle.viz_cells.specs.Steps.Numbered.{AreAdded}
use Rattle.viz_clip.proofs.key_list.add_keys.Given as goal

-- the keys so far
abbrev pub invariant-loop-key : goal.invariant-loop-key
invariant-loop-key l = AreAdded l.fn.ends.items (take l.key-index l.keys) l.ends.items
