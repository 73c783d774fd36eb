use Rattle.std.proofs.Common.{◌≡◌, take}
use Rattle.viz_base.specs.Texts.{joined}
use Rattle.viz_base.proofs.long_text.LongText.to_bytes.Given as goal

-- the parts so far
abbrev pub invariant-loop-part : goal.invariant-loop-part
invariant-loop-part l = l.bytes.items ≡ joined (take l.part-index l.part-items)
