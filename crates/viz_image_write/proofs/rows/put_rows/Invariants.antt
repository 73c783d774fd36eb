use Rattle.std.proofs.Common.{◌≡◌, ◌++◌, ◌-◌, map}
use Rattle.viz_image_write.specs.ImageText.{rows_text}
use Rattle.viz_image_write.proofs.rows.put_rows.Given as goal

-- the rows so far, and those to come
abbrev pub invariant-loop : goal.invariant-loop
invariant-loop g l = l.text.items ++ rows_text (l.rows - l.counter) l.width (map g.T.Number.value l.left) ≡ l.fn.text.items ++ rows_text l.rows l.width (map g.T.Number.value l.values)
