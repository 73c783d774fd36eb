use Rattle.std.proofs.Common.{◌++◌}
use Rattle.std.specs.Prelude.{codes}
use Rattle.viz_image_write.specs.ImageText.{type_word, array_line}
use Rattle.viz_image_write.proofs.PassLemmas.{appended}
use Rattle.viz_image_write.proofs.image_heads.put_array.Goals as goal

pub returns : goal.returns
unfolding array_line
returns c =
    let text = c.args.text.now.items in
    let word = codes "SCALARS scalars " in
    let kind = type_word c.args.kind in
    appended text c.put_word.new.text.items _ (word ++ kind) (codes " 1\n") (appended text _ c.put_word.new.text.items word kind c.in_ok-extend_from_slice.ensures.items c.in_ok-put_word.ensures) c.in_ok-extend_from_slice-2.ensures.items
