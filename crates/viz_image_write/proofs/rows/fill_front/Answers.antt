use Rattle.std.proofs.Common.{◌<◌, length, map, arith}
use Rattle.std.specs.List.{flat_map}
use Rattle.std.proofs.lemmas.List.{length-map}
use Rattle.viz_image_write.specs.ImageText.{spaced_number}
use Rattle.viz_image_write.proofs.RowLemmas.{starts_within, behind_space}
use Rattle.viz_image_write.proofs.rows.fill_front.Goals as goal

pub returns-clause-written : goal.returns-clause-written
returns-clause-written g c =
    behind_space c.fill-start.result c.fill-start.new.block
    (flat_map spaced_number (map g.T.Number.value c.args.values.now))
    c.fill-start.ensures.written

pub returns-clause-at : goal.returns-clause-at
returns-clause-at g c =
    let xs = map g.T.Number.value c.args.values.now in
    let some : 0 < length xs =
    omega (arith, c.requires.some, length-map c.args.values.now g.T.Number.value) in
    omega (arith, c.requires.room, starts_within c.fill-start.result c.fill-start.new.block xs some c.fill-start.ensures.written)
