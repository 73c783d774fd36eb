use Rattle.std.proofs.Common.{arith}
use Rattle.std.proofs.lemmas.Fmt.{length-decimal-le}
use Rattle.viz_image_write.proofs.left.left_count.Goals as goal

pub write_digits-requires : goal.write_digits-requires
write_digits-requires c =
    let short = length-decimal-le 20 c.args.n (omega arith) (omega arith) (omega arith) in
    (omega (arith, short, c.requires.room), c.requires.within)

pub returns-clause-most : goal.returns-clause-most
returns-clause-most c =
    let short = length-decimal-le 20 c.args.n (omega arith) (omega arith) (omega arith) in
    omega (arith, short, c.write_digits.ensures.start)
