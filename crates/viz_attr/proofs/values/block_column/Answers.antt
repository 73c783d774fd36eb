use Rattle.std.proofs.Common.{◌≡◌, ◌*◌, ℕ, ℤ, List, length, ap, sym, subst, ◌∙◌, arith}
use Rattle.viz_column.specs.Numbers.{Numbers}
use Rattle.viz_column.specs.Bytes.{numbers_in}
use Rattle.viz_attr.specs.Values.{firsts}
use Rattle.viz_attr.proofs.FirstsLemmas.{firsts-one, length-numbers_in}
use Rattle.viz_attr.proofs.values.block_column.Goals as goal

pub returns-then-components-eq1 : goal.returns-then-components-eq1
returns-then-components-eq1 c =
    let all = numbers_in c.args.kind c.args.bytes.now in
    let long : length all ≡ c.args.tuples = (let l = length-numbers_in c.args.kind c.args.bytes.now c.args.tuples c.args.components c.requires.all in let one : c.args.tuples * c.args.components ≡ c.args.tuples = rw c.if-components-eq1.true (omega arith) in l ∙ one) in
    let one : firsts c.args.components c.args.tuples all ≡ all = rw c.if-components-eq1.true (firsts-one c.args.tuples all long) in
    rw one c.in_ok-numbers.ensures.value

pub first_column-requires-clause-all : goal.first_column-requires-clause-all
first_column-requires-clause-all c =
    ap (λ (n : Numbers). length n.items) c.in_ok-numbers.ensures.value ∙ length-numbers_in c.args.kind c.args.bytes.now c.args.tuples c.args.components c.requires.all
