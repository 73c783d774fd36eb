use Rattle.std.proofs.Common.{◌≡◌, arith}
use Rattle.viz_kuhn.specs.declared.tetrahedra.TheConstants.{EVEN}
use Rattle.viz_kuhn.proofs.StandardFacts.{flags_match}
use Rattle.viz_kuhn.proofs.RowLemmas.{flag-in_table}
use Rattle.viz_kuhn.proofs.tetrahedra.even.Goals as goal

pub returns : goal.returns
returns c =
    let p_is : c.from.result ≡ c.args.p = omega arith in
    let flag = flag-in_table EVEN flags_match c.args.p c.requires.row in
    rw p_is (rw flag (record { value = (λ is. is, λ is. is) }))
