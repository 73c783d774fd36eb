use Rattle.std.proofs.Common.{sym, arith}
use Rattle.viz_lex.proofs.ScaleLemmas.{raised_far, power_fits}
use Rattle.viz_lex.proofs.decimal.raised.Goals as goal

pub returns-then-power-gt-HIGHEST_POWER-clause-value :
    goal.returns-then-power-gt-HIGHEST_POWER-clause-value
returns-then-power-gt-HIGHEST_POWER-clause-value c =
    sym (raised_far c.args.n c.args.power (omega arith) (omega arith))

pub pow-requires : goal.pow-requires
pow-requires c = omega (arith, power_fits c.args.power (omega arith))
