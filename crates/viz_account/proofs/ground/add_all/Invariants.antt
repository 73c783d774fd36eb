use Rattle.viz_kept.specs.True.{AreTrueIn}
use Rattle.viz_account.proofs.ground.add_all.Given as goal

abbrev pub invariant-loop-item : goal.invariant-loop-item
invariant-loop-item l = record { all : AreTrueIn l._net l.all.items }
