use Rattle.std.proofs.Common.{sym, subst}
use Rattle.viz_once.specs.declared.command.Filter.{Filter}
use Rattle.viz_once.specs.Steps.Made.{Makes}
use Rattle.viz_once.proofs.MadeLemmas.{reshape_makes}
use Rattle.viz_once.proofs.made.made_of.Goals as goal

pub returns-in-Reshape : goal.returns-in-Reshape
returns-in-Reshape c =
    subst (λ (f : Filter). Makes f c.args.bytes c.reshape_file.result) (sym c.in-Reshape.is)
    (reshape_makes c.in-Reshape.reshape c.args.bytes c.reshape_file.result c.reshape_file.ensures.value)
