use Rattle.viz_lex.proofs.KnownLemmas.{decides-times_knowing}
use Rattle.viz_lex.proofs.rule_laws.knowing_rules_are_decided.Goals as goal

pub returns : goal.returns
returns g c = record { law = decides-times_knowing _ _ c.requires }
