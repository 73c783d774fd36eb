use Rattle.viz_lex.proofs.DecidedLemmas.{IsDefinite-decided}
use Rattle.viz_lex.proofs.rule_laws.decided_rules_are_definite.Goals as goal

pub returns : goal.returns
returns g c = record { law = IsDefinite-decided _ _ c.requires }
