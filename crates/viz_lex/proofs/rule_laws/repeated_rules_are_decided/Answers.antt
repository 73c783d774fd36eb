use Rattle.viz_lex.proofs.RuleLemmas.{decides-times}
use Rattle.viz_lex.proofs.rule_laws.repeated_rules_are_decided.Goals as goal

pub returns : goal.returns
returns g c = record { law = decides-times _ _ c.requires }
