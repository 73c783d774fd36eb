use Rattle.viz_lex.proofs.AllLemmas.{decides-to_the_end}
use Rattle.viz_lex.proofs.rule_laws.rules_to_the_end_are_decided.Goals as goal

pub returns : goal.returns
returns g c = record { law = decides-to_the_end _ _ c.requires }
