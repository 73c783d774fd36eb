use Rattle.viz_lex.proofs.RuleLemmas.{decides-follow}
use Rattle.viz_lex.proofs.rule_laws.following_rules_are_decided.Goals as goal

pub returns : goal.returns
returns g c = record { law = decides-follow _ _ _ _ c.requires.first c.requires.second }
