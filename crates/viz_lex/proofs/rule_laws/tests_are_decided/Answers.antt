use Rattle.viz_lex.proofs.RuleLemmas.{decides-gives, decides-refuses, decides-demand}
use Rattle.viz_lex.proofs.rule_laws.tests_are_decided.Goals as goal

pub returns-clause-gives : goal.returns-clause-gives
returns-clause-gives g c = decides-gives

pub returns-clause-refuses : goal.returns-clause-refuses
returns-clause-refuses g c = decides-refuses

pub returns-clause-demand : goal.returns-clause-demand
returns-clause-demand g c = λ test kind place. decides-demand test kind place _ _ c.requires
