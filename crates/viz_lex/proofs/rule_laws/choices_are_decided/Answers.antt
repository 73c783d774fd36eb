use Rattle.viz_lex.proofs.RuleLemmas.{decides-choose, decides-beside}
use Rattle.viz_lex.proofs.rule_laws.choices_are_decided.Goals as goal

pub returns-clause-choose : goal.returns-clause-choose
returns-clause-choose g c = λ test a b. decides-choose test _ _ _ _ (c.requires a) (c.requires b)

pub returns-clause-beside : goal.returns-clause-beside
returns-clause-beside g c = λ test a b. decides-beside test _ _ _ _ (c.requires a) (c.requires b)
