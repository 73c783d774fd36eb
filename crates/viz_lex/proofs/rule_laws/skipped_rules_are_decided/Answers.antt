use Rattle.viz_lex.proofs.SkipLemmas.{decides-skip}
use Rattle.viz_lex.proofs.rule_laws.skipped_rules_are_decided.Goals as goal

pub returns : goal.returns
returns g c = record { law = λ test s. decides-skip test _ _ s }
