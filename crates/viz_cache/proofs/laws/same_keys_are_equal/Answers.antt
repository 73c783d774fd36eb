use Rattle.std.proofs.Common.{◌≡◌, true, subst}
use Rattle.viz_cache.specs.Keys.{same_key}
use Rattle.viz_cache.proofs.KeyLemmas.{key-same, key-itself}
use Rattle.viz_cache.proofs.laws.same_keys_are_equal.Goals as goal

pub returns : goal.returns
returns c = record { law = λ a b. (key-same a b, λ same. subst (λ k. same_key a k ≡ true) same (key-itself a)) }
