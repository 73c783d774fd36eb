use Rattle.std.proofs.Common.{◌≡◌, None, Some, map, sym, ap, subst, ◌∙◌}
use Rattle.std.specs.List.{IsDistinct}
use Rattle.std.proofs.lemmas.Option.{same_Some}
use Rattle.viz_cache.specs.Keys.{same_key}
use Rattle.viz_cache.specs.Cache.{last_key}
use Rattle.viz_history.specs.Publishing.{is_overtaken}
use Rattle.viz_history.specs.Steps.Walk.{GivesUpIf}
use Rattle.viz_history.proofs.WalkLemmas.{last_key_is, passed_over}
use Rattle.viz_history.proofs.publishing.pass_over.Goals as goal

pub returns-in-Some-clause-last : goal.returns-in-Some-clause-last
returns-in-Some-clause-last c = λ front last is.
    let key = c.in-Some.key in
    let net = c.args.stamps.now in
    let mid = c.give_up_one.new.cache.entries in
    let differ = subst (λ es. IsDistinct same_key (map (λ e. e.key) es)) is c.last.ensures.distinct in
    let same : key ≡ last.key = same_Some key last.key (sym c.in-Some.is ∙ (c.last.ensures.key ∙ (ap last_key is ∙ last_key_is front last))) in
    let given = subst (λ es. GivesUpIf (is_overtaken net c.args.at key) key es mid) is c.give_up_one.ensures.entries in
    passed_over net c.args.at front last differ key mid c.find.new.self.entries same given c.find.ensures.entries

pub returns-in_default-clause-last : goal.returns-in_default-clause-last
returns-in_default-clause-last c = λ front last is.
    let none : None ≡ Some last.key = sym c.in_default.is ∙ (c.last.ensures.key ∙ (ap last_key is ∙ last_key_is front last)) in
    let bad : ⊥ = cc in
    absurd bad
