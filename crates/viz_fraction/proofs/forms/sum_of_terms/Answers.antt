use Rattle.std.proofs.Common.{◌≡◌, ap, refl, sym, ◌∙◌, subst, rules}
use Rattle.std.proofs.lemmas.Int.{to_z-of_z}
use Rattle.std.specs.Int.{w128}
use Rattle.viz_fraction.specs.Points.{IsNarrow}
use Rattle.viz_fraction.specs.Sums.{terms_of, total_of}
use Rattle.viz_fraction.proofs.FieldsLemmas.{kept}
use Rattle.viz_fraction.proofs.forms.sum_of_terms.Goals as goal

pub returns-clause-succeeds : goal.returns-clause-succeeds
returns-clause-succeeds c =
    let same : kept c.total.result ≡ total_of (terms_of c.args.k.now c.args.p.now) =
    to_z-of_z w128 c.total.result (search rules) ∙ c.total.ensures ∙ ap total_of c.in_ok-terms.ensures.value in (
      λ ok. record { terms = c.in_ok-terms.ensures.succeeds.0 refl; sum = subst IsNarrow same (c.narrow.ensures.succeeds.0 ok) },
      λ narrow. c.narrow.ensures.succeeds.1 (subst IsNarrow (sym same) narrow.sum),
    )
