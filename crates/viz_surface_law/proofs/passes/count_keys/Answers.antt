use Rattle.std.proofs.Common.{rules, ◌≡◌, ap, sym, ◌∙◌, subst, ◌∷◌}
use Rattle.viz_surface_law.specs.Steps.Keys.{any_side, in_two, in_one, passing, Ascend}
use Rattle.viz_surface_law.specs.Steps.Ranked.{in_border}
use Rattle.viz_surface_law.proofs.PassLaw.{passing_by_pass, ascend_by_side}
use Rattle.viz_surface_law.proofs.passes.count_keys.Goals as goal

pub returns-in-Some-clause-sides : goal.returns-in-Some-clause-sides
returns-in-Some-clause-sides c =
    let e : c.args.keys.now ≡ c.in-Some.first.now ∷ c.in-Some.rest.now = search rules in
    c.pass-t.ensures.sides ∙ passing_by_pass any_side c.in-Some.first.now c.in-Some.rest.now (ascend_by_side _ _ (subst Ascend e c.requires.sorted)) ∙ ap (passing any_side) (sym e)

pub returns-in-Some-clause-two : goal.returns-in-Some-clause-two
returns-in-Some-clause-two c =
    let e : c.args.keys.now ≡ c.in-Some.first.now ∷ c.in-Some.rest.now = search rules in
    c.pass-t.ensures.two ∙ passing_by_pass in_two c.in-Some.first.now c.in-Some.rest.now (ascend_by_side _ _ (subst Ascend e c.requires.sorted)) ∙ ap (passing in_two) (sym e)

pub returns-in-Some-clause-lone : goal.returns-in-Some-clause-lone
returns-in-Some-clause-lone c =
    let e : c.args.keys.now ≡ c.in-Some.first.now ∷ c.in-Some.rest.now = search rules in
    c.pass-t.ensures.lone ∙ passing_by_pass in_one c.in-Some.first.now c.in-Some.rest.now (ascend_by_side _ _ (subst Ascend e c.requires.sorted)) ∙ ap (passing in_one) (sym e)

pub returns-in-Some-clause-border : goal.returns-in-Some-clause-border
returns-in-Some-clause-border c =
    let e : c.args.keys.now ≡ c.in-Some.first.now ∷ c.in-Some.rest.now = search rules in
    let test = in_border c.args.whole.now c.args.sheet.now.names in
    c.pass-t.ensures.border ∙ passing_by_pass test c.in-Some.first.now c.in-Some.rest.now (ascend_by_side _ _ (subst Ascend e c.requires.sorted)) ∙ ap (passing test) (sym e)
