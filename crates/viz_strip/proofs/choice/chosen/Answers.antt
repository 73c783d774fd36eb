use Rattle.std.proofs.Common.{◌≡◌, ◌^◌, ◌∙◌, [], Bool, List, ℕ, length, refl, subst, ap}
use Rattle.viz_strip.specs.Steps.Grown.{HaveMade}
use Rattle.viz_strip.specs.Steps.Marks.{left}
use Rattle.viz_strip.proofs.GrowthLemmas.{made-all}
use Rattle.viz_strip.proofs.MarkLemmas.{left-start}
use Rattle.viz_strip.proofs.SideLemmas.{ready-start, sides-wide}
use Rattle.viz_strip.proofs.choice.chosen.Goals as goal

pub choose_all-requires-clause-sides : goal.choose_all-requires-clause-sides
choose_all-requires-clause-sides c = sides-wide c.args.triangles.now c.args.points (2 ^ 32) c.requires.points c.requires.sides

pub choose_all-requires-clause-ready : goal.choose_all-requires-clause-ready
choose_all-requires-clause-ready c =
    let ts = c.args.triangles.now in
    ready-start ts c.deref_mut.result.now c.in_ok-links.links.firsts.items c.in_ok-links.links.nexts.items (c.deref_mut.ensures.value ∙ c.in_ok-marks.ensures.value)
    c.in_ok-links.ensures.first_size c.in_ok-links.ensures.next_size c.in_ok-links.ensures.firsts c.in_ok-links.ensures.nexts

pub returns : goal.returns
returns c =
    let ts = c.args.triangles.now in
    let new = c.choose_all.new.rows in
    let marks = c.deref_mut.result.now in
    let start : left marks ts ≡ ts = ap (λ (m : List Bool). left m ts) (c.deref_mut.ensures.value ∙ c.in_ok-marks.ensures.value) ∙ left-start ts (length ts) refl in
    record {
      value =
          made-all ts new
          (subst (λ (s : List (List ℕ)). HaveMade s [] [] new) start (subst (λ (r : List (List ℕ)). HaveMade (left marks ts) [] r new) c.in_ok-rows.ensures.value c.in_ok-choose_all.ensures.made));
    }
