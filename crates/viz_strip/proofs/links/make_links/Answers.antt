use Rattle.std.proofs.Common.{◌≡◌, ◌*◌, ◌∙◌, ℕ, [], length, drop, subst, sym, ap, arith}
use Rattle.std.proofs.lemmas.List.{take_at}
use Rattle.viz_strip.specs.Steps.Links.{HaveFirsts, HaveNexts, LeadBack, LeadOn}
use Rattle.viz_strip.specs.Steps.Sides.{HaveSlots}
use Rattle.viz_strip.proofs.LinkLemmas.{leads-back, leads-on, slots-below}
use Rattle.viz_strip.proofs.links.make_links.Goals as goal

pub link_all-requires-clause-slots : goal.link_all-requires-clause-slots
link_all-requires-clause-slots c =
    let size : 2 * c.args.points ≡ length c.deref_mut.result.now = omega (arith, ap length c.deref_mut.ensures.value, c.in_ok-seen.ensures.len, c.in_ok-seen.seen.ok.0) in
    subst (HaveSlots c.args.triangles.now) size (slots-below c.args.triangles.now c.args.points c.requires.sides)

pub returns-clause-firsts : goal.returns-clause-firsts
returns-clause-firsts c =
    let ts = c.args.triangles.now in
    let new = c.link_all.new.firsts in
    let old = c.in_ok-firsts.firsts in
    let size : length new ≡ old.len = omega (arith, ap length c.deref_mut-2.ensures.value, old.ok.0, c.link_all.auto.firsts) in
    let points : length c.deref.result.now ≡ c.args.points = ap length c.deref.ensures.value ∙ c.in_ok-chains.ensures.lasts in
    subst (LeadBack ts []) (sym (take_at new (drop (length new) old.items) old.len size))
    (leads-back ts c.args.points new c.requires.sides (subst (λ (p : ℕ). HaveFirsts ts p (3 * length ts) new) points c.link_all.ensures.firsts))

pub returns-clause-nexts : goal.returns-clause-nexts
returns-clause-nexts c =
    let ts = c.args.triangles.now in
    let new = c.link_all.new.nexts in
    let old = c.in_ok-nexts.nexts in
    let size : length new ≡ old.len = omega (arith, ap length c.deref_mut-3.ensures.value, old.ok.0, c.link_all.auto.nexts) in
    let points : length c.deref.result.now ≡ c.args.points = ap length c.deref.ensures.value ∙ c.in_ok-chains.ensures.lasts in
    subst (LeadOn ts []) (sym (take_at new (drop (length new) old.items) old.len size))
    (leads-on ts c.args.points new c.requires.sides (subst (λ (p : ℕ). HaveNexts ts p (3 * length ts) new) points c.link_all.ensures.nexts))
