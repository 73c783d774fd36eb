use Rattle.std.proofs.Common.{◌≡◌, Bool, ℕ, set, ◌/◌, ◌^◌, true, false, subst, sym, ap, ◌∙◌, ◌++◌, ◌∷◌, []}
use Rattle.viz_strip.specs.Steps.Grown.{Takes}
use Rattle.viz_strip.specs.Steps.Sides.{before_of, behind_of, from_of}
use Rattle.viz_strip.proofs.GrowthLemmas.{takes-even, takes-odd}
use Rattle.viz_strip.proofs.growth.take.Goals as goal

pub returns-then-odd-clause-takes : goal.returns-then-odd-clause-takes
returns-then-odd-clause-takes c =
    let ts = c.args.triangles.now in
    let marks = c.args.marks.now in
    let row = c.args.row.now.items in
    let new = c.push.new.self.items in
    let more : new ≡ row ++ from_of ts (before_of c.args.found) ∷ [] = c.in_ok-push.ensures.items ∙ ap (λ w. row ++ w ∷ []) (c.from_of.ensures.value ∙ ap (from_of ts) c.before-front.ensures.value) in
    let h : Takes ts true c.args._side marks (set marks (c.args.found / 3) true) row new (before_of c.args.found) = takes-odd ts (2 ^ 32) c.args._side c.args.found marks row new c.requires.sides c.requires.size c.requires.free more in
    subst (λ (b : Bool). Takes ts b c.args._side marks (set marks (c.args.found / 3) true) row new c.before-front.result) (sym c.if-odd.true)
    (subst (λ (n : ℕ). Takes ts true c.args._side marks (set marks (c.args.found / 3) true) row new n) (sym c.before-front.ensures.value) h)

pub returns-else-odd-clause-takes : goal.returns-else-odd-clause-takes
returns-else-odd-clause-takes c =
    let ts = c.args.triangles.now in
    let marks = c.args.marks.now in
    let row = c.args.row.now.items in
    let new = c.push.new.self.items in
    let more : new ≡ row ++ from_of ts (before_of c.args.found) ∷ [] = c.in_ok-push.ensures.items ∙ ap (λ w. row ++ w ∷ []) (c.from_of.ensures.value ∙ ap (from_of ts) c.before-front.ensures.value) in
    let h : Takes ts false c.args._side marks (set marks (c.args.found / 3) true) row new (behind_of c.args.found) = takes-even ts (2 ^ 32) c.args._side c.args.found marks row new c.requires.sides c.requires.size c.requires.free more in
    subst (λ (b : Bool). Takes ts b c.args._side marks (set marks (c.args.found / 3) true) row new c.behind.result) (sym c.if-odd.false)
    (subst (λ (n : ℕ). Takes ts false c.args._side marks (set marks (c.args.found / 3) true) row new n) (sym c.behind.ensures.value) h)
