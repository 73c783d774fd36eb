use Rattle.std.proofs.Common.{◌≡◌, ◌*◌, ◌++◌, ◌∷◌, [], ℤ, List, pos, get_or, map, length, ap, sym, ◌∙◌, arith}
use Rattle.std.proofs.lemmas.Grind.{common_steps}
use Rattle.viz_attr.specs.Values.{firsts}
use Rattle.viz_attr.proofs.FirstsLemmas.{firsts-more}
use Rattle.viz_attr.proofs.values.firsts.Goals as goal

pub loop-i-preserved : goal.loop-i-preserved
loop-i-preserved g c =
    let T = g.T.Number in
    let all = map T.value c.args.numbers.now in
    let read : T.value c.index-numbers-i.result ≡ get_or all (c.loop-i.i * c.args.components) (pos 0) = grind (arith, common_steps) in
    let pushed : map T.value c.push.new.self.items ≡ map T.value c.loop-i.kept.items ++ get_or all (c.loop-i.i * c.args.components) (pos 0) ∷ [] = grind (arith, common_steps) in
    pushed ∙ ap (λ (xs : List ℤ). xs ++ get_or all (c.loop-i.i * c.args.components) (pos 0) ∷ []) c.loop-i.invariant ∙ sym (firsts-more c.args.components c.loop-i.i all)
