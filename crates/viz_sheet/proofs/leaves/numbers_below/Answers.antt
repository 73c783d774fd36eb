use Rattle.std.proofs.Common.{◌+◌, ◌∷◌, [], ◌≡◌, arith}
use Rattle.std.proofs.lemmas.Grind.{common_steps}
use Rattle.std.proofs.lemmas.List.FromFn.{map-range_with_len_more}
use Rattle.viz_sheet.proofs.leaves.numbers_below.Goals as goal

pub loop-leaf-preserved : goal.loop-leaf-preserved
loop-leaf-preserved c =
    let e : 0 + c.loop-leaf.leaf ≡ c.loop-leaf.leaf = omega arith in
    grind (arith, common_steps, map-range_with_len_more (λ leaf. leaf ∷ []) 0 c.loop-leaf.leaf c.loop-leaf.leaf e)
