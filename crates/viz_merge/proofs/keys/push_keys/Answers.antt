use Rattle.std.proofs.Common.{◌≡◌, ◌+◌, ◌<◌, ◌∷◌, [], ◌∙◌, ap, arith, length}
use Rattle.std.proofs.lemmas.List.{length-append}
use Rattle.viz_sheet.specs.Arrays.{points_in}
use Rattle.viz_merge.specs.Steps.Leads.{key_of}
use Rattle.viz_merge.proofs.PassLemmas.{one-key}
use Rattle.viz_merge.proofs.keys.push_keys.Goals as goal

pub loop-rank-preserved : goal.loop-rank-preserved
loop-rank-preserved c =
    let ps = points_in c.args.places.now in
    let mid = c.loop-rank.keys.items in
    let below : c.loop-rank.rank < length ps = omega (arith, c.loop-rank-test.true, c.len-rank-end.ensures.value) in
    let count : length c.push_key.new.keys.items ≡ length mid + 1 = ap length c.in_ok-push_key.ensures ∙ length-append mid (key_of (length mid) c.get.result ∷ []) in
    record {
      made = one-key c.args.keys.now.items mid c.push_key.new.keys.items ps c.loop-rank.rank c.get.result below c.get.ensures.value c.loop-rank.invariant.made c.loop-rank.invariant.size c.in_ok-push_key.ensures;
      size = omega (arith, count, c.loop-rank.invariant.size);
    }
