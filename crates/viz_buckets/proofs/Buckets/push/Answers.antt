use Rattle.std.proofs.Common.{rules, ◌≡◌, ◌<◌, ◌%◌, ◌++◌, ◌∷◌, [], Some, length, sym, ap, ◌∙◌}
use Rattle.std.proofs.lemmas.Option.{slice_get-get_or}
use Rattle.viz_buckets.proofs.BucketLemmas.{pushed}
use Rattle.viz_buckets.proofs.Buckets.push.Goals as goal

pub invariant_of-self-2 : goal.invariant_of-self-2
invariant_of-self-2 g c =
    let buckets = c.self.inside.buckets.items in
    let all = c.self.inside.all.items in
    let at = c.bucket_of-at.result in
    let within : at < length buckets = search rules in
    let is : at ≡ g.T.Numbered.number c.args.item % length buckets = search rules in
    let longer : c.push_reserved.new.self.items ≡ all ++ c.args.item ∷ [] = search rules in
    pushed g.T.Numbered.number (λ v. v.items) all _ buckets c.args.item at c.index_mut.result.now c.push.new.self
    c.self.invariant is (slice_get-get_or buckets at c.index_mut.result.now within ∙ ap Some (sym c.index_mut.ensures.value))
    c.in_ok-push.ensures.items longer
