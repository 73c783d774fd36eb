use Rattle.std.proofs.Common.{rules, ◌≡◌, ◌<◌, ◌%◌, Some, length, sym, ap, ◌∙◌}
use Rattle.std.proofs.lemmas.Option.{slice_get-get_or}
use Rattle.std.specs.List.{filter}
use Rattle.viz_buckets.proofs.BucketLemmas.{found}
use Rattle.viz_buckets.proofs.Buckets.bucket.Goals as goal

pub returns : goal.returns
returns g c = record {
  value = λ p only.
      let buckets = c.self.inside.buckets.items in
      let at = c.bucket_of.result in
      let within : at < length buckets = search rules in
      let is : at ≡ c.args.number % length buckets = search rules in
      ap (filter p) c.deref.ensures.value
      ∙ found g.T.Numbered.number (λ v. v.items) c.self.inside.all.items buckets c.self.invariant c.args.number at c.index.result.now
      (slice_get-get_or buckets at c.index.result.now within ∙ ap Some (sym c.index.ensures)) is p only
      ∙ ap (filter p) c.self.view_is;
}
