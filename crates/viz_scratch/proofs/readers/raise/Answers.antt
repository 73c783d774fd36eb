use Rattle.std.proofs.Common.{take, sym, subst}
use Rattle.std.proofs.lemmas.List.{take_more}
use Rattle.viz_scratch.specs.Steps.Readers.{IsRaised}
use Rattle.viz_scratch.proofs.ReaderLemmas.{before_at, raised_more}
use Rattle.viz_scratch.proofs.readers.raise.Goals as goal

pub raise_one-requires-clause-before : goal.raise_one-requires-clause-before
raise_one-requires-clause-before c = before_at c.args.k c.args.places.now c.loop-place.place-index _ c.requires.before c.loop-place-test.true

pub loop-place-preserved : goal.loop-place-preserved
loop-place-preserved c = record {
  raised = subst (λ front. IsRaised c.args.k front c.args.last.now.items c.raise_one.new.last.items) (sym (take_more c.args.places.now c.loop-place.place-index _ c.loop-place-test.true))
      (raised_more c.args.k (take c.loop-place.place-index c.args.places.now) _ c.args.last.now.items c.loop-place.last.items c.raise_one.new.last.items c.loop-place.invariant.raised c.raise_one.ensures);
}
