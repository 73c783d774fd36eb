use Rattle.std.proofs.Common.{◌≡◌, ◌+◌, ◌-◌, ◌<◌, length, sym, subst, ◌∙◌, arith}
use Rattle.std.proofs.lemmas.Option.{slice_get-get_or}
use Rattle.viz_scratch.specs.Steps.Readers.{AreReadersFrom}
use Rattle.viz_scratch.proofs.ReaderLemmas.{readers_more}
use Rattle.viz_scratch.proofs.readers.last_readers.Goals as goal

pub loop-k-preserved-then-index-gt0 : goal.loop-k-preserved-then-index-gt0
loop-k-preserved-then-index-gt0 c =
    let steps = c.args.steps.now in
    let k = c.loop-k.k - 1 in
    let old = c.loop-k.last.items in
    let test = c.loop-k-test.true in
    let within = c.loop-k.invariant.within in
    let here : k + 1 ≡ c.loop-k.k = omega (arith, test) in
    let room : k < length steps = omega (arith, test, within) in
    let more = c.raise.ensures.more c.args.sink in
    let sink = c.loop-k.invariant.sink in
    record {
      within = omega (arith, within);
      count = c.raise.ensures.count ∙ c.loop-k.invariant.count;
      sink = omega (arith, sink, more);
      readers = readers_more k steps _ old c.raise.new.last.items (slice_get-get_or steps k _ room)
          (subst (λ q. AreReadersFrom q steps old) (sym here) c.loop-k.invariant.readers) c.raise.ensures;
    }
