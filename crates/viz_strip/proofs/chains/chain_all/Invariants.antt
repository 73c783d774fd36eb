use Rattle.viz_strip.specs.Steps.Links.{AreChained}
use Rattle.viz_strip.proofs.chains.chain_all.Given as goal

abbrev pub invariant-loop-side : goal.invariant-loop-side
invariant-loop-side l = AreChained l.triangles l.side l.lasts l.befores
