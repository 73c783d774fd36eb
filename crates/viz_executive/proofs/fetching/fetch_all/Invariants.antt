use Rattle.std.proofs.Common.{take}
use Rattle.viz_executive.specs.Steps.Tables.{AreFetched}
use Rattle.viz_executive.proofs.fetching.fetch_all.Given as goal

abbrev pub invariant-loop-place : goal.invariant-loop-place
invariant-loop-place l = record { parts : AreFetched l.ground.sites.net l.ground.order l.request (take l.place-index l.places) l.parts.items }
