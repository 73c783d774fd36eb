use Rattle.std.proofs.Common.{◌≡◌, map, take}
use Rattle.std.specs.List.{All}
use Rattle.viz_executive.specs.Steps.Wholes.{IsAnswered}
use Rattle.viz_executive.proofs.wholes.answers.Given as goal

abbrev pub invariant-loop-request : goal.invariant-loop-request
invariant-loop-request l = record {
  requests : map (λ a. a.request) l.all.items ≡ take l.request-index l.requests;
  each : All (λ a. IsAnswered l.ground a.request a.part) l.all.items;
}
