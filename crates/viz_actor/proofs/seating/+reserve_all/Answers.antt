use Rattle.std.proofs.Common.{length, ap, arith, rules}
use Rattle.std.proofs.lemmas.List.Elements.{All-rest, All-cons}
use Rattle.viz_actor.specs.Runs.{IsIdle}
use Rattle.viz_actor.proofs.seating.+reserve_all.Goals as goal

pub returns-in_err-count-in-Some-clause-idle : goal.returns-in_err-count-in-Some-clause-idle
returns-in_err-count-in-Some-clause-idle g t c =
    All-cons IsIdle c.reserve.new.place c.in-Some.rest.now c.in_err-count-in-Some.ensures.idle
    (All-rest IsIdle c.in-Some.first.now c.in-Some.rest.now c.args.places.now c.in-Some.ensures.cases.0 c.requires.idle)

pub reserve_all-requires : goal.reserve_all-requires
reserve_all-requires g t c =
    let places = c.in-Some.ensures.cases.0 in
    let few = c.requires.few in
    let rest = All-rest IsIdle c.in-Some.first.now c.in-Some.rest.now c.args.places.now places c.requires.idle in
    λ κs le. (search rules, (le, (omega (arith, few, ap length places), rest)))
