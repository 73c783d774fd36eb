use Rattle.std.proofs.Common.{◌/◌, ◌<◌, ◌^◌, Bool, List, length, subst, sym, arith, rules}
use Rattle.viz_strip.specs.Steps.Grown.{AreKept}
use Rattle.viz_strip.specs.Steps.Links.{NoneIsFree}
use Rattle.viz_strip.specs.Steps.Sides.{from_of, to_of}
use Rattle.viz_strip.proofs.GrowthLemmas.{kept-set, ready-kept, stops-here}
use Rattle.viz_strip.proofs.growth.take_next.Goals as goal

pub returns-in_default-clause-none : goal.returns-in_default-clause-none
returns-in_default-clause-none c =
    let ts = c.args.triangles.now in
    let none : NoneIsFree ts c.args.marks.now (to_of ts c.args.side) (from_of ts c.args.side) = search rules in
    stops-here ts (2 ^ 32) c.args.odd c.args.side c.args.marks.now c.args.row.now.items c.requires.sides c.requires.ready.mark_size none

pub returns-clause-ready : goal.returns-clause-ready
returns-clause-ready c =
    let ts = c.args.triangles.now in
    let marks = c.args.marks.now in
    let at = c.in-Some.found / 3 in
    let below : at < length marks = omega (arith, c.in-Some.ensures.some.within, c.requires.ready.mark_size) in
    ready-kept ts marks c.take.new.marks c.first_free.new.links.firsts.items c.first_free.new.links.nexts.items c.take.auto.marks
    (subst (λ (ms : List Bool). AreKept marks ms) (sym c.in_ok-next.ensures.marks) (kept-set marks at below)) c.first_free.ensures.ready
