use Rattle.std.proofs.Common.{ℕ, subst, rules}
use Rattle.std.specs.Prelude.{Option, IfSome}
use Rattle.viz_strip.specs.Steps.Grown.{Stops, Takes}
use Rattle.viz_strip.specs.Steps.Marks.{left}
use Rattle.viz_strip.specs.Steps.Sides.{from_of, to_of}
use Rattle.viz_strip.proofs.GrowthLemmas.{gain-end, gain-more, gain-start, kept-both, kept-same}
use Rattle.viz_strip.proofs.growth.grow.Goals as goal

pub loop-next-init : goal.loop-next-init
loop-next-init c =
    let ts = c.args.triangles.now in
    record {
      within = c.requires.within;
      ready = c.requires.ready;
      gained = gain-start (from_of ts c.args.first) (to_of ts c.args.first) (left c.args.marks.now ts) c.args.row.now.items;
      kept = kept-same c.args.marks.now;
    }

pub loop-next-preserved : goal.loop-next-preserved
loop-next-preserved c =
    let ts = c.args.triangles.now in
    let marks = c.loop-next.marks in
    let new = c.take_next.new.marks in
    let row = c.loop-next.row.items in
    let new_row = c.take_next.new.row.items in
    let t : Takes ts c.loop-next.odd c.loop-next.side marks new row new_row c.in-Some.next = subst (λ (o : Option ℕ). IfSome o (λ n. Takes ts c.loop-next.odd c.loop-next.side marks new row new_row n)) c.in-Some.is c.in_ok-next.ensures.some in
    record {
      within = t.within;
      ready = c.in_ok-next.ensures.ready;
      gained =
          gain-more ts (from_of ts c.args.first) (to_of ts c.args.first) (left c.args.marks.now ts) c.args.row.now.items row new_row c.loop-next.odd c.loop-next.side c.in-Some.next marks new
          c.loop-next.invariant.gained t;
      kept = kept-both c.args.marks.now marks new c.loop-next.invariant.kept c.in_ok-next.ensures.kept;
    }

pub returns-clause-grown : goal.returns-clause-grown
returns-clause-grown c =
    let ts = c.args.triangles.now in
    let marks = c.loop-next.marks in
    let new = c.take_next.new.marks in
    let row = c.loop-next.row.items in
    let new_row = c.take_next.new.row.items in
    let s : Stops ts c.loop-next.odd c.loop-next.side marks new row new_row = search rules in
    gain-end ts (from_of ts c.args.first) (to_of ts c.args.first) (left c.args.marks.now ts) c.args.row.now.items row new_row c.loop-next.odd c.loop-next.side marks new c.loop-next.invariant.gained s
