use Rattle.std.proofs.Common.{◌++◌, map, sym, subst, ap, ◌∙◌, arith}
use Rattle.std.specs.List.{All}
use Rattle.viz_actor.specs.Places.{HasPass, IsPhase, IsPlaceTold, untold, all_new_rows, collected}
use Rattle.viz_actor.proofs.PhaseLemmas.{split_ready, split_root, did}
use Rattle.viz_actor.proofs.DoneLemmas.{did_ready, told_rows, phase_done}
use Rattle.viz_actor.proofs.phases.phase.Goals as goal

pub serve_places-requires-clause-ready : goal.serve_places-requires-clause-ready
serve_places-requires-clause-ready g c =
    let all = split_ready c.args.hub.now c.args.steps.now 1 c.args.root c.args.places.now c.split_all-root.new.places c.split_all-root.result c.requires.belongs c.split_all-root.ensures c.requires.room in
    λ _ _ k d b. all k d b

pub join_all-root-requires-clause-belongs : goal.join_all-root-requires-clause-belongs
join_all-root-requires-clause-belongs g c = (split_root 1 c.args.root c.args.places.now c.split_all-root.new.places c.split_all-root.result c.split_all-root.ensures).0 ∙ c.requires.belongs

pub join_all-root-requires-clause-there : goal.join_all-root-requires-clause-there
join_all-root-requires-clause-there g c =
    let d = did g.P.Port c.args.hub.now.mark c.args.steps.now 1 c.args.root c.args.places.now c.split_all-root.new.places c.serve_places.new.places c.split_all-root.result c.split_all-root.ensures c.serve_places.ensures.each c.serve_places.ensures.len in
    subst (λ h. All (HasPass h) c.serve_places.new.places) c.requires.belongs
    (did_ready g.P.Port c.args.hub.now.mark c.args.steps.now c.args.root.turn c.args.root.seen 1 _ d.0 c.args.places.now c.serve_places.new.places d.1)

pub collect_all-requires-clause-told : goal.collect_all-requires-clause-told
collect_all-requires-clause-told g c =
    let d = did g.P.Port c.args.hub.now.mark c.args.steps.now 1 c.args.root c.args.places.now c.split_all-root.new.places c.serve_places.new.places c.split_all-root.result c.split_all-root.ensures c.serve_places.ensures.each c.serve_places.ensures.len in
    let r = told_rows g.P.Port c.args.hub.now.mark c.args.steps.now c.args.root.turn c.args.root.seen 1 _ d.0 c.args.places.now c.serve_places.new.places c.requires.room d.1 in
    subst (All IsPlaceTold) (sym c.join_all-root.ensures.rest) r.2

pub collect_all-requires-clause-room : goal.collect_all-requires-clause-room
collect_all-requires-clause-room g c =
    let d = did g.P.Port c.args.hub.now.mark c.args.steps.now 1 c.args.root c.args.places.now c.split_all-root.new.places c.serve_places.new.places c.split_all-root.result c.split_all-root.ensures c.serve_places.ensures.each c.serve_places.ensures.len in
    let r = told_rows g.P.Port c.args.hub.now.mark c.args.steps.now c.args.root.turn c.args.root.seen 1 _ d.0 c.args.places.now c.serve_places.new.places c.requires.room d.1 in
    let new = ap untold c.join_all-root.ensures.rest ∙ r.1 in
    omega (arith, new, c.requires.rows)

pub returns-clause-phase : goal.returns-clause-phase
returns-clause-phase g c =
    let m = g.P.Port in
    let limit = c.args.hub.now.mark in
    let steps = c.args.steps.now in
    let rows = c.args.rows.now.items in
    let places = c.collect_all.ensures.places ∙ ap (map collected) c.join_all-root.ensures.rest in
    subst (λ l. IsPhase m limit steps c.args.root c.args.places.now rows l c.collect_all.new.rows.items c.join_all-root.result) (sym places)
    (phase_done m limit steps c.args.root c.split_all-root.result c.join_all-root.result c.args.places.now c.split_all-root.new.places c.serve_places.new.places rows c.collect_all.new.rows.items
    c.requires.room c.split_all-root.ensures c.serve_places.ensures.each c.serve_places.ensures.len c.join_all-root.ensures.joins
    (c.collect_all.ensures.rows ∙ ap (λ l. rows ++ all_new_rows l) c.join_all-root.ensures.rest))
