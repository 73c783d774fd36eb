use Rattle.std.proofs.Common.{◌≡◌, ◌+◌, ◌-◌, ◌≤◌, length, vec_capacity, suc, subst, ap, ◌∙◌, arith}
use Rattle.viz_actor.specs.Places.{HaveRoom, work}
use Rattle.viz_actor.proofs.RoomLemmas.{work-append, room_front, chunk_room, runs_more}
use Rattle.viz_actor.proofs.running.+run_phases.Goals as goal

pub run_chunk-root-requires-clause-room : goal.run_chunk-root-requires-clause-room
run_chunk-root-requires-clause-room g m c =
    let now = c.split_at.result.0.now in
    let later = c.split_at.result.1.now in
    let room = room_front now later 1 c.args.places.now (subst (λ s. HaveRoom s 1 c.args.places.now) c.split_at.ensures.by_index.0 c.requires.room) in
    λ _ _. room

pub run_chunk-root-requires-clause-rows : goal.run_chunk-root-requires-clause-rows
run_chunk-root-requires-clause-rows g m c =
    let n = length c.args.places.now in
    let now = c.split_at.result.0.now in
    let all = ap (λ s. work s 1 n) c.split_at.ensures.by_index.0 ∙ work-append now c.split_at.result.1.now 1 n in
    let fits : length c.args.rows.now.items + work now 1 n ≤ vec_capacity c.args.rows.now = omega (arith, all, c.requires.rows) in
    λ _ _. fits

pub run_phases-requires-clause-room : goal.run_phases-requires-clause-room
run_phases-requires-clause-room g m c =
    let now = c.split_at.result.0.now in
    let later = c.split_at.result.1.now in
    let r = chunk_room g.P.Port c.args.hub.now.mark now later c.args.root c.args.places.now c.args.rows.now.items c.run_chunk-root.new.places c.run_chunk-root.new.rows.items c.run_chunk-root.result c.run_chunk-root.ensures.runs
    (subst (λ s. HaveRoom s 1 c.args.places.now) c.split_at.ensures.by_index.0 c.requires.room) in
    λ _ _. r.1

pub run_phases-requires-clause-rows : goal.run_phases-requires-clause-rows
run_phases-requires-clause-rows g m c =
    let n = length c.args.places.now in
    let now = c.split_at.result.0.now in
    let later = c.split_at.result.1.now in
    let r = chunk_room g.P.Port c.args.hub.now.mark now later c.args.root c.args.places.now c.args.rows.now.items c.run_chunk-root.new.places c.run_chunk-root.new.rows.items c.run_chunk-root.result c.run_chunk-root.ensures.runs
    (subst (λ s. HaveRoom s 1 c.args.places.now) c.split_at.ensures.by_index.0 c.requires.room) in
    let all = ap (λ s. work s 1 n) c.split_at.ensures.by_index.0 ∙ work-append now later 1 n in
    let same : work later 1 (length c.run_chunk-root.new.places) ≡ work later 1 n = ap (work later 1) c.run_chunk-root.auto.places in
    let fits : length c.run_chunk-root.new.rows.items + work later 1 (length c.run_chunk-root.new.places) ≤ vec_capacity c.run_chunk-root.new.rows =
    omega (arith, all, same, r.2, c.run_chunk-root.ensures.capacity, c.requires.rows) in
    λ _ _. fits

pub returns : goal.returns
returns g m c =
    let left = c.args.left in
    let some = c.if-left-eq0.false in
    let is : left ≡ suc (left - 1) = omega (arith, some) in
    record {
      runs = runs_more g.P.Port c.args.hub.now.mark left (left - 1) c.args.phase c.args.steps.now c.split_at.result.0.now c.split_at.result.1.now c.args.root c.run_chunk-root.result c.run_phases.result
          c.args.places.now c.run_chunk-root.new.places c.run_phases.new.places c.args.rows.now.items c.run_chunk-root.new.rows.items c.run_phases.new.rows.items is
          (c.split_at.ensures.front ∙ c.front_len.ensures.front) (c.split_at.ensures.back ∙ c.front_len.ensures.behind) c.run_chunk-root.ensures.runs c.run_phases.ensures.runs;
    }
