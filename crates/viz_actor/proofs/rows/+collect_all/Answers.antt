use Rattle.std.proofs.Common.{◌≡◌, ◌+◌, ◌++◌, length, length-append, append-nil, drop, sym, ap, ◌∙◌, arith, rules}
use Rattle.std.proofs.lemmas.List.{nil_from_length}
use Rattle.std.proofs.lemmas.List.Elements.{All-rest}
use Rattle.viz_actor.specs.Places.{IsPlaceTold, untold, new_rows, all_new_rows}
use Rattle.viz_actor.proofs.RowLemmas.{rows_length}
use Rattle.viz_actor.proofs.rows.+collect_all.Goals as goal

pub collect_all-requires : goal.collect_all-requires
collect_all-requires g m c =
    let s = c.in-Some.first.now in
    let all : untold c.args.places.now ≡ length (drop s.told s.lines.items) + untold c.in-Some.rest.now = ap untold c.in-Some.ensures.cases.0 in
    let added = ap length c.collect.ensures.rows ∙ length-append c.args.rows.now.items (new_rows s) in
    let told = All-rest IsPlaceTold s c.in-Some.rest.now c.args.places.now c.in-Some.ensures.cases.0 c.requires.told in
    let len = rows_length s.actor (s.told + 1) (drop s.told s.lines.items) in
    λ κs le. (search rules, (le, (omega (arith, all, added, len, c.requires.room, c.collect.ensures.capacity), told)))

pub returns-in-None-clause-rows : goal.returns-in-None-clause-rows
returns-in-None-clause-rows g t c =
    let rows = c.args.rows.now.items in
    sym (ap (λ places. rows ++ all_new_rows places) (nil_from_length c.args.places.now c.in-None.ensures.cases) ∙ append-nil rows)
