use Rattle.std.proofs.Common.{ℕ, length, subst, sym, rules}
use Rattle.std.proofs.lemmas.List.{length_push}
use Rattle.std.proofs.lemmas.List.Elements.{All-get_or}
use Rattle.std.proofs.lemmas.Iterator.Adapters.{YieldsList-from_vec}
use Rattle.std.proofs.lemmas.Iterator.Consumers.{YieldsList-end, YieldsList-turn}
use Rattle.viz_sheet.specs.Arrays.{names_in, points_in, ranks_in}
use Rattle.viz_piece_stitch.specs.Steps.Joining.{AreJoined, IsHeld}
use Rattle.viz_piece_stitch.proofs.JoinLemmas.{joined-more}
use Rattle.viz_piece_stitch.proofs.RankLemmas.{ranks-below}
use Rattle.viz_piece_stitch.proofs.joining.with_parts.Goals as goal

pub with_given-requires-clause-held : goal.with_given-requires-clause-held
with_given-requires-clause-held c =
    let t = YieldsList-turn (YieldsList-from_vec {s = c.into_iter-part-iterator.result} c.args.parts.items (search rules) (search rules)) c.loop-part.yielded c.loop-part.part-iterator c.loop-part.yielded_by c.next.result c.next.new.self c.in-Some.part c.in-Some.is c.next.ensures.steps in
    subst (IsHeld (names_in c.args.names.now)) (sym t.1) (All-get_or (IsHeld (names_in c.args.names.now)) c.args.parts.items (length c.loop-part.yielded) c.in-Some.part t.0 c.requires.held)

pub loop-part-preserved : goal.loop-part-preserved
loop-part-preserved c =
    let t = YieldsList-turn (YieldsList-from_vec {s = c.into_iter-part-iterator.result} c.args.parts.items (search rules) (search rules)) c.loop-part.yielded c.loop-part.part-iterator c.loop-part.yielded_by c.next.result c.next.new.self c.in-Some.part c.in-Some.is c.next.ensures.steps in
    let names = names_in c.args.names.now in
    let held : IsHeld names c.in-Some.part = subst (IsHeld names) (sym t.1) (All-get_or (IsHeld names) c.args.parts.items (length c.loop-part.yielded) c.in-Some.part t.0 c.requires.held) in
    subst (λ (k : ℕ). AreJoined c.args.parts.items (names_in c.args.names.now) (ranks_in c.args.joined.ranks) k (ranks_in c.in_ok-joined.joined.ranks) (points_in c.in_ok-joined.joined.places))
    (sym (length_push c.loop-part.yielded c.in-Some.part))
    (joined-more c.args.parts.items (names_in c.args.names.now) (ranks_in c.args.joined.ranks) (length c.loop-part.yielded) c.in-Some.part
    (ranks_in c.loop-part.joined.ranks) (ranks_in c.in_ok-joined.joined.ranks) (points_in c.loop-part.joined.places) (points_in c.in_ok-joined.joined.places)
    c.loop-part.invariant t.0 t.1 c.in_ok-joined.ensures.cells c.in_ok-joined.ensures.points (ranks-below names c.in-Some.part.sheet.names c.requires.ascending held.held))

pub returns : goal.returns
returns c =
    let e = YieldsList-end (YieldsList-from_vec {s = c.into_iter-part-iterator.result} c.args.parts.items (search rules) (search rules)) c.loop-part.yielded c.loop-part.part-iterator c.loop-part.yielded_by c.next.result c.next.new.self c.in-None.is c.next.ensures.steps in
    subst (λ (k : ℕ). AreJoined c.args.parts.items (names_in c.args.names.now) (ranks_in c.args.joined.ranks) k (ranks_in c.loop-part.joined.ranks) (points_in c.loop-part.joined.places)) e.1 c.loop-part.invariant
