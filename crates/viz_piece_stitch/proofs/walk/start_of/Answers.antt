use Rattle.std.proofs.Common.{◌≡◌, ◌<◌, [], length, get_or, subst, rules}
use Rattle.viz_piece_stitch.specs.Steps.Walk.{ComeBefore}
use Rattle.viz_piece_stitch.proofs.WalkLemmas.{precede}
use Rattle.viz_piece_stitch.proofs.walk.start_of.Goals as goal

pub returns-in-Some-clause-before : goal.returns-in-Some-clause-before
returns-in-Some-clause-before g c =
    let some : 0 < length c.args.piece.now = search rules in
    let first : c.in-Some.name.now ≡ get_or c.args.piece.now 0 [] = search rules in
    precede c.args.names.now c.first_of.result c.args.piece.now 0 c.requires.rising some (subst (λ n. ComeBefore c.args.names.now c.first_of.result n) first c.first_of.ensures.before)
