use Rattle.std.proofs.Common.{refl, arith, get_or}
use Rattle.viz_strip.proofs.LinkLemmas.{on-passed}
use Rattle.viz_strip.proofs.meeting.passed.Goals as goal

pub returns-then-is_taken-clause-nexts : goal.returns-then-is_taken-clause-nexts
returns-then-is_taken-clause-nexts c =
    let ts = c.args.triangles.now in
    let nexts = c.args.nexts.now in
    let next = get_or nexts c.args.at 0 in
    let taken = c.is_taken.ensures.yes c.if-is_taken.true in
    on-passed ts c.args.marks.now nexts c.args.at next c.requires.nexts c.requires.within c.requires.next_size refl (omega (arith, taken.0, c.requires.mark_size)) taken.1
