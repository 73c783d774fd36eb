use Rattle.std.proofs.Common.{◌≡◌, ◌<◌, ◌≤◌, ◌++◌, ℕ, List, [], length, get_or, ap, ap₂, sym, subst, ◌∙◌, arith}
use Rattle.std.specs.List.{All, Contains}
use Rattle.std.proofs.lemmas.List.Elements.{All-get_or, Contains-get_or}
use Rattle.viz_sheet.specs.Arrays.{ranks_in}
use Rattle.viz_clip_meaning.specs.Rows.{rows}
use Rattle.viz_clip.specs.Steps.Corners.{inside_of, last_corners}
use Rattle.viz_clip.specs.Steps.Keys.{IsTet}
use Rattle.viz_clip.specs.Steps.Numbers.{CanCut, corner_number, cut_number, numbered_in}
use Rattle.viz_clip.proofs.MoreLemmas.{flat-more}
use Rattle.viz_clip.proofs.NumberedLemmas.{can-cut}
use Rattle.viz_clip.proofs.tets.tets.Goals as goal

pub push_tets-requires-clause-can : goal.push_tets-requires-clause-can
push_tets-requires-clause-can c =
    let inside = c.args.inside.now in
    let n = c.args.numbers.now in
    let cells = ranks_in c.args.ranks.now in
    let i = c.loop-i.i in
    let l : i < length cells = omega (arith, c.loop-i-test.true, c.len-i-end.ensures.value) in
    let cell = c.get.result.now in
    let among : Contains cells cell = subst (Contains cells) (sym c.get.ensures.value) (Contains-get_or cells i [] l) in
    let tet : IsTet (length inside) cell = subst (IsTet (length inside)) (sym c.get.ensures.value) (All-get_or (IsTet (length inside)) cells i [] l c.requires.cells) in
    let can = can-cut inside cells n cell c.requires.numbers tet among in
    let parted = c.corners_of-corners.ensures.parted in
    subst (λ a. CanCut n a (last_corners c.corners_of-corners.result)) (sym parted.first) (subst (λ b. CanCut n (inside_of inside cell) b) (sym parted.last) can)

pub loop-i-preserved : goal.loop-i-preserved
loop-i-preserved c =
    let inside = c.args.inside.now in
    let n = c.args.numbers.now in
    let cells = ranks_in c.args.ranks.now in
    let i = c.loop-i.i in
    let l : i < length cells = omega (arith, c.loop-i-test.true, c.len-i-end.ensures.value) in
    let parted = c.corners_of-corners.ensures.parted in
    flat-more (numbered_in inside n) c.loop-i.out.items c.push_tets.new.out.items cells i c.get.result.now [] l c.get.ensures.value
    (c.in_ok-push_tets.ensures ∙ ap (λ t. c.loop-i.out.items ++ t) (ap₂ (rows (corner_number n) (cut_number n)) parted.first parted.last))
    c.loop-i.invariant
