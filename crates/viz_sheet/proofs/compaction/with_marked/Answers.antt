use Rattle.std.proofs.Common.{List, ap, length, subst, sym, ℕ, ◌∙◌, ◌≡◌}
use Rattle.viz_fraction.specs.Points.{Point}
use Rattle.viz_sheet.specs.Arrays.{names_in, points_in, ranks_in}
use Rattle.viz_sheet.specs.Sheet.{KeepPoints}
use Rattle.viz_sheet.proofs.PassLemmas.{before_of, length-before_of, all_below, made_from, IsMade, points_from}
use Rattle.viz_sheet.proofs.UsedLemmas.{marked_is}
use Rattle.viz_sheet.proofs.compaction.with_marked.Goals as goal

pub looked_up_ranks-requires : goal.looked_up_ranks-requires
looked_up_ranks-requires c =
    let names = names_in c.args.leaves.now in
    let marks = c.args.marks.now in
    let before : c.deref.result.now ≡ before_of marks = c.deref.ensures.value ∙ c.in_ok-before.ensures in
    let size : length c.deref.result.now ≡ length names = ap length before ∙ length-before_of marks ∙ c.requires.marks.size in
    all_below (length names) (ranks_in c.args.ranks.now) c.deref.result.now size c.requires.cells.each

pub new-requires : goal.new-requires
new-requires c =
    let names = names_in c.args.leaves.now in
    let points = points_in c.args.places.now in
    let cells = ranks_in c.args.ranks.now in
    let marks = c.args.marks.now in
    let made : IsMade names cells (names_in c.in_ok-kept_names.kept_names) (points_in c.in_ok-kept_points.kept_points) (ranks_in c.in_ok-cells.cells) =
    made_from names points cells marks _ _ _ c.deref.result.now c.requires.cells c.requires.marks
    c.in_ok-kept_names.ensures c.in_ok-kept_points.ensures (c.deref.ensures.value ∙ c.in_ok-before.ensures) c.in_ok-cells.ensures in
    record { ranks = made.sheet }

pub returns-clause-cells : goal.returns-clause-cells
returns-clause-cells c =
    let names = names_in c.args.leaves.now in
    let points = points_in c.args.places.now in
    let cells = ranks_in c.args.ranks.now in
    let marks = c.args.marks.now in
    let made : IsMade names cells (names_in c.in_ok-kept_names.kept_names) (points_in c.in_ok-kept_points.kept_points) (ranks_in c.in_ok-cells.cells) =
    made_from names points cells marks _ _ _ c.deref.result.now c.requires.cells c.requires.marks
    c.in_ok-kept_names.ensures c.in_ok-kept_points.ensures (c.deref.ensures.value ∙ c.in_ok-before.ensures) c.in_ok-cells.ensures in
    c.new.ensures.cells ∙ made.same

pub returns-clause-points : goal.returns-clause-points
returns-clause-points c =
    let names = names_in c.args.leaves.now in
    let points = points_in c.args.places.now in
    let marks = c.args.marks.now in
    let kept_points : KeepPoints (names_in c.in_ok-kept_names.kept_names) (points_in c.in_ok-kept_points.kept_points) names points =
    points_from marks names points _ _ c.requires.marks.size c.requires.cells.matched c.in_ok-kept_names.ensures c.in_ok-kept_points.ensures in
    subst (λ (a : List (List ℕ)). KeepPoints a c.new.result.points names points) (sym c.new.ensures.names)
    (subst (λ (b : List Point). KeepPoints (names_in c.in_ok-kept_names.kept_names) b names points) (sym c.new.ensures.points) kept_points)

pub returns-clause-value : goal.returns-clause-value
returns-clause-value c =
    marked_is c.new.result (names_in c.args.leaves.now) (points_in c.args.places.now) (ranks_in c.args.ranks.now) c.args.marks.now c.requires.marks
    (c.new.ensures.names ∙ c.in_ok-kept_names.ensures) (c.new.ensures.points ∙ c.in_ok-kept_points.ensures) (returns-clause-cells c)
