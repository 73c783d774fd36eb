use Rattle.std.proofs.Common.{◌≡◌, ◌∙◌, ℕ, Bool, List, length, ap, subst, sym}
use Rattle.viz_fraction.specs.Points.{Point}
use Rattle.viz_sheet.specs.Arrays.{names_in, points_in, ranks_in}
use Rattle.viz_sheet.specs.Kept.{kept_rank, AreMarks}
use Rattle.viz_sheet.specs.Sheet.{KeepPoints}
use Rattle.viz_sheet.proofs.PassLemmas.{all_used, points_stay}
use Rattle.viz_sheet.proofs.UsedLemmas.{whole_is}
use Rattle.viz_sheet.proofs.compaction.sheet_of.Goals as goal

pub new-requires : goal.new-requires
new-requires c =
    let names = names_in c.args.leaves in
    let cells = ranks_in c.args.ranks in
    let marks = c.in_ok-marks.marks.items in
    let are_marks : AreMarks (length names) cells marks = subst (λ n. AreMarks n cells marks) c.len.ensures.value c.in_ok-marks.ensures in
    let all : kept_rank marks (length marks) ≡ length names =
    sym (c.kept_count.ensures ∙ ap (λ (ms : List Bool). kept_rank ms (length ms)) c.deref.ensures.value) ∙ c.if-kept_count-len.true ∙ c.len-2.ensures.value in
    record { ranks = all_used names (points_in c.args.places) cells marks c.requires.cells are_marks all }

pub returns-then-kept_count-len-clause-points : goal.returns-then-kept_count-len-clause-points
returns-then-kept_count-len-clause-points c =
    let names = names_in c.args.leaves in
    let points = points_in c.args.places in
    subst (λ (a : List (List ℕ)). KeepPoints a c.new.result.points names points) (sym c.new.ensures.names)
    (subst (λ (b : List Point). KeepPoints names b names points) (sym c.new.ensures.points) (points_stay names points))

pub returns-then-kept_count-len-clause-value : goal.returns-then-kept_count-len-clause-value
returns-then-kept_count-len-clause-value c =
    let names = names_in c.args.leaves in
    let cells = ranks_in c.args.ranks in
    let marks = c.in_ok-marks.marks.items in
    let are_marks : AreMarks (length names) cells marks = subst (λ n. AreMarks n cells marks) c.len.ensures.value c.in_ok-marks.ensures in
    let all : kept_rank marks (length marks) ≡ length names =
    sym (c.kept_count.ensures ∙ ap (λ (ms : List Bool). kept_rank ms (length ms)) c.deref.ensures.value) ∙ c.if-kept_count-len.true ∙ c.len-2.ensures.value in
    whole_is c.new.result names (points_in c.args.places) cells marks are_marks c.requires.cells.matched all
    c.new.ensures.names c.new.ensures.points c.new.ensures.cells
