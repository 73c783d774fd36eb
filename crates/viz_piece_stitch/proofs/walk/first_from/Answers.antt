use Rattle.std.proofs.Common.{◌≡◌, ℕ, List, [], length, sym, ap, ◌∙◌, is_lt, nat_cmp, arith}
use Rattle.std.specs.Cmp.Lexicographic.{slice_cmp}
use Rattle.std.proofs.lemmas.List.{get_or_read}
use Rattle.viz_piece_stitch.proofs.WalkLemmas.{rank-stop, rank-end, before-more}
use Rattle.viz_piece_stitch.proofs.walk.first_from.Goals as goal

pub returns-then-not-comes_before-clause-value : goal.returns-then-not-comes_before-clause-value
returns-then-not-comes_before-clause-value g c =
    let read = get_or_read c.args.names.now c.loop-index.index c.index-names-index.result c.loop-index-test.true c.index-names-index.is [] in
    sym (rank-stop c.args.names.now c.args.name.now c.loop-index.index c.requires.ascending c.loop-index-test.true c.loop-index.invariant.before
    (ap (λ (m : List ℕ). is_lt (slice_cmp nat_cmp m c.args.name.now)) (sym read) ∙ sym c.comes_before.ensures ∙ c.if-not-comes_before.true))

pub loop-index-preserved : goal.loop-index-preserved
loop-index-preserved g c =
    let read = get_or_read c.args.names.now c.loop-index.index c.index-names-index.result c.loop-index-test.true c.index-names-index.is [] in
    record {
      within = omega (arith, c.loop-index-test.true);
      before = before-more c.args.names.now c.loop-index.index c.args.name.now c.loop-index.invariant.before
          (ap (λ (m : List ℕ). is_lt (slice_cmp nat_cmp m c.args.name.now)) (sym read) ∙ sym c.comes_before.ensures ∙ c.if-not-comes_before.false);
    }

pub returns-clause-value : goal.returns-clause-value
returns-clause-value g c =
    let e : c.loop-index.index ≡ length c.args.names.now = omega (arith, c.loop-index-test.false, c.loop-index.invariant.within) in
    sym (rank-end c.args.names.now c.args.name.now c.loop-index.index e c.loop-index.invariant.before ∙ e)
