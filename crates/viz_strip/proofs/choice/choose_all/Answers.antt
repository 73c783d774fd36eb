use Rattle.std.proofs.Common.{List, ℕ, subst, arith}
use Rattle.viz_strip.specs.Steps.Grown.{HaveMade}
use Rattle.viz_strip.specs.Steps.Marks.{left}
use Rattle.viz_strip.proofs.GrowthLemmas.{made-both, made-none}
use Rattle.viz_strip.proofs.MarkLemmas.{left-end}
use Rattle.viz_strip.proofs.choice.choose_all.Goals as goal

pub loop-index-init : goal.loop-index-init
loop-index-init c =
    record {
      ready = c.requires.ready;
      taken = record { each = λ j l. absurd (omega arith) };
      made = made-none (left c.args.marks.now c.args.triangles.now) c.args.rows.now;
    }

pub loop-index-preserved : goal.loop-index-preserved
loop-index-preserved c =
    let ts = c.args.triangles.now in
    record {
      ready = c.in_ok-choose.ensures.ready;
      taken = c.in_ok-choose.ensures.taken;
      made =
          made-both (left c.args.marks.now ts) (left c.loop-index.marks ts) (left c.choose.new.marks ts) c.args.rows.now c.loop-index.rows c.choose.new.rows c.loop-index.invariant.made
          c.in_ok-choose.ensures.made;
    }

pub returns : goal.returns
returns c =
    let ts = c.args.triangles.now in
    let marks = c.loop-index.marks in
    record {
      made =
          subst (λ (x : List (List ℕ)). HaveMade (left c.args.marks.now ts) x c.args.rows.now c.loop-index.rows)
          (left-end ts marks c.loop-index.invariant.ready.mark_size (λ j l. c.loop-index.invariant.taken.each j (omega (arith, l, c.loop-index-test.false))))
          c.loop-index.invariant.made;
    }
