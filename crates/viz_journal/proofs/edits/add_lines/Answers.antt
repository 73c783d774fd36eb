use Rattle.std.proofs.Common.{◌≡◌, Bor, ℕ, ◌+◌, ◌++◌, ◌∷◌, [], ◌∙◌, List, length, length-append, refl, sym, ap, arith}
use Rattle.viz_network.specs.History.{net_of}
use Rattle.viz_journal.specs.Entries.{edits_of}
use Rattle.viz_journal.specs.Edits.{batch_from}
use Rattle.viz_journal.specs.Steps.Kept.{batch_in}
use Rattle.viz_journal.proofs.ReadLemmas.{batch_from-end, lines-left, stopped-batch}
use Rattle.viz_journal.proofs.edits.add_lines.Goals as goal

pub loop-i-init : goal.loop-i-init
loop-i-init c =
    let before = edits_of c.args.ledger.now.entries.items in
    let kept = c.requires.kept in
    let items = c.in_ok-reserve_exact.ensures.items in
    record {
      grown = record {
        kept = record {
          net = kept.net ∙ ap (λ l. net_of (before ++ l)) (sym items);
          edits = kept.edits ∙ ap (λ l. length (before ++ l)) (sym items);
          few = omega (arith, kept.few, ap (λ l. length (before ++ l)) items);
          counts = kept.counts;
          lines = kept.lines;
        };
        entries = refl;
        line = refl;
      };
      long = omega (arith, ap length items);
      within = omega arith;
      left = (c.args.count, omega arith, ap (λ l. batch_from c.args.count c.args.first before l c.args.bytes.now) (sym items) ∙ ap (λ n. batch_from c.args.count n before c.reserve_exact.new.self.items c.args.bytes.now) (omega arith));
    }

pub returns-in-Err : goal.returns-in-Err
returns-in-Err c =
    let left = c.loop-i.invariant.left in
    let more = lines-left left.0 c.loop-i.i c.args.count left.1 c.loop-i-test.true in
    stopped-batch {S = Bor (List ℕ)} (λ x. x.now) c.in-Err.stop c.args.count c.args.first more.0 (c.args.first + c.loop-i.i) c.args.ledger.now c.loop-i.ledger c.add_line.new.ledger c.add_line.new.ledger
    c.args.bytes.now c.loop-i.rest.now (left.2 ∙ ap (λ k. batch_in c.loop-i.ledger k (c.args.first + c.loop-i.i) c.loop-i.rest.now) more.1) c.in-Err.ensures

pub loop-i-preserved : goal.loop-i-preserved
loop-i-preserved c =
    let kept = c.loop-i.invariant in
    let left = kept.left in
    let went = c.in-Ok.ensures in
    let more = lines-left left.0 c.loop-i.i c.args.count left.1 c.loop-i-test.true in
    record {
      grown = record { kept = went.1.grown.kept; entries = went.1.grown.entries ∙ kept.grown.entries; line = went.1.grown.line ∙ kept.grown.line };
      long = omega (arith, ap length went.1.batch, length-append c.loop-i.ledger.batch.items (went.0 ∷ []), kept.long);
      within = omega (arith, went.2, kept.within);
      left = (
        more.0,
        omega (arith, left.1, more.1),
        left.2 ∙ ap (λ k. batch_in c.loop-i.ledger k (c.args.first + c.loop-i.i) c.loop-i.rest.now) more.1 ∙ went.3 more.0
            ∙ ap (λ n. batch_in c.add_line.new.ledger more.0 n c.in-Ok.left.now) (let same : (c.args.first + c.loop-i.i) + 1 ≡ c.args.first + (c.loop-i.i + 1) = omega arith in same),
      );
    }

pub returns : goal.returns
returns c =
    let kept = c.loop-i.invariant in
    let left = kept.left in
    let none : left.0 ≡ 0 = omega (arith, left.1, c.loop-i-test.false) in (
      kept.grown,
      omega (arith, kept.long, left.1, none),
      kept.within,
      left.2 ∙ batch_from-end left.0 (c.args.first + c.loop-i.i) (edits_of c.loop-i.ledger.entries.items) c.loop-i.ledger.batch.items c.loop-i.rest.now none,
    )
