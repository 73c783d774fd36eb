use Rattle.std.proofs.Common.{◌≡◌, ◌+◌, ◌++◌, length, refl, ap, sym, ◌∙◌, arith}
use Rattle.viz_network.specs.History.{net_of}
use Rattle.viz_journal.specs.Entries.{edits_of}
use Rattle.viz_journal.proofs.LedgerLemmas.{net-grown, length-grown}
use Rattle.viz_journal.proofs.ledger.add.Goals as goal

pub returns-clause-added : goal.returns-clause-added
returns-clause-added c =
    let ledger = c.args.ledger.now in
    let before = edits_of ledger.entries.items in
    let batch = ledger.batch.items in
    let kept = c.requires.kept in
    let pushed = c.in_ok-push_edit.ensures in
    let long : length (before ++ c.push_edit.new.edits.items) ≡ length (before ++ batch) + 1 = ap (λ l. length (before ++ l)) pushed ∙ length-grown before batch c.args.edit in
    record {
      grown = record {
        kept = record {
          net = net-grown before batch c.args.edit ledger.net c.apply.new.self ledger.edits kept.net kept.edits c.in_ok-apply.ensures.applies
              ∙ ap (λ l. net_of (before ++ l)) (sym pushed);
          edits = omega (arith, kept.edits, long);
          few = omega (arith, c.requires.few, long);
          counts = kept.counts;
          lines = kept.lines;
        };
        entries = refl;
        line = refl;
      };
      batch = pushed;
    }
