use Rattle.std.proofs.Common.{◌≡◌, ℕ, ◌+◌, ◌≤◌, length}
use Rattle.viz_journal.specs.Steps.Kept.{IsGrown, batch_in}
use Rattle.viz_journal.proofs.edits.add_lines.Given as goal

-- the batch has the edits of the lines so far, and those of the lines that are left are all
abbrev pub invariant-loop-i : goal.invariant-loop-i
invariant-loop-i l = record {
  grown : IsGrown l.fn.ledger l.ledger;
  long : length l.ledger.batch.items ≡ length l.fn.ledger.batch.items + l.i;
  within : length l.rest ≤ length l.bytes;
  left : (k : ℕ) × (l.i + k ≡ l.count) × (batch_in l.fn.ledger l.count l.first l.bytes ≡ batch_in l.ledger k (l.first + l.i) l.rest);
}
