use Rattle.std.proofs.Common.{◌≡◌, ℕ, ◌≤◌, length, []}
use Rattle.viz_journal.specs.Reading.{journal_from}
use Rattle.viz_journal.specs.Steps.Kept.{IsClosed}
use Rattle.viz_journal.proofs.reading.entries_of.Given as goal

-- the entries so far and those of the bytes that are left are all
abbrev pub invariant-loop-rest : goal.invariant-loop-rest
invariant-loop-rest l = record {
  closed : IsClosed l.ledger;
  all : (k : ℕ) × (length l.rest ≤ k) × (journal_from l.version k l.ledger.line l.ledger.entries.items l.rest ≡ journal_from l.version (length l.bytes) 2 [] l.bytes);
}

abbrev pub decreases-loop-rest : goal.decreases-loop-rest
decreases-loop-rest l = length l.rest
