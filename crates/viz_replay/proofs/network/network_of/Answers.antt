use Rattle.std.proofs.Common.{length, ap, arith}
use Rattle.viz_journal.specs.declared.entry.JournalEntry.{JournalEntry}
use Rattle.viz_journal.specs.Entries.{edits_of}
use Rattle.std.proofs.Common.{List}
use Rattle.viz_replay.proofs.NetworkLemmas.{front_few}
use Rattle.viz_replay.proofs.network.network_of.Goals as goal

pub network_after-requires : goal.network_after-requires
network_after-requires c =
    record { few = omega (arith, ap (λ (es : List JournalEntry). length (edits_of es)) c.first.ensures, front_few c.args.entries.now c.args.count, c.requires) }
