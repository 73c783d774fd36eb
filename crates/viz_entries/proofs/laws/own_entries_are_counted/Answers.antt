use Rattle.std.proofs.Common.{[]}
use Rattle.viz_entries.proofs.CountLemmas.{counted_after}
use Rattle.viz_entries.proofs.laws.own_entries_are_counted.Goals as goal

pub returns : goal.returns
returns c = record { law = λ h pass legal. counted_after pass [] h legal }
