use Rattle.viz_flags.proofs.FlaggedLemmas.{flagged_are_edges, flags_are_ranks}
use Rattle.viz_flags.proofs.flag_laws.flags_are_edges.Goals as goal

pub returns : goal.returns
returns c = record { edges = flagged_are_edges; ranks = flags_are_ranks }
