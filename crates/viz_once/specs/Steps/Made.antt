-- What is made of a file's bytes, before it is written. Only private contracts speak of it.
use Rattle.std.specs.Prelude.{List, ℕ, Result, Ok, Err}
use Rattle.viz_network.specs.declared.fault.Stop.{Stop}
use Rattle.viz_network.specs.declared.fault.Stop.TheVariants as stop
use Rattle.viz_reshape.specs.declared.reshape.MadeFile.{MadeFile}
use Rattle.viz_once.specs.declared.command.Filter.{Filter}
use Rattle.viz_once.specs.Files.{IsMadeFor}
use Rattle.viz_once.specs.FixedHistory.{name_at}
use Rattle.viz_once.specs.Reasons.{IsFaultFor}

-- the file that the filter makes with its counts, or the fault for which it makes none, unless
-- memory ran out
abbrev pub Makes : Filter → List ℕ → Result MadeFile Stop → Type 0
Makes filter bytes (Ok made) = IsMadeFor filter bytes made.text made.counts
Makes filter bytes (Err (stop.Fault fault)) = IsFaultFor filter bytes fault (name_at fault.node.0)
Makes filter bytes (Err stop.Memory) = Unit {0}
