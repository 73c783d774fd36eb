-- What a rule makes, unless memory runs out (docs/FORMATS-OF-FILTERS.md, "What a node gives").
use Rattle.std.specs.Prelude.{Result, Ok, Err}
use Rattle.viz_network.specs.declared.fault.Cause.{Cause}
use Rattle.viz_node_rules.specs.declared.stop.OwnStop.{OwnStop}
use Rattle.viz_node_rules.specs.declared.stop.OwnStop.TheVariants.{Cause as Caused, Memory}

-- the rule has this result, unless memory ran out
abbrev pub Makes : {X : Type 0} → (Result X Cause → Type 0) → Result X OwnStop → Type 0
Makes rule (Ok x) = rule (Ok x)
Makes rule (Err (Caused cause)) = rule (Err cause)
Makes rule (Err Memory) = Unit {0}
