-- What was read by a reader that decides a rule is what stands by the rule.
use Rattle.std.proofs.Common.{Result, Ok, Err}
use Rattle.viz_lex.specs.declared.fault.FileFault.{FileFault}
use Rattle.viz_lex.specs.Reading.{Reading}
use Rattle.viz_lex.specs.Rules.{Rule, Decides}
use Rattle.viz_attr.specs.declared.stop.AttrStop.{AttrStop}
use Rattle.viz_attr.specs.declared.stop.AttrStop.TheVariants.{File, Memory}
use Rattle.viz_attr.specs.Reads.{ReadsUnlessMemory}
use Rattle.viz_counted_cells.specs.Geometry.{MeetsBy}

pub meets-decided : {X V : Type 0} (view : X → V) (rule : Rule V) (read : Reading → Result (V × Reading) FileFault) → Decides rule read
    → (result : Result X AttrStop) (old new : Reading) → ReadsUnlessMemory view result new (read old) → MeetsBy view rule result old new
meets-decided view rule read d (Ok x) old new h = d.found old (view x, new) h
meets-decided view rule read d (Err (File fault)) old new h = d.stops old fault h
meets-decided view rule read d (Err Memory) old new h = tt
