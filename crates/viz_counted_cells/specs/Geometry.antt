-- What the public calls promise of the geometry of a file (docs/FORMATS-OF-FILES.md, "Grids and
-- polydata").
use Rattle.std.specs.Prelude.{Result, Ok, Err}
use Rattle.viz_lex.specs.Reading.{Reading}
use Rattle.viz_lex.specs.Rules.{Rule}
use Rattle.viz_attr.specs.declared.stop.AttrStop.{AttrStop}
use Rattle.viz_attr.specs.declared.stop.AttrStop.TheVariants.{File, Memory}

-- a call gave what stands there by a rule, seen by view, or the fault that is met by it, or memory
-- ran out
abbrev pub MeetsBy : {X V : Type 0} → (X → V) → Rule V → Result X AttrStop → Reading → Reading
    → Type 0
MeetsBy view rule (Ok x) old new = rule.is old new (view x)
MeetsBy view rule (Err (File fault)) old new = rule.isnt old fault
MeetsBy view rule (Err Memory) old new = Unit {0}
