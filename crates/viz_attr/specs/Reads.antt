-- What a reader of the code gave, beside what reading gives (docs/FORMATS-OF-FILES.md, "Reading").
use Rattle.std.specs.Prelude.{◌≡◌, ℕ, Bool, Option, Result, Ok, Err}
use Rattle.viz_base.specs.declared.node.Pick.{Pick}
use Rattle.viz_lex.specs.declared.fault.FileFault.{FileFault}
use Rattle.viz_lex.specs.Reading.{Reading}
use Rattle.viz_attr.specs.declared.stop.AttrStop.{AttrStop}
use Rattle.viz_attr.specs.declared.stop.AttrStop.TheVariants.{File, Memory}
use Rattle.viz_attr.specs.declared.parts.Files.{Files}
use Rattle.viz_attr.specs.declared.parts.Progress.{Progress}
use Rattle.viz_attr.specs.declared.parts.Named.{Named}
use Rattle.viz_attr.specs.Picks.{Given, Head, Part}
use Rattle.viz_attr.specs.Steps.{Known, behind_part}

-- the fault, or nothing where memory ran out
abbrev pub Stops : {Y : Type 0} → AttrStop → Result Y FileFault → Type 0
Stops (File fault) read = read ≡ Err fault
Stops Memory read = Unit {0}

-- a value, seen by view, and the new place; or the fault; or memory ran out
abbrev pub ReadsUnlessMemory : {X Y : Type 0} → (X → Y) → Result X AttrStop → Reading
    → Result (Y × Reading) FileFault → Type 0
ReadsUnlessMemory view (Ok x) new read = read ≡ Ok (view x, new)
ReadsUnlessMemory view (Err stop) new read = Stops stop read

-- what is known, as the code holds it
abbrev pub known_of : Progress → Known
known_of p = record { association = p.association; found = p.found; picked = p.picked }

-- the head of an array, as the code holds it
abbrev pub head_of : Named → Head
head_of h =
    record { association = h.association; sort = h.sort; name = h.name.now; tuples = h.tuples }

-- what is given, as the code holds it
abbrev pub given_of : Files → Given
given_of g = record { binary = g.binary; points = g.points; cells = g.cells; pick = g.pick.now }

-- what is known behind what was read
abbrev pub Knows : Result (Unit {0}) AttrStop → Progress → Reading
    → Result (Known × Reading) FileFault → Type 0
Knows result new_progress new read = ReadsUnlessMemory
    (λ (done : Unit {0}). known_of new_progress) result new read

-- a part was read, and is known
abbrev pub Adds : Files → Result (Unit {0}) AttrStop → Progress → Progress → Reading
    → Result (Part × Reading) FileFault → Type 0
Adds g result old_progress new_progress new read = Knows result new_progress new
    (behind_part (given_of g) (known_of old_progress) read)
