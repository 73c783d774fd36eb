-- Words of private contracts alone.
use Rattle.viz_make.specs.declared.serving.Make.{Make as Words}
use Rattle.viz_make.specs.Make.{Make}

-- the words as contracts see them
abbrev pub make_of : Words → Make
make_of c = record { number = c.number; extent = c.extent; output = c.output.now }
