-- Why attributes weren't read, and why a file wasn't.
use Rattle.std.specs.Prelude.{◌≡◌}
use Rattle.viz_attr.specs.declared.stop.AttrStop.{AttrStop}
use Rattle.viz_attr.specs.declared.stop.AttrStop.TheVariants as attributes
use Rattle.viz_legacy_read.specs.declared.stop.ReadStop.{ReadStop}
use Rattle.viz_legacy_read.specs.declared.stop.ReadStop.TheVariants as file

-- the same fault, or want of memory
abbrev pub IsSame : AttrStop → ReadStop → Type 0
IsSame (attributes.File fault) stop = stop ≡ file.File fault
IsSame attributes.Memory stop = stop ≡ file.Memory
