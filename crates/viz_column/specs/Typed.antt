-- How a column is kept: the numbers of its one vector.
use Rattle.std.specs.Prelude.{pos, map}
use Rattle.viz_column.specs.declared.kind.Kind8.TheVariants.{I8, U8, I16, U16, I32, U32, I64, U64}
use Rattle.viz_column.specs.declared.typed.Typed.{Typed}
use Rattle.viz_column.specs.declared.typed.Typed.TheVariants as typed
use Rattle.viz_column.specs.Numbers.{Numbers}

-- the kind and the numbers that a vector holds
abbrev pub held_by : Typed → Numbers
held_by (typed.I8 v) = record { kind = I8; items = map (λ n. n) v.items }
held_by (typed.U8 v) = record { kind = U8; items = map (λ n. pos n) v.items }
held_by (typed.I16 v) = record { kind = I16; items = map (λ n. n) v.items }
held_by (typed.U16 v) = record { kind = U16; items = map (λ n. pos n) v.items }
held_by (typed.I32 v) = record { kind = I32; items = map (λ n. n) v.items }
held_by (typed.U32 v) = record { kind = U32; items = map (λ n. pos n) v.items }
held_by (typed.I64 v) = record { kind = I64; items = map (λ n. n) v.items }
held_by (typed.U64 v) = record { kind = U64; items = map (λ n. pos n) v.items }
