-- What a column lends: its numbers, as a slice of their own type.
use Rattle.std.specs.Prelude.{pos, map}
use Rattle.viz_column.specs.declared.kind.Kind8.TheVariants.{I8, U8, I16, U16, I32, U32, I64, U64}
use Rattle.viz_column.specs.declared.lent.Lent.{Lent}
use Rattle.viz_column.specs.declared.lent.Lent.TheVariants as lent
use Rattle.viz_column.specs.Numbers.{Numbers}

-- the kind and the numbers that are lent
abbrev pub lent_by : Lent → Numbers
lent_by (lent.I8 s) = record { kind = I8; items = map (λ n. n) s.now }
lent_by (lent.U8 s) = record { kind = U8; items = map (λ n. pos n) s.now }
lent_by (lent.I16 s) = record { kind = I16; items = map (λ n. n) s.now }
lent_by (lent.U16 s) = record { kind = U16; items = map (λ n. pos n) s.now }
lent_by (lent.I32 s) = record { kind = I32; items = map (λ n. n) s.now }
lent_by (lent.U32 s) = record { kind = U32; items = map (λ n. pos n) s.now }
lent_by (lent.I64 s) = record { kind = I64; items = map (λ n. n) s.now }
lent_by (lent.U64 s) = record { kind = U64; items = map (λ n. pos n) s.now }
