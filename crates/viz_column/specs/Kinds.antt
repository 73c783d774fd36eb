-- The types of whole numbers that an array may have (VTK User's Guide, "Simple legacy formats").
use Rattle.std.specs.Prelude.{ℕ, ℤ, pos, negsuc, ◌^◌, Bool, false, nat_lt}
use Rattle.viz_column.specs.declared.kind.Kind8.{Kind8}
use Rattle.viz_column.specs.declared.kind.Kind8.TheVariants.{I8, U8, I16, U16, I32, U32, I64, U64}

-- how many bytes a number has
abbrev pub size_of : Kind8 → ℕ
size_of I8 = 1
size_of U8 = 1
size_of I16 = 2
size_of U16 = 2
size_of I32 = 4
size_of U32 = 4
size_of I64 = 8
size_of U64 = 8

-- n is at least -2 ^ bits and below 2 ^ bits
abbrev pub fits_signed : ℕ → ℤ → Bool
fits_signed bits (pos n) = nat_lt n (2 ^ bits)
fits_signed bits (negsuc n) = nat_lt n (2 ^ bits)

-- n is at least 0 and below 2 ^ bits
abbrev pub fits_unsigned : ℕ → ℤ → Bool
fits_unsigned bits (pos n) = nat_lt n (2 ^ bits)
fits_unsigned bits (negsuc n) = false

-- n lies in the range of a kind
abbrev pub fits : Kind8 → ℤ → Bool
fits I8 n = fits_signed 7 n
fits U8 n = fits_unsigned 8 n
fits I16 n = fits_signed 15 n
fits U16 n = fits_unsigned 16 n
fits I32 n = fits_signed 31 n
fits U32 n = fits_unsigned 32 n
fits I64 n = fits_signed 63 n
fits U64 n = fits_unsigned 64 n
