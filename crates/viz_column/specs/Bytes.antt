-- Numbers as bytes, big endian, in two's complement (VTK User's Guide, "Simple legacy formats").
use Rattle.std.specs.Prelude.{◌≡◌, ◌<◌, ℕ, ℤ, pos, zero, suc, ◌/◌, ◌%◌, List, [], ◌∷◌, length}
use Rattle.std.specs.Prelude.{drop, slice_index}
use Rattle.std.specs.Int.{w8, w16, w32, w64, cast_signed, cast_unsigned}
use Rattle.std.specs.List.{flat_map}
use Rattle.byteorder.specs.Endian.{big_bytes, big_number}
use Rattle.viz_column.specs.declared.kind.Kind8.{Kind8}
use Rattle.viz_column.specs.declared.kind.Kind8.TheVariants.{I8, U8, I16, U16, I32, U32, I64, U64}
use Rattle.viz_column.specs.Kinds.{size_of}
use Rattle.viz_column.specs.Numbers.{Numbers}

-- the bytes of a number, the highest first
abbrev pub bytes_of : Kind8 → ℤ → List ℕ
bytes_of I8 n = cast_unsigned w8 n ∷ []
bytes_of U8 n = cast_unsigned w8 n ∷ []
bytes_of I16 n = big_bytes 2 (cast_unsigned w16 n)
bytes_of U16 n = big_bytes 2 (cast_unsigned w16 n)
bytes_of I32 n = big_bytes 4 (cast_unsigned w32 n)
bytes_of U32 n = big_bytes 4 (cast_unsigned w32 n)
bytes_of I64 n = big_bytes 8 (cast_unsigned w64 n)
bytes_of U64 n = big_bytes 8 (cast_unsigned w64 n)

-- the bytes of all the numbers, one after the other
abbrev pub block_of : Numbers → List ℕ
block_of n = flat_map (bytes_of n.kind) n.items

-- the number in the first bytes
abbrev pub number_in : Kind8 → List ℕ → ℤ
number_in I8 bytes = cast_signed w8 (slice_index bytes 0)
number_in U8 bytes = pos (slice_index bytes 0)
number_in I16 bytes = cast_signed w16 (big_number 2 bytes)
number_in U16 bytes = pos (big_number 2 bytes)
number_in I32 bytes = cast_signed w32 (big_number 4 bytes)
number_in U32 bytes = pos (big_number 4 bytes)
number_in I64 bytes = cast_signed w64 (big_number 8 bytes)
number_in U64 bytes = pos (big_number 8 bytes)

-- so many numbers, one after the other
abbrev pub first_numbers : ℕ → Kind8 → List ℕ → List ℤ
first_numbers zero kind bytes = []
first_numbers (suc n) kind bytes =
    number_in kind bytes ∷ first_numbers n kind (drop (size_of kind) bytes)

-- the numbers in all the bytes
abbrev pub numbers_in : Kind8 → List ℕ → List ℤ
numbers_in kind bytes = first_numbers (length bytes / size_of kind) kind bytes

-- each number is that of a byte
abbrev pub AreBytes : List ℕ → Type 0
AreBytes bytes = (i : ℕ) → i < length bytes → slice_index bytes i < 256

-- the bytes are those of whole numbers, with none left over
abbrev pub IsBlock : Kind8 → List ℕ → Type 0
IsBlock kind bytes = length bytes % size_of kind ≡ 0

-- the kind, and the numbers in all the bytes
abbrev pub numbers_of : Kind8 → List ℕ → Numbers
numbers_of kind bytes = record { kind = kind; items = numbers_in kind bytes }
