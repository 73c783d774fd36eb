-- Values known from outside: ranges by powers of two, bytes written by hand in two's complement.
use Rattle.std.proofs.Common.{◌≡◌, true, false, [], ◌∷◌, pos, negsuc, refl}
use Rattle.viz_column.specs.declared.kind.Kind8.TheVariants.{I8, U8, I16, U16, I32, U32, I64, U64}
use Rattle.viz_column.specs.Kinds.{fits}
use Rattle.viz_column.specs.Bytes.{bytes_of, number_in, numbers_in, block_of}

-- ---- the ends of each range: the last number inside and the first one outside, at both ends

i8_greatest : fits I8 (pos 127) ≡ true
i8_greatest = refl

i8_above : fits I8 (pos 128) ≡ false
i8_above = refl

i8_least : fits I8 (negsuc 127) ≡ true
i8_least = refl

i8_below : fits I8 (negsuc 128) ≡ false
i8_below = refl

u8_greatest : fits U8 (pos 255) ≡ true
u8_greatest = refl

u8_above : fits U8 (pos 256) ≡ false
u8_above = refl

u8_least : fits U8 (pos 0) ≡ true
u8_least = refl

u8_below : fits U8 (negsuc 0) ≡ false
u8_below = refl

i16_greatest : fits I16 (pos 32767) ≡ true
i16_greatest = refl

i16_above : fits I16 (pos 32768) ≡ false
i16_above = refl

i16_least : fits I16 (negsuc 32767) ≡ true
i16_least = refl

i16_below : fits I16 (negsuc 32768) ≡ false
i16_below = refl

u16_greatest : fits U16 (pos 65535) ≡ true
u16_greatest = refl

u16_above : fits U16 (pos 65536) ≡ false
u16_above = refl

u16_least : fits U16 (pos 0) ≡ true
u16_least = refl

u16_below : fits U16 (negsuc 0) ≡ false
u16_below = refl

i32_greatest : fits I32 (pos 2147483647) ≡ true
i32_greatest = refl

i32_above : fits I32 (pos 2147483648) ≡ false
i32_above = refl

i32_least : fits I32 (negsuc 2147483647) ≡ true
i32_least = refl

i32_below : fits I32 (negsuc 2147483648) ≡ false
i32_below = refl

u32_greatest : fits U32 (pos 4294967295) ≡ true
u32_greatest = refl

u32_above : fits U32 (pos 4294967296) ≡ false
u32_above = refl

u32_least : fits U32 (pos 0) ≡ true
u32_least = refl

u32_below : fits U32 (negsuc 0) ≡ false
u32_below = refl

i64_greatest : fits I64 (pos 9223372036854775807) ≡ true
i64_greatest = refl

i64_above : fits I64 (pos 9223372036854775808) ≡ false
i64_above = refl

i64_least : fits I64 (negsuc 9223372036854775807) ≡ true
i64_least = refl

i64_below : fits I64 (negsuc 9223372036854775808) ≡ false
i64_below = refl

u64_greatest : fits U64 (pos 18446744073709551615) ≡ true
u64_greatest = refl

u64_above : fits U64 (pos 18446744073709551616) ≡ false
u64_above = refl

u64_least : fits U64 (pos 0) ≡ true
u64_least = refl

u64_below : fits U64 (negsuc 0) ≡ false
u64_below = refl

-- ---- bytes, the highest first

i8_minus_one : number_in I8 (255 ∷ []) ≡ negsuc 0
i8_minus_one = refl

u8_all_bits : number_in U8 (255 ∷ []) ≡ pos 255
u8_all_bits = refl

i16_order : number_in I16 (1 ∷ 2 ∷ []) ≡ pos 258
i16_order = refl

i16_least_bytes : number_in I16 (128 ∷ 0 ∷ []) ≡ negsuc 32767
i16_least_bytes = refl

i16_minus_two : bytes_of I16 (negsuc 1) ≡ 255 ∷ 254 ∷ []
i16_minus_two = refl

u16_order : bytes_of U16 (pos 258) ≡ 1 ∷ 2 ∷ []
u16_order = refl

i32_order : number_in I32 (1 ∷ 2 ∷ 3 ∷ 4 ∷ []) ≡ pos 16909060
i32_order = refl

u32_all_bits : number_in U32 (255 ∷ 255 ∷ 255 ∷ 255 ∷ []) ≡ pos 4294967295
u32_all_bits = refl

i64_minus_one : bytes_of I64 (negsuc 0) ≡ 255 ∷ 255 ∷ 255 ∷ 255 ∷ 255 ∷ 255 ∷ 255 ∷ 255 ∷ []
i64_minus_one = refl

u64_order : number_in U64 (1 ∷ 2 ∷ 3 ∷ 4 ∷ 5 ∷ 6 ∷ 7 ∷ 8 ∷ []) ≡ pos 72623859790382856
u64_order = refl

two_shorts : numbers_in I16 (0 ∷ 1 ∷ 255 ∷ 255 ∷ []) ≡ pos 1 ∷ negsuc 0 ∷ []
two_shorts = refl

block_of_two : block_of (record { kind = I16; items = pos 1 ∷ negsuc 0 ∷ [] }) ≡ 0 ∷ 1 ∷ 255 ∷ 255 ∷ []
block_of_two = refl
