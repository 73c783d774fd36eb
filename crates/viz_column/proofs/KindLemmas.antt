-- One number of a kind and its bytes, both ways.
use Rattle.std.proofs.Common.{◌≡◌, ℕ, ℤ, pos, negsuc, ◌^◌, ◌<◌, ◌≤◌, true, List, [], ◌∷◌, ◌++◌, length, take, slice_index, refl, ap, ◌∙◌, arith}
use Rattle.std.specs.Int.{Width, w8, w16, w32, w64, cast_signed, cast_unsigned}
use Rattle.std.proofs.lemmas.Bool.{ltb-true, lt-ltb}
use mir.Val.{SFits, Fits, bits, hbits}
use mir.Facts.{Fits-of_z, to_z-of_z, of_z-to_z, sfits_to_z}
use Rattle.byteorder.specs.Endian.{big_bytes, big_number}
use Rattle.byteorder.specs.Numbers.{big_from-lt, big_number-reads_back}
use Rattle.viz_column.specs.declared.kind.Kind8.{Kind8}
use Rattle.viz_column.specs.declared.kind.Kind8.TheVariants.{I8, U8, I16, U16, I32, U32, I64, U64}
use Rattle.viz_column.specs.Kinds.{size_of, fits, fits_signed, fits_unsigned}
use Rattle.viz_column.specs.Bytes.{bytes_of, number_in}
use Rattle.viz_column.proofs.RoundLemmas.{bytes_again}

pub size_above : (kind : Kind8) → 0 < size_of kind
size_above I8 = omega arith
size_above U8 = omega arith
size_above I16 = omega arith
size_above U16 = omega arith
size_above I32 = omega arith
size_above U32 = omega arith
size_above I64 = omega arith
size_above U64 = omega arith

-- a number has as many bytes as its kind
pub length-bytes_of : (kind : Kind8) (z : ℤ) → length (bytes_of kind z) ≡ size_of kind
length-bytes_of I8 z = refl
length-bytes_of U8 z = refl
length-bytes_of I16 z = refl
length-bytes_of U16 z = refl
length-bytes_of I32 z = refl
length-bytes_of U32 z = refl
length-bytes_of I64 z = refl
length-bytes_of U64 z = refl

-- the test of a range, and the fact
sfits : (w : Width) (z : ℤ) → fits_signed (hbits w) z ≡ true → SFits w z
sfits w (pos n) h = record { sfits = ltb-true n (2 ^ hbits w) h }
sfits w (negsuc n) h = record { sfits = ltb-true n (2 ^ hbits w) h }

-- the fact, and the test
fits_again : (w : Width) (z : ℤ) → SFits w z → fits_signed (hbits w) z ≡ true
fits_again w (pos n) h = lt-ltb n (2 ^ hbits w) h.sfits
fits_again w (negsuc n) h = lt-ltb n (2 ^ hbits w) h.sfits

-- a number with a sign is read again
signed_again : (w : Width) (n : ℕ) (z : ℤ) (rest : List ℕ) → 256 ^ n ≡ 2 ^ bits w → fits_signed (hbits w) z ≡ true
    → cast_signed w (big_number n (big_bytes n (cast_unsigned w z) ++ rest)) ≡ z
signed_again w n z rest same h =
    let f = sfits w z h in
    let g : Fits w (cast_unsigned w z) = Fits-of_z f in
    let below : cast_unsigned w z < 256 ^ n = rw same g.fits in
    ap (λ (x : ℕ). cast_signed w x) (big_number-reads_back n (cast_unsigned w z) rest below) ∙ to_z-of_z f

-- a number without a sign is read again
unsigned_again : (w : Width) (n : ℕ) (z : ℤ) (rest : List ℕ) → 256 ^ n ≡ 2 ^ bits w → fits_unsigned (bits w) z ≡ true
    → pos (big_number n (big_bytes n (cast_unsigned w z) ++ rest)) ≡ z
unsigned_again w n (pos m) rest same h =
    let below : m < 256 ^ n = rw same (ltb-true m (2 ^ bits w) h) in
    ap (λ (x : ℕ). pos x) (big_number-reads_back n m rest below)
unsigned_again w n (negsuc m) rest same h = cc

-- the number in its bytes is the number
pub number_again : (kind : Kind8) (z : ℤ) (rest : List ℕ) → fits kind z ≡ true → number_in kind (bytes_of kind z ++ rest) ≡ z
number_again I8 z rest h = to_z-of_z (sfits w8 z h)
number_again U8 (pos n) rest h = refl
number_again U8 (negsuc n) rest h = cc
number_again I16 z rest h = signed_again w16 2 z rest refl h
number_again U16 z rest h = unsigned_again w16 2 z rest refl h
number_again I32 z rest h = signed_again w32 4 z rest refl h
number_again U32 z rest h = unsigned_again w32 4 z rest refl h
number_again I64 z rest h = signed_again w64 8 z rest refl h
number_again U64 z rest h = unsigned_again w64 8 z rest refl h

-- the bits of a number of some bytes are that number
bits_again : (w : Width) (m : ℕ) → m < 2 ^ bits w → cast_unsigned w (cast_signed w m) ≡ m
bits_again w m below = let f : Fits w m = record { fits = below } in of_z-to_z f

signed_bytes_again : (w : Width) (n : ℕ) (bytes : List ℕ) → 256 ^ n ≡ 2 ^ bits w → n ≤ length bytes → ((i : ℕ) → slice_index bytes i < 256)
    → big_bytes n (cast_unsigned w (cast_signed w (big_number n bytes))) ≡ take n bytes
signed_bytes_again w n bytes same long small =
    let below : big_number n bytes < 2 ^ bits w = rw (← same) (big_from-lt 0 n bytes small) in
    ap (λ (x : ℕ). big_bytes n x) (bits_again w (big_number n bytes) below) ∙ bytes_again n bytes long small

one_byte : (bytes : List ℕ) → 1 ≤ length bytes → slice_index bytes 0 ∷ [] ≡ take 1 bytes
one_byte [] long = absurd (omega arith)
one_byte (b ∷ bs) long = refl

-- the bytes of the number in bytes are those bytes
pub bytes_of_again : (kind : Kind8) (bytes : List ℕ) → size_of kind ≤ length bytes → ((i : ℕ) → slice_index bytes i < 256)
    → bytes_of kind (number_in kind bytes) ≡ take (size_of kind) bytes
bytes_of_again I8 bytes long small =
    ap (λ (x : ℕ). x ∷ []) (bits_again w8 (slice_index bytes 0) (small 0)) ∙ one_byte bytes long
bytes_of_again U8 bytes long small = one_byte bytes long
bytes_of_again I16 bytes long small = signed_bytes_again w16 2 bytes refl long small
bytes_of_again U16 bytes long small = bytes_again 2 bytes long small
bytes_of_again I32 bytes long small = signed_bytes_again w32 4 bytes refl long small
bytes_of_again U32 bytes long small = bytes_again 4 bytes long small
bytes_of_again I64 bytes long small = signed_bytes_again w64 8 bytes refl long small
bytes_of_again U64 bytes long small = bytes_again 8 bytes long small

-- bits read in two's complement lie in the range
signed_fits : (w : Width) (m : ℕ) → m < 2 ^ bits w → fits_signed (hbits w) (cast_signed w m) ≡ true
signed_fits w m below = let f : Fits w m = record { fits = below } in fits_again w (cast_signed w m) (sfits_to_z f)

-- the number in bytes lies in the range of its kind
pub fits-number_in : (kind : Kind8) (bytes : List ℕ) → ((i : ℕ) → slice_index bytes i < 256) → fits kind (number_in kind bytes) ≡ true
fits-number_in I8 bytes small = signed_fits w8 (slice_index bytes 0) (small 0)
fits-number_in U8 bytes small = lt-ltb (slice_index bytes 0) 256 (small 0)
fits-number_in I16 bytes small = signed_fits w16 (big_number 2 bytes) (big_from-lt 0 2 bytes small)
fits-number_in U16 bytes small = lt-ltb (big_number 2 bytes) (2 ^ 16) (big_from-lt 0 2 bytes small)
fits-number_in I32 bytes small = signed_fits w32 (big_number 4 bytes) (big_from-lt 0 4 bytes small)
fits-number_in U32 bytes small = lt-ltb (big_number 4 bytes) (2 ^ 32) (big_from-lt 0 4 bytes small)
fits-number_in I64 bytes small = signed_fits w64 (big_number 8 bytes) (big_from-lt 0 8 bytes small)
fits-number_in U64 bytes small = lt-ltb (big_number 8 bytes) (2 ^ 64) (big_from-lt 0 8 bytes small)
