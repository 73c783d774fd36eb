-- All numbers of a block and its bytes, both ways.
use Rattle.std.proofs.Common.{◌≡◌, ◌/◌, ℕ, ℤ, zero, suc, ◌+◌, ◌*◌, ◌<◌, ◌≤◌, Bool, true, false, ◌&&◌, List, [], ◌∷◌, ◌++◌, length, drop, slice_index, refl, sym, ap, arith, inl, inr}
use Rattle.std.specs.List.{flat_map, list_all}
use Rattle.std.proofs.Math.ListN.{get_or-eq_default}
use Rattle.std.proofs.Math.Nat.{div-add-mod', mul-div_cancel, mul_comm}
use Rattle.std.proofs.Math.Seq.{drop-append_seam}
use Rattle.std.proofs.lemmas.Bool.{cases_lt}
use Rattle.std.proofs.lemmas.List.{get_or-drop, length-append, length-drop, nil_from_length, take-append-drop}
use Rattle.viz_column.specs.declared.kind.Kind8.{Kind8}
use Rattle.viz_column.specs.Kinds.{size_of, fits}
use Rattle.viz_column.specs.Bytes.{bytes_of, first_numbers, numbers_in, AreBytes, IsBlock}
use Rattle.viz_column.proofs.KindLemmas.{size_above, length-bytes_of, number_again, bytes_of_again, fits-number_in}

-- what two tests say that both pass
both_true : (a b : Bool) → (a && b) ≡ true → (a ≡ true) × (b ≡ true)
both_true true b h = (refl, h)
both_true false b h = cc

-- a block has the size of its numbers
pub length-block : (kind : Kind8) (ns : List ℤ) → length (flat_map (bytes_of kind) ns) ≡ size_of kind * length ns
length-block kind [] = omega arith
length-block kind (z ∷ zs) =
    let first = length-bytes_of kind z in
    let rest = length-block kind zs in
    let both = length-append (bytes_of kind z) (flat_map (bytes_of kind) zs) in
    let more : size_of kind * suc (length zs) ≡ size_of kind + size_of kind * length zs = omega arith in
    omega (arith, first, rest, both, more)

-- as many numbers as a block has are those of which it is made
first_again : (kind : Kind8) (ns : List ℤ) → list_all (fits kind) ns ≡ true → first_numbers (length ns) kind (flat_map (bytes_of kind) ns) ≡ ns
first_again kind [] within = refl
first_again kind (z ∷ zs) within =
    let parts = both_true (fits kind z) (list_all (fits kind) zs) within in
    let first = number_again kind z (flat_map (bytes_of kind) zs) parts.0 in
    let left : drop (size_of kind) (bytes_of kind z ++ flat_map (bytes_of kind) zs) ≡ flat_map (bytes_of kind) zs =
    rw (length-bytes_of kind z) at (drop-append_seam (bytes_of kind z) (flat_map (bytes_of kind) zs)) in
    let rest = first_again kind zs parts.1 in
    rw (first, left, rest) refl

-- the numbers of a block are those of which it is made
pub numbers_again : (kind : Kind8) (ns : List ℤ) → list_all (fits kind) ns ≡ true → numbers_in kind (flat_map (bytes_of kind) ns) ≡ ns
numbers_again kind ns within =
    let count : length (flat_map (bytes_of kind) ns) / size_of kind ≡ length ns =
    rw (length-block kind ns, mul_comm (size_of kind) (length ns)) (mul-div_cancel (length ns) (size_above kind)) in
    rw count (first_again kind ns within)

-- a byte, or the 0 that stands for none
small_at : (bytes : List ℕ) → AreBytes bytes → (i : ℕ) → slice_index bytes i < 256
small_at bytes small i = elim (cases_lt i (length bytes)) [
  | inl lt ↦ small i lt
  | inr le ↦ let none : slice_index bytes i ≡ 0 = get_or-eq_default bytes 0 le in omega arith
]

-- what is left of bytes are bytes
small_behind : (n : ℕ) (bytes : List ℕ) → ((i : ℕ) → slice_index bytes i < 256) → (i : ℕ) → slice_index (drop n bytes) i < 256
small_behind n bytes small i = rw (get_or-drop n bytes i 0) (small (n + i))

-- there are so many numbers
pub length-first : (n : ℕ) (kind : Kind8) (bytes : List ℕ) → length (first_numbers n kind bytes) ≡ n
length-first zero kind bytes = refl
length-first (suc n) kind bytes = ap (λ (k : ℕ). suc k) (length-first n kind (drop (size_of kind) bytes))

-- the size of whole numbers is that of the bytes
pub size_again : (kind : Kind8) (bytes : List ℕ) → IsBlock kind bytes → size_of kind * (length bytes / size_of kind) ≡ length bytes
size_again kind bytes whole =
    let parts = div-add-mod' (length bytes) (size_of kind) in
    let turned = mul_comm (size_of kind) (length bytes / size_of kind) in
    omega (arith, parts, turned, whole)

-- numbers that are read lie in the range
fits-first : (n : ℕ) (kind : Kind8) (bytes : List ℕ) → ((i : ℕ) → slice_index bytes i < 256) → list_all (fits kind) (first_numbers n kind bytes) ≡ true
fits-first zero kind bytes small = refl
fits-first (suc n) kind bytes small =
    let first = fits-number_in kind bytes small in
    let rest = fits-first n kind (drop (size_of kind) bytes) (small_behind (size_of kind) bytes small) in
    rw (first, rest) refl

pub fits-numbers_in : (kind : Kind8) (bytes : List ℕ) → AreBytes bytes → list_all (fits kind) (numbers_in kind bytes) ≡ true
fits-numbers_in kind bytes small =
    fits-first (length bytes / size_of kind) kind bytes (small_at bytes small)

-- the block of numbers that are read are the bytes
block_of_first : (n : ℕ) (kind : Kind8) (bytes : List ℕ) → ((i : ℕ) → slice_index bytes i < 256) → size_of kind * n ≡ length bytes
    → flat_map (bytes_of kind) (first_numbers n kind bytes) ≡ bytes
block_of_first zero kind bytes small long =
    let none : length bytes ≡ 0 = omega arith in
    sym (nil_from_length bytes none)
block_of_first (suc n) kind bytes small long =
    let more : size_of kind * suc n ≡ size_of kind + size_of kind * n = omega arith in
    let enough : size_of kind ≤ length bytes = omega arith in
    let left : size_of kind * n ≡ length (drop (size_of kind) bytes) = rw (length-drop (size_of kind) bytes) (omega arith) in
    let first = bytes_of_again kind bytes enough small in
    let rest = block_of_first n kind (drop (size_of kind) bytes) (small_behind (size_of kind) bytes small) left in
    rw (first, rest) (take-append-drop (size_of kind) bytes)

-- the block of the numbers in bytes are the bytes
pub block_again : (kind : Kind8) (bytes : List ℕ) → IsBlock kind bytes → AreBytes bytes → flat_map (bytes_of kind) (numbers_in kind bytes) ≡ bytes
block_again kind bytes whole small =
    block_of_first (length bytes / size_of kind) kind bytes (small_at bytes small) (size_again kind bytes whole)
