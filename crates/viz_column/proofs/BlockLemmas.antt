-- What the kit's calls read and write, as the lists of the definitions.
use Rattle.std.proofs.Common.{◌≡◌, ◌/◌, ℕ, ℤ, pos, suc, ◌+◌, ◌*◌, ◌<◌, List, [], ◌∷◌, ◌++◌, length, map, take, drop, slice_index, get_or, refl, sym, ap, ◌∙◌, arith}
use Rattle.std.specs.List.{flat_map}
use Rattle.std.specs.Int.{w8, cast_signed, cast_unsigned}
use Rattle.std.proofs.Math.Nat.{div-one}
use Rattle.std.proofs.Math.Seq.{drop-length, take-length}
use Rattle.std.proofs.lemmas.List.{append-nil, drop-drop, get_or_default, map-id}
use Rattle.std.proofs.lemmas.List.Concat.{flat_map_single}
use Rattle.std.proofs.lemmas.List.Folds.{flat_map-map}
use Rattle.std.proofs.lemmas.Simd.{map-map}
use Rattle.byteorder.specs.Endian.{big_bytes, IsReadBy}
use Rattle.viz_column.specs.declared.kind.Kind8.{Kind8}
use Rattle.viz_column.specs.declared.kind.Kind8.TheVariants.{I8, U8}
use Rattle.viz_column.specs.Kinds.{size_of}
use Rattle.viz_column.specs.Bytes.{bytes_of, number_in, first_numbers, numbers_in}

-- numbers that are read place by place are those of the definition
pub reads_all : {X : Type 0} (kind : Kind8) (val : X → ℤ) (value : List ℕ → X) (src : List ℕ) (dst : List X)
    → ((bytes : List ℕ) → val (value bytes) ≡ number_in kind bytes)
    → IsReadBy value (size_of kind) src dst → map val dst ≡ first_numbers (length dst) kind src
reads_all kind val value src [] same reads = refl
reads_all {X = X} kind val value src (x ∷ xs) same reads =
    let none : size_of kind * 0 ≡ 0 = omega arith in
    let here : x ≡ value src = rw none at (reads x 0 (omega arith)) in
    let later : IsReadBy value (size_of kind) (drop (size_of kind) src) xs = λ (d : X) (k : ℕ) lt.
    let place : size_of kind * suc k ≡ size_of kind + size_of kind * k = omega arith in
    let there : get_or xs k d ≡ value (drop (size_of kind * suc k) src) = reads d (suc k) (omega arith) in
    rw (drop-drop, ← place) there in
    let first : val x ≡ number_in kind src = ap val here ∙ same src in
    let rest = reads_all kind val value (drop (size_of kind) src) xs same later in
    cc

-- one byte is one number, as it stands
reads_u8 : (bytes : List ℕ) → map (λ n. pos n) bytes ≡ first_numbers (length bytes) U8 bytes
reads_u8 [] = refl
reads_u8 (b ∷ bs) = ap (λ (ns : List ℤ). pos b ∷ ns) (reads_u8 bs)

-- one byte is one number, in two's complement
reads_i8 : (bytes : List ℕ) → map (λ b. cast_signed w8 b) bytes ≡ first_numbers (length bytes) I8 bytes
reads_i8 [] = refl
reads_i8 (b ∷ bs) = ap (λ (ns : List ℤ). cast_signed w8 b ∷ ns) (reads_i8 bs)

-- bytes that are copied are a block of numbers
pub bytes_are_read : (v src : List ℕ) → v ≡ src → map (λ n. pos n) v ≡ numbers_in U8 src
bytes_are_read v src same = rw (same, div-one (length src)) (reads_u8 src)

-- the same in two's complement
pub signed_are_read : (v : List ℤ) (src : List ℕ) → v ≡ map (λ b. cast_signed w8 b) src → map (λ n. n) v ≡ numbers_in I8 src
signed_are_read v src same = rw (same, div-one (length src), map-map) (reads_i8 src)

-- numbers that are copied are their block
pub bytes_are_written : (v ns : List ℕ) → v ≡ ns → v ≡ flat_map (bytes_of U8) (map (λ n. pos n) ns)
bytes_are_written v ns same =
    same ∙ sym (flat_map-map (bytes_of U8) (λ n. pos n) ns ∙ flat_map_single (λ n. n) ns ∙ map-id ns)

-- the bytes of numbers without a sign
writes_naturals : (kind : Kind8) → ((n : ℕ) → bytes_of kind (pos n) ≡ big_bytes (size_of kind) n)
    → (ns : List ℕ) → flat_map (bytes_of kind) (map (λ n. pos n) ns) ≡ flat_map (big_bytes (size_of kind)) ns
writes_naturals kind same [] = refl
writes_naturals kind same (n ∷ ns) =
    let first = same n in
    let rest = writes_naturals kind same ns in
    cc

-- a slice of a whole vector that was written is what the vector then holds
pub all_written : {X : Type 0} (len : ℕ) (new old : List X) → length new ≡ length old → length old ≡ len
    → take len (new ++ drop (length new) old) ≡ new
all_written len new old same long =
    let none : drop (length new) old ≡ [] = rw same (drop-length old) in
    let count : len ≡ length new = omega arith in
    rw (none, append-nil, count) (take-length new)

-- a vector that a call has read into holds the numbers of the block
pub block_is_read : {X : Type 0} (kind : Kind8) (val : X → ℤ) (value : List ℕ → X) (src : List ℕ) (len : ℕ) (new lent old : List X)
    → ((bytes : List ℕ) → val (value bytes) ≡ number_in kind bytes)
    → length new ≡ length lent → lent ≡ old → length lent ≡ len → len ≡ length src / size_of kind
    → IsReadBy value (size_of kind) src new
    → map val (take len (new ++ drop (length new) old)) ≡ numbers_in kind src
block_is_read kind val value src len new lent old same size is long count reads =
    let olds : length lent ≡ length old = ap length is in
    let whole : take len (new ++ drop (length new) old) ≡ new = all_written len new old (omega arith) (omega arith) in
    let all : map val new ≡ first_numbers (length new) kind src = reads_all kind val value src new same reads in
    let same_count : length new ≡ length src / size_of kind = omega arith in
    rw (whole, all, same_count) refl

-- the same for numbers without a sign
pub naturals_are_read : (kind : Kind8) (value : List ℕ → ℕ) (src : List ℕ) (len : ℕ) (new lent old : List ℕ)
    → ((bytes : List ℕ) → pos (value bytes) ≡ number_in kind bytes)
    → length new ≡ length lent → lent ≡ old → length lent ≡ len → len ≡ length src / size_of kind
    → ((k : ℕ) → k < length new → slice_index new k ≡ value (drop (size_of kind * k) src))
    → map (λ n. pos n) (take len (new ++ drop (length new) old)) ≡ numbers_in kind src
naturals_are_read kind value src len new lent old same size is long count reads =
    block_is_read kind (λ n. pos n) value src len new lent old same size is long count
    (λ d k lt. get_or_default new k d 0 lt ∙ reads k lt)

-- a vector that a call has written into holds the block of the numbers
pub naturals_are_written : (kind : Kind8) (ns : List ℕ) (len : ℕ) (new lent old : List ℕ)
    → ((n : ℕ) → bytes_of kind (pos n) ≡ big_bytes (size_of kind) n)
    → length new ≡ length lent → lent ≡ old → length lent ≡ len
    → new ≡ flat_map (big_bytes (size_of kind)) ns
    → take len (new ++ drop (length new) old) ≡ flat_map (bytes_of kind) (map (λ n. pos n) ns)
naturals_are_written kind ns len new lent old same size is long written =
    let olds : length lent ≡ length old = ap length is in
    all_written len new old (omega arith) (omega arith) ∙ written ∙ sym (writes_naturals kind same ns)

-- the same for numbers of one byte with a sign
pub signed_are_written : (zs : List ℤ) (len : ℕ) (new lent old : List ℕ)
    → length new ≡ length lent → lent ≡ old → length lent ≡ len
    → new ≡ flat_map (λ z. cast_unsigned w8 z ∷ []) zs
    → take len (new ++ drop (length new) old) ≡ flat_map (bytes_of I8) (map (λ n. n) zs)
signed_are_written zs len new lent old size is long written =
    let olds : length lent ≡ length old = ap length is in
    all_written len new old (omega arith) (omega arith) ∙ written ∙ sym (flat_map-map (bytes_of I8) (λ n. n) zs)
