-- The ranges of the types, and the numbers that two bounds select.
use Rattle.std.proofs.Common.{◌≡◌, ℕ, ◌^◌, ◌≤◌, ℤ, pos, negsuc, true, false, arith}
use Rattle.std.specs.Prelude.{◌≤ℤ◌, ◌<ℤ◌}
use Rattle.std.specs.Int.{int_max, int_min}
use Rattle.std.proofs.lemmas.Bool.{ltb-true, lt-ltb}
use Rattle.std.proofs.lemmas.Int.{ints}
use Rattle.viz_column.specs.declared.kind.Kind8.{Kind8}
use Rattle.viz_column.specs.declared.kind.Kind8.TheVariants.{I8, U8, I16, U16, I32, U32, I64, U64}
use Rattle.viz_column.specs.Kinds.{fits, fits_signed, fits_unsigned}
use Rattle.viz_meaning.specs.Threshold.{is_within}
use Rattle.viz_image_ops.specs.Steps.{IsLeast, IsMost, SelectSame, SelectNone}

-- the order of two numbers of one sign
pos_order : (m n : ℕ) → pos m ≤ℤ pos n → m ≤ n
pos_order m n le = omega (arith, ints)

negsuc_order : (m n : ℕ) → negsuc m ≤ℤ negsuc n → n ≤ m
negsuc_order m n le = omega (arith, ints)

no_order : (m n : ℕ) → pos m ≤ℤ negsuc n → ⊥
no_order m n le = omega (arith, ints)

-- a number between two of a range lies in the range
signed_between : (bits : ℕ) (a b n : ℤ) → fits_signed bits a ≡ true → fits_signed bits b ≡ true → a ≤ℤ n → n ≤ℤ b → fits_signed bits n ≡ true
signed_between bits a (pos b) (pos n) low high from to =
    lt-ltb n (2 ^ bits) (let below = ltb-true b (2 ^ bits) high in let order = pos_order n b to in omega arith)
signed_between bits (negsuc a) b (negsuc n) low high from to =
    lt-ltb n (2 ^ bits) (let below = ltb-true a (2 ^ bits) low in let order = negsuc_order a n from in omega arith)
signed_between bits a (negsuc b) (pos n) low high from to = absurd (no_order n b to)
signed_between bits (pos a) b (negsuc n) low high from to = absurd (no_order a n from)

unsigned_between : (bits : ℕ) (a b n : ℤ) → fits_unsigned bits a ≡ true → fits_unsigned bits b ≡ true → a ≤ℤ n → n ≤ℤ b → fits_unsigned bits n ≡ true
unsigned_between bits a (pos b) (pos n) low high from to =
    lt-ltb n (2 ^ bits) (let below = ltb-true b (2 ^ bits) high in let order = pos_order n b to in omega arith)
unsigned_between bits a (negsuc b) (pos n) low high from to = cc
unsigned_between bits (pos a) b (negsuc n) low high from to = absurd (no_order a n from)
unsigned_between bits (negsuc a) b (negsuc n) low high from to = cc

pub fits_between : (kind : Kind8) (a b n : ℤ) → fits kind a ≡ true → fits kind b ≡ true → a ≤ℤ n → n ≤ℤ b → fits kind n ≡ true
fits_between I8 a b n = signed_between 7 a b n
fits_between U8 a b n = unsigned_between 8 a b n
fits_between I16 a b n = signed_between 15 a b n
fits_between U16 a b n = unsigned_between 16 a b n
fits_between I32 a b n = signed_between 31 a b n
fits_between U32 a b n = unsigned_between 32 a b n
fits_between I64 a b n = signed_between 63 a b n
fits_between U64 a b n = unsigned_between 64 a b n

-- bounds that are brought to the ends of a type
pub record AreBrought (kind : Kind8) (lo hi a b : ℤ) : Type 0 where
  pub least : ℤ
  pub most : ℤ
  pub is_least : IsLeast kind least
  pub is_most : IsMost kind most
  pub low : a ≡ int_max lo least
  pub high : b ≡ int_min hi most

-- in order, they lie in the range of the type
in_order : (lo hi l m a b : ℤ) → a ≡ int_max lo l → b ≡ int_min hi m → a ≤ℤ b → (l ≤ℤ a) × (a ≤ℤ m) × (l ≤ℤ b) × (b ≤ℤ m)
in_order lo hi l m a b low high order = (grind (arith, ints), grind (arith, ints), grind (arith, ints), grind (arith, ints))

pub low_fits : (kind : Kind8) (lo hi a b : ℤ) → AreBrought kind lo hi a b → a ≤ℤ b → fits kind a ≡ true
low_fits kind lo hi a b is order =
    let places = in_order lo hi is.least is.most a b is.low is.high order in
    fits_between kind is.least is.most a is.is_least.fit is.is_most.fit places.0 places.1

pub high_fits : (kind : Kind8) (lo hi a b : ℤ) → AreBrought kind lo hi a b → a ≤ℤ b → fits kind b ≡ true
high_fits kind lo hi a b is order =
    let places = in_order lo hi is.least is.most a b is.low is.high order in
    fits_between kind is.least is.most b is.is_least.fit is.is_most.fit places.2 places.3

-- of the numbers of the type they select the same
same_selected : (lo hi l m n : ℤ) → l ≤ℤ n → n ≤ℤ m → is_within (int_max lo l) (int_min hi m) n ≡ is_within lo hi n
same_selected lo hi l m n from to = grind (arith, ints)

pub select_same : (kind : Kind8) (lo hi a b : ℤ) → AreBrought kind lo hi a b → SelectSame kind lo hi a b
select_same kind lo hi a b is n fit =
    rw (is.low, is.high) (same_selected lo hi is.least is.most n (is.is_least.below n fit) (is.is_most.above n fit))

-- out of order, none
none_selected : (lo hi l m n : ℤ) → int_min hi m <ℤ int_max lo l → l ≤ℤ n → n ≤ℤ m → is_within lo hi n ≡ false
none_selected lo hi l m n past from to = grind (arith, ints)

pub select_none : (kind : Kind8) (lo hi a b : ℤ) → AreBrought kind lo hi a b → b <ℤ a → SelectNone kind lo hi
select_none kind lo hi a b is past n fit =
    none_selected lo hi is.least is.most n (rw (is.low, is.high) at past) (is.is_least.below n fit) (is.is_most.above n fit)
