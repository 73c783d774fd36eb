-- Serving is an order, and what serves covers.
use Rattle.std.proofs.Common.{◌≡◌, ℕ, ◌<◌, ◌≤◌, Bool, true, false, ◌&&◌, ◌||◌, nat_eq, nat_le, ◌⊎◌, inl, inr, Option, None, Some, refl, sym, ◌∙◌, true≢false, arith}
use Rattle.std.proofs.lemmas.Bool.{eqb-true, eq-eqb}
use Rattle.viz_extent.specs.Extent.{Bounds}
use Rattle.viz_extent.specs.Parts.{IsPart}
use Rattle.viz_parts.specs.Pieces.{Covers}
use Rattle.viz_parts.specs.declared.request.Request.{Request}
use Rattle.viz_parts.specs.declared.request.Request.TheVariants.{Block, Piece}
use Rattle.viz_requests.specs.Serving.{has_block, serves}
use Rattle.viz_requests.specs.Upstream.{Fits}

and-elim : (a b : Bool) → (a && b) ≡ true → (a ≡ true) × (b ≡ true)
and-elim true b e = (refl, e)
and-elim false b e = absurd (true≢false (sym e))

and-intro : (a b : Bool) → a ≡ true → b ≡ true → (a && b) ≡ true
and-intro true b e f = f
and-intro false b e f = absurd (true≢false (sym e))

le-true : (m n : ℕ) → m ≤ n → nat_le m n ≡ true
le-true m n l = grind arith

true-le : (m n : ℕ) → nat_le m n ≡ true → m ≤ n
true-le m n e = grind arith

-- the six bounds
pub block_parts : (a b : Bounds) → has_block a b ≡ true → IsPart a b
block_parts a b e =
    let p = and-elim (nat_le a.x0 b.x0 && nat_le b.x1 a.x1) _ e in
    let x = and-elim (nat_le a.x0 b.x0) _ p.0 in
    let q = and-elim (nat_le a.y0 b.y0 && nat_le b.y1 a.y1) _ p.1 in
    let y = and-elim (nat_le a.y0 b.y0) _ q.0 in
    let z = and-elim (nat_le a.z0 b.z0) _ q.1 in
    record {
      x = record { first = true-le a.x0 b.x0 x.0; last = true-le b.x1 a.x1 x.1 };
      y = record { first = true-le a.y0 b.y0 y.0; last = true-le b.y1 a.y1 y.1 };
      z = record { first = true-le a.z0 b.z0 z.0; last = true-le b.z1 a.z1 z.1 };
    }

pub part_block : (a b : Bounds) → IsPart a b → has_block a b ≡ true
part_block a b p =
    and-intro _ _ (and-intro _ _ (le-true _ _ p.x.first) (le-true _ _ p.x.last))
    (and-intro _ _ (and-intro _ _ (le-true _ _ p.y.first) (le-true _ _ p.y.last)) (and-intro _ _ (le-true _ _ p.z.first) (le-true _ _ p.z.last)))

part_on : (a b c : Bounds) → IsPart a b → IsPart b c → IsPart a c
part_on a b c p q =
    record {
      x = record { first = omega (arith, p.x.first, q.x.first); last = omega (arith, p.x.last, q.x.last) };
      y = record { first = omega (arith, p.y.first, q.y.first); last = omega (arith, p.y.last, q.y.last) };
      z = record { first = omega (arith, p.z.first, q.z.first); last = omega (arith, p.z.last, q.z.last) };
    }

part_itself : (a : Bounds) → IsPart a a
part_itself a =
    record {
      x = record { first = omega arith; last = omega arith };
      y = record { first = omega arith; last = omega arith };
      z = record { first = omega arith; last = omega arith };
    }

-- pieces by numbers
same_piece : (p n g q m h : ℕ) → serves (Piece p n g) (Piece q m h) ≡ true → (p ≡ q) × (n ≡ m) × ((h ≤ g) ⊎ (n ≡ 1))
same_piece p n g q m h e =
    let s = and-elim (nat_eq p q && nat_eq n m) _ e in
    let t = and-elim (nat_eq p q) _ s.0 in
    (eqb-true p q t.0, eqb-true n m t.1, by (nat_le h g) refl s.1)
  where
    by : (b : Bool) → nat_le h g ≡ b → (b || nat_eq n 1) ≡ true → (h ≤ g) ⊎ (n ≡ 1)
    by true k f = inl (true-le h g k)
    by false k f = inr (eqb-true n 1 f)

or-left : (a b : Bool) → a ≡ true → (a || b) ≡ true
or-left true b e = refl
or-left false b e = absurd (true≢false (sym e))

or-right : (a b : Bool) → b ≡ true → (a || b) ≡ true
or-right true b e = refl
or-right false b e = e

piece_serves : (p n g q m h : ℕ) → p ≡ q → n ≡ m → (h ≤ g) ⊎ (n ≡ 1) → serves (Piece p n g) (Piece q m h) ≡ true
piece_serves p n g q m h a b c =
    and-intro _ _ (and-intro _ _ (eq-eqb p q a) (eq-eqb n m b))
    (elim c [ inl l ↦ or-left _ _ (le-true h g l) | inr o ↦ or-right (nat_le h g) _ (eq-eqb n 1 o) ])

pub itself : (r : Request) → serves r r ≡ true
itself (Block a) = part_block a a (part_itself a)
itself (Piece p n g) = piece_serves p n g p n g refl refl (inl (omega arith))

pub on : (a b c : Request) → serves a b ≡ true → serves b c ≡ true → serves a c ≡ true
on (Block a) (Block b) (Block c) e f = part_block a c (part_on a b c (block_parts a b e) (block_parts b c f))
on (Block a) (Block b) (Piece p n g) e f = absurd (true≢false (sym f))
on (Block a) (Piece p n g) c e f = absurd (true≢false (sym e))
on (Piece p n g) (Block b) c e f = absurd (true≢false (sym e))
on (Piece p n g) (Piece q m h) (Block c) e f = absurd (true≢false (sym f))
on (Piece p n g) (Piece q m h) (Piece s o k) e f =
    let x = same_piece p n g q m h e in
    let y = same_piece q m h s o k f in
    piece_serves p n g s o k (x.0 ∙ y.0) (x.1 ∙ y.1)
    (elim x.2 [
      | inr one ↦ inr one
      | inl l ↦ elim y.2 [ inl l' ↦ inl (omega (arith, l, l')) | inr one ↦ inr (x.1 ∙ one) ]
    ])

-- what serves covers, where it fits a dataset
pub serving_covers : (whole : Option Bounds) (a b : Request) → Fits whole a → serves a b ≡ true → Covers a b
serving_covers whole (Block a) (Block b) f e = block_parts a b e
serving_covers whole (Block a) (Piece p n g) f e = absurd (true≢false (sym e))
serving_covers whole (Piece p n g) (Block b) f e = absurd (true≢false (sym e))
serving_covers (Some whole) (Piece p n g) (Piece q m h) f e = absurd f
serving_covers None (Piece p n g) (Piece q m h) f e =
    let x = same_piece p n g q m h e in
    elim x.2 [
      | inl l ↦ inr (sym x.0, sym x.1, l)
      | inr one ↦ inl (omega (arith, f, one), one)
    ]
