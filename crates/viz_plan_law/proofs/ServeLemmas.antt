-- Requests that serve others cover them.
use Rattle.std.proofs.Common.{
  ◌≡◌,
  ◌⊎◌,
  ℕ,
  ◌≤◌,
  ◌<◌,
  Bool,
  true,
  false,
  ◌&&◌,
  ◌||◌,
  nat_eq,
  nat_le,
  Option,
  None,
  Some,
  refl,
  sym,
  inl,
  inr,
  arith,
}
use Rattle.std.proofs.lemmas.Bool.Decides.{nat_tests}
use Rattle.viz_extent.specs.Extent.{Bounds}
use Rattle.viz_extent.specs.Parts.{IsPart}
use Rattle.viz_parts.specs.Pieces.{Covers}
use Rattle.viz_parts.specs.declared.request.Request.{Request}
use Rattle.viz_parts.specs.declared.request.Request.TheVariants.{Block, Piece}
use Rattle.viz_piece_restrict.specs.Restricting.{IsOneOfMany}
use Rattle.viz_requests.specs.Serving.{serves}
use Rattle.viz_requests.specs.Upstream.{Fits, all_of}
use Rattle.viz_requests.proofs.ServingLemmas.{block_parts}
use Rattle.viz_plan_law.specs.Cutting.{ServedAreCovered}

-- ---- blocks

pub and_left : (a b : Bool) → (a && b) ≡ true → a ≡ true
and_left true b h = refl
and_left false b h = h

pub and_right : (a b : Bool) → (a && b) ≡ true → b ≡ true
and_right true b h = h
and_right false b h = (let bad : ⊥ = cc in absurd bad)

-- a part of a part is a part
part_of_part : (a b c : Bounds) → IsPart a b → IsPart b c → IsPart a c
part_of_part a b c p q = record {
  x = record {
    first = omega (arith, p.x.first, q.x.first);
    last = omega (arith, p.x.last, q.x.last);
  };
  y = record {
    first = omega (arith, p.y.first, q.y.first);
    last = omega (arith, p.y.last, q.y.last);
  };
  z = record {
    first = omega (arith, p.z.first, q.z.first);
    last = omega (arith, p.z.last, q.z.last);
  };
}

-- ---- pieces

-- one piece serves another: the same, with as many levels or more, or the only one
pub record PieceServes (p n ghosts q m fewer : ℕ) : Type 0 where
  pub same : p ≡ q
  pub number : n ≡ m
  pub levels : (fewer ≤ ghosts) ⊎ (n ≡ 1)

either : (a b : Bool) → (a || b) ≡ true → (a ≡ true) ⊎ (b ≡ true)
either true b h = inl refl
either false b h = inr h

levels_serve : (n ghosts fewer : ℕ) → (nat_le fewer ghosts ≡ true) ⊎ (nat_eq n 1 ≡ true)
    → (fewer ≤ ghosts) ⊎ (n ≡ 1)
levels_serve n ghosts fewer (inl l) = inl (grind (arith, nat_tests))
levels_serve n ghosts fewer (inr e) = inr (grind (arith, nat_tests))

pub piece_serves : (p n ghosts q m fewer : ℕ)
    → serves (Piece p n ghosts) (Piece q m fewer) ≡ true → PieceServes p n ghosts q m fewer
piece_serves p n ghosts q m fewer h =
    let both = and_left (nat_eq p q && nat_eq n m) (nat_le fewer ghosts || nat_eq n 1) h in
    let first = and_left (nat_eq p q) (nat_eq n m) both in
    let second = and_right (nat_eq p q) (nat_eq n m) both in
    let third = and_right (nat_eq p q && nat_eq n m) (nat_le fewer ghosts || nat_eq n 1) h in
    record {
      same = grind (arith, nat_tests, first);
      number = grind (arith, nat_tests, second);
      levels = levels_serve n ghosts fewer (either (nat_le fewer ghosts) (nat_eq n 1) third);
    }

piece_covers : (p n ghosts q m fewer : ℕ) → q < m → PieceServes p n ghosts q m fewer
    → (fewer ≤ ghosts) ⊎ (n ≡ 1) → Covers (Piece p n ghosts) (Piece q m fewer)
piece_covers p n ghosts q m fewer one s (inl l) = inr (sym s.same, sym s.number, l)
piece_covers p n ghosts q m fewer one s (inr e) =
    inl (omega (arith, one, e, s.same, s.number), e)

-- ---- requests

pub served_covers : ServedAreCovered
served_covers (Block a) (Block b) one h = block_parts a b h
served_covers (Piece p n ghosts) (Piece q m fewer) one h =
    let s = piece_serves p n ghosts q m fewer h in
    piece_covers p n ghosts q m fewer one s s.levels
served_covers (Block a) (Piece q m fewer) one h = let bad : ⊥ = cc in absurd bad
served_covers (Piece p n ghosts) (Block b) one h = let bad : ⊥ = cc in absurd bad

-- what fits a dataset is one of so many
pub fits_one : (own : Option Bounds) (wanted : Request) → Fits own wanted → IsOneOfMany wanted
fits_one own (Block b) f = tt
fits_one None (Piece q m fewer) f = f
fits_one (Some whole) (Piece q m fewer) f = absurd f

-- what serves the request for all of a dataset covers each that fits it
pub all_covers : (own : Option Bounds) (kept wanted : Request) → Fits own wanted
    → serves kept (all_of own) ≡ true → Covers kept wanted
all_covers (Some whole) (Block a) (Block b) f h =
    part_of_part a whole b (block_parts a whole h) f
all_covers (Some whole) (Block a) (Piece q m fewer) f h = absurd f
all_covers (Some whole) (Piece p n ghosts) wanted f h = let bad : ⊥ = cc in absurd bad
all_covers None (Piece p n ghosts) (Piece q m fewer) f h =
    let s = piece_serves p n ghosts 0 1 0 h in
    inl (s.same, s.number)
all_covers None (Piece p n ghosts) (Block b) f h = absurd f
all_covers None (Block a) wanted f h = let bad : ⊥ = cc in absurd bad
