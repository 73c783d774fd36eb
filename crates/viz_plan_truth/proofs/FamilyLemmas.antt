-- A fact for each of some requests, of one that stems from it.
use Rattle.std.proofs.Common.{◌≡◌, ◌⊎◌, ℕ, zero, suc, ◌+◌, ◌<◌, List, [], ◌∷◌, map, sym, subst, inl, inr, ⊎_elim, arith}
use Rattle.std.specs.List.{range_with_len}
use Rattle.viz_extent.specs.Extent.{Bounds}
use Rattle.viz_parts.specs.declared.request.Request.{Request}
use Rattle.viz_parts.specs.declared.request.Request.TheVariants.{Block, Piece}
use Rattle.viz_plan_truth.specs.Truth.{AreForAll, all_pieces}
use Rattle.viz_plan_truth.proofs.StemLemmas.{IsForOne, IsStem}

-- of each request one that stems from it has the property
abbrev pub Shown : (Request → Type 0) → List Request → Type 0
Shown Q [] = Unit {0}
Shown Q (r ∷ rs) = ((w : Request) × IsStem r w × Q w) × Shown Q rs

pub shown_map : (P Q : Request → Type 0) → ((r w : Request) → IsStem r w → P w → (v : Request) ×
    IsStem r v × Q v) → (rs : List Request) → Shown P rs → Shown Q rs
shown_map P Q h [] s = tt
shown_map P Q h (r ∷ rs) s = (h r s.0.0 s.0.1 s.0.2, shown_map P Q h rs s.1)

-- some one has a property, or all have another
pub either_shown : (P Q : Request → Type 0) (B : Type 0) → ((w : Request) → P w → B ⊎ Q w)
    → (rs : List Request) → Shown P rs → B ⊎ Shown Q rs
either_shown P Q B h [] s = inr tt
either_shown P Q B h (r ∷ rs) s =
    ⊎_elim inl
    (λ q. ⊎_elim inl (λ all. inr ((s.0.0, s.0.1, q), all)) (either_shown P Q B h rs s.1))
    (h s.0.0 s.0.2)

-- ---- all pieces

-- each from a number on has the first property, or the second holds
all_or : (A : ℕ → Type 0) (B : Type 0) (first count : ℕ)
    → ((p : ℕ) → p < count → A (first + p) ⊎ B) → ((p : ℕ) → p < count → A (first + p)) ⊎ B
all_or A B first zero h = inl (λ p l. absurd (omega (arith, l)))
all_or A B first (suc count) h =
    ⊎_elim
    (λ here. ⊎_elim
    (λ rest. inl (λ p l. at here rest p l))
    inr
    (all_or A B (first + 1) count
    (λ p l. subst (λ q. A q ⊎ B) (later p) (h (suc p) (omega (arith, l))))))
    inr
    (h 0 (omega arith))
  where
    later : (p : ℕ) → first + suc p ≡ first + 1 + p
    later p = omega arith

    at : A (first + 0) → ((p : ℕ) → p < count → A (first + 1 + p)) → (p : ℕ) → p < suc count
        → A (first + p)
    at here rest zero l = here
    at here rest (suc p) l = subst A (sym (later p)) (rest p (omega (arith, l)))

module _ (P : ℕ → ℕ → Type 0) (Q : Request → Type 0)
    (of : (p n ghosts : ℕ) → Q (Piece p n ghosts) → P p n)
    (no : (w : Request) → IsForOne w → Q w → P 0 1) where
  piece_of : (p n : ℕ) → (w : Request) × IsStem (Piece p n 0) w × Q w → P p n ⊎ P 0 1
  piece_of p n (Piece q m ghosts, stem, h) =
      ⊎_elim
      (λ e. inl (subst (λ a. P a n) e.0 (subst (P q) e.1 (of q m ghosts h))))
      (λ e. inr (subst (λ a. P a 1) e.0 (subst (P q) e.1 (of q m ghosts h))))
      stem
  piece_of p n (Block block, stem, h) = inr (no (Block block) tt h)

  shown_at : (n first count p : ℕ) → p < count
      → Shown Q (map (λ p. Piece p n 0) (range_with_len first count))
      → P (first + p) n ⊎ P 0 1
  shown_at n first zero p l s = absurd (omega (arith, l))
  shown_at n first (suc count) zero l s =
      subst (λ a. P a n ⊎ P 0 1) (omega arith) (piece_of first n s.0)
  shown_at n first (suc count) (suc p) l s =
      subst (λ a. P a n ⊎ P 0 1) (later p)
      (shown_at n (first + 1) count p (omega (arith, l)) s.1)
    where
      later : (p : ℕ) → first + 1 + p ≡ first + suc p
      later p = omega arith

  abbrev pub AllPieces : Type 0
  AllPieces = (m : ℕ) × (0 < m) × ((p : ℕ) → p < m → P p m)

  only : P 0 1 → AllPieces
  only h = (1, omega arith, λ p l. subst (λ a. P a 1) (first p l) h)
    where
      first : (p : ℕ) → p < 1 → 0 ≡ p
      first p l = omega (arith, l)

  in_pieces : (n : ℕ) → 0 < n → Shown Q (all_pieces n) → AllPieces
  in_pieces n some s =
      ⊎_elim
      (λ all. (n, some, λ p l. subst (λ a. P a n) (plain p) (all p l)))
      only
      (all_or (λ p. P p n) (P 0 1) 0 n (λ p l. shown_at n 0 n p l s))
    where
      plain : (p : ℕ) → 0 + p ≡ p
      plain p = omega arith

  -- where each request for all has a piece, all pieces of some number have the property
  pub shown_pieces : (rs : List Request) → AreForAll rs → Shown Q rs → AllPieces
  shown_pieces rs a s = ⊎_elim pieces block a
    where
      pieces : (n : ℕ) × (0 < n) × (rs ≡ all_pieces n) → AllPieces
      pieces (n, some, is) = in_pieces n some (subst (Shown Q) is s)

      block : (b : Bounds) × (more : List Request) × (rs ≡ Block b ∷ more) → AllPieces
      block (b, more, is) = first (subst (Shown Q) is s)
        where
          first : Shown Q (Block b ∷ more) → AllPieces
          first h = only (no h.0.0 h.0.1 h.0.2)
