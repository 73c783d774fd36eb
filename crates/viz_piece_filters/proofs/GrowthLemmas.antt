-- One ghost level more.
use Rattle.std.proofs.Common.{◌≡◌, ℕ, ◌+◌, ◌≤◌, Bool, true, false, Option, Some, None, ◌⊎◌, inl, inr, ⊎_elim, cond, refl, sym, ap, subst, ◌∙◌, arith}
use Rattle.std.proofs.lemmas.Bool.{cases_lt}
use Rattle.std.proofs.lemmas.Option.{none-some, same_Some, cond_some}
use Rattle.viz_parts.specs.Seen.{Seen, Meet, IsUpTo, seen_as}
use Rattle.viz_piece_filters.specs.Growth.{grown_level, PartsGrow, PartsStart}
use Rattle.viz_piece_filters.proofs.PartLemmas.{from_map}

-- a level after growing is the old one or the new one
old_or_new : (b : Bool) (next : ℕ) (l : Option ℕ) (m : ℕ) → grown_level b next l ≡ Some m → (l ≡ Some m) ⊎ (m ≡ next)
old_or_new b next (Some l) m e = inl e
old_or_new b next None m e = inr (sym (cond_some b next m e).1)

-- one that is there stays, one that is touched comes in
still_there : (b : Bool) (next : ℕ) (l : Option ℕ) (most : ℕ) → IsUpTo most l → IsUpTo most (grown_level b next l)
still_there b next (Some l) most u = u
still_there b next None most u = absurd u

comes_in : (b : Bool) (ghosts : ℕ) (l : Option ℕ) → b ≡ true → ((m : ℕ) → l ≡ Some m → m ≤ ghosts) → IsUpTo (ghosts + 1) (grown_level b (ghosts + 1) l)
comes_in b ghosts (Some l) t h = omega (arith, h l refl)
comes_in b ghosts None t h = subst (λ c. IsUpTo (ghosts + 1) (cond c (Some (ghosts + 1)) None)) (sym t) (omega arith)

zero_kept : (b : Bool) (ghosts : ℕ) (l : Option ℕ) → l ≡ Some 0 → grown_level b (ghosts + 1) l ≡ Some 0
zero_kept b ghosts l e = ap (grown_level b (ghosts + 1)) e

pub parts_grow : PartsGrow
parts_grow touched ghosts seen h p = record {
  own = λ s c. let a = from_map one seen s c in let o = p.own a.0 a.1 in (
    (λ e. sym (ap (λ u. u.own) a.2) ∙ o.0 (⊎_elim (λ q. q) (λ q. absurd (omega (arith, q))) (old_or_new (touched a.0.cell) (ghosts + 1) a.0.level 0 (ap (λ u. u.level) a.2 ∙ e)))),
    (λ e. sym (ap (λ u. u.level) a.2) ∙ zero_kept (touched a.0.cell) ghosts a.0.level (o.1 (ap (λ u. u.own) a.2 ∙ e))),
  );
  most = λ s l c e. let a = from_map one seen s c in
      ⊎_elim (λ q. omega (arith, p.most a.0 l a.1 q)) (λ q. omega (arith, q)) (old_or_new (touched a.0.cell) (ghosts + 1) a.0.level l (ap (λ u. u.level) a.2 ∙ e));
  near = λ s t l c d e b m.
      let a = from_map one seen s c in
      let z = from_map one seen t d in
      let met = subst (λ u. Meet a.0.cell u.cell) (sym z.2) (subst (λ u. Meet u.cell t.cell) (sym a.2) m) in
      let was : a.0.level ≡ Some l = ⊎_elim (λ q. q) (λ q. absurd (omega (arith, q, b))) (old_or_new (touched a.0.cell) (ghosts + 1) a.0.level l (ap (λ u. u.level) a.2 ∙ e)) in
      subst (λ u. IsUpTo (l + 1) u.level) z.2
      (⊎_elim
      (λ below. still_there (touched z.0.cell) (ghosts + 1) z.0.level (l + 1) (p.near a.0 z.0 l a.1 z.1 was below met))
      (λ from. subst (λ k. IsUpTo (k + 1) (grown_level (touched z.0.cell) (ghosts + 1) z.0.level)) {x = ghosts} {y = l} (omega (arith, from, b))
      (comes_in (touched z.0.cell) ghosts z.0.level (h a.0 z.0 l a.1 z.1 was met) (λ k q. p.most z.0 k z.1 q)))
      (cases_lt l ghosts));
}
  where
    one : Seen → Seen
    one s = seen_as s.own (grown_level (touched s.cell) (ghosts + 1) s.level) s.cell

start_own : (o : Bool) → ◌≡◌ {A = Option ℕ} (cond o (Some 0) None) (Some 0) → o ≡ true
start_own true e = refl
start_own false e = absurd (none-some 0 e)

start_level : (o : Bool) (l : ℕ) → ◌≡◌ {A = Option ℕ} (cond o (Some 0) None) (Some l) → l ≤ 0
start_level true l e = subst (λ k. k ≤ 0) (same_Some 0 l e) (omega arith)
start_level false l e = absurd (none-some l e)

pub parts_start : PartsStart
parts_start seen = record {
  own = λ s c. let a = from_map one seen s c in (
    (λ e. sym (ap (λ u. u.own) a.2) ∙ start_own a.0.own (ap (λ u. u.level) a.2 ∙ e)),
    (λ e. sym (ap (λ u. u.level) a.2) ∙ ap (λ o. cond o (Some 0) None) (ap (λ u. u.own) a.2 ∙ e)),
  );
  most = λ s l c e. let a = from_map one seen s c in start_level a.0.own l (ap (λ u. u.level) a.2 ∙ e);
  near = λ s t l c d e b m. absurd (omega (arith, b));
}
  where
    one : Seen → Seen
    one s = seen_as s.own (cond s.own (Some 0) None) s.cell
