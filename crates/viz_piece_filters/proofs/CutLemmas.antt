-- A part without its last levels.
use Rattle.std.proofs.Common.{◌≡◌, ℕ, ◌+◌, ◌≤◌, Bool, true, false, Option, Some, None, ⊎_elim, cond, leb, List, [], ◌∷◌, ◌++◌, map, refl, sym, ap, subst, ◌∙◌, arith}
use Rattle.std.specs.Prelude.{nat_le}
use Rattle.std.specs.List.{Contains}
use Rattle.std.proofs.lemmas.Bool.{leb-true, le-leb}
use Rattle.std.proofs.lemmas.Option.{none-some, cond_some}
use Rattle.viz_sheet.proofs.MemberLemmas.{member_cases}
use Rattle.viz_mesh_meaning.specs.Cells.{Cell}
use Rattle.viz_parts.specs.Seen.{Seen, Meet, IsUpTo, AreSeen, whole_seen, owned_seen, cells_seen, levels_seen, cell_if, level_if, seen_as}
use Rattle.viz_piece_filters.specs.Filters.{near_items}
use Rattle.viz_piece_filters.proofs.PartLemmas.{from_flat_map, from_map}

-- without levels past the last one
abbrev pub cut_level : ℕ → Option ℕ → Option ℕ
cut_level ghosts None = None
cut_level ghosts (Some l) = cond (nat_le l ghosts) (Some l) None

abbrev pub cut : ℕ → List Seen → List Seen
cut ghosts seen = map (λ s. seen_as s.own (cut_level ghosts s.level) s.cell) seen

pub cut_some : (ghosts : ℕ) (l : Option ℕ) (m : ℕ) → cut_level ghosts l ≡ Some m → (l ≡ Some m) × (m ≤ ghosts)
cut_some ghosts None m e = absurd (none-some m e)
cut_some ghosts (Some l) m e = let c = cond_some (leb l ghosts) l m e in (ap Some c.1, subst (λ k. k ≤ ghosts) c.1 (leb-true l ghosts c.0))

cut_keeps : (ghosts : ℕ) (l : Option ℕ) (most : ℕ) → most ≤ ghosts → IsUpTo most l → IsUpTo most (cut_level ghosts l)
cut_keeps ghosts None most b u = u
cut_keeps ghosts (Some l) most b u = subst (λ t. IsUpTo most (cond t (Some l) None)) (sym (le-leb l ghosts (omega (arith, b, u)))) u

cut_level_is : (ghosts : ℕ) (l : Option ℕ) (m : ℕ) → l ≡ Some m → m ≤ ghosts → cut_level ghosts l ≡ Some m
cut_level_is ghosts l m e b = ap (cut_level ghosts) e ∙ ap (λ t. cond t (Some m) None) (le-leb m ghosts b)

pub fewer_ghosts : (ghosts more : ℕ) (seen : List Seen) → ghosts ≤ more → AreSeen more seen → AreSeen ghosts (cut ghosts seen)
fewer_ghosts ghosts more seen b p = record {
  own = λ s c. let a = from_map one seen s c in let o = p.own a.0 a.1 in (
    (λ e. sym (ap (λ u. u.own) a.2) ∙ o.0 ((cut_some ghosts a.0.level 0 (ap (λ u. u.level) a.2 ∙ e)).0)),
    (λ e. sym (ap (λ u. u.level) a.2) ∙ cut_level_is ghosts a.0.level 0 (o.1 (ap (λ u. u.own) a.2 ∙ e)) (omega arith)),
  );
  most = λ s l c e. let a = from_map one seen s c in (cut_some ghosts a.0.level l (ap (λ u. u.level) a.2 ∙ e)).1;
  near = λ s t l c d e k m.
      let a = from_map one seen s c in
      let z = from_map one seen t d in
      let was = cut_some ghosts a.0.level l (ap (λ u. u.level) a.2 ∙ e) in
      let met = subst (λ u. Meet u.cell t.cell) (sym a.2) m in
      let both = subst (λ u. Meet a.0.cell u.cell) (sym z.2) met in
      subst (λ u. IsUpTo (l + 1) u.level) z.2
      (cut_keeps ghosts z.0.level (l + 1) (omega arith) (p.near a.0 z.0 l a.1 z.1 was.0 (omega arith) both));
}
  where
    one : Seen → Seen
    one s = seen_as s.own (cut_level ghosts s.level) s.cell

-- ---- the lists

pub whole_cut : (ghosts : ℕ) (seen : List Seen) → whole_seen (cut ghosts seen) ≡ whole_seen seen
whole_cut ghosts [] = refl
whole_cut ghosts (s ∷ seen) = ap (λ r. s.cell ∷ r) (whole_cut ghosts seen)

pub owned_cut : (ghosts : ℕ) (seen : List Seen) → owned_seen (cut ghosts seen) ≡ owned_seen seen
owned_cut ghosts [] = refl
owned_cut ghosts (s ∷ seen) = ap (λ r. s.own ∷ r) (owned_cut ghosts seen)

one_cell : (ghosts : ℕ) (c : Cell) (o : Option ℕ) (ls : List ℕ) (cs ds : List Cell) → ds ≡ near_items ghosts ls cs → cell_if c (cut_level ghosts o) ++ ds ≡ near_items ghosts (level_if o ++ ls) (cell_if c o ++ cs)
one_cell ghosts c None ls cs ds e = e
one_cell ghosts c (Some l) ls cs ds e = by_test (nat_le l ghosts)
  where
    by_test : (b : Bool) → cell_if c (cond b (Some l) None) ++ ds ≡ cond b (c ∷ near_items ghosts ls cs) (near_items ghosts ls cs)
    by_test true = ap (λ r. c ∷ r) e
    by_test false = e

pub cells_cut : (ghosts : ℕ) (seen : List Seen) → cells_seen (cut ghosts seen) ≡ near_items ghosts (levels_seen seen) (cells_seen seen)
cells_cut ghosts [] = refl
cells_cut ghosts (s ∷ seen) = one_cell ghosts s.cell s.level (levels_seen seen) (cells_seen seen) (cells_seen (cut ghosts seen)) (cells_cut ghosts seen)

one_level : (ghosts : ℕ) (o : Option ℕ) (ls ms : List ℕ) → ms ≡ near_items ghosts ls ls → level_if (cut_level ghosts o) ++ ms ≡ near_items ghosts (level_if o ++ ls) (level_if o ++ ls)
one_level ghosts None ls ms e = e
one_level ghosts (Some l) ls ms e = by_test (nat_le l ghosts)
  where
    by_test : (b : Bool) → level_if (cond b (Some l) None) ++ ms ≡ cond b (l ∷ near_items ghosts ls ls) (near_items ghosts ls ls)
    by_test true = ap (λ r. l ∷ r) e
    by_test false = e

pub levels_cut : (ghosts : ℕ) (seen : List Seen) → levels_seen (cut ghosts seen) ≡ near_items ghosts (levels_seen seen) (levels_seen seen)
levels_cut ghosts [] = refl
levels_cut ghosts (s ∷ seen) = one_level ghosts s.level (levels_seen seen) (levels_seen (cut ghosts seen)) (levels_cut ghosts seen)

-- a cell that is there
pub seen_from : (seen : List Seen) (c : Cell) → Contains (cells_seen seen) c → (s : Seen) × (l : ℕ) × Contains seen s × (s.level ≡ Some l) × (s.cell ≡ c)
seen_from seen c i = let a = from_flat_map (λ s. cell_if s.cell s.level) seen c i in by_level a.0 a.1 a.0.level refl a.2
  where
    by_level : (s : Seen) → Contains seen s → (l : Option ℕ) → s.level ≡ l → Contains (cell_if s.cell l) c → (s : Seen) × (l : ℕ) × Contains seen s × (s.level ≡ Some l) × (s.cell ≡ c)
    by_level s d (Some l) e j = (s, l, d, e, ⊎_elim (λ q. q) (λ no. absurd (omega (arith, no.1))) (member_cases s.cell [] c j))
    by_level s d None e j = absurd (omega (arith, j.1))
