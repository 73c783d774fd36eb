-- The cells in one cell, by names: an end is an edge between two of its names, exactly one of them inside.
use Rattle.std.proofs.Common.{◌≡◌, ◌≢◌, ℕ, zero, suc, ◌+◌, ◌<◌, ◌≤◌, ◌⊎◌, inl, inr, ⊎_elim, Bool, false, List, [], ◌++◌, length, get_or, map, sym, ap, subst, ◌∙◌, arith}
use Rattle.std.specs.List.{All, Contains, flat_map}
use Rattle.std.proofs.lemmas.Bool.{cond_both}
use Rattle.std.proofs.lemmas.List.{get_or-map, length-map, length-append}
use Rattle.std.proofs.lemmas.List.Elements.{Contains-get_or}
use Rattle.viz_fraction.specs.CaseRows.{End}
use Rattle.viz_fraction.specs.Cases.{IsCase, cells_at, ends_of, is_inside}
use Rattle.viz_fraction.specs.CaseLaws.{IsCut}
use Rattle.viz_fraction.proofs.CaseEdges.{uses_cut_edges, whole_cells}
use Rattle.viz_sheet.specs.Sheet.{IsNamedCell}
use Rattle.viz_meaning.specs.Names.{edge_name, is_before, lesser_end, greater_end}
use Rattle.viz_meaning.specs.Section.{cells_in, end_name, mask_of}
use Rattle.viz_meaning.proofs.BitLemmas.{bits-read, mask_below}
use Rattle.viz_meaning.proofs.ListLemmas.{all-map, all-pieces, apart-at, apart-map, contains-map, flat-map, map-pieces, all-weaker_pieces}
use Rattle.viz_meaning.proofs.NameSets.{pair-ends}

-- ---- ends

pub case-of : (inside : List ℕ → Bool) (cell : List (List ℕ)) → IsNamedCell cell → IsCase (length cell) (mask_of inside cell)
case-of inside cell h = record {
  least = h.some;
  most = h.most;
  below = mask_below inside cell h.most;
}

mask-bit : (inside : List ℕ → Bool) (cell : List (List ℕ)) (i : ℕ) → i < length cell → is_inside (mask_of inside cell) i ≡ inside (get_or cell i [])
mask-bit inside cell i l =
    bits-read (map inside cell) i (subst (λ n. i < n) (sym (length-map cell inside)) l)
    ∙ get_or-map inside cell i [] false l

-- what is known of an end of a cell's section
pub record IsNamedEnd (inside : List ℕ → Bool) (cell : List (List ℕ)) (e : End) : Type 0 where
  pub order : e.low < e.high
  pub within : e.high < length cell
  pub apart : inside (get_or cell e.low []) ≢ inside (get_or cell e.high [])

cut-end : (inside : List ℕ → Bool) (cell : List (List ℕ)) (e : End) → IsCut (length cell) (mask_of inside cell) e → IsNamedEnd inside cell e
cut-end inside cell e cut =
    let low_within : e.low < length cell = omega (arith, cut.order, cut.within) in
    record {
      order = cut.order;
      within = cut.within;
      apart = λ same. cut.apart (mask-bit inside cell e.low low_within ∙ same ∙ sym (mask-bit inside cell e.high cut.within));
    }

end-cut : (inside : List ℕ → Bool) (cell : List (List ℕ)) (e : End) → IsNamedEnd inside cell e → IsCut (length cell) (mask_of inside cell) e
end-cut inside cell e h =
    let low_within : e.low < length cell = omega (arith, h.order, h.within) in
    record {
      order = h.order;
      within = h.within;
      apart = λ same. h.apart (sym (mask-bit inside cell e.low low_within) ∙ same ∙ mask-bit inside cell e.high h.within);
    }

named-ends : (inside : List ℕ → Bool) (cell : List (List ℕ)) → IsNamedCell cell → All (All (IsNamedEnd inside cell)) (cells_at (length cell) (mask_of inside cell))
named-ends inside cell h =
    let m = mask_of inside cell in
    let ends = ends_of (cells_at (length cell) m) in
    all-pieces (IsNamedEnd inside cell) (cells_at (length cell) m)
    (λ k d l. cut-end inside cell (get_or ends k d) ((uses_cut_edges (length cell) m (case-of inside cell h) (get_or ends k d)).0 (Contains-get_or ends k d l)))

-- what holds of the name of each end holds of the names of all cells
pub by-ends : (P : List ℕ → Type 0) (inside : List ℕ → Bool) (cell : List (List ℕ)) → IsNamedCell cell → ((e : End) → IsNamedEnd inside cell e → P (end_name cell e)) → All (All P) (cells_in inside cell)
by-ends P inside cell h each =
    let ends = cells_at (length cell) (mask_of inside cell) in
    map-pieces P (end_name cell) ends (all-weaker_pieces (IsNamedEnd inside cell) (λ e. P (end_name cell e)) ends each (named-ends inside cell h))

-- and the name of each end is one of them
pub end-used : (inside : List ℕ → Bool) (cell : List (List ℕ)) (e : End) → IsNamedCell cell → IsNamedEnd inside cell e → Contains (flat_map (λ piece. piece) (cells_in inside cell)) (end_name cell e)
end-used inside cell e h is =
    let m = mask_of inside cell in
    let ends = cells_at (length cell) m in
    subst (λ l. Contains l (end_name cell e)) (sym (flat-map (end_name cell) ends))
    (contains-map (end_name cell) (flat_map (λ piece. piece) ends) e ((uses_cut_edges (length cell) m (case-of inside cell h) e).1 (end-cut inside cell e is)))

-- ---- the ends of a name

-- the ends of an edge's name are both names, in one order or the other
pub record HasEitherEnds (name m n : List ℕ) : Type 0 where
  pub ends : ((lesser_end name ≡ m) × (greater_end name ≡ n)) ⊎ ((lesser_end name ≡ n) × (greater_end name ≡ m))

pub edge-ends : (m n : List ℕ) → length m ≡ length n → HasEitherEnds (edge_name m n) m n
edge-ends m n same =
    let up = pair-ends m n same in
    let down = pair-ends n m (sym same) in
    cond_both (is_before n m) (n ++ m) (m ++ n) (λ name. HasEitherEnds name m n)
    (λ _. record { ends = inr (down.lesser, down.greater) })
    (λ _. record { ends = inl (up.lesser, up.greater) })

-- an edge's name has as many leaves as both names together
pub edge-length : (m n : List ℕ) → length (edge_name m n) ≡ length m + length n
edge-length m n =
    cond_both (is_before n m) (n ++ m) (m ++ n) (λ name. length name ≡ length m + length n)
    (λ _. omega (arith, length-append n m))
    (λ _. length-append m n)

-- edges of one name have the same two ends
pub same-ends : (a b c d : List ℕ) → length a ≡ length b → length c ≡ length d → edge_name a b ≡ edge_name c d
    → ((a ≡ c) × (b ≡ d)) ⊎ ((a ≡ d) × (b ≡ c))
same-ends a b c d ab cd e =
    ⊎_elim
    (λ p. ⊎_elim
    (λ q. inl (sym p.0 ∙ ap lesser_end e ∙ q.0, sym p.1 ∙ ap greater_end e ∙ q.1))
    (λ q. inr (sym p.0 ∙ ap lesser_end e ∙ q.0, sym p.1 ∙ ap greater_end e ∙ q.1))
    (edge-ends c d cd).ends)
    (λ p. ⊎_elim
    (λ q. inr (sym p.1 ∙ ap greater_end e ∙ q.1, sym p.0 ∙ ap lesser_end e ∙ q.0))
    (λ q. inl (sym p.1 ∙ ap greater_end e ∙ q.1, sym p.0 ∙ ap lesser_end e ∙ q.0))
    (edge-ends c d cd).ends)
    (edge-ends a b ab).ends

-- ---- whole cells

pub same-end : (e f : End) → e.low ≡ f.low → e.high ≡ f.high → e ≡ f
same-end e f l h = λ i. record { low = l i; high = h i }

name-apart : (size : ℕ) (inside : List ℕ → Bool) (cell : List (List ℕ)) (e f : End) → All (λ n. length n ≡ size) cell → IsNamedCell cell → IsNamedEnd inside cell e → IsNamedEnd inside cell f → e ≢ f
    → end_name cell e ≢ end_name cell f
name-apart size inside cell e f sized h he hf differ same =
    let at = λ (i : ℕ) (j : ℕ) (il : i < length cell) (jl : j < length cell) (q : get_or cell i [] ≡ get_or cell j []). apart-at cell i j [] h.apart il jl q in
    let el : e.low < length cell = omega (arith, he.order, he.within) in
    let fl : f.low < length cell = omega (arith, hf.order, hf.within) in
    ⊎_elim
    (λ p. differ (same-end e f (at e.low f.low el fl p.0) (at e.high f.high he.within hf.within p.1)))
    (λ p.
    let x : e.low ≡ f.high = at e.low f.high el hf.within p.0 in
    let y : e.high ≡ f.low = at e.high f.low he.within fl p.1 in
    omega (arith, x, y, he.order, hf.order))
    (same-ends (get_or cell e.low []) (get_or cell e.high []) (get_or cell f.low []) (get_or cell f.high [])
    (sized e.low [] el ∙ sym (sized e.high [] he.within)) (sized f.low [] fl ∙ sym (sized f.high [] hf.within)) same)

-- a simplex of one corner has no section
pub two_corners : (corners mask : ℕ) (k : ℕ) → IsCase corners mask → k < length (cells_at corners mask) → 2 ≤ corners
unfolding cells_at
two_corners zero mask k c l = absurd (omega (arith, c.least))
two_corners (suc zero) zero k c l = absurd (omega arith)
two_corners (suc zero) (suc zero) k c l = absurd (omega arith)
two_corners (suc zero) (suc (suc m)) k c l = absurd (omega (arith, c.below))
two_corners (suc (suc n)) mask k c l = omega arith

-- a cell has one end less than there are corners, at least one
pub record IsWholePiece (corners : ℕ) (piece : List (List ℕ)) : Type 0 where
  pub two : 2 ≤ corners
  pub size : length piece + 1 ≡ corners

pub whole-pieces : (inside : List ℕ → Bool) (cell : List (List ℕ)) → IsNamedCell cell → All (IsWholePiece (length cell)) (cells_in inside cell)
whole-pieces inside cell h =
    let m = mask_of inside cell in
    let ends = cells_at (length cell) m in
    let known = case-of inside cell h in
    all-map (IsWholePiece (length cell)) (map (end_name cell)) ends (λ k d l.
    let two = two_corners (length cell) m k known l in
    record {
      two = two;
      size = omega (arith, length-map (get_or ends k d) (end_name cell), (whole_cells (length cell) m known k d l).size, two);
    })

-- and they are cells by names, where the corners' names have one length
pub named-pieces : (size : ℕ) (inside : List ℕ → Bool) (cell : List (List ℕ)) → All (λ n. length n ≡ size) cell → IsNamedCell cell → All IsNamedCell (cells_in inside cell)
named-pieces size inside cell sized h =
    let m = mask_of inside cell in
    let ends = cells_at (length cell) m in
    let known = case-of inside cell h in
    let whole = whole_cells (length cell) m known in
    all-map IsNamedCell (map (end_name cell)) ends (λ k d l.
    let piece = get_or ends k d in
    let count = length-map piece (end_name cell) in
    let two = two_corners (length cell) m k known l in
    let each = named-ends inside cell h k d l in
    record {
      some = omega (arith, count, (whole k d l).size, two);
      most = omega (arith, count, (whole k d l).size, h.most);
      apart = apart-map (end_name cell) piece (λ i j e r b. name-apart size inside cell (get_or piece i e) (get_or piece j e) sized h (each i e (omega (arith, r, b))) (each j e b) ((whole k d l).different i j e r b));
    })
