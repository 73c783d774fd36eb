-- What cells by ranks tell of the same cells by names.
use Rattle.std.proofs.Common.{◌≡◌, ◌≢◌, ℕ, ◌<◌, ⊎_elim, List, [], ◌∷◌, length, get_or, sym, ap, subst, ◌∙◌, arith}
use Rattle.std.specs.List.{All, Contains, flat_map}
use Rattle.std.proofs.lemmas.Cmp.{nat_list_cmp_total}
use Rattle.std.proofs.lemmas.List.{get_or-map, length-map, get_or_default}
use Rattle.std.proofs.lemmas.List.Elements.{All-head, All-tail, All-nil, All-cons, Contains-append_left, Contains-append_right, Contains-append_cases, Contains-get_or}
use Rattle.viz_fraction.specs.Points.{Point}
use Rattle.viz_sheet.specs.Sheet.{SheetData, IsSheet, IsNamedCell, AreApart, AreAscending}
use Rattle.viz_sheet.specs.Ranked.{AreRanks, AreUsed, IsCell, by_names, names_at, rank_of}
use Rattle.viz_sheet.proofs.MemberLemmas.{member_cases, same_from_members}
use Rattle.viz_sheet.proofs.RankLemmas.{rank-at}

-- the name at a rank of a cell
at_rank : (names : List (List ℕ)) (cell : List ℕ) (r : ℕ) → Contains cell r → Contains (names_at names cell) (get_or names r [])
at_rank names cell r c =
    let e : get_or (names_at names cell) c.0 (get_or names r []) ≡ get_or names (get_or cell c.0 r) [] = get_or-map (λ q. get_or names q []) cell c.0 r (get_or names r []) c.1 in
    (c.0, simp length-map c.1, e ∙ ap (λ q. get_or names q []) c.2)

at_ranks : (names : List (List ℕ)) (cells : List (List ℕ)) (r : ℕ) → Contains (flat_map (λ cell. cell) cells) r → Contains (flat_map (λ cell. cell) (by_names names cells)) (get_or names r [])
at_ranks names [] r c = absurd (omega (arith, c.1))
at_ranks names (c ∷ cs) r i =
    ⊎_elim
    (λ h. Contains-append_left (names_at names c) (flat_map (λ cell. cell) (by_names names cs)) (get_or names r []) (at_rank names c r h))
    (λ h. Contains-append_right (names_at names c) (flat_map (λ cell. cell) (by_names names cs)) (get_or names r []) (at_ranks names cs r h))
    (Contains-append_cases c (flat_map (λ cell. cell) cs) r i)

-- a name of a cell is one of the names
of_cell : (names : List (List ℕ)) (cell : List ℕ) (n : List ℕ) → All (λ r. r < length names) cell → Contains (names_at names cell) n → Contains names n
of_cell names [] n h c = absurd (omega (arith, c.1))
of_cell names (r ∷ rs) n h c =
    ⊎_elim
    (λ e. subst (Contains names) e (Contains-get_or names r [] (All-head (λ q. q < length names) r rs h)))
    (λ d. of_cell names rs n (All-tail (λ q. q < length names) r rs h) d)
    (member_cases (get_or names r []) (names_at names rs) n c)

of_cells : (names : List (List ℕ)) (cells : List (List ℕ)) (n : List ℕ) → All (IsCell (length names)) cells → Contains (flat_map (λ cell. cell) (by_names names cells)) n → Contains names n
of_cells names [] n h c = absurd (omega (arith, c.1))
of_cells names (c ∷ cs) n h i =
    ⊎_elim
    (λ d. of_cell names c n (All-head (IsCell (length names)) c cs h).below d)
    (λ d. of_cells names cs n (All-tail (IsCell (length names)) c cs h) d)
    (Contains-append_cases (names_at names c) (flat_map (λ cell. cell) (by_names names cs)) n i)

-- each name is that of a cell
used_name : (names cells : List (List ℕ)) (n : List ℕ) → AreUsed (length names) cells → Contains names n → Contains (flat_map (λ cell. cell) (by_names names cells)) n
used_name names cells n used c =
    subst (Contains (flat_map (λ cell. cell) (by_names names cells)))
    (get_or_default names c.0 [] n c.1 ∙ c.2)
    (at_ranks names cells c.0 (used c.0 c.1))

-- different ranks have different names
apart-named : (names : List (List ℕ)) (cell : List ℕ) → AreAscending names → All (λ r. r < length names) cell → AreApart cell → AreApart (names_at names cell)
apart-named names [] s b a = tt
apart-named names (r ∷ rs) s b a =
    (others rs (All-tail (λ q. q < length names) r rs b) a.0, apart-named names rs s (All-tail (λ q. q < length names) r rs b) a.1)
  where
    others : (qs : List ℕ) → All (λ q. q < length names) qs → All (λ q. r ≢ q) qs → All (λ n. get_or names r [] ≢ n) (names_at names qs)
    others [] l d = All-nil (λ n. get_or names r [] ≢ n)
    others (q ∷ qs) l d =
        All-cons (λ n. get_or names r [] ≢ n) (get_or names q []) (names_at names qs)
        (λ e. All-head (λ x. r ≢ x) q qs d
        (sym (rank-at names r s (All-head (λ x. x < length names) r rs b)) ∙ ap (rank_of names) e ∙ rank-at names q s (All-head (λ x. x < length names) q qs l)))
        (others qs (All-tail (λ x. x < length names) q qs l) (All-tail (λ x. r ≢ x) q qs d))

cell-named : (names : List (List ℕ)) (cell : List ℕ) → AreAscending names → IsCell (length names) cell → IsNamedCell (names_at names cell)
cell-named names cell s h = record {
  some = simp length-map h.some;
  most = simp length-map h.most;
  apart = apart-named names cell s h.below h.apart;
}

cells-named : (names : List (List ℕ)) (cells : List (List ℕ)) → AreAscending names → All (IsCell (length names)) cells → All IsNamedCell (by_names names cells)
cells-named names [] s h = All-nil IsNamedCell
cells-named names (c ∷ cs) s h =
    All-cons IsNamedCell (names_at names c) (by_names names cs)
    (cell-named names c s (All-head (IsCell (length names)) c cs h))
    (cells-named names cs s (All-tail (IsCell (length names)) c cs h))

-- cells by ranks of names that ascend, each used, are a sheet
pub ranked_is-sheet : (names : List (List ℕ)) (points : List Point) (cells : List (List ℕ)) → AreAscending names → length points ≡ length names → All (IsCell (length names)) cells → AreUsed (length names) cells
    → IsSheet (record { names = names; points = points; cells = by_names names cells })
ranked_is-sheet names points cells ascending matched each used = record {
  ascending = ascending;
  matched = matched;
  each = cells-named names cells ascending each;
  used = λ n. (used_name names cells n used, of_cells names cells n each);
}

-- the rule by ranks is that of a sheet
pub is_sheet : (names : List (List ℕ)) (points : List Point) (cells : List (List ℕ)) → AreRanks names points cells → IsSheet (record { names = names; points = points; cells = by_names names cells })
is_sheet names points cells h = ranked_is-sheet names points cells h.rule.ascending h.rule.matched h.rule.each h.used

-- sheets with equal cells have equal names
pub same_names : (s t : SheetData) → IsSheet s → IsSheet t → s.cells ≡ t.cells → s.names ≡ t.names
same_names s t h k e =
    same_from_members nat_list_cmp_total s.names t.names h.ascending k.ascending
    (λ n c. (k.used n).1 (subst (λ l. Contains (flat_map (λ cell. cell) l) n) e ((h.used n).0 c)))
    (λ n c. (h.used n).1 (subst (λ l. Contains (flat_map (λ cell. cell) l) n) (sym e) ((k.used n).0 c)))
