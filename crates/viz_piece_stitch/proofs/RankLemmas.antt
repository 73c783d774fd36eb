-- Cells of a part by the ranks of their names among all names.
use Rattle.std.proofs.Common.{◌≡◌, ◌≢◌, ℕ, ◌<◌, List, [], ◌∷◌, length, get_or, map, refl, sym, ap, ap₂, subst, ◌∙◌}
use Rattle.std.specs.List.{All, Contains}
use Rattle.std.proofs.lemmas.List.{get_or-map, get_or_default, length-map}
use Rattle.std.proofs.lemmas.List.Elements.{All-head, All-tail, All-nil, All-cons, Contains-get_or}
use Rattle.viz_sheet.specs.Sheet.{SheetData, IsSheet, IsNamedCell, AreAscending, AreApart}
use Rattle.viz_sheet.specs.Ranked.{IsCell, by_names, names_at, rank_of, ranks_of}
use Rattle.viz_sheet.specs.Steps.Lookup.{looked_up}
use Rattle.viz_sheet.proofs.RankLemmas.{rank-at}
use Rattle.viz_piece_stitch.proofs.ListLemmas.{into_flat_map}

-- a name that is there stands at its rank
pub name-at_rank : (names : List (List ℕ)) (n : List ℕ) → AreAscending names → Contains names n → get_or names (rank_of names n) [] ≡ n
name-at_rank names n s c =
    let at : get_or names c.0 [] ≡ n = get_or_default names c.0 [] n c.1 ∙ c.2 in
    ap (λ r. get_or names r []) (ap (rank_of names) (sym at) ∙ rank-at names c.0 s c.1) ∙ at

-- and its rank is below their number
pub rank-below : (names : List (List ℕ)) (n : List ℕ) → AreAscending names → Contains names n → rank_of names n < length names
rank-below names n s c =
    let at : get_or names c.0 [] ≡ n = get_or_default names c.0 [] n c.1 ∙ c.2 in
    subst (λ r. r < length names) (sym (ap (rank_of names) (sym at) ∙ rank-at names c.0 s c.1)) c.1

-- the ranks of names give the same names
names-back : (names cell : List (List ℕ)) → AreAscending names → All (Contains names) cell → names_at names (ranks_of names cell) ≡ cell
names-back names [] s h = refl
names-back names (n ∷ ns) s h =
    ap₂ (λ x y. x ∷ y) (name-at_rank names n s (All-head (Contains names) n ns h)) (names-back names ns s (All-tail (Contains names) n ns h))

pub cells-back : (names : List (List ℕ)) (cells : List (List (List ℕ))) → AreAscending names → All (All (Contains names)) cells → by_names names (map (ranks_of names) cells) ≡ cells
cells-back names [] s h = refl
cells-back names (c ∷ cs) s h =
    ap₂ (λ x y. x ∷ y) (names-back names c s (All-head (All (Contains names)) c cs h)) (cells-back names cs s (All-tail (All (Contains names)) c cs h))

-- the ranks of different names differ
apart-ranked : (names cell : List (List ℕ)) → AreAscending names → All (Contains names) cell → AreApart cell → AreApart (ranks_of names cell)
apart-ranked names [] s h a = tt
apart-ranked names (n ∷ ns) s h a =
    (others ns (All-tail (Contains names) n ns h) a.0, apart-ranked names ns s (All-tail (Contains names) n ns h) a.1)
  where
    others : (ms : List (List ℕ)) → All (Contains names) ms → All (λ m. n ≢ m) ms → All (λ r. rank_of names n ≢ r) (ranks_of names ms)
    others [] c d = All-nil (λ r. rank_of names n ≢ r)
    others (m ∷ ms) c d =
        All-cons (λ r. rank_of names n ≢ r) (rank_of names m) (ranks_of names ms)
        (λ e. All-head (λ k. n ≢ k) m ms d
        (sym (name-at_rank names n s (All-head (Contains names) n ns h)) ∙ ap (λ r. get_or names r []) e ∙ name-at_rank names m s (All-head (Contains names) m ms c)))
        (others ms (All-tail (Contains names) m ms c) (All-tail (λ k. n ≢ k) m ms d))

-- their ranks are below their number
pub ranks-below : (names cell : List (List ℕ)) → AreAscending names → All (Contains names) cell → All (λ r. r < length names) (ranks_of names cell)
ranks-below names [] s h = All-nil (λ r. r < length names)
ranks-below names (n ∷ ns) s h =
    All-cons (λ r. r < length names) (rank_of names n) (ranks_of names ns) (rank-below names n s (All-head (Contains names) n ns h)) (ranks-below names ns s (All-tail (Contains names) n ns h))

-- a cell by names is one by ranks
pub named-ranked : (names cell : List (List ℕ)) → AreAscending names → All (Contains names) cell → IsNamedCell cell → IsCell (length names) (ranks_of names cell)
named-ranked names cell s h c = record {
  some = simp length-map c.some;
  most = simp length-map c.most;
  below = ranks-below names cell s h;
  apart = apart-ranked names cell s h c.apart;
}

pub cells-ranked : (names : List (List ℕ)) (cells : List (List (List ℕ))) → AreAscending names → All (All (Contains names)) cells → All IsNamedCell cells → All (IsCell (length names)) (map (ranks_of names) cells)
cells-ranked names [] s h c = All-nil (IsCell (length names))
cells-ranked names (x ∷ xs) s h c =
    All-cons (IsCell (length names)) (ranks_of names x) (map (ranks_of names) xs)
    (named-ranked names x s (All-head (All (Contains names)) x xs h) (All-head IsNamedCell x xs c))
    (cells-ranked names xs s (All-tail (All (Contains names)) x xs h) (All-tail IsNamedCell x xs c))

-- the names of a sheet's cells are the sheet's
pub cells-held : (s : SheetData) → IsSheet s → All (All (Contains s.names)) s.cells
cells-held s h = λ k d l. λ j e m.
    (h.used (get_or (get_or s.cells k d) j e)).1
    (into_flat_map (λ cell. cell) s.cells (get_or s.cells k d) (get_or (get_or s.cells k d) j e) (Contains-get_or s.cells k d l) (Contains-get_or (get_or s.cells k d) j e m))

-- ranks among a part's names, with the ranks of these among all names in their place
pub looked-ranks : (names part : List (List ℕ)) (ranks : List ℕ) → All (λ r. r < length part) ranks → looked_up (map (rank_of names) part) ranks ≡ ranks_of names (names_at part ranks)
unfolding looked_up
looked-ranks names part [] h = refl
looked-ranks names part (r ∷ rs) h =
    ap₂ (λ x y. x ∷ y) (get_or-map (rank_of names) part r [] 0 (All-head (λ q. q < length part) r rs h)) (looked-ranks names part rs (All-tail (λ q. q < length part) r rs h))

pub looked-cells : (names part : List (List ℕ)) (cells : List (List ℕ)) → All (IsCell (length part)) cells → map (looked_up (map (rank_of names) part)) cells ≡ map (ranks_of names) (by_names part cells)
looked-cells names part [] h = refl
looked-cells names part (c ∷ cs) h =
    ap₂ (λ x y. x ∷ y) (looked-ranks names part c (All-head (IsCell (length part)) c cs h).below) (looked-cells names part cs (All-tail (IsCell (length part)) c cs h))
