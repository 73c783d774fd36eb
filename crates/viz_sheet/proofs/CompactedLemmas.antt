-- With the marked names alone, cells are a sheet with the same cells by names.
use Rattle.std.proofs.Common.{◌≡◌, ◌≢◌, ℕ, ◌<◌, Bool, true, false, List, [], ◌∷◌, length, get_or, map, refl, ap, ap₂, subst, ◌∙◌, ⊎_elim, arith}
use Rattle.std.specs.List.{All, Contains, flat_map}
use Rattle.std.specs.Cmp.Lexicographic.{slice_cmp}
use Rattle.std.specs.Ordering.{nat_cmp}
use Rattle.std.proofs.lemmas.Bool.{cases_lt}
use Rattle.std.proofs.lemmas.List.{get_or-map, length-map}
use Rattle.std.proofs.lemmas.List.Elements.{All-head, All-tail, All-nil, All-cons, Contains-append_left, Contains-append_right, Contains-append_cases, Contains-get_or}
use Rattle.viz_fraction.specs.Points.{Point}
use Rattle.viz_sheet.specs.Sheet.{AreApart}
use Rattle.viz_sheet.specs.Ranked.{IsCell, AreCells, AreUsed, by_names, names_at}
use Rattle.viz_sheet.specs.Kept.{kept, kept_rank, renumbered, AreMarks, AreSomeCells, IsCompacted}
use Rattle.viz_sheet.proofs.KeptLemmas.{kept-at, rank-below, rank-from, kept-lengths, kept-sorted, rank-rises, kept-most}

-- each rank of the cells is marked
all_marked : (cells : List (List ℕ)) (marks : List Bool) → ((r : ℕ) → Contains (flat_map (λ cell. cell) cells) r → get_or marks r false ≡ true) → All (All (λ r. get_or marks r false ≡ true)) cells
all_marked [] marks h = All-nil (All (λ r. get_or marks r false ≡ true))
all_marked (c ∷ cs) marks h =
    All-cons (All (λ r. get_or marks r false ≡ true)) c cs
    (λ k d b. h (get_or c k d) (Contains-append_left c (flat_map (λ cell. cell) cs) (get_or c k d) (Contains-get_or c k d b)))
    (all_marked cs marks (λ r i. h r (Contains-append_right c (flat_map (λ cell. cell) cs) r i)))

-- different marked ranks stay different
rank-apart : (marks : List Bool) (r s : ℕ) → get_or marks r false ≡ true → get_or marks s false ≡ true → r ≢ s → kept_rank marks r ≢ kept_rank marks s
rank-apart marks r s m n d e =
    ⊎_elim
    (λ h. absurd (omega (arith, rank-rises marks r s h m)))
    (λ h. ⊎_elim (λ g. absurd (omega (arith, rank-rises marks s r g n))) (λ g. d (omega arith)) (cases_lt s r))
    (cases_lt r s)

apart-renumbered : (marks : List Bool) (cell : List ℕ) → All (λ r. get_or marks r false ≡ true) cell → AreApart cell → AreApart (map (kept_rank marks) cell)
apart-renumbered marks [] m a = tt
apart-renumbered marks (r ∷ rs) m a =
    let here = All-head (λ r. get_or marks r false ≡ true) r rs m in
    let rest = All-tail (λ r. get_or marks r false ≡ true) r rs m in
    (others rs rest a.0, apart-renumbered marks rs rest a.1)
  where
    others : (ss : List ℕ) → All (λ s. get_or marks s false ≡ true) ss → All (λ s. r ≢ s) ss → All (λ p. kept_rank marks r ≢ p) (map (kept_rank marks) ss)
    others [] n d = All-nil (λ p. kept_rank marks r ≢ p)
    others (s ∷ ss) n d =
        All-cons (λ p. kept_rank marks r ≢ p) (kept_rank marks s) (map (kept_rank marks) ss)
        (rank-apart marks r s (All-head (λ q. get_or marks q false ≡ true) r rs m) (All-head (λ q. get_or marks q false ≡ true) s ss n) (All-head (λ q. r ≢ q) s ss d))
        (others ss (All-tail (λ q. get_or marks q false ≡ true) s ss n) (All-tail (λ q. r ≢ q) s ss d))

below-renumbered : (names : List (List ℕ)) (marks : List Bool) (cell : List ℕ) → length marks ≡ length names → All (λ r. get_or marks r false ≡ true) cell → All (λ p. p < length (kept marks names)) (map (kept_rank marks) cell)
below-renumbered names marks [] l m = All-nil (λ p. p < length (kept marks names))
below-renumbered names marks (r ∷ rs) l m =
    All-cons (λ p. p < length (kept marks names)) (kept_rank marks r) (map (kept_rank marks) rs)
    (rank-below marks names r l (All-head (λ q. get_or marks q false ≡ true) r rs m))
    (below-renumbered names marks rs l (All-tail (λ q. get_or marks q false ≡ true) r rs m))

cell-renumbered : (names : List (List ℕ)) (marks : List Bool) (cell : List ℕ) → length marks ≡ length names → All (λ r. get_or marks r false ≡ true) cell → IsCell (length names) cell → IsCell (length (kept marks names)) (map (kept_rank marks) cell)
cell-renumbered names marks cell l m h = record {
  some = simp length-map h.some;
  most = simp length-map h.most;
  below = below-renumbered names marks cell l m;
  apart = apart-renumbered marks cell m h.apart;
}

cells-renumbered : (names : List (List ℕ)) (marks : List Bool) (cells : List (List ℕ)) → length marks ≡ length names → All (All (λ r. get_or marks r false ≡ true)) cells → All (IsCell (length names)) cells → All (IsCell (length (kept marks names))) (renumbered marks cells)
cells-renumbered names marks [] l m h = All-nil (IsCell (length (kept marks names)))
cells-renumbered names marks (c ∷ cs) l m h =
    All-cons (IsCell (length (kept marks names))) (map (kept_rank marks) c) (renumbered marks cs)
    (cell-renumbered names marks c l (All-head (All (λ r. get_or marks r false ≡ true)) c cs m) (All-head (IsCell (length names)) c cs h))
    (cells-renumbered names marks cs l (All-tail (All (λ r. get_or marks r false ≡ true)) c cs m) (All-tail (IsCell (length names)) c cs h))

names-renumbered : (names : List (List ℕ)) (marks : List Bool) (cell : List ℕ) → length marks ≡ length names → All (λ r. get_or marks r false ≡ true) cell → names_at (kept marks names) (map (kept_rank marks) cell) ≡ names_at names cell
names-renumbered names marks [] l m = refl
names-renumbered names marks (r ∷ rs) l m =
    ap₂ (λ a b. a ∷ b) (kept-at marks names r [] l (All-head (λ q. get_or marks q false ≡ true) r rs m))
    (names-renumbered names marks rs l (All-tail (λ q. get_or marks q false ≡ true) r rs m))

by_names-renumbered : (names : List (List ℕ)) (marks : List Bool) (cells : List (List ℕ)) → length marks ≡ length names → All (All (λ r. get_or marks r false ≡ true)) cells → by_names (kept marks names) (renumbered marks cells) ≡ by_names names cells
by_names-renumbered names marks [] l m = refl
by_names-renumbered names marks (c ∷ cs) l m =
    ap₂ (λ a b. a ∷ b) (names-renumbered names marks c l (All-head (All (λ r. get_or marks r false ≡ true)) c cs m))
    (by_names-renumbered names marks cs l (All-tail (All (λ r. get_or marks r false ≡ true)) c cs m))

-- a rank of a cell is, renumbered, one of the renumbered cell
contains-map : (f : ℕ → ℕ) (cell : List ℕ) (r : ℕ) → Contains cell r → Contains (map f cell) (f r)
contains-map f cell r c =
    (c.0, simp length-map c.1, get_or-map f cell c.0 r (f r) c.1 ∙ ap f c.2)

contains-renumbered : (marks : List Bool) (cells : List (List ℕ)) (r : ℕ) → Contains (flat_map (λ cell. cell) cells) r → Contains (flat_map (λ cell. cell) (renumbered marks cells)) (kept_rank marks r)
contains-renumbered marks [] r c = absurd (omega (arith, c.1))
contains-renumbered marks (c ∷ cs) r i =
    ⊎_elim
    (λ h. Contains-append_left (map (kept_rank marks) c) (flat_map (λ cell. cell) (renumbered marks cs)) (kept_rank marks r) (contains-map (kept_rank marks) c r h))
    (λ h. Contains-append_right (map (kept_rank marks) c) (flat_map (λ cell. cell) (renumbered marks cs)) (kept_rank marks r) (contains-renumbered marks cs r h))
    (Contains-append_cases c (flat_map (λ cell. cell) cs) r i)

-- each marked name is used
pub compacted-used : (names cells : List (List ℕ)) (marks : List Bool) → AreMarks (length names) cells marks → AreUsed (length (kept marks names)) (renumbered marks cells)
compacted-used names cells marks m k b =
    let from = rank-from marks names k m.size b in
    subst (Contains (flat_map (λ cell. cell) (renumbered marks cells))) from.2 (contains-renumbered marks cells from.0 ((m.each from.0).0 from.1))

-- its cells are cells of the marked names
pub compacted-cells : (names cells : List (List ℕ)) (marks : List Bool) → All (IsCell (length names)) cells → AreMarks (length names) cells marks → All (IsCell (length (kept marks names))) (renumbered marks cells)
compacted-cells names cells marks h m = cells-renumbered names marks cells m.size (all_marked cells marks (λ r i. (m.each r).1 i)) h

-- the cells by names are the same
pub compacted-same : (names cells : List (List ℕ)) (marks : List Bool) → AreMarks (length names) cells marks → by_names (kept marks names) (renumbered marks cells) ≡ by_names names cells
compacted-same names cells marks m = by_names-renumbered names marks cells m.size (all_marked cells marks (λ r i. (m.each r).1 i))

pub compacted : (names : List (List ℕ)) (points : List Point) (cells : List (List ℕ)) (marks : List Bool) → AreCells names points cells → AreMarks (length names) cells marks → IsCompacted names points cells marks
compacted names points cells marks h m = record {
  sheet = record {
    rule = record {
      ascending = kept-sorted (slice_cmp nat_cmp) marks names h.ascending;
      matched = kept-lengths marks points names h.matched;
      few = omega (arith, kept-most marks names, h.few);
      each = compacted-cells names cells marks h.each m;
    };
    used = compacted-used names cells marks m;
  };
  same = compacted-same names cells marks m;
}

-- what holds of all items holds of the marked ones
kept-all : {X : Type 0} (P : X → Type 0) (marks : List Bool) (xs : List X) → All P xs → All P (kept marks xs)
kept-all P [] xs h = All-nil P
kept-all P (m ∷ ms) [] h = All-nil P
kept-all P (true ∷ ms) (x ∷ xs) h = All-cons P x (kept ms xs) (All-head P x xs h) (kept-all P ms xs (All-tail P x xs h))
kept-all P (false ∷ ms) (x ∷ xs) h = kept-all P ms xs (All-tail P x xs h)

map-kept : {X Y : Type 0} (f : X → Y) (marks : List Bool) (xs : List X) → map f (kept marks xs) ≡ kept marks (map f xs)
map-kept f [] xs = refl
map-kept f (m ∷ ms) [] = refl
map-kept f (true ∷ ms) (x ∷ xs) = ap (λ ys. f x ∷ ys) (map-kept f ms xs)
map-kept f (false ∷ ms) (x ∷ xs) = map-kept f ms xs

pub some_cells : (names : List (List ℕ)) (points : List Point) (cells : List (List ℕ)) (keeps : List Bool) → AreCells names points cells → AreSomeCells names points cells keeps
some_cells names points cells keeps h = record {
  rule = record {
    ascending = h.ascending;
    matched = h.matched;
    few = h.few;
    each = kept-all (IsCell (length names)) keeps cells h.each;
  };
  same = map-kept (names_at names) keeps cells;
}
