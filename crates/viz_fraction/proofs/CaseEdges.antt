-- The cells of a mask stand on its cut edges.
use Rattle.std.proofs.Common.{◌≡◌, ℕ, ◌-◌, ◌<◌, ◌==◌, Bool, true, false, not, ◌&&◌, ◌||◌, List, [], ◌∷◌, length, slice_index_or, refl, sym, ◌∙◌, ap, arith}
use Rattle.std.specs.Prelude.{◌≢◌, ◌↔◌, nat_lt, nat_le}
use Rattle.std.specs.Bool.{Decides}
use Rattle.std.specs.List.{list_all, list_any}
use Rattle.std.specs.Set.{distinct_count}
use Rattle.std.proofs.Math.Bool.{beq, not-not}
use Rattle.std.specs.Cmp.{booleans_Decides}
use Rattle.std.proofs.lemmas.Bool.{agree_below, agree_below_at, and_parts, eqb-true, leb-true}
use Rattle.std.proofs.lemmas.Bool.Decides.{Decides-like, Decides-and, Decides-not, Decides-ltb, Decides-below_and}
use Rattle.std.proofs.lemmas.List.Sums.{AllPass-from_list_all}
use Rattle.std.proofs.lemmas.List.Elements.{All-contains}
use Rattle.std.proofs.lemmas.Map.Views.{Contains-from_any}
use Rattle.viz_fraction.specs.CaseRows.{End}
use Rattle.viz_fraction.specs.Cases.{IsCase, is_inside, cells_at, ends_of}
use Rattle.viz_fraction.specs.CaseLaws.{IsCut, IsWhole, UsesCutEdges, HasWholeCells, HasNoCellOfOneSide, ComplementHasSameEnds, complement, FitsPlaces}
use Rattle.viz_fraction.proofs.CaseTable.{any_case, yes, passes_then}
use Rattle.viz_fraction.proofs.CaseEquals.{same_end, same_end-decides, different_from_count}

-- whether an end stands for a cut edge
abbrev is_cut : ℕ → ℕ → End → Bool
is_cut corners mask e =
    nat_lt e.low e.high && (nat_lt e.high corners && not (beq (is_inside mask e.low) (is_inside mask e.high)))

is_cut-decides : (corners mask : ℕ) (e : End) → Decides (is_cut corners mask e) (IsCut corners mask e)
is_cut-decides corners mask e =
    let low = is_inside mask e.low in
    let high = is_inside mask e.high in
    Decides-like (is_cut corners mask e)
    (λ parts. record { order = parts.0; within = parts.1.0; apart = parts.1.1 })
    (λ cut. (cut.order, (cut.within, cut.apart)))
    (Decides-and (nat_lt e.low e.high) (nat_lt e.high corners && not (beq low high)) (Decides-ltb e.low e.high)
    (Decides-and (nat_lt e.high corners) (not (beq low high)) (Decides-ltb e.high corners)
    (Decides-not (beq low high) (booleans_Decides low high))))

-- whether an end occurs in a cell
abbrev uses : ℕ → ℕ → End → Bool
uses corners mask e = list_any (same_end e) (ends_of (cells_at corners mask))

-- whether each end that occurs stands for a cut edge
abbrev uses_only_cut : ℕ → ℕ → Bool
uses_only_cut corners mask = list_all (is_cut corners mask) (ends_of (cells_at corners mask))

uses_only_cut-any : (corners mask : ℕ) → IsCase corners mask → uses_only_cut corners mask ≡ true
unfolding cells_at
uses_only_cut-any = any_case uses_only_cut refl refl refl refl

-- whether an end occurs if it stands for a cut edge
abbrev uses_if_cut : ℕ → ℕ → ℕ → ℕ → Bool
uses_if_cut corners mask high low =
    let e : End = record { low = low; high = high } in
    not (is_cut corners mask e) || uses corners mask e

-- whether this holds of the ends that lead to a corner
abbrev uses_cut_to : ℕ → ℕ → ℕ → Bool
uses_cut_to corners mask high = agree_below (uses_if_cut corners mask high) yes 4

-- whether this holds of all ends
abbrev uses_all_cut : ℕ → ℕ → Bool
uses_all_cut corners mask = agree_below (uses_cut_to corners mask) yes 4

uses_all_cut-any : (corners mask : ℕ) → IsCase corners mask → uses_all_cut corners mask ≡ true
unfolding cells_at
uses_all_cut-any = any_case uses_all_cut refl refl refl refl

-- a cut edge has corners below 4
uses_at : (corners mask : ℕ) → IsCase corners mask → (e : End) → IsCut corners mask e
    → uses_if_cut corners mask e.high e.low ≡ true
uses_at corners mask known e cut =
    let high : e.high < 4 = omega (arith, cut.within, known.most) in
    let low : e.low < 4 = omega (arith, cut.order, high) in
    agree_below_at (uses_if_cut corners mask e.high) yes 4 e.low
    (agree_below_at (uses_cut_to corners mask) yes 4 e.high (uses_all_cut-any corners mask known) high) low

pub uses_cut_edges : UsesCutEdges
uses_cut_edges corners mask known e = (
  λ occurs. (is_cut-decides corners mask e).0
      (All-contains (λ f. is_cut corners mask f ≡ true) (ends_of (cells_at corners mask)) e
      (AllPass-from_list_all (is_cut corners mask) (ends_of (cells_at corners mask)) (uses_only_cut-any corners mask known))
      occurs),
  λ cut. Contains-from_any {eq = same_end} (λ f g. (same_end-decides f g).0) e (ends_of (cells_at corners mask))
      (passes_then (is_cut corners mask e) (uses corners mask e) (uses_at corners mask known e cut)
      ((is_cut-decides corners mask e).1 cut)),
)

-- whether a cell is whole
abbrev is_whole : ℕ → List End → Bool
is_whole corners cell = (length cell == corners - 1) && (distinct_count same_end cell == length cell)

is_whole-tells : (corners : ℕ) (cell : List End) → is_whole corners cell ≡ true → IsWhole corners cell
is_whole-tells corners cell passes =
    let parts = and_parts (length cell == corners - 1) (distinct_count same_end cell == length cell) passes in
    record {
      size = eqb-true (length cell) (corners - 1) parts.0;
      different = different_from_count same_end same_end-decides cell
          (eqb-true (distinct_count same_end cell) (length cell) parts.1);
    }

-- whether each cell is
abbrev has_whole_cells : ℕ → ℕ → Bool
has_whole_cells corners mask = list_all (is_whole corners) (cells_at corners mask)

has_whole_cells-any : (corners mask : ℕ) → IsCase corners mask → has_whole_cells corners mask ≡ true
unfolding cells_at
has_whole_cells-any = any_case has_whole_cells refl refl refl refl

pub whole_cells : HasWholeCells
whole_cells corners mask known = λ k d below.
    is_whole-tells corners (slice_index_or (cells_at corners mask) k d)
    (AllPass-from_list_all (is_whole corners) (cells_at corners mask) (has_whole_cells-any corners mask known) k d below)

-- whether the ends of the cells fit into six places
abbrev fits_places : ℕ → ℕ → Bool
fits_places corners mask = nat_le (length (ends_of (cells_at corners mask))) 6

fits_places-any : (corners mask : ℕ) → IsCase corners mask → fits_places corners mask ≡ true
unfolding cells_at
fits_places-any = any_case fits_places refl refl refl refl

pub cells_fit_places : FitsPlaces
cells_fit_places corners mask known =
    leb-true (length (ends_of (cells_at corners mask))) 6 (fits_places-any corners mask known)

-- whether there is no cell if all corners are on a side
abbrev is_empty_on : Bool → ℕ → ℕ → Bool
is_empty_on side corners mask =
    not (agree_below (is_inside mask) (λ corner. side) corners) || (length (cells_at corners mask) == 0)

is_empty_on-any : (side : Bool) (corners mask : ℕ) → IsCase corners mask → is_empty_on side corners mask ≡ true
unfolding cells_at
is_empty_on-any true = any_case (is_empty_on true) refl refl refl refl
is_empty_on-any false = any_case (is_empty_on false) refl refl refl refl

-- tests that answer alike at each number agree
agree_below-from : (f g : ℕ → Bool) (n : ℕ) → ((k : ℕ) → k < n → f k ≡ g k) → agree_below f g n ≡ true
agree_below-from f g n alike =
    (Decides-below_and (λ k. beq (f k) (g k)) (λ k. f k ≡ g k) (agree_below f g)
    (λ k. booleans_Decides (f k) (g k)) refl (λ k. refl) n).1 alike

-- a list of no element is empty
empty_from_length : {X : Type 0} (xs : List X) → length xs ≡ 0 → xs ≡ []
empty_from_length [] none = refl
empty_from_length (x ∷ xs) none = absurd (omega arith)

pub no_cell_of_one_side : HasNoCellOfOneSide
no_cell_of_one_side corners mask known side on =
    empty_from_length (cells_at corners mask)
    (eqb-true (length (cells_at corners mask)) 0
    (passes_then (agree_below (is_inside mask) (λ corner. side) corners) (length (cells_at corners mask) == 0)
    (is_empty_on-any side corners mask known)
    (agree_below-from (is_inside mask) (λ corner. side) corners on)))

-- whether the complement of a mask has each corner on the other side
abbrev turns_corners : ℕ → ℕ → Bool
turns_corners corners mask =
    agree_below (is_inside (complement corners mask)) (λ corner. not (is_inside mask corner)) corners

turns_corners-any : (corners mask : ℕ) → IsCase corners mask → turns_corners corners mask ≡ true
turns_corners-any = any_case turns_corners refl refl refl refl

-- a corner's side in the complement
turned_at : (corners mask corner : ℕ) → IsCase corners mask → corner < corners
    → is_inside (complement corners mask) corner ≡ not (is_inside mask corner)
turned_at corners mask corner known below =
    agree_below_at (is_inside (complement corners mask)) (λ c. not (is_inside mask c)) corners corner
    (turns_corners-any corners mask known) below

-- the complement is a mask too
complement_known : (corners mask : ℕ) → IsCase corners mask → IsCase corners (complement corners mask)
complement_known corners mask known = record {
  least = known.least;
  most = known.most;
  below = omega (arith, known.below);
}

-- two answers differ just where their negations do
apart-not : (a b c d : Bool) → c ≡ not a → d ≡ not b → (a ≢ b) ↔ (c ≢ d)
apart-not a b c d first second = (
  λ differ same. differ (sym (not-not a) ∙ ap not (sym first ∙ same ∙ second) ∙ not-not b),
  λ differ same. differ (first ∙ ap not same ∙ sym second),
)

-- the complement has the same cut edges
cut-complement : (corners mask : ℕ) → IsCase corners mask → (e : End)
    → IsCut corners mask e ↔ IsCut corners (complement corners mask) e
cut-complement corners mask known e =
    let other = complement corners mask in
    let apart = λ (low : e.low < corners) (high : e.high < corners).
    apart-not (is_inside mask e.low) (is_inside mask e.high) (is_inside other e.low) (is_inside other e.high)
    (turned_at corners mask e.low known low) (turned_at corners mask e.high known high) in (
      λ cut. record {
        order = cut.order;
        within = cut.within;
        apart = (apart (omega (arith, cut.order, cut.within)) cut.within).0 cut.apart;
      },
      λ cut. record {
        order = cut.order;
        within = cut.within;
        apart = (apart (omega (arith, cut.order, cut.within)) cut.within).1 cut.apart;
      },
    )

pub complement_has_same_ends : ComplementHasSameEnds
complement_has_same_ends corners mask known e =
    let here = uses_cut_edges corners mask known e in
    let there = uses_cut_edges corners (complement corners mask) (complement_known corners mask known) e in
    let same = cut-complement corners mask known e in
    (λ occurs. there.1 (same.0 (here.0 occurs)), λ occurs. here.1 (same.1 (there.0 occurs)))
