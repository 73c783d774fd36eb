-- What is seen of cells, by which are there and with which levels.
use Rattle.std.proofs.Common.{◌+◌, ◌≡◌, ℕ, ◌<◌, Bool, true, false, Option, Some, None, List, [], ◌∷◌, ◌++◌, length, get_or, map, replicate, cond, refl, sym, ap, ap₂, subst, ◌∙◌, arith}
use Rattle.std.specs.List.{Contains, range_with_len}
use Rattle.std.proofs.lemmas.List.{get_or-replicate}
use Rattle.std.proofs.lemmas.List.FromFn.{length-range_with_len, get_or-range_with_len}
use Rattle.std.proofs.lemmas.Option.{none-some, same_Some}
use Rattle.viz_parts.specs.Seen.{Seen, AreSeen, AreSteps, cell_if, cells_seen, level_if, levels_seen, owned_seen, seen_as, whole_seen}
use Rattle.viz_piece_filters.specs.Growth.{grown_level, grown_seen, own_seen}
use Rattle.viz_piece_filters.proofs.GrowthLemmas.{parts_start}
use Rattle.viz_piece_filters.proofs.PartLemmas.{from_map, into_map}
use Rattle.viz_piece_stitch.proofs.WholeLemmas.{by_place}
use Rattle.viz_sheet.specs.Kept.{kept}
use Rattle.viz_piece_restrict.specs.Steps.Levels.{AreSameLevels, level_at, seen_at, seen_in}
use Rattle.viz_piece_restrict.proofs.ListLemmas.{in_range, map-same, map-twice}

abbrev Cell : Type 0
Cell = List (List ℕ)

-- ---- the lists

pub whole-seen_in : (cells : List Cell) (own there : List Bool) (levels : List ℕ) → whole_seen (seen_in cells own there levels) ≡ cells
whole-seen_in cells own there levels = map-twice (λ (s : Seen). s.cell) (seen_at cells own there levels) (range_with_len 0 (length cells)) ∙ by_place [] cells

pub owned-seen_in : (cells : List Cell) (own there : List Bool) (levels : List ℕ) → length own ≡ length cells → owned_seen (seen_in cells own there levels) ≡ own
owned-seen_in cells own there levels e =
    map-twice (λ (s : Seen). s.own) (seen_at cells own there levels) (range_with_len 0 (length cells))
    ∙ ap (λ n. map (λ k. get_or own k false) (range_with_len 0 n)) (sym e)
    ∙ by_place false own

one_cell : (c : Cell) (l : ℕ) (b : Bool) (xs ys : List Cell) → xs ≡ ys → cell_if c (cond b (Some l) None) ++ xs ≡ cond b (c ∷ ys) ys
one_cell c l true xs ys e = ap (λ r. c ∷ r) e
one_cell c l false xs ys e = e

cells_at : (cells : List Cell) (own there : List Bool) (levels ks : List ℕ) → cells_seen (map (seen_at cells own there levels) ks) ≡ kept (map (λ k. get_or there k false) ks) (map (λ k. get_or cells k []) ks)
cells_at cells own there levels [] = refl
cells_at cells own there levels (k ∷ ks) =
    one_cell (get_or cells k []) (get_or levels k 0) (get_or there k false) (cells_seen (map (seen_at cells own there levels) ks)) (kept (map (λ q. get_or there q false) ks) (map (λ q. get_or cells q []) ks)) (cells_at cells own there levels ks)

pub cells-seen_in : (cells : List Cell) (own there : List Bool) (levels : List ℕ) → length there ≡ length cells → cells_seen (seen_in cells own there levels) ≡ kept there cells
cells-seen_in cells own there levels e =
    cells_at cells own there levels (range_with_len 0 (length cells))
    ∙ ap₂ (λ ms cs. kept ms cs) (ap (λ n. map (λ k. get_or there k false) (range_with_len 0 n)) (sym e) ∙ by_place false there) (by_place [] cells)

one_level : (l : ℕ) (b : Bool) (xs ys : List ℕ) → xs ≡ ys → level_if (cond b (Some l) None) ++ xs ≡ cond b (l ∷ ys) ys
one_level l true xs ys e = ap (λ r. l ∷ r) e
one_level l false xs ys e = e

levels_at : (cells : List Cell) (own there : List Bool) (levels ks : List ℕ) → levels_seen (map (seen_at cells own there levels) ks) ≡ kept (map (λ k. get_or there k false) ks) (map (λ k. get_or levels k 0) ks)
levels_at cells own there levels [] = refl
levels_at cells own there levels (k ∷ ks) =
    one_level (get_or levels k 0) (get_or there k false) (levels_seen (map (seen_at cells own there levels) ks)) (kept (map (λ q. get_or there q false) ks) (map (λ q. get_or levels q 0) ks)) (levels_at cells own there levels ks)

pub levels-seen_in : (cells : List Cell) (own there : List Bool) (levels : List ℕ) → length there ≡ length cells → length levels ≡ length cells → levels_seen (seen_in cells own there levels) ≡ kept there levels
levels-seen_in cells own there levels e f =
    levels_at cells own there levels (range_with_len 0 (length cells))
    ∙ ap₂ (λ ms ls. kept ms ls)
    (ap (λ n. map (λ k. get_or there k false) (range_with_len 0 n)) (sym e) ∙ by_place false there)
    (ap (λ n. map (λ k. get_or levels k 0) (range_with_len 0 n)) (sym f) ∙ by_place 0 levels)

-- ---- the first and the next level

-- own cells alone
pub start-seen : (cells : List Cell) (own : List Bool) → AreSeen 0 (seen_in cells own own (replicate (length cells) 0))
start-seen cells own =
    let zeros : List ℕ = replicate (length cells) 0 in
    let seen : List Seen = seen_in cells own own zeros in
    let one = λ (s : Seen). seen_as s.own (cond s.own (Some 0) None) s.cell in
    let is : own_seen seen ≡ seen =
    map-twice one (seen_at cells own own zeros) (range_with_len 0 (length cells))
    ∙ map-same (λ k. one (seen_at cells own own zeros k)) (seen_at cells own own zeros) 0 (length cells)
    (λ k l. ap (λ (z : ℕ). seen_as (get_or own k false) (cond (get_or own k false) (Some z) None) (get_or cells k [])) (sym (get_or-replicate (length cells) k 0 0 (omega (arith, l))))) in
    subst (AreSeen 0) is (parts_start seen)

-- grown by cells that are touched
pub grown-seen_in : (touched : Cell → Bool) (next : ℕ) (cells : List Cell) (own there : List Bool) (levels : List ℕ) (new_there : List Bool) (new_levels : List ℕ)
    → ((k : ℕ) → k < length cells → level_at new_there new_levels k ≡ grown_level (touched (get_or cells k [])) next (level_at there levels k))
    → grown_seen touched next (seen_in cells own there levels) ≡ seen_in cells own new_there new_levels
grown-seen_in touched next cells own there levels new_there new_levels h =
    let one = λ (s : Seen). seen_as s.own (grown_level (touched s.cell) next s.level) s.cell in
    map-twice one (seen_at cells own there levels) (range_with_len 0 (length cells))
    ∙ map-same (λ k. one (seen_at cells own there levels k)) (seen_at cells own new_there new_levels) 0 (length cells)
    (λ k l. ap (λ (o : Option ℕ). seen_as (get_or own k false) o (get_or cells k [])) (sym (h k (omega (arith, l)))))

-- equal levels make the same list
pub same-seen_in : (cells : List Cell) (own there : List Bool) (levels : List ℕ) (new_there : List Bool) (new_levels : List ℕ) → AreSameLevels there levels new_there new_levels
    → seen_in cells own there levels ≡ seen_in cells own new_there new_levels
same-seen_in cells own there levels new_there new_levels h =
    map-same (seen_at cells own there levels) (seen_at cells own new_there new_levels) 0 (length cells)
    (λ k l. ap (λ (o : Option ℕ). seen_as (get_or own k false) o (get_or cells k [])) (sym (h k)))

-- where a cell that is seen stands
pub stands : (cells : List Cell) (own there : List Bool) (levels : List ℕ) (s : Seen) → Contains (seen_in cells own there levels) s
    → (k : ℕ) × (k < length cells) × (seen_at cells own there levels k ≡ s)
stands cells own there levels s c =
    let from = from_map (seen_at cells own there levels) (range_with_len 0 (length cells)) s c in
    (from.0, in_range (length cells) from.0 from.1, from.2)

-- each cell is seen
pub sees : (cells : List Cell) (own there : List Bool) (levels : List ℕ) (k : ℕ) → k < length cells → Contains (seen_in cells own there levels) (seen_at cells own there levels k)
sees cells own there levels k l =
    into_map (seen_at cells own there levels) (range_with_len 0 (length cells)) k
    (k, omega (arith, l, length-range_with_len 0 (length cells)), get_or-range_with_len 0 (length cells) k k l ∙ omega arith)

level_zero : (b : Bool) (m : ℕ) → ◌≡◌ {A = Option ℕ} (cond b (Some 0) None) (Some (m + 1)) → ⊥
level_zero true m e = absurd (omega (arith, same_Some 0 (m + 1) e))
level_zero false m e = absurd (none-some (m + 1) e)

-- own cells alone are no steps away
pub start-steps : (cells : List Cell) (own : List Bool) → AreSteps (seen_in cells own own (replicate (length cells) 0))
start-steps cells own s m c e =
    let zeros : List ℕ = replicate (length cells) 0 in
    let at = stands cells own own zeros s c in
    let is : cond (get_or own at.0 false) (Some (get_or zeros at.0 0)) None ≡ Some (m + 1) = ap (λ (u : Seen). u.level) at.2 ∙ e in
    absurd (level_zero (get_or own at.0 false) m (ap (λ (z : ℕ). cond (get_or own at.0 false) (Some z) None) (sym (get_or-replicate (length cells) at.0 0 0 at.1)) ∙ is))
