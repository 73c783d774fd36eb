-- What the passes of a compaction make of names, points and cells is a sheet.
use Rattle.std.proofs.Common.{Bool, List, [], ap, ap₂, arith, false, get_or, length, map, refl, subst, suc, sym, true, true≢false, zero, ℕ, ◌<◌, ◌∙◌, ◌∷◌, ◌≡◌}
use Rattle.std.specs.List.{All, range_with_len}
use Rattle.std.proofs.lemmas.List.FromFn.{get_or-map-range_with_len, length-map-range_with_len}
use Rattle.std.proofs.lemmas.List.Elements.{All-head, All-tail, All-weaker}
use Rattle.viz_fraction.specs.Points.{Point}
use Rattle.viz_sheet.specs.Sheet.{KeepPoints}
use Rattle.viz_sheet.specs.Ranked.{AreCells, AreRanks, IsCell, by_names}
use Rattle.viz_sheet.specs.Kept.{kept, kept_rank, renumbered, AreMarks}
use Rattle.viz_sheet.specs.Steps.Lookup.{looked_up}
use Rattle.viz_sheet.proofs.CompactedLemmas as law
use Rattle.viz_sheet.proofs.KeptLemmas.{kept-at, rank-from, rank-suc, rank-most}

-- how many are marked before each rank
abbrev pub before_of : List Bool → List ℕ
before_of marks = map (kept_rank marks) (range_with_len 0 (length marks))

pub length-before_of : (marks : List Bool) → length (before_of marks) ≡ length marks
length-before_of marks = length-map-range_with_len (kept_rank marks) 0 (length marks)

looked_up-cell : (marks : List Bool) (cell : List ℕ) → All (λ r. r < length marks) cell → looked_up (before_of marks) cell ≡ map (kept_rank marks) cell
unfolding looked_up
looked_up-cell marks [] h = refl
looked_up-cell marks (r ∷ rs) h =
    ap₂ (λ a b. a ∷ b) (get_or-map-range_with_len (kept_rank marks) 0 (length marks) r r 0 (All-head (λ q. q < length marks) r rs h) (omega arith))
    (looked_up-cell marks rs (All-tail (λ q. q < length marks) r rs h))

looked_up-cells : (marks : List Bool) (cells : List (List ℕ)) → All (IsCell (length marks)) cells → map (looked_up (before_of marks)) cells ≡ renumbered marks cells
looked_up-cells marks [] h = refl
looked_up-cells marks (c ∷ cs) h =
    ap₂ (λ a b. a ∷ b) (looked_up-cell marks c (All-head (IsCell (length marks)) c cs h).below) (looked_up-cells marks cs (All-tail (IsCell (length marks)) c cs h))

pub record IsMade (names : List (List ℕ)) (cells : List (List ℕ)) (kept_names : List (List ℕ)) (kept_points : List Point) (made : List (List ℕ)) : Type 0 where
  pub sheet : AreRanks kept_names kept_points made
  pub same : by_names kept_names made ≡ by_names names cells

pub made_is : (names : List (List ℕ)) (points : List Point) (cells : List (List ℕ)) (marks : List Bool) → AreCells names points cells → AreMarks (length names) cells marks → IsMade names cells (kept marks names) (kept marks points) (map (looked_up (before_of marks)) cells)
made_is names points cells marks h m =
    let e = looked_up-cells marks cells (subst (λ n. All (IsCell n) cells) (sym m.size) h.each) in
    let made = law.compacted names points cells marks h m in
    record {
      sheet = subst (AreRanks (kept marks names) (kept marks points)) (sym e) made.sheet;
      same = ap (by_names (kept marks names)) e ∙ made.same;
    }

-- the same of lists that are equal to these
pub made_from : (names : List (List ℕ)) (points : List Point) (cells : List (List ℕ)) (marks : List Bool) (kept_names : List (List ℕ)) (kept_points : List Point) (made : List (List ℕ)) (b : List ℕ) → AreCells names points cells → AreMarks (length names) cells marks → kept_names ≡ kept marks names → kept_points ≡ kept marks points → b ≡ before_of marks → made ≡ map (looked_up b) cells → IsMade names cells kept_names kept_points made
made_from names points cells marks kn kp made b h m en ep eb em =
    subst (λ l. IsMade names cells l kp made) (sym en)
    (subst (λ l. IsMade names cells (kept marks names) l made) (sym ep)
    (subst (λ l. IsMade names cells (kept marks names) (kept marks points) l) (sym (em ∙ ap (λ x. map (looked_up x) cells) eb)) (made_is names points cells marks h m)))

pub all_below : (n : ℕ) (cells : List (List ℕ)) (before : List ℕ) → length before ≡ n → All (IsCell n) cells → All (All (λ r. r < length before)) cells
all_below n cells before e h = All-weaker (IsCell n) (All (λ r. r < length before)) (λ cell k. subst (λ m. All (λ r. r < m) cell) (sym e) k.below) cells h

marked_below : (marks : List Bool) (r : ℕ) → get_or marks r false ≡ true → r < length marks
marked_below [] r m = absurd (true≢false (sym m))
marked_below (b ∷ bs) zero m = omega arith
marked_below (b ∷ bs) (suc r) m = omega (arith, marked_below bs r m)

-- kept names keep their points
pub points_kept : (marks : List Bool) (names : List (List ℕ)) (points : List Point) → length marks ≡ length names → length points ≡ length names → KeepPoints (kept marks names) (kept marks points) names points
points_kept marks names points l e k d b =
    let from = rank-from marks names k l b in
    let r = from.0 in (
      r,
      omega (arith, marked_below marks r from.1),
      subst (λ j. get_or (kept marks names) j [] ≡ get_or names r []) from.2 (kept-at marks names r [] l from.1),
      subst (λ j. get_or (kept marks points) j d ≡ get_or points r d) from.2 (kept-at marks points r d (l ∙ sym e) from.1),
    )

pub points_from : (marks : List Bool) (names : List (List ℕ)) (points : List Point) (kept_names : List (List ℕ)) (kept_points : List Point) → length marks ≡ length names → length points ≡ length names → kept_names ≡ kept marks names → kept_points ≡ kept marks points → KeepPoints kept_names kept_points names points
points_from marks names points kn kp l e en ep =
    subst (λ a. KeepPoints a kp names points) (sym en) (subst (λ b. KeepPoints (kept marks names) b names points) (sym ep) (points_kept marks names points l e))

-- where as many are marked as there are, each is
each_marked : (marks : List Bool) (r : ℕ) → kept_rank marks (length marks) ≡ length marks → r < length marks → get_or marks r false ≡ true
each_marked [] r e l = absurd (omega arith)
each_marked (true ∷ ms) zero e l = refl
each_marked (true ∷ ms) (suc r) e l = each_marked ms r (omega (arith, rank-suc true ms (length ms), e)) (omega arith)
each_marked (false ∷ ms) r e l = absurd (omega (arith, rank-suc false ms (length ms), rank-most ms (length ms) (omega arith), e))

-- and then each name has a cell
pub all_used : (names : List (List ℕ)) (points : List Point) (cells : List (List ℕ)) (marks : List Bool) → AreCells names points cells → AreMarks (length names) cells marks → kept_rank marks (length marks) ≡ length names → AreRanks names points cells
all_used names points cells marks h m e = record {
  rule = h;
  used = λ r l. (m.each r).0 (each_marked marks r (e ∙ sym m.size) (omega (arith, m.size, l)));
}

-- names keep the points that they have
pub points_stay : (names : List (List ℕ)) (points : List Point) → KeepPoints names points names points
points_stay names points k d l = (k, l, refl, refl)
