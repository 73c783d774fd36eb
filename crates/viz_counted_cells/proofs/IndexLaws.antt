-- The indices that rules let through are those of points.
use Rattle.std.proofs.Common.{◌≡◌, ℕ, ℤ, pos, negsuc, zero, suc, ◌-◌, ◌<◌, Bool, true, List, [], ◌∷◌, length, sym, subst}
use Rattle.std.specs.Prelude.{unsigned_abs}
use Rattle.std.proofs.lemmas.Bool.{ltb-true, true≢false}
use Rattle.std.proofs.lemmas.List.Elements.{All-nil, All-cons}
use Rattle.viz_lex.specs.Reading.{Reading}
use Rattle.viz_lex.specs.Rules.{follow, gives}
use Rattle.viz_lex.specs.Repeats.{AreTimes}
use Rattle.viz_counted_cells.specs.Sections.{is_index, index, cells, section, HasIndices, HaveIndices}

pub is_index-below : (points : ℕ) (n : ℤ) → is_index points n ≡ true → unsigned_abs n < points
is_index-below points (pos i) h = ltb-true i points h
is_index-below points (negsuc i) h = absurd (true≢false (sym h))

index-below : (binary : Bool) (points : ℕ) (old new : Reading) (i : ℕ) → (index binary points).is old new i → i < points
index-below binary points old new i h = subst (λ (k : ℕ). k < points) (sym h.3.1.1) (is_index-below points h.0.1 h.3.0)

times-below : (binary : Bool) (points : ℕ) (old new : Reading) (xs : List ℕ) (n : ℕ) → AreTimes (index binary points) old new xs n → HasIndices points xs
times-below binary points old new [] n h = All-nil (λ i. i < points)
times-below binary points old new (x ∷ xs) zero h = absurd h
times-below binary points old new (x ∷ xs) (suc n) h =
    All-cons (λ i. i < points) x xs (index-below binary points old h.0 x h.1) (times-below binary points h.0 new xs n h.2)

cells-below : (binary : Bool) (points n left : ℕ) (old new : Reading) (all : List (List ℕ)) → (cells binary points n left).is old new all → HaveIndices points all
cells-below binary points zero left old new all h = subst (HaveIndices points) (sym h.1) (All-nil (HasIndices points))
cells-below binary points (suc n) left old new all h =
    let others : (follow (cells binary points n (left - suc (length h.0))) (λ others. gives (h.0 ∷ others))).is h.1 new all = h.3 in
    subst (HaveIndices points) (sym others.3.1)
    (All-cons (HasIndices points) h.0 others.0 (times-below binary points h.2.1 h.1 h.0 (unsigned_abs h.2.0.1) h.2.3.1) (cells-below binary points n (left - suc (length h.0)) h.1 others.1 others.0 others.2))

pub section-below : (binary : Bool) (points : ℕ) (old new : Reading) (all : List (List ℕ)) → (section binary points).is old new all → HaveIndices points all
section-below binary points old new all h = cells-below binary points h.0 h.3.0 h.3.3.1 new all h.3.3.3
