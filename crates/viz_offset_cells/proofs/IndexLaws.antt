-- The indices of the cells that are cut are those of points.
use Rattle.std.proofs.Common.{ℕ, zero, suc, ◌-◌, ◌<◌, Bool, List, [], ◌∷◌, sym, subst, inl, inr}
use Rattle.std.specs.Prelude.{drop}
use Rattle.std.proofs.lemmas.List.Elements.{All-nil, All-cons, All-take, All-drop}
use Rattle.viz_column.specs.declared.kind.Kind8.{Kind8}
use Rattle.viz_lex.specs.Reading.{Reading}
use Rattle.viz_lex.specs.Repeats.{AreTimes}
use Rattle.viz_counted_cells.specs.Sections.{HasIndices, HaveIndices}
use Rattle.viz_counted_cells.proofs.IndexLaws.{is_index-below}
use Rattle.viz_offset_cells.specs.Runs.{runs_from, runs_between}
use Rattle.viz_offset_cells.specs.Offsets.{index, connectivity, cut_cells, offset_section}

index-below : (binary : Bool) (kind : Kind8) (points : ℕ) (old new : Reading) (i : ℕ) → (index binary kind points).is old new i → i < points
index-below binary kind points old new i h = subst (λ (k : ℕ). k < points) (sym h.3.1.1) (is_index-below points h.0.1 h.3.0)

times-below : (binary : Bool) (kind : Kind8) (points : ℕ) (old new : Reading) (xs : List ℕ) (n : ℕ) → AreTimes (index binary kind points) old new xs n → HasIndices points xs
times-below binary kind points old new [] n h = All-nil (λ i. i < points)
times-below binary kind points old new (x ∷ xs) zero h = absurd h
times-below binary kind points old new (x ∷ xs) (suc n) h =
    All-cons (λ i. i < points) x xs (index-below binary kind points old h.0 x h.1) (times-below binary kind points h.0 new xs n h.2)

runs_from-below : (points first : ℕ) (offsets list : List ℕ) → HasIndices points list → HaveIndices points (runs_from first offsets list)
runs_from-below points first [] list h = All-nil (HasIndices points)
runs_from-below points first (next ∷ offsets) list h =
    All-cons (HasIndices points) _ (runs_from next offsets list) (All-take (λ i. i < points) (next - first) (drop first list) (All-drop (λ i. i < points) first list h)) (runs_from-below points next offsets list h)

runs-below : (points : ℕ) (offsets list : List ℕ) → HasIndices points list → HaveIndices points (runs_between offsets list)
runs-below points [] list h = All-nil (HasIndices points)
runs-below points (first ∷ offsets) list h = runs_from-below points first offsets list h

connectivity-below : (binary : Bool) (points n : ℕ) (old new : Reading) (list : List ℕ) → (connectivity binary points n).is old new list → HasIndices points list
connectivity-below binary points n old new list h = times-below binary h.3.0 points h.3.3.1 new list n h.3.3.3

cut-below : (binary : Bool) (points most n : ℕ) (old new : Reading) (cells : List (List ℕ)) → (cut_cells binary points most n).is old new cells → HaveIndices points cells
cut-below binary points most n old new cells h =
    subst (HaveIndices points) (sym h.3.3.1) (runs-below points h.0 h.3.0 (connectivity-below binary points n h.1 h.3.1 h.3.0 h.3.2))

pub section-below : (binary : Bool) (points : ℕ) (old new : Reading) (cells : List (List ℕ)) → (offset_section binary points).is old new cells → HaveIndices points cells
section-below binary points old new cells h =
    elim h.3.3 [
      | inl there ↦ cut-below binary points h.0 h.3.0 h.3.1 new cells there.1
      | inr none ↦ subst (HaveIndices points) (sym none.1.1) (All-nil (HasIndices points))
    ]
