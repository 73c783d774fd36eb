-- What a loop over cells knows of the pieces of the next one.
use Rattle.std.proofs.Common.{◌≡◌, ℕ, suc, ◌-◌, ◌+◌, ◌<◌, ◌≤◌, Bool, true, false, List, [], ◌∷◌, ◌++◌, length, refl, sym, subst, arith}
use Rattle.std.specs.List.{All}
use Rattle.std.proofs.lemmas.List.Elements.{All-nil, All-cons, All-head, All-tail}
use Rattle.viz_counted_cells.specs.Numbered.{first_indices, behind_first}
use Rattle.viz_mesh_read.specs.Pieces.{kept, in_cells}
use Rattle.viz_sheet.specs.Ranked.{IsCell}
use Rattle.viz_file_mesh.specs.GridPieces.{repeats_none, grid_piece}

All-front : {X : Type 0} (P : X → Type 0) (xs ys : List X) → All P (xs ++ ys) → All P xs
All-front P [] ys h = All-nil P
All-front P (x ∷ xs) ys h = All-cons P x xs (All-head P x (xs ++ ys) h) (All-front P xs ys (All-tail P x (xs ++ ys) h))

All-behind : {X : Type 0} (P : X → Type 0) (xs ys : List X) → All P (xs ++ ys) → All P ys
All-behind P [] ys h = h
All-behind P (x ∷ xs) ys h = All-behind P xs ys (All-tail P x (xs ++ ys) h)

-- what holds of all pieces holds of those of the next cell
pub next_pieces : (P : List ℕ → Type 0) (f : List ℕ → List (List ℕ)) (count i : ℕ) (before : List (List ℕ)) (numbers indices : List ℕ) (total : List (List ℕ)) → i < count → indices ≡ first_indices numbers
    → before ++ in_cells f (count - i) numbers ≡ total → All P total → All P (f indices)
next_pieces P f count i before numbers indices total lt e so_far h =
    let n : count - i ≡ suc (count - (i + 1)) = omega arith in
    let one : in_cells f (count - i) numbers ≡ f (first_indices numbers) ++ in_cells f (count - (i + 1)) (behind_first numbers) = rw n refl in
    let left = All-behind P before (in_cells f (count - i) numbers) (subst (All P) (sym so_far) h) in
    let next = All-front P (f (first_indices numbers)) (in_cells f (count - (i + 1)) (behind_first numbers)) (subst (All P) one left) in
    subst (λ (xs : List ℕ). All P (f xs)) (sym e) next

kept_none : (points : ℕ) (test : Bool) (cell : List ℕ) → All (IsCell points) (kept test cell) → (1 ≤ length cell → length cell ≤ 4 → ⊥) → kept test cell ≡ []
kept_none points true cell h n = let one = All-head (IsCell points) cell [] h in absurd (n one.some one.most)
kept_none points false cell h n = refl

-- a cell without 1 to 4 indices is no piece
pub no_piece : (points : ℕ) (cell : List ℕ) → All (IsCell points) (grid_piece cell) → (1 ≤ length cell → length cell ≤ 4 → ⊥) → grid_piece cell ≡ []
no_piece points cell h n = kept_none points (repeats_none cell) cell h n
