-- The numbers of vertices: corners first, in the order of their ranks, and then cuts, by key.
use Rattle.std.specs.Prelude.{◌≡◌, ℕ, ◌+◌, ◌<◌, ◌^◌, Bool, List, All, Contains, count_by, length}
use Rattle.std.specs.Prelude.{map, slice_index_or}
use Rattle.std.specs.List.{range_with_len}
use Rattle.std.specs.List.Sorted.{IsStrictlySortedBy}
use Rattle.std.specs.Ordering.{is_lt, nat_cmp}
use Rattle.viz_sheet.specs.Kept.{kept, kept_rank}
use Rattle.viz_cells.specs.Steps.Keys.{key_of}
use Rattle.viz_cells.specs.Steps.Numbered.{AreKeysOf}
use Rattle.viz_clip_meaning.specs.Rows.{rows}
use Rattle.viz_clip.specs.declared.numbers.Numbers.{Numbers}
use Rattle.viz_clip.specs.Steps.Corners.{inside_of, outside_of}
use Rattle.viz_clip.specs.Steps.Keys.{cell_keys, cut_keys}

-- how many keys come before one
abbrev pub rank_among : List ℕ → ℕ → ℕ
rank_among keys key = count_by (λ k. is_lt (nat_cmp k key)) keys

-- the ranks of inside points
abbrev pub ranks_inside : List Bool → List ℕ
ranks_inside inside = kept inside (range_with_len 0 (length inside))

-- the number of an inside corner
unfoldable pub corner_number : Numbers → ℕ → ℕ
corner_number n r = slice_index_or n.corners.items r 0

-- the number of the cut between two ranks
unfoldable pub cut_number : Numbers → ℕ → ℕ → ℕ
cut_number n a b = n.count + rank_among n.keys.items (key_of a b)

-- the tetrahedra that are kept of a cell, by numbers
abbrev pub numbered_in : List Bool → Numbers → List ℕ → List (List ℕ)
numbered_in inside n cell =
    rows (corner_number n) (cut_number n) (inside_of inside cell) (outside_of inside cell)

-- inside corners have numbers, and so have their cuts with outside ones
pub record CanCut (n : Numbers) (first last : List ℕ) : Type 0 where
  pub ascending : IsStrictlySortedBy nat_cmp n.keys.items
  pub few : n.count + length n.keys.items < 2 ^ 32
  pub below : All (λ r. r < length n.corners.items) first
  pub has : All (Contains n.keys.items) (cut_keys first last)

-- these are the numbers of the vertices that are kept of cells
pub record CanNumber (inside : List Bool) (cells : List (List ℕ)) (n : Numbers) : Type 0 where
  pub corners : n.corners.items ≡ map (kept_rank inside) (range_with_len 0 (length inside))
  pub few : n.count + length n.keys.items < 2 ^ 32
  pub keys : AreKeysOf (cell_keys inside cells) n.keys.items
