-- A level of tasks with its items, a rule of our own. Tasks have numbers, and those of a level
-- follow each other.
use Rattle.std.specs.Prelude.{ℕ, ◌+◌, ◌<◌, ◌≤◌, List, length, slice_index_or}

-- each of as many tasks, from the first on, is one of these
abbrev pub EachTask : (ℕ → Type 0) → ℕ → ℕ → Type 0
EachTask may first count = (t : ℕ) → first ≤ t → t < first + count → may t

-- the items are those of tasks in their order: at index k stands one of task first + k
abbrev pub AreItems : {X : Type 0} → (ℕ → X → Type 0) → ℕ → List X → Type 0
AreItems has first items =
    (k : ℕ) (d : _) → k < length items → has (first + k) (slice_index_or items k d)
