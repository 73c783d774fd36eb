-- What workers hand in, and what is found of it so far.
use Rattle.std.specs.Prelude.{ℕ, ◌+◌, ◌<◌, List, Option, Result, Vec, All, IfOk, IfSome, length}
use Rattle.std.specs.Prelude.{slice_index_or}
use Rattle.viz_workers.specs.declared.working.Done.{Done}

-- an item of the task at its index, which is one of so many
abbrev pub IsDone : {X : Type 0} → (ℕ → X → Type 0) → ℕ → ℕ → Done X → Type 0
IsDone has first count done = (done.index < count) × has (first + done.index) done.item

-- what a worker handed in, unless memory ran out
abbrev pub AreDone : {X A E : Type 0} → (ℕ → X → Type 0) → ℕ → ℕ → Result (Vec (Done X) A) E
    → Type 0
AreDone has first count share = IfOk share (λ done. All (IsDone has first count) done.items)

-- where an item is found, it is one of its task
abbrev pub AreFound : {X : Type 0} → (ℕ → X → Type 0) → ℕ → List (Option X) → Type 0
AreFound has first found =
    (k : ℕ) (d : _) → k < length found → IfSome (slice_index_or found k d) (has (first + k))
