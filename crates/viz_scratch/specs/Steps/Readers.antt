-- Where each step is read last. Only private contracts and proofs speak of it.
use Rattle.std.specs.Prelude.{◌≡◌, ℕ, ◌<◌, ◌≤◌, List, [], ◌∷◌, length, slice_get, slice_index_or}
use Rattle.std.specs.Prelude.{Option, None, Some}
use Rattle.viz_network.specs.declared.steps.Step.{Step}

-- a place that feeds a port stands before step k
abbrev pub AreBefore : ℕ → List (Option ℕ) → Type 0
AreBefore k [] = Unit {0}
AreBefore k (None ∷ places) = AreBefore k places
AreBefore k (Some place ∷ places) = (place < k) × AreBefore k places

-- each step stands behind what feeds it
abbrev pub AreBehind : List Step → Type 0
AreBehind steps = (k : ℕ) (s : Step) → slice_get steps k ≡ Some s → AreBefore k s.inputs

-- each place that feeds a port is read at step k or later
abbrev pub AreReadAt : List ℕ → ℕ → List (Option ℕ) → Type 0
AreReadAt last k [] = Unit {0}
AreReadAt last k (None ∷ places) = AreReadAt last k places
AreReadAt last k (Some place ∷ places) = (k ≤ slice_index_or last place 0) × AreReadAt last k places

-- what feeds a step from place from on that is asked for is read there or later
abbrev pub AreReadersFrom : ℕ → List Step → List ℕ → Type 0
AreReadersFrom from steps last = (k : ℕ) (s : Step) → from ≤ k → slice_get steps k ≡ Some s
    → 0 < slice_index_or last k 0 → AreReadAt last k s.inputs

-- where each step is read last, and 0 where it isn't asked for
abbrev pub AreReaders : List Step → List ℕ → Type 0
AreReaders = AreReadersFrom 0

-- the places are read at step k, and none before it is read less late
pub record IsRaised (k : ℕ) (places : List (Option ℕ)) (old new : List ℕ) : Type 0 where
  pub count : length new ≡ length old
  pub more : (j : ℕ) → slice_index_or old j 0 ≤ slice_index_or new j 0
  pub later : (j : ℕ) → k ≤ j → slice_index_or new j 0 ≡ slice_index_or old j 0
  pub reached : AreReadAt new k places
