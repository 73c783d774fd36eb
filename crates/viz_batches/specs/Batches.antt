-- Batches: edits that take effect as one, all or none (docs/FORMATS-OF-SCRIPTS.md, "Batches").
use Rattle.std.specs.Prelude.{ℕ, ◌+◌, ◌≤◌, List, [], ◌∷◌, length, Result, Ok, Err}
use Rattle.viz_network.specs.declared.edit.Edit.{Edit}
use Rattle.viz_network.specs.declared.refusal.Refusal.{Refusal}
use Rattle.viz_network.specs.Network.{Network}
use Rattle.viz_network.specs.Edits.{apply}

-- the most edits of a batch
abbrev pub batch_limit : ℕ
batch_limit = 64

-- a batch has an edit, and at most 64
pub record IsBatch (edits : List Edit) : Type 0 where
  pub some : 1 ≤ length edits
  pub few : length edits ≤ batch_limit

-- the place in its batch of the first edit that is refused, from 1, and its refusal
abbrev pub BatchRefusal : Type 0
BatchRefusal = ℕ × Refusal

-- what the edits behind make of the network that an edit at this place made, or its refusal
abbrev pub then_all : (Network → Result Network BatchRefusal) → ℕ → Result Network Refusal
    → Result Network BatchRefusal
then_all next index (Ok net) = next net
then_all next index (Err r) = Err (index, r)

-- the edits in order, the first of which has this place in its batch and this position
abbrev pub apply_from : ℕ → ℕ → List Edit → Network → Result Network BatchRefusal
apply_from index at [] net = Ok net
apply_from index at (e ∷ edits) net =
    then_all (apply_from (index + 1) (at + 1) edits) index (apply at e net)

-- what the network is after the edits of a batch, whose first has this position and each other the
-- one behind; or the place and the refusal of the first that is refused
abbrev pub apply_all : ℕ → List Edit → Network → Result Network BatchRefusal
apply_all at edits net = apply_from 1 at edits net
