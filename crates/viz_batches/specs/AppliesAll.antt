-- What a call of apply_all answers.
use Rattle.std.specs.Prelude.{◌≡◌, ℕ, ◌<◌, List, [], ◌∷◌, All, Result, Ok, Err}
use Rattle.viz_network.specs.declared.edit.Edit.{Edit}
use Rattle.viz_network.specs.declared.edit.Edit.TheVariants.{Set}
use Rattle.viz_network.specs.Network.{Network}
use Rattle.viz_network.specs.Applies.{MayTakeMemory}
use Rattle.viz_network.specs.EqualStamps.{IsSound}
use Rattle.viz_batches.specs.declared.stop.BatchStop.{BatchStop}
use Rattle.viz_batches.specs.declared.stop.BatchStop.TheVariants.{Refused, Memory}
use Rattle.viz_batches.specs.Batches.{BatchRefusal}

-- the network is one of a history, whose positions are all before this one
pub record IsSoundBefore (at : ℕ) (net : Network) : Type 0 where
  pub last : ℕ
  pub past : last < at
  pub sound : IsSound last net

-- the network is the one that the batch makes; or the batch is refused so, or memory ran out, and
-- nothing changed
abbrev pub AppliesAll : Result (Unit {0}) BatchStop → Network → Network
    → Result Network BatchRefusal → Type 0
AppliesAll (Ok done) old new made = made ≡ Ok new
AppliesAll (Err (Refused index r)) old new made = (made ≡ Err (index, r)) × (new ≡ old)
AppliesAll (Err Memory) old new made = new ≡ old

-- the edit gives a parameter a value
abbrev pub IsSet : Edit → Type 0
IsSet (Set node param value) = Unit {0}
IsSet e = ⊥

-- a batch that may take memory: one edit that may; or several, of which not each is a Set
abbrev pub MayTakeMemoryAll : List Edit → Type 0
MayTakeMemoryAll [] = ⊥
MayTakeMemoryAll (e ∷ []) = MayTakeMemory e
MayTakeMemoryAll edits = All IsSet edits → ⊥
