-- What the steps of a batch answer.
use Rattle.std.specs.Prelude.{◌≡◌, ℕ, Result, Ok, Err}
use Rattle.viz_network.specs.declared.refusal.Refusal.{Refusal}
use Rattle.viz_network.specs.Network.{Network}
use Rattle.viz_batches.specs.declared.stop.BatchStop.{BatchStop}
use Rattle.viz_batches.specs.declared.stop.BatchStop.TheVariants.{Refused, Memory}
use Rattle.viz_batches.specs.Batches.{BatchRefusal}

-- the network is the one that the edit makes; or the edit, at this place of its batch, is refused
-- so, or memory ran out, and nothing changed
abbrev pub MakesOne : ℕ → Result (Unit {0}) BatchStop → Network → Network → Result Network Refusal
    → Type 0
MakesOne index (Ok done) old new made = made ≡ Ok new
MakesOne index (Err (Refused place r)) old new made = (place ≡ index) × (made ≡ Err r) × (new ≡ old)
MakesOne index (Err Memory) old new made = new ≡ old

-- the network is the one that the edits make; or they are refused so, or memory ran out, and the
-- network is any
abbrev pub Makes : Result (Unit {0}) BatchStop → Network → Result Network BatchRefusal → Type 0
Makes (Ok done) new made = made ≡ Ok new
Makes (Err (Refused index r)) new made = made ≡ Err (index, r)
Makes (Err Memory) new made = Unit {0}
