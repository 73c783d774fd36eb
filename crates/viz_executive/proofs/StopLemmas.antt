-- Stops of an update.
use Rattle.std.proofs.Common.{ℕ, Result, Ok, Err, IfErr, refl}
use Rattle.viz_dataset.specs.declared.dataset.Dataset.{Dataset}
use Rattle.viz_inform.specs.Informed.{IsFirstFault}
use Rattle.viz_network.specs.Network.{Network}
use Rattle.viz_network.specs.declared.fault.Stop.{Stop}
use Rattle.viz_network.specs.declared.fault.Stop.TheVariants as stop
use Rattle.viz_node_meaning.specs.Scratch.{Answers, IsScratch}
use Rattle.viz_executive.specs.Produced.{IsScratchStop}

one_stop : (net : Network) (id : ℕ) (s : Stop) → IsFirstFault net id s → IsScratchStop net id s
one_stop net id (stop.Fault fault) h = (Err fault, h, refl)
one_stop net id stop.Memory h = tt

pub first_fault : {X : Type 0} (net : Network) (id : ℕ) (r : Result X Stop)
    → IfErr r (IsFirstFault net id) → IfErr r (IsScratchStop net id)
first_fault net id (Ok x) h = tt
first_fault net id (Err s) h = one_stop net id s h

pub scratch_stop : (net : Network) (id : ℕ) (s : Stop)
    → Answers {X = Dataset} (IsScratch net id) (Err s) → IsScratchStop net id s
scratch_stop net id (stop.Fault fault) h = h
scratch_stop net id stop.Memory h = tt
