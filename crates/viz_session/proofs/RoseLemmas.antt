-- The first port is one of all, and no count rises that never does.
use Rattle.std.proofs.Common.{◌≡◌, List, [], ◌∷◌, inl, inr}
use Rattle.std.specs.Prelude.{◌⊎◌}
use Rattle.viz_base.specs.Faults.{Rose}
use Rattle.viz_base.specs.declared.port.Port as port
use Rattle.viz_actor.specs.Promises.{SomeRose}
use Rattle.viz_told.specs.Ports.{FirstRose}
use Rattle.viz_session.specs.Complete.{NeverRises}

pub some_of_first : {P : Type 0} (m : port.Ghosts P) (old new : List P) → FirstRose m old new → SomeRose m old new
some_of_first m [] new r = absurd r
some_of_first m (p ∷ ps) [] r = absurd r
some_of_first m (p ∷ ps) (q ∷ qs) r = inl r.0

module _ {P : Type 0} (m : port.Ghosts P) (never : NeverRises m.faults) where
  pub none_rose : (old new : List P) → SomeRose m old new → ⊥
  none_rose [] new r = r
  none_rose (p ∷ ps) [] r = r
  none_rose (p ∷ ps) (q ∷ qs) (inl r) = never p q r
  none_rose (p ∷ ps) (q ∷ qs) (inr r) = none_rose ps qs r

  -- of desk, ports and output
  pub none_of_all : (Out : Type 0) → (Out → ⊥) → (desk new_desk : P) (old new : List P) → Rose (m.faults desk) (m.faults new_desk) ⊎ (SomeRose m old new ⊎ Out) → ⊥
  none_of_all Out quiet desk new_desk old new (inl r) = never desk new_desk r
  none_of_all Out quiet desk new_desk old new (inr (inl r)) = none_rose old new r
  none_of_all Out quiet desk new_desk old new (inr (inr r)) = quiet r

  -- of desk, first port and output
  pub none_of_three : (Out : Type 0) → (Out → ⊥) → (desk new_desk : P) (old new : List P) → Rose (m.faults desk) (m.faults new_desk) ⊎ (FirstRose m old new ⊎ Out) → ⊥
  none_of_three Out quiet desk new_desk old new (inl r) = never desk new_desk r
  none_of_three Out quiet desk new_desk old new (inr (inl r)) = none_rose old new (some_of_first m old new r)
  none_of_three Out quiet desk new_desk old new (inr (inr r)) = quiet r

  -- of first port and output
  pub none_of_two : (Out : Type 0) → (Out → ⊥) → (old new : List P) → FirstRose m old new ⊎ Out → ⊥
  none_of_two Out quiet old new (inl r) = none_rose old new (some_of_first m old new r)
  none_of_two Out quiet old new (inr r) = quiet r
