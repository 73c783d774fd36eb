-- How overtaken parts are given up, entry by entry from the last one on. Only private contracts and
-- proofs speak of it.
use Rattle.std.specs.Prelude.{◌≡◌, ℕ, Bool, true, false, List, ◌∷◌, ◌++◌, take, drop}
use Rattle.viz_parts.specs.declared.stored.Key.{Key}
use Rattle.viz_parts.specs.declared.stored.Stored.{Stored}
use Rattle.viz_cache.specs.Cache.{GivesUp}
use Rattle.viz_network.specs.Network.{Network}
use Rattle.viz_history.specs.Publishing.{KeepsPlace, GivesOvertakenUp}

-- the part of a key is given up if so told, and else all is as it was
abbrev pub GivesUpIf : Bool → Key → List Stored → List Stored → Type 0
GivesUpIf true key old new = GivesUp key old new
GivesUpIf false key old new = new ≡ old

-- the last entry goes first, and its part is given up if it is overtaken
pub record PassesOver (net : Network) (at : ℕ) (front : List Stored) (last : Stored)
    (new : List Stored) : Type 0 where
  pub entry : Stored
  pub place : KeepsPlace net at last entry
  pub entries : new ≡ entry ∷ front

-- all but the first so many were passed over, and stand in front of those
pub record HasPassed (net : Network) (at left : ℕ) (old new : List Stored) : Type 0 where
  pub front : List Stored
  pub given : GivesOvertakenUp net at (drop left old) front
  pub entries : new ≡ front ++ take left old
