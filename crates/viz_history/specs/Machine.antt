-- The machine of a history: what each call replies, and what the history is then
-- (docs/DEFINITIONS.md, "Histories").
use Rattle.std.specs.Prelude.{◌≡◌, ℕ, ◌+◌, ◌<◌, ◌≤◌, List, [], ◌∷◌, ◌++◌, length, Ok, Err}
use Rattle.viz_parts.specs.declared.stored.Key.{Key}
use Rattle.viz_parts.specs.declared.stored.Stored.{Stored}
use Rattle.viz_network.specs.declared.edit.Edit.{Edit}
use Rattle.viz_entries.specs.declared.entry.Entry.{Entry}
use Rattle.viz_history.specs.declared.answer.EditAnswer.{EditAnswer}
use Rattle.viz_history.specs.declared.answer.EditAnswer.TheVariants.{Done, Refused, Full, Memory}
use Rattle.viz_history.specs.declared.pinned.Pinned.{Pinned}
use Rattle.viz_history.specs.declared.publishing.Kept.{Kept}
use Rattle.viz_entries.specs.History.{entry, edits_of, network_of, apply_behind}
use Rattle.viz_history.specs.Publishing.{TakesIn, GivesOvertakenUp, all_brought}

-- the history, the most entries that it may have, the most parts that may be kept, the kept parts
-- with the most recently used first, and for how many entries there is room
pub record State : Type 0 where
  pub history : List Entry
  pub limit : ℕ
  pub capacity : ℕ
  pub cache : List Stored
  pub spare : ℕ

-- no entry and no part
pub record IsFirst (limit capacity : ℕ) (s : State) : Type 0 where
  pub history : s.history ≡ []
  pub limit_is : s.limit ≡ limit
  pub capacity_is : s.capacity ≡ capacity
  pub cache : s.cache ≡ []

-- all is as before, and no less room
pub record Stays (old new : State) : Type 0 where
  pub history : new.history ≡ old.history
  pub limit : new.limit ≡ old.limit
  pub capacity : new.capacity ≡ old.capacity
  pub cache : new.cache ≡ old.cache
  pub spare : old.spare ≤ new.spare

-- the history has this entry more, and there is room for one entry less at most
pub record Gains (e : Entry) (old new : State) : Type 0 where
  pub history : new.history ≡ old.history ++ e ∷ []
  pub limit : new.limit ≡ old.limit
  pub capacity : new.capacity ≡ old.capacity
  pub cache : new.cache ≡ old.cache
  pub spare : old.spare ≤ new.spare + 1

-- what a batch of a pass, with this number among the pass's, is answered, and the state then
abbrev pub Replies : ℕ → ℕ → List Edit → State → EditAnswer → State → Type 0
Replies pass count batch old (Done at) new = Gains (entry pass count batch) old new
    × (at ≡ length old.history + 1) × (length old.history < old.limit)
    × (apply_behind old.history batch ≡ Ok (network_of new.history))
Replies pass count batch old (Refused index r at) new = Stays old new × (at ≡ length old.history)
    × (length old.history < old.limit)
    × (apply_behind old.history batch ≡ Err (index, r))
Replies pass count batch old (Full at) new = Stays old new × (at ≡ old.limit)
    × (length old.history ≡ old.limit)
Replies pass count batch old Memory new = Stays old new × (length old.history < old.limit)

-- the number of entries, the network of the history, and all kept parts
pub record IsPinOf (s : State) (p : Pinned) : Type 0 where
  pub at : p.at ≡ length s.history
  pub network : p.net ≡ network_of s.history
  pub entries : p.entries ≡ s.cache

-- the used parts go first, then the made ones are taken in, and then overtaken ones are given up;
-- all else is as before, no less room
pub record Publishes (used : List Key) (made : List Stored) (old : State) (count : Kept)
    (new : State) : Type 0 where
  pub history : new.history ≡ old.history
  pub limit : new.limit ≡ old.limit
  pub capacity : new.capacity ≡ old.capacity
  pub spare : old.spare ≤ new.spare
  pub taken : List Stored
  pub takes : TakesIn (network_of old.history) old.capacity made (all_brought used old.cache) count
      taken
  pub gives_up : GivesOvertakenUp (network_of old.history) (length (edits_of old.history)) taken
      new.cache
