-- How made parts are taken in and overtaken ones given up, and which parts are kept then
-- (docs/DEFINITIONS.md, "Kept parts").
use Rattle.std.specs.Prelude.{◌≡◌, ℕ, Bool, true, false, not, ◌&&◌, leb, nat_eq, if◌then◌else◌}
use Rattle.std.specs.Prelude.{List, [], ◌∷◌, length, filter, count_by}
use Rattle.std.specs.Option.{option_map_or}
use Rattle.viz_parts.specs.declared.stored.Key.{Key}
use Rattle.viz_parts.specs.declared.stored.Stored.{Stored}
use Rattle.viz_cache.specs.Cache.{brought_first, with_item, IsEmptyPart}
use Rattle.viz_network.specs.Cone.{stamp_of}
use Rattle.viz_network.specs.Network.{Network}
use Rattle.viz_history.specs.declared.publishing.Kept.{Kept}

-- the entries of the keys go first, one after the other
abbrev pub all_brought : List Key → List Stored → List Stored
all_brought [] entries = entries
all_brought (key ∷ keys) entries = all_brought keys (brought_first key entries)

-- the items go first, one after the other
abbrev pub with_all : ℕ → List Stored → List Stored → List Stored
with_all capacity [] entries = entries
with_all capacity (item ∷ items) entries = with_all capacity items (with_item capacity item entries)

-- whether the node of a key is in the network with another stamp, or gone
abbrev pub is_lost : Network → Key → Bool
is_lost net key = not (option_map_or (nat_eq key.stamp) (stamp_of net key.node.0) false)

-- whether the node of a part is in the network with another stamp, or gone
abbrev pub is_stale : Network → Stored → Bool
is_stale net item = is_lost net item.key

-- those that aren't stale
abbrev pub current : Network → List Stored → List Stored
current net made = filter (λ item. not (is_stale net item)) made

-- those for which there was memory
abbrev pub with_room : List Bool → List Stored → List Stored
with_room [] items = []
with_room (room ∷ rooms) [] = []
with_room (room ∷ rooms) (item ∷ items) =
    if room then item ∷ with_room rooms items else with_room rooms items

-- the made parts are taken in: a stale one is dropped, and each other goes first if there was
-- memory
pub record TakesIn (net : Network) (capacity : ℕ) (made old : List Stored) (count : Kept)
    (new : List Stored) : Type 0 where
  pub rooms : List Bool
  pub matched : length rooms ≡ length (current net made)
  pub entries : new ≡ with_all capacity (with_room rooms (current net made)) old
  pub kept : count.kept ≡ count_by (λ room. room) rooms
  pub unkept : count.unkept ≡ count_by not rooms
  pub stale : count.stale ≡ count_by (is_stale net) made

-- whether the stamp of a key is lost in the network of a history of so many entries, and isn't past
-- it, so that it never comes back
abbrev pub is_overtaken : Network → ℕ → Key → Bool
is_overtaken net at key = is_lost net key && leb key.stamp at

-- an entry once overtaken parts are given up: the same, or, where it is overtaken, its key with an
-- empty part
pub record KeepsPlace (net : Network) (at : ℕ) (old new : Stored) : Type 0 where
  pub key : new.key ≡ old.key
  pub kept : is_overtaken net at old.key ≡ false → new ≡ old
  pub empty : is_overtaken net at old.key ≡ true → IsEmptyPart new.part

-- overtaken parts are given up: as many entries in the same order, each of which keeps its place
abbrev pub GivesOvertakenUp : Network → ℕ → List Stored → List Stored → Type 0
GivesOvertakenUp net at [] [] = Unit {0}
GivesOvertakenUp net at [] (d ∷ new) = ⊥
GivesOvertakenUp net at (e ∷ old) [] = ⊥
GivesOvertakenUp net at (e ∷ old) (d ∷ new) = KeepsPlace net at e d
    × GivesOvertakenUp net at old new
