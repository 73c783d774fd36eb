-- A cache of bounded size that drops the entry used least recently: the list of its entries after
-- each call (docs/DEFINITIONS.md, "Kept parts").
use Rattle.std.specs.Prelude.{◌≡◌, ℕ, ◌-◌, Bool, List, [], ◌∷◌, Option, if◌then◌else◌, take, find}
use Rattle.std.specs.Prelude.{length, option_map, slice_get}
use Rattle.std.specs.List.{list_any}
use Rattle.std.specs.Option.{option_map_or}
use Rattle.viz_parts.specs.declared.request.Part.{Part}
use Rattle.viz_parts.specs.declared.request.Part.TheVariants.{Image, Mesh}
use Rattle.viz_parts.specs.declared.stored.Key.{Key}
use Rattle.viz_parts.specs.declared.stored.Stored.{Stored}
use Rattle.viz_cache.specs.Keys.{same_key}

-- the entries, the most recently used first, and how many there may be at most
pub record CacheData : Type 0 where
  pub entries : List Stored
  pub capacity : ℕ

-- whether an entry has this key
abbrev pub has_key : Key → List Stored → Bool
has_key key entries = list_any (λ e. same_key key e.key) entries

-- the entry of a key
abbrev pub entry_of : Key → List Stored → Option Stored
entry_of key entries = find (λ e. same_key key e.key) entries

-- the entries without that of a key, in order
abbrev pub without : Key → List Stored → List Stored
without key [] = []
without key (e ∷ es) = if same_key key e.key then es else e ∷ without key es

-- the entry of a key goes first; where none has it, all stay as they are
abbrev pub brought_first : Key → List Stored → List Stored
brought_first key entries = option_map_or (λ e. e ∷ without key entries)
    (entry_of key entries) entries

-- an item goes first, in place of the entry of its key; a new key drops the last entry where there
-- are as many as there may be
abbrev pub with_item : ℕ → Stored → List Stored → List Stored
with_item capacity item entries = item ∷ (if has_key item.key entries then without item.key entries
    else take (capacity - 1) entries)

-- the key of the entry that was used least recently
abbrev pub last_key : List Stored → Option Key
last_key entries = option_map (λ e. e.key) (slice_get entries (length entries - 1))

-- the entry of a key has another part, where it stands
abbrev pub replaced : Key → Part → List Stored → List Stored
replaced key part [] = []
replaced key part (e ∷ es) = if same_key key e.key then record { key = e.key; part = part } ∷ es
    else e ∷ replaced key part es

-- a part of no sheets
abbrev pub IsEmptyPart : Part → Type 0
IsEmptyPart (Image image) = ⊥
IsEmptyPart (Mesh sheets) = sheets.items ≡ []

-- the part of a key is given up: its entry stands where it stood, with an empty part
pub record GivesUp (key : Key) (old new : List Stored) : Type 0 where
  pub part : Part
  pub empty : IsEmptyPart part
  pub entries : new ≡ replaced key part old
