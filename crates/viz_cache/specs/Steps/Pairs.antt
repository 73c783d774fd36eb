-- How a cache is kept: as pairs of keys and parts, where a part may have been given up. Only its
-- type speaks of it.
use Rattle.std.specs.Prelude.{List, Option, None, Some, map}
use Rattle.lru.specs.LruCache.{LruCache}
use Rattle.viz_parts.specs.declared.request.Part.{Part}
use Rattle.viz_parts.specs.declared.stored.Key.{Key}
use Rattle.viz_parts.specs.declared.stored.Stored.{Stored}
use Rattle.viz_cache.specs.Cache.{CacheData}

-- what stands for a part, with the empty one for a part that was given up
abbrev pub shown : Part → Option Part → Part
shown empty None = empty
shown empty (Some part) = part

-- the item that a pair is
abbrev pub stored_of : Part → Key × Option Part → Stored
stored_of empty pair = record { key = pair.0; part = shown empty pair.1 }

-- the items that pairs are
abbrev pub items_of : Part → List (Key × Option Part) → List Stored
items_of empty pairs = map (stored_of empty) pairs

-- what is seen of the pairs
abbrev pub data_of : Part → LruCache Key (Option Part) → CacheData
data_of empty held = record { entries = items_of empty held.entries; capacity = held.cap }
