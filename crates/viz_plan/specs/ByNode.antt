-- What is told and kept, in lists that are found by nodes. Only private contracts and proofs speak
-- of it.
use Rattle.std.specs.Prelude.{◌≡◌, ℕ, nat_eq, Bool, ◌&&◌, cond, List, [], ◌∷◌, map, filter, Option}
use Rattle.std.specs.Prelude.{None}
use Rattle.viz_extent.specs.Extent.{Bounds}
use Rattle.viz_inform.specs.declared.told.Told.{Told}
use Rattle.viz_network.specs.Network.{Network}
use Rattle.viz_parts.specs.declared.request.Request.{Request}
use Rattle.viz_parts.specs.declared.stored.Stored.{Stored}
use Rattle.viz_plan_meaning.specs.Known.{is_stamp}
use Rattle.viz_plan.specs.Sites.{IsSite}
use Rattle.viz_plan.specs.Told.{extent_of, known_with}
use Rattle.viz_plan.specs.declared.by_node.Entry.{Entry}
use Rattle.viz_plan.specs.declared.by_node.Shown.{Shown}
use Rattle.viz_plan.specs.declared.sites.Site.{Site}

-- a node that is told, with the extent of its image
abbrev pub shown_of : Told → Shown
shown_of t = record { node = t.node; extent = extent_of t.information }

-- what a part is kept under
abbrev pub entry_of : Stored → Entry
entry_of e = record { key = e.key }

-- the extent of a node's image
abbrev pub extent_shown : List Shown → ℕ → Option Bounds
extent_shown [] id = None
extent_shown (s ∷ shown) id = cond (nat_eq s.node.0 id) s.extent (extent_shown shown id)

-- whether an entry is of the node with its stamp
abbrev pub is_present_entry : Option ℕ → ℕ → Entry → Bool
is_present_entry stamp id e = nat_eq e.key.node.0 id && is_stamp stamp e.key.stamp

-- the requests of those
abbrev pub present_in : Option ℕ → ℕ → List Entry → List Request
present_in stamp id entries = map (λ e. e.key.request) (filter (is_present_entry stamp id) entries)

-- what is known of a node, where the lists are those of what is told and kept
abbrev pub IsFoundSite : Network → List Shown → List Entry → ℕ → Site → Type 0
IsFoundSite net shown entries id site =
    (told : List Told) (stored : List Stored) → shown ≡ map shown_of told
    → entries ≡ map entry_of stored
    → IsSite (known_with net told stored) id site
