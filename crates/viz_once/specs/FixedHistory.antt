-- The fixed history of a command of one file whose filter is a node: a source, and the filter behind it
-- (docs/DEFINITIONS.md, "The fixed history of one file").
use Rattle.std.specs.Prelude.{◌≡◌, ℕ, ℤ, pos, int_le, Bool, true, ◌&&◌, List, [], ◌∷◌, replicate}
use Rattle.std.specs.Prelude.{codes, nat_eq, if◌then◌else◌}
use Rattle.viz_entries.specs.declared.entry.Entry.{Entry}
use Rattle.viz_entries.specs.History.{entry, network_of}
use Rattle.viz_kinds.specs.declared.kind.Kind.{Kind}
use Rattle.viz_kinds.specs.declared.kind.Kind.TheVariants as kind
use Rattle.viz_kinds.specs.declared.param.Param.{Param}
use Rattle.viz_kinds.specs.declared.param.Param.TheVariants as param
use Rattle.viz_kinds.specs.declared.param.Value.{Value}
use Rattle.viz_kinds.specs.declared.param.Value.TheVariants.{Numbers}
use Rattle.viz_kinds.specs.Values.{first_number, last_number}
use Rattle.viz_network.specs.declared.edit.Edit.TheVariants.{Add, Load, Connect, Set}
use Rattle.viz_network.specs.Network.{Network}
use Rattle.viz_once.specs.declared.command.NodeFilter.{NodeFilter}
use Rattle.viz_once.specs.declared.command.NodeFilter.TheVariants.{Threshold, Contour}

-- ---- the history

-- the name of the source
abbrev pub source : List ℕ
source = codes "src"

-- the name of the filter's node
abbrev pub op : List ℕ
op = codes "op"

-- the kind of the filter's node
abbrev pub kind_of : NodeFilter → Kind
kind_of (Threshold lo hi) = kind.Threshold
kind_of (Contour level) = kind.Contour

-- the parameter that has the filter's numbers
abbrev pub param_of : NodeFilter → Param
param_of (Threshold lo hi) = param.Range
param_of (Contour level) = param.Levels

-- the filter's numbers as the value of that parameter
abbrev pub value_of : NodeFilter → Value
value_of (Threshold lo hi) = Numbers 2 (lo ∷ hi ∷ replicate 6 (pos 0))
value_of (Contour level) = Numbers 1 (level ∷ replicate 7 (pos 0))

-- a number of 64 bits
abbrev pub fits_i64 : ℤ → Bool
fits_i64 n = int_le first_number n && int_le n last_number

-- the filter's numbers are of 64 bits, as those of words are
abbrev pub HasNumbers : NodeFilter → Type 0
HasNumbers (Threshold lo hi) = (fits_i64 lo ≡ true) × (fits_i64 hi ≡ true)
HasNumbers (Contour level) = fits_i64 level ≡ true

-- the source and its file, the filter's node behind it, and the filter's numbers, each a batch of
-- one by the first pass
abbrev pub history_of : NodeFilter → List ℕ → List Entry
history_of filter bytes =
    entry 0 1 (Add kind.File source ∷ []) ∷ entry 0 2 (Load source bytes ∷ [])
    ∷ entry 0 3 (Add (kind_of filter) op ∷ []) ∷ entry 0 4 (Connect source op 1 ∷ [])
    ∷ entry 0 5 (Set op (param_of filter) (value_of filter) ∷ []) ∷ []

-- the network of the fixed history
abbrev pub network_for : NodeFilter → List ℕ → Network
network_for filter bytes = network_of (history_of filter bytes)

-- the positions of the two Adds, which number the nodes
abbrev pub source_id : ℕ
source_id = 1

abbrev pub op_id : ℕ
op_id = 3

-- the name of the node of a number: the source's, or the other's
abbrev pub name_at : ℕ → List ℕ
name_at id = if nat_eq id source_id then source else op
