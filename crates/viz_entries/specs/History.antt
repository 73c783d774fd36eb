-- The edit history of a network: who made which accepted batch (docs/DEFINITIONS.md, "Histories").
use Rattle.std.specs.Prelude.{◌≡◌, ℕ, ◌+◌, List, [], ◌∷◌, ◌++◌, length, flat_map, Result, IsOk}
use Rattle.viz_turn.specs.Tales.{entries_of}
use Rattle.viz_network.specs.declared.edit.Edit.{Edit}
use Rattle.viz_network.specs.Network.{Network}
use Rattle.viz_network.specs.History.{net_of}
use Rattle.viz_batches.specs.Batches.{IsBatch, BatchRefusal, apply_all}
use Rattle.viz_entries.specs.declared.entry.Entry.{Entry}

-- the entry of a pass's batch, which has this number among those of the pass
abbrev pub entry : ℕ → ℕ → List Edit → Entry
entry pass count batch = record { pass = pass; count = count; batch = batch }

-- the number of the pass that made an entry
abbrev pub by_of : Entry → ℕ
by_of e = e.pass

-- the edits of a history, in order: their positions count from 1 through all entries
abbrev pub edits_of : List Entry → List Edit
edits_of h = flat_map (λ e. e.batch) h

-- the network of a history
abbrev pub network_of : List Entry → Network
network_of h = net_of (edits_of h)

-- what a batch behind a history comes to: its first position is that behind all edits of the
-- history
abbrev pub apply_behind : List Entry → List Edit → Result Network BatchRefusal
apply_behind h batch = apply_all (length (edits_of h) + 1) batch (network_of h)

-- the entries of a pass, in order
abbrev pub own_of : ℕ → List Entry → List Entry
own_of pass h = entries_of by_of (pass ∷ []) h

-- the number that the next entry of a pass has among those of the pass
abbrev pub next : ℕ → List Entry → ℕ
next pass h = length (own_of pass h) + 1

-- the entry is a batch that the network of the entries before accepts, and its count is the next of
-- its pass
pub record IsNext (before : List Entry) (e : Entry) : Type 0 where
  pub batch : IsBatch e.batch
  pub accepted : IsOk (apply_behind before e.batch)
  pub counted : e.count ≡ next e.pass before

-- each entry is a next one behind these and those in front of it
abbrev pub IsLegalAfter : List Entry → List Entry → Type 0
IsLegalAfter before [] = Unit {0}
IsLegalAfter before (e ∷ es) = IsNext before e × IsLegalAfter (before ++ e ∷ []) es

-- each entry is a next one behind those in front of it
abbrev pub IsLegal : List Entry → Type 0
IsLegal h = IsLegalAfter [] h

-- the entries have these counts, one more each
abbrev pub AreCountedFrom : ℕ → List Entry → Type 0
AreCountedFrom n [] = Unit {0}
AreCountedFrom n (e ∷ es) = (e.count ≡ n) × AreCountedFrom (n + 1) es
