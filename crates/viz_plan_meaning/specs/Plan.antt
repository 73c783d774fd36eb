-- What has to be made for requests to a node, and what of the kept is used for it (VTK User's
-- Guide, the executive: a filter executes again only where no kept output serves the request).
use Rattle.std.specs.Prelude.{ℕ, nat_eq, Bool, true, false, ◌||◌, ◌&&◌, cond, List, [], ◌∷◌, ◌++◌}
use Rattle.std.specs.Prelude.{Option, None, Some}

-- what lies upstream of ports, ascending: each port is empty, or fed by the node with this
-- position, which has ports of its own
pub data Upstream : Type 0 where
  none : Upstream
  empty : Upstream → Upstream
  fed : ℕ → Upstream → Upstream → Upstream

-- what feeds the ports
abbrev pub heads : Upstream → List (Option ℕ)
heads none = []
heads (empty others) = None ∷ heads others
heads (fed n own others) = Some n ∷ heads others

-- all nodes upstream of the ports have the property
abbrev pub AllOf : (ℕ → Type 0) → Upstream → Type 0
AllOf Good none = Unit {0}
AllOf Good (empty others) = AllOf Good others
AllOf Good (fed n own others) = Good n × AllOf Good own × AllOf Good others

module _ {R : Type 0} (serves : R → R → Bool) where
  -- whether a need of the node in the list serves the request
  abbrev pub served : List (ℕ × R) → ℕ → R → Bool
  served [] n w = false
  served (x ∷ xs) n w = (nat_eq x.0 n && serves x.1 w) || served xs n w

  -- needs without those that an earlier one of the same node serves; front: all that stand before
  abbrev pub thin : List (ℕ × R) → List (ℕ × R) → List (ℕ × R)
  thin front [] = []
  thin front (x ∷ xs) =
      cond (served front x.0 x.1) (thin (front ++ x ∷ []) xs) (x ∷ thin (front ++ x ∷ []) xs)

-- kept: the entry that serves a request at a node; widen: what the node makes for a request; asks:
-- what it asks its inputs for
module _ {R P : Type 0} (kept : ℕ → R → Option (R × P)) (widen asks : ℕ → R → R) where
  -- nothing where a kept entry serves; else what the inputs need, and then the request itself
  abbrev pub met : Option (R × P) → ℕ → R → (R → List (ℕ × R)) → List (ℕ × R)
  met (Some e) n w up = []
  met None n w up = up (asks n w) ++ (n, w) ∷ []

  -- what is needed for a request to all ports
  abbrev pub needs : Upstream → R → List (ℕ × R)
  needs none r = []
  needs (empty others) r = needs others r
  needs (fed n own others) r = met (kept n (widen n r)) n (widen n r) (needs own) ++ needs others r

  -- the needs of several requests, one after the other
  abbrev pub all_needs : Upstream → List R → List (ℕ × R)
  all_needs c [] = []
  all_needs c (r ∷ rs) = needs c r ++ all_needs c rs

-- the plan of several requests to the ports
abbrev pub plan : {R P : Type 0} → (R → R → Bool) → (ℕ → R → Option (R × P)) → (ℕ → R → R)
    → (ℕ → R → R) → Upstream → List R → List (ℕ × R)
plan serves kept widen asks c rs = thin serves [] (all_needs kept widen asks c rs)

-- ---- the entries that are used

module _ {R : Type 0} (same : R → R → Bool) where
  -- whether the list has the request at the node
  abbrev pub has : List (ℕ × R) → ℕ → R → Bool
  has [] n w = false
  has (x ∷ xs) n w = (nat_eq x.0 n && same x.1 w) || has xs n w

  -- with one more, unless it is there
  abbrev pub add : List (ℕ × R) → ℕ → R → List (ℕ × R)
  add s n w = cond (has s n w) s (s ++ (n, w) ∷ [])

  -- with all of a list, each once, in the order of their first occurrences
  abbrev pub nub : List (ℕ × R) → List (ℕ × R) → List (ℕ × R)
  nub s [] = s
  nub s (x ∷ xs) = nub (add s x.0 x.1) xs

  module _ {P : Type 0} (kept : ℕ → R → Option (R × P)) (widen asks : ℕ → R → R) where
    -- the entry that serves, or those that the inputs use
    abbrev pub met_entry : Option (R × P) → ℕ → List (ℕ × R) → List (ℕ × R)
    met_entry (Some e) n up = (n, e.0) ∷ []
    met_entry None n up = up

    -- the entries that are met, also those under a need that is left out later
    abbrev pub entries : Upstream → R → List (ℕ × R)
    entries none r = []
    entries (empty others) r = entries others r
    entries (fed n own others) r =
        met_entry (kept n (widen n r)) n (entries own (asks n (widen n r))) ++ entries others r

    abbrev pub all_entries : Upstream → List R → List (ℕ × R)
    all_entries c [] = []
    all_entries c (r ∷ rs) = entries c r ++ all_entries c rs

    -- the entries that several requests use, each once, in the order of their first use
    abbrev pub used : Upstream → List R → List (ℕ × R)
    used c rs = nub [] (all_entries c rs)
