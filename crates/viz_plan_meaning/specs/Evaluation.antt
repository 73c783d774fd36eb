-- The evaluation of tasks in an order, each from kept parts and from those of earlier tasks (VTK
-- User's Guide, the executive: the data pass).
use Rattle.std.specs.Prelude.{◌≡◌, ℕ, nat_eq, Bool, true, false, ◌||◌, ◌&&◌, cond, ◌⊎◌, List, []}
use Rattle.std.specs.Prelude.{◌∷◌, ◌++◌, map, Option, None, Some, Result, Ok, Err}
use Rattle.viz_plan_meaning.specs.Plan.{Upstream, none, empty, fed, served}

-- ---- tasks that find what they ask for

module _ {R P : Type 0} (serves : R → R → Bool) (kept : ℕ → R → Option (R × P))
    (widen asks : ℕ → R → R) (inputs : ℕ → List (Option ℕ)) (Good : ℕ → Type 0) where
  -- an entry or a need in front serves the request
  abbrev pub IsMet : List (ℕ × R) → ℕ → R → Type 0
  IsMet front n r =
      ((e : R × P) × (kept n (widen n r) ≡ Some e)) ⊎ (served serves front n (widen n r) ≡ true)

  -- so for each input
  abbrev pub AllMet : List (ℕ × R) → R → List (Option ℕ) → Type 0
  AllMet front r [] = Unit {0}
  AllMet front r (None ∷ is) = AllMet front r is
  AllMet front r (Some i ∷ is) = IsMet front i r × AllMet front r is

  -- so for each of several requests
  abbrev pub AllAsked : List (ℕ × R) → List R → List (Option ℕ) → Type 0
  AllAsked front [] is = Unit {0}
  AllAsked front (r ∷ rs) is = AllMet front r is × AllAsked front rs is

  -- each need is one of a good node, and finds what it asks for before itself
  abbrev pub Ready : List (ℕ × R) → List (ℕ × R) → Type 0
  Ready front [] = Unit {0}
  Ready front (x ∷ xs) =
      Good x.0 × AllMet front (asks x.0 x.1) (inputs x.0) × Ready (front ++ x ∷ []) xs

-- ---- parts

-- restrict: the part for a request, cut from another; run: what a node makes for a request of the
-- parts at its ports
module _ {R P F : Type 0} (serves : R → R → Bool) (kept : ℕ → R → Option (R × P))
    (widen asks : ℕ → R → R) (inputs : ℕ → List (Option ℕ))
    (restrict : R × P → R → P) (run : ℕ → R → List (Option P) → Result P F) where
  -- the first part of the node that serves
  abbrev pub first_serving : List ((ℕ × R) × P) → ℕ → R → Option (R × P)
  first_serving [] n w = None
  first_serving (x ∷ xs) n w =
      cond (nat_eq x.0.0 n && serves x.0.1 w) (Some (x.0.1, x.1)) (first_serving xs n w)

  abbrev pub or_else : Option (R × P) → Option (R × P) → Option (R × P)
  or_else (Some e) o = Some e
  or_else None o = o

  abbrev pub cut_to : R → Option (R × P) → Option P
  cut_to r None = None
  cut_to r (Some e) = Some (restrict e r)

  -- the part for a request: of an entry that serves, or else of the first task that does
  abbrev pub got : List ((ℕ × R) × P) → ℕ → R → Option P
  got table n r = cut_to r (or_else (kept n (widen n r)) (first_serving table n (widen n r)))

  -- what the ports are given
  abbrev pub gathered : List ((ℕ × R) × P) → R → List (Option ℕ) → List (Option P)
  gathered table r [] = []
  gathered table r (None ∷ is) = None ∷ gathered table r is
  gathered table r (Some i ∷ is) = got table i r ∷ gathered table r is

  abbrev pub after : (P → Result (List ((ℕ × R) × P)) F) → Result P F
      → Result (List ((ℕ × R) × P)) F
  after next (Err e) = Err e
  after next (Ok p) = next p

  -- the tasks in order, each from the entries and the tasks before it
  abbrev pub evaluated : List ((ℕ × R) × P) → List (ℕ × R) → Result (List ((ℕ × R) × P)) F
  evaluated table [] = Ok table
  evaluated table (x ∷ xs) =
      after (λ p. evaluated (table ++ (x, p) ∷ []) xs)
      (run x.0 x.1 (gathered table (asks x.0 x.1) (inputs x.0)))

-- what tasks have parts
abbrev pub keys : {R P : Type 0} → List ((ℕ × R) × P) → List (ℕ × R)
keys t = map (λ x. x.0) t

-- ---- true parts

module _ {R P : Type 0} (IsTrue : ℕ → R → P → Type 0) where
  -- the ports have true parts of what was asked
  abbrev pub IsFed : R → List (Option ℕ) → List (Option P) → Type 0
  IsFed r [] ps = ps ≡ []
  IsFed r (None ∷ is) ps = (qs : List (Option P)) × (ps ≡ None ∷ qs) × IsFed r is qs
  IsFed r (Some i ∷ is) ps =
      (p : P) × (qs : List (Option P)) × (ps ≡ Some p ∷ qs) × IsTrue i r p × IsFed r is qs

  -- all parts are true
  abbrev pub AllTrue : List ((ℕ × R) × P) → Type 0
  AllTrue [] = Unit {0}
  AllTrue (x ∷ xs) = IsTrue x.0.0 x.0.1 x.1 × AllTrue xs

-- what a node makes is true, or the node faults
abbrev pub Gives : {R P F : Type 0} → (ℕ → R → P → Type 0) → (ℕ → F → Type 0) → ℕ → R → Result P F
    → Type 0
Gives IsTrue Faults n w (Ok p) = IsTrue n w p
Gives IsTrue Faults n w (Err e) = Faults n e

-- ---- what is produced

module _ {R P F : Type 0} (serves : R → R → Bool) (kept : ℕ → R → Option (R × P))
    (widen asks : ℕ → R → R) (inputs : ℕ → List (Option ℕ))
    (restrict : R × P → R → P) (run : ℕ → R → List (Option P) → Result P F)
    (IsTrue : ℕ → R → P → Type 0) where
  -- the ports have true parts of each request
  abbrev pub AllFed : List ((ℕ × R) × P) → List R → List (Option ℕ) → Type 0
  AllFed t [] is = Unit {0}
  AllFed t (r ∷ rs) is =
      IsFed IsTrue r is (gathered serves kept widen asks inputs restrict run t r is)
      × AllFed t rs is

  -- one true part for each task, and true parts of all requests to the ports; or a fault of a good
  -- node
  abbrev pub Produces : (ℕ → Type 0) → (ℕ → F → Type 0) → List (ℕ × R) → List R → List (Option ℕ)
      → Result (List ((ℕ × R) × P)) F → Type 0
  Produces Good Faults xs rs is (Ok u) = (keys u ≡ xs) × AllTrue IsTrue u × AllFed u rs is
  Produces Good Faults xs rs is (Err e) = (n : ℕ) × Good n × Faults n e

-- ---- faults

-- a way from the ports to the node, through spoilt nodes
abbrev pub Leads : (ℕ → Type 0) → ℕ → Upstream → Type 0
Leads Spoilt n none = ⊥
Leads Spoilt n (empty c) = Leads Spoilt n c
Leads Spoilt n (fed m own c) = (Spoilt m × ((m ≡ n) ⊎ Leads Spoilt n own)) ⊎ Leads Spoilt n c

module _ {R P : Type 0} (IsTrue : ℕ → R → P → Type 0) (Stems : R → R → Type 0) where
  -- for each request the node has a true part of one that stems from it
  abbrev pub AllShown : ℕ → List R → Type 0
  AllShown n [] = Unit {0}
  AllShown n (r ∷ rs) = ((w : R) × (p : P) × Stems r w × IsTrue n w p) × AllShown n rs
