-- Levels of tasks: the tasks of one level need only tasks of lower levels (VTK User's Guide, the
-- executive: the order of execution).
use Rattle.std.specs.Prelude.{◌≡◌, ℕ, zero, suc, ◌<◌, max, nat_eq, Bool, true, ◌&&◌, cond, ◌⊎◌}
use Rattle.std.specs.Prelude.{List, [], ◌∷◌, ◌++◌, filter, map, Option, None, Some}
use Rattle.viz_plan_meaning.specs.Plan.{served}

-- tasks, each with its level
abbrev pub Tasks : Type 0 → Type 0
Tasks R = List ((ℕ × R) × ℕ)

-- without their levels
abbrev pub needs_of : {R : Type 0} → Tasks R → List (ℕ × R)
needs_of t = map (λ x. x.0) t

-- the tasks of a level
abbrev pub at_level : {R : Type 0} → ℕ → Tasks R → Tasks R
at_level k t = filter (λ x. nat_eq x.1 k) t

-- the tasks of the levels below, level by level
abbrev pub by_level : {R : Type 0} → ℕ → Tasks R → Tasks R
by_level zero t = []
by_level (suc k) t = by_level k t ++ at_level k t

-- all levels are below
abbrev pub AllUnder : {R : Type 0} → ℕ → Tasks R → Type 0
AllUnder k [] = Unit {0}
AllUnder k (x ∷ t) = (x.1 < k) × AllUnder k t

module _ {R : Type 0} (serves : R → R → Bool) where
  -- one more than the level of the first task of the node that serves the request; 0 where none
  -- does
  abbrev pub above_first : Tasks R → ℕ → R → ℕ
  above_first [] n w = 0
  above_first (x ∷ t) n w = cond (nat_eq x.0.0 n && serves x.0.1 w) (suc x.1) (above_first t n w)

-- an entry has no level
abbrev pub above_entry : {X : Type 0} → Option X → ℕ → ℕ
above_entry (Some e) k = 0
above_entry None k = k

module _ {R P : Type 0} (serves : R → R → Bool) (kept : ℕ → R → Option (R × P))
    (widen : ℕ → R → R) where
  -- one more than the highest level of the tasks that the inputs use; 0 without such
  abbrev pub above_inputs : Tasks R → R → List (Option ℕ) → ℕ
  above_inputs t r [] = 0
  above_inputs t r (None ∷ is) = above_inputs t r is
  above_inputs t r (Some i ∷ is) =
      max (above_entry (kept i (widen i r)) (above_first serves t i (widen i r)))
      (above_inputs t r is)

module _ {R P : Type 0} (serves : R → R → Bool) (kept : ℕ → R → Option (R × P))
    (widen asks : ℕ → R → R) (inputs : ℕ → List (Option ℕ)) where
  -- the level of each task is that above its inputs' tasks
  abbrev pub AreLevels : Tasks R → Tasks R → Type 0
  AreLevels all [] = Unit {0}
  AreLevels all (x ∷ t) =
      (x.1 ≡ above_inputs serves kept widen all (asks x.0.0 x.0.1) (inputs x.0.0)) × AreLevels all t

  -- the tasks with their levels, each reckoned from those before it
  abbrev pub with_levels : Tasks R → List (ℕ × R) → Tasks R
  with_levels t [] = []
  with_levels t (x ∷ xs) =
      let l = above_inputs serves kept widen t (asks x.0 x.1) (inputs x.0) in
      (x, l) ∷ with_levels (t ++ (x, l) ∷ []) xs

  -- a task of a lower level serves the request
  abbrev pub IsBelow : ℕ → Tasks R → ℕ → R → Type 0
  IsBelow k [] n w = ⊥
  IsBelow k (x ∷ t) n w = ((x.1 < k) × (served serves (x.0 ∷ []) n w ≡ true)) ⊎ IsBelow k t n w

  -- what each input is asked for is kept, or served by a task of a lower level
  abbrev pub AllBelow : ℕ → Tasks R → R → List (Option ℕ) → Type 0
  AllBelow k all r [] = Unit {0}
  AllBelow k all r (None ∷ is) = AllBelow k all r is
  AllBelow k all r (Some i ∷ is) =
      (((e : R × P) × (kept i (widen i r) ≡ Some e)) ⊎ IsBelow k all i (widen i r))
      × AllBelow k all r is

  -- so for each task
  abbrev pub IsLevelled : Tasks R → Tasks R → Type 0
  IsLevelled all [] = Unit {0}
  IsLevelled all (x ∷ t) = AllBelow x.1 all (asks x.0.0 x.0.1) (inputs x.0.0) × IsLevelled all t
