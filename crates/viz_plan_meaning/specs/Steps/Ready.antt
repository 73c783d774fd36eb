-- The cone of given inputs. Only proofs speak of it.
use Rattle.std.specs.Prelude.{◌≡◌, ℕ, List, [], ◌∷◌, Option, None, Some}
use Rattle.viz_plan_meaning.specs.Plan.{Upstream, none, empty, fed}

module _ (inputs : ℕ → List (Option ℕ)) (Good : ℕ → Type 0) where
  -- the cone is that of these inputs, all nodes of it are good
  abbrev pub Fits : List (Option ℕ) → Upstream → Type 0
  Fits [] none = Unit {0}
  Fits (None ∷ is) (empty c) = Fits is c
  Fits (Some i ∷ is) (fed n own c) = (i ≡ n) × Good n × Fits (inputs n) own × Fits is c
  Fits [] (empty c) = ⊥
  Fits [] (fed n own c) = ⊥
  Fits (None ∷ is) none = ⊥
  Fits (None ∷ is) (fed n own c) = ⊥
  Fits (Some i ∷ is) none = ⊥
  Fits (Some i ∷ is) (empty c) = ⊥
