-- What feeds a node that is known as told is known as told.
use Rattle.std.proofs.Common.{
  ◌≡◌,
  ℕ,
  ◌||◌,
  nat_eq,
  Bool,
  true,
  false,
  Option,
  None,
  Some,
  refl,
  sym,
  subst,
}
use Rattle.std.proofs.lemmas.List.Elements.{All-from_recursion}
use Rattle.std.specs.List.{AllByRecursion}
use Rattle.viz_network.proofs.TaleLemmas.{holds}
use Rattle.viz_network.specs.Cone.{Cone, Tree, cone_of, empty, fed, has_node, none, port}
use Rattle.viz_plan_meaning.proofs.PlanLemmas.{or-left, or-right}
use Rattle.viz_plan_meaning.specs.Known.{Known}
use Rattle.viz_plan_meaning.specs.Laws.{inputs_of}
use Rattle.viz_plan_meaning.specs.Networks.{passes, way_of, ways, ways_above, ways_to}
use Rattle.viz_plan_meaning.specs.Plan.{heads}
use Rattle.viz_plan_law.specs.Fitting.{InputsKnown, IsKnown, KnownAt}
use Rattle.viz_plan_law.proofs.ConeLemmas.{AllAt, placed_at}
use Rattle.viz_plan_law.proofs.FitLemmas.{passed_heads}

module _ (k : Known) where
  -- all nodes of the cone are known as told
  abbrev AreKnownIn : Cone → Type 0
  AreKnownIn c = (x : ℕ) → holds x c ≡ true → IsKnown k x

  abbrev AreKnownOf : Option Tree → Type 0
  AreKnownOf t = (x : ℕ) → has_node x t ≡ true → IsKnown k x

  heads_known : (c : Cone) → AllAt k.net c → AreKnownIn c
      → AllByRecursion (KnownAt k) (heads (ways c))
  heads_known none a h = tt
  heads_known (empty c) a h = (tt, heads_known c a h)
  heads_known (fed n own c) a h =
      by (passes n.settings)
      (heads_known own a.1
      (λ x q. h x (or-left (nat_eq x n.id.0 || holds x own) (holds x c)
      (or-right (nat_eq x n.id.0) (holds x own) q))))
      (heads_known c a.2
      (λ x q. h x (or-right (nat_eq x n.id.0 || holds x own) (holds x c) q)))
    where
      by : (b : Bool) → AllByRecursion (KnownAt k) (heads (ways own))
          → AllByRecursion (KnownAt k) (heads (ways c))
          → AllByRecursion (KnownAt k) (heads (way_of b n.id.0 (ways own) (ways c)))
      by true up rest = passed_heads (KnownAt k) tt (ways own) (ways c) up rest
      by false up rest = (
        subst AreKnownOf (sym a.0.cone)
            (λ x q. h x (or-left (nat_eq x n.id.0 || holds x own) (holds x c) q)),
        rest,
      )

  above_known : (t : Option Tree) → AllAt k.net (port t none) → AreKnownOf t
      → AllByRecursion (KnownAt k) (heads (ways_above t))
  above_known None a h = tt
  above_known (Some t) a h =
      heads_known t.1 a.1 (λ x q. h x (or-right (nat_eq x t.0.id.0) (holds x t.1) q))

  no_more : (b : Bool) → (b || false) ≡ true → b ≡ true
  no_more true e = refl
  no_more false e = e

  foot_known : (t : Option Tree) → AllAt k.net (port t none) → AreKnownOf t
      → AllByRecursion (KnownAt k) (heads (ways (port t none)))
  foot_known None a h = (tt, tt)
  foot_known (Some t) a h =
      heads_known (fed t.0 t.1 none) a
      (λ x q. h x (no_more (nat_eq x t.0.id.0 || holds x t.1) q))

pub inputs_known : InputsKnown
inputs_known k id placed have known =
    let a = placed_at k.net id placed have in (
      All-from_recursion (KnownAt k) (inputs_of k.net id)
          (above_known k (cone_of k.net id) a known),
      All-from_recursion (KnownAt k) (heads (ways_to k.net id))
          (foot_known k (cone_of k.net id) a known),
    )
