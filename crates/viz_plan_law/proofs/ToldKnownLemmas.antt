-- What is told of a cone is known of it.
use Rattle.std.proofs.Common.{◌≡◌, ℕ, zero, suc, nat_eq, Bool, true, false, cond, List, [], ◌∷◌, slice_get, Option, Some, Ok, refl, sym, ap, subst, ◌∙◌}
use Rattle.std.proofs.lemmas.Bool.{eqb-true, eq-eqb}
use Rattle.viz_extent.specs.Extent.{Bounds}
use Rattle.viz_inform.specs.Informed.{AreTold, IsTold}
use Rattle.viz_inform.specs.declared.told.Told.{Told}
use Rattle.viz_network.specs.Cone.{cone_of}
use Rattle.viz_network.specs.Network.{Network}
use Rattle.viz_node_meaning.specs.Fold.{IsGiven}
use Rattle.viz_node_meaning.specs.Information.{InformationRule}
use Rattle.viz_node_meaning.specs.declared.information.Information.{Information}
use Rattle.viz_node_meaning.specs.declared.information.Information.TheVariants.{OfImage, OfMesh}
use Rattle.viz_parts.specs.declared.stored.Stored.{Stored}
use Rattle.viz_plan.specs.Told.{extent_of, extent_told, known_with}
use Rattle.viz_plan_law.specs.Fitting.{AllKnown, IsExtentTold, ToldIsKnown}

told_extent : (i : Information) → IsExtentTold (extent_of i) i
told_extent (OfImage g) = refl
told_extent OfMesh = refl

module _ (net : Network) (sink : ℕ) where
  -- the first that is told of a node
  abbrev IsFirst : List Told → ℕ → Type 0
  IsFirst told id = (t : Told) × IsTold net sink t × (t.node.0 ≡ id)
      × (extent_told told id ≡ extent_of t.information)

  first_told : (told : List Told) → ((k : ℕ) (t : Told) → slice_get told k ≡ Some t → IsTold net sink t)
      → (id k : ℕ) (t : Told) → slice_get told k ≡ Some t → t.node.0 ≡ id → IsFirst told id
  first_told [] each id k t at is = let bad : ⊥ = cc in absurd bad
  first_told (u ∷ told) each id k t at is =
      by (nat_eq u.node.0 id) refl k at (λ j a. first_told told (λ m v q. each (suc m) v q) id j t a is)
    where
      by : (b : Bool) → nat_eq u.node.0 id ≡ b → (k : ℕ) → slice_get (u ∷ told) k ≡ Some t
          → ((j : ℕ) → slice_get told j ≡ Some t → IsFirst told id)
          → (v : Told) × IsTold net sink v × (v.node.0 ≡ id)
          × (cond b (extent_of u.information) (extent_told told id) ≡ extent_of v.information)
      by true q k a rest = (u, each 0 u refl, eqb-true u.node.0 id q, refl)
      by false q zero a rest = (
          let same : u ≡ t = cc in
          let here : u.node.0 ≡ id = ap (λ (v : Told). v.node.0) same ∙ is in
          let no : true ≡ false = sym (eq-eqb u.node.0 id here) ∙ q in
          let bad : ⊥ = cc in
          absurd bad
          )
      by false q (suc k) a rest = rest k a

  known_of : (told : List Told) (entries : List Stored) → AreTold net sink told
      → AllKnown (known_with net told entries) sink
  known_of told entries are id has =
      let c = are.covers id has in
      let f = first_told told are.each id c.0 c.1 c.2 c.3 in
      record {
        information = f.0.information;
        given = subst (λ (x : ℕ). IsGiven InformationRule (cone_of net x) (Ok f.0.information)) f.2
            f.1.given;
        extent = subst (λ (o : Option Bounds). IsExtentTold o f.0.information) (sym f.3)
            (told_extent f.0.information);
      }

pub told_is_known : ToldIsKnown
told_is_known net sink told entries are = known_of net sink told entries are
