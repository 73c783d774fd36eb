-- Where a rule comes to a value along a cone, another rule comes to a part of that value.
use Rattle.std.proofs.Common.{
  ◌≡◌,
  [],
  ◌∷◌,
  map,
  Option,
  None,
  Some,
  Result,
  Ok,
  Err,
  refl,
  sym,
  subst,
  ◌∙◌,
}
use Rattle.std.specs.Option.{option_map}
use Rattle.viz_network.specs.declared.node.Node.{Node}
use Rattle.viz_network.specs.declared.fault.Cause.{Cause}
use Rattle.viz_network.specs.declared.fault.Fault.{Fault}
use Rattle.viz_network.specs.Cone.{Cone, Tree, none, empty, fed}
use Rattle.viz_node_meaning.specs.Fold.{at_node, filled, joined, IsMade, AreGiven, IsGiven}
use Rattle.viz_node_meaning.specs.Rules.{Inputs, NodeRule}

-- the parts of all values
abbrev pub parts : {X Y : Type 0} → (Y → X) → Inputs Y → Inputs X
parts part ys = map (option_map part) ys

module _ {X Y : Type 0} (part : Y → X) (more : NodeRule Y) (rule : NodeRule
    X) (less : (n : Node) (ys : Inputs Y) (y : Y) → more n ys (Ok y)
    → rule n (parts part ys) (Ok (part y))) where
  -- what feeds the ports comes to values, and the other rule to their parts
  abbrev ComesTo : Cone → Result (Inputs Y) Fault → Type 0
  ComesTo cone all = (ys : Inputs Y) → all ≡ Ok ys → AreGiven rule cone (Ok (parts part ys))

  own_made : (n : Node) (ys : Inputs Y) (y : Y) (own : Result Y Cause) → more n ys own
      → Ok y ≡ at_node n own → rule n (parts part ys) (Ok (part y))
  own_made n ys y (Ok z) m e =
      let same : z ≡ y = cc in
      less n ys y (subst (λ (v : Y). more n ys (Ok v)) same m)
  own_made n ys y (Err cause) m e = let bad : ⊥ = cc in absurd bad

  node_given : (n : Node) (own : Cone) (all : Result (Inputs Y) Fault) (y : Y) → ComesTo own all
      → IsMade more n all (Ok y) → IsGiven rule (Some (n, own)) (Ok (part y))
  node_given n own (Ok ys) y h m =
      (Ok (parts part ys), h ys refl, (Ok (part y), own_made n ys y m.0 m.1 m.2, refl))
  node_given n own (Err fault) y h m = let bad : ⊥ = cc in absurd bad

  none_given : (others : Cone) (rest : Result (Inputs Y) Fault) (ys : Inputs Y)
      → ComesTo others rest → Ok ys ≡ joined (Ok None) rest
      → AreGiven rule (empty others) (Ok (parts part ys))
  none_given others (Ok xs) ys h e =
      let same : None ∷ xs ≡ ys = cc in
      subst (λ (zs : Inputs Y). AreGiven rule (empty others) (Ok (parts part zs))) same
      (Ok (parts part xs), h xs refl, refl)
  none_given others (Err fault) ys h e = let bad : ⊥ = cc in absurd bad

  fed_given : (n : Node) (own others : Cone) (ports rest : Result (Inputs Y) Fault)
      (value : Result Y Fault) (ys : Inputs Y)
      → ComesTo own ports → IsMade more n ports value → ComesTo others rest
      → Ok ys ≡ joined (filled value) rest → AreGiven rule (fed n own others) (Ok (parts part ys))
  fed_given n own others ports (Ok xs) (Ok y) ys h m k e =
      let same : Some y ∷ xs ≡ ys = cc in
      let g = node_given n own ports y h m in
      subst (λ (zs : Inputs Y). AreGiven rule (fed n own others) (Ok (parts part zs))) same
      (g.0, Ok (part y), Ok (parts part xs), g.1, g.2, k xs refl, refl)
  fed_given n own others ports (Err fault) (Ok y) ys h m k e = let bad : ⊥ = cc in absurd bad
  fed_given n own others ports rest (Err fault) ys h m k e = let bad : ⊥ = cc in absurd bad

  all_given : (cone : Cone) (all : Result (Inputs Y) Fault) → AreGiven more cone all
      → ComesTo cone all
  all_given none all g ys e =
      let some : Ok [] ≡ Ok ys = sym g ∙ e in
      let same : [] ≡ ys = cc in
      subst (λ (zs : Inputs Y). AreGiven rule none (Ok (parts part zs))) same refl
  all_given (empty others) all g ys e =
      none_given others g.0 ys (all_given others g.0 g.1) (sym e ∙ g.2)
  all_given (fed n own others) all g ys e =
      fed_given n own others g.0 g.2 g.1 ys (all_given own g.0 g.3) g.4 (all_given others g.2 g.5)
      (sym e ∙ g.6)

  pub ok_value : (t : Option Tree) (y : Y) → IsGiven more t (Ok y) → IsGiven rule t (Ok (part y))
  ok_value None y g = absurd g
  ok_value (Some t) y g = node_given t.0 t.1 g.0 y (all_given t.1 g.0 g.1) g.2
