-- What holds of each value that a rule makes, and a rule over values of which another sees a part.
use Rattle.std.proofs.Common.{◌≡◌, [], ◌∷◌, map, Option, None, Some, Result, Ok, Err, refl, sym, ap, subst, ◌∙◌}
use Rattle.std.specs.Option.{option_map}
use Rattle.viz_network.specs.declared.node.Node.{Node}
use Rattle.viz_network.specs.declared.fault.Cause.{Cause}
use Rattle.viz_network.specs.declared.fault.Fault.{Fault}
use Rattle.viz_network.specs.Cone.{Cone, Tree, none, empty, fed}
use Rattle.viz_node_meaning.specs.Fold.{at_node, filled, joined, IsMade, AreGiven, IsGiven}
use Rattle.viz_node_meaning.specs.Rules.{Inputs, NodeRule}

-- ---- of each value

abbrev pub OfAll : {X : Type 0} → (X → Type 0) → Inputs X → Type 0
OfAll P [] = Unit {0}
OfAll P (None ∷ xs) = OfAll P xs
OfAll P (Some x ∷ xs) = P x × OfAll P xs

abbrev pub OfEach : {X : Type 0} → (X → Type 0) → Result (Inputs X) Fault → Type 0
OfEach P (Ok xs) = OfAll P xs
OfEach P (Err fault) = Unit {0}

abbrev pub OfOne : {X : Type 0} → (X → Type 0) → Result X Fault → Type 0
OfOne P (Ok x) = P x
OfOne P (Err fault) = Unit {0}

module _ {X : Type 0} (rule : NodeRule X) (P : X
    → Type 0) (makes : (n : Node) (inputs : Inputs X) (x : X) → OfAll P inputs
    → rule n inputs (Ok x) → P x) where
  own_has : (n : Node) (inputs : Inputs X) (r : Result X Cause) → OfAll P inputs → rule n inputs r
      → OfOne P (at_node n r)
  own_has n inputs (Ok x) h m = makes n inputs x h m
  own_has n inputs (Err cause) h m = tt

  made_has : (n : Node) (inputs : Result (Inputs X) Fault) (value : Result X Fault)
      → OfEach P inputs → IsMade rule n inputs value → OfOne P value
  made_has n (Ok inputs) value h m = subst (OfOne P) (sym m.2) (own_has n inputs m.0 h m.1)
  made_has n (Err fault) value h m = subst (OfOne P) (sym m) tt

  none_has : (rest : Result (Inputs X) Fault) → OfEach P rest → OfEach P (joined (Ok None) rest)
  none_has (Ok xs) h = h
  none_has (Err fault) h = tt

  joined_has : (value : Result X Fault) (rest : Result (Inputs X) Fault) → OfOne P value
      → OfEach P rest → OfEach P (joined (filled value) rest)
  joined_has (Err fault) rest v h = tt
  joined_has (Ok x) (Err fault) v h = tt
  joined_has (Ok x) (Ok xs) v h = (v, h)

  given_has : (cone : Cone) (all : Result (Inputs X) Fault) → AreGiven rule cone all → OfEach P all
  given_has none all g = subst (OfEach P) (sym g) tt
  given_has (empty others) all g =
      subst (OfEach P) (sym g.2) (none_has g.0 (given_has others g.0 g.1))
  given_has (fed n own others) all g =
      subst (OfEach P) (sym g.6)
      (joined_has g.1 g.2 (made_has n g.0 g.1 (given_has own g.0 g.3) g.4)
      (given_has others g.2 g.5))

  pub value_has : (t : Option Tree) (x : X) → IsGiven rule t (Ok x) → P x
  value_has None x g = absurd g
  value_has (Some t) x g = made_has t.0 g.0 (Ok x) (given_has t.1 g.0 g.1) g.2

-- ---- of another rule

-- where a rule makes what another one makes, it gives what that one gives
module _ {X : Type 0} (rule more : NodeRule X) (also : (n : Node) (inputs : Inputs X) (x : X)
    → rule n inputs (Ok x) → more n inputs (Ok x)) where
  own_also : (n : Node) (inputs : Inputs X) (r : Result X Cause) (x : X) → rule n inputs r
      → Ok x ≡ at_node n r → more n inputs (Ok x)
  own_also n inputs (Ok y) x m e =
      let same : y ≡ x = cc in
      also n inputs x (subst (λ z. rule n inputs (Ok z)) same m)
  own_also n inputs (Err cause) x m e = let bad : ⊥ = cc in absurd bad

  made_also : (n : Node) (inputs : Result (Inputs X) Fault) (x : X) → IsMade rule n inputs (Ok x)
      → (xs : Inputs X) × (inputs ≡ Ok xs) × IsMade more n (Ok xs) (Ok x)
  made_also n (Ok xs) x m = (xs, refl, (Ok x, own_also n xs m.0 x m.1 m.2, refl))
  made_also n (Err fault) x m = let bad : ⊥ = cc in absurd bad

  rest_also : (rest : Result (Inputs X) Fault) (xs : Inputs X) → Ok xs ≡ joined (Ok None) rest
      → (ys : Inputs X) × (rest ≡ Ok ys) × (Ok xs ≡ joined (Ok None) (Ok ys))
  rest_also (Ok ys) xs e = (ys, refl, e)
  rest_also (Err fault) xs e = let bad : ⊥ = cc in absurd bad

  both_also : (value : Result X Fault) (rest : Result (Inputs X) Fault) (xs : Inputs X)
      → Ok xs ≡ joined (filled value) rest
      → (x : X) × (ys : Inputs X) × (value ≡ Ok x) × (rest ≡ Ok ys)
  both_also (Ok x) (Ok ys) xs e = (x, ys, refl, refl)
  both_also (Ok x) (Err fault) xs e = let bad : ⊥ = cc in absurd bad
  both_also (Err fault) rest xs e = let bad : ⊥ = cc in absurd bad

  given_also : (cone : Cone) (all : Result (Inputs X) Fault) (xs : Inputs X) → all ≡ Ok xs
      → AreGiven rule cone all → AreGiven more cone all
  given_also none all xs e g = g
  given_also (empty others) all xs e g =
      let r = rest_also g.0 xs (sym e ∙ g.2) in
      (g.0, given_also others g.0 r.0 r.1 g.1, g.2)
  given_also (fed n own others) all xs e g =
      let b = both_also g.1 g.2 xs (sym e ∙ g.6) in
      let m = made_also n g.0 b.0 (subst (IsMade rule n g.0) b.2 g.4) in (
        g.0,
        g.1,
        g.2,
        given_also own g.0 m.0 m.1 g.3,
        subst (λ v. IsMade more n g.0 v) (sym b.2) (subst (λ i. IsMade more n i (Ok b.0)) (sym m.1) m.2),
        given_also others g.2 b.1 b.3 g.5,
        g.6,
      )

  pub value_also : (t : Option Tree) (x : X) → IsGiven rule t (Ok x) → IsGiven more t (Ok x)
  value_also None x g = absurd g
  value_also (Some t) x g =
      let m = made_also t.0 g.0 x g.2 in (
        g.0,
        given_also t.1 g.0 m.0 m.1 g.1,
        subst (λ i. IsMade more t.0 i (Ok x)) (sym m.1) m.2,
      )

-- ---- a part of each value

abbrev pub part_in : {X Y F : Type 0} → (Y → X) → Result Y F → Result X F
part_in part (Ok y) = Ok (part y)
part_in part (Err fault) = Err fault

abbrev pub parts_in : {X Y F : Type 0} → (Y → X) → Result (Inputs Y) F → Result (Inputs X) F
parts_in part (Ok ys) = Ok (map (option_map part) ys)
parts_in part (Err fault) = Err fault

module _ {X Y : Type 0} (part : Y → X) where
  at_part : (n : Node) (r : Result Y Cause)
      → at_node n (part_in part r) ≡ part_in part (at_node n r)
  at_part n (Ok y) = refl
  at_part n (Err cause) = refl

  none_part : (rest : Result (Inputs Y) Fault)
      → joined (Ok None) (parts_in part rest) ≡ parts_in part (joined (Ok None) rest)
  none_part (Ok ys) = refl
  none_part (Err fault) = refl

  joined_part : (value : Result Y Fault) (rest : Result (Inputs Y) Fault)
      → joined (filled (part_in part value)) (parts_in part rest) ≡ parts_in part
      (joined (filled value) rest)
  joined_part (Err fault) rest = refl
  joined_part (Ok y) (Err fault) = refl
  joined_part (Ok y) (Ok ys) = refl

  module _ (rule : NodeRule X) (more : NodeRule Y) where
    -- what the rule with more makes, the other makes of the parts
    module _ (less : (n : Node) (inputs : Inputs Y) (r : Result Y Cause) → more n inputs r
        → rule n (map (option_map part) inputs) (part_in part r)) where
      less_made : (n : Node) (inputs : Result (Inputs Y) Fault) (value : Result Y Fault)
          → IsMade more n inputs value → IsMade rule n (parts_in part inputs) (part_in part value)
      less_made n (Err fault) value m = ap (part_in part) m
      less_made n (Ok inputs) value m = (
        part_in part m.0,
        less n inputs m.0 m.1,
        ap (part_in part) m.2
            ∙ sym (at_part n m.0),
      )

      less_given : (cone : Cone) (all : Result (Inputs Y) Fault) → AreGiven more cone all
          → AreGiven rule cone (parts_in part all)
      less_given none all g = ap (parts_in part) g
      less_given (empty others) all g = (
        parts_in part g.0,
        less_given others g.0 g.1,
        ap (parts_in part) g.2
            ∙ sym (none_part g.0),
      )
      less_given (fed n own others) all g = (
        parts_in part g.0,
        part_in part g.1,
        parts_in part g.2,
        less_given own g.0 g.3,
        less_made n g.0 g.1 g.4,
        less_given others g.2 g.5,
        ap (parts_in part) g.6 ∙ sym (joined_part g.1 g.2),
      )

      pub less_value : (t : Option Tree) (value : Result Y Fault) → IsGiven more t value
          → IsGiven rule t (part_in part value)
      less_value None value g = absurd g
      less_value (Some t) value g =
          (parts_in part g.0, less_given t.1 g.0 g.1, less_made t.0 g.0 value g.2)

    -- what the rule makes of the parts, the one with more makes
    module _ (lift : (n : Node) (inputs : Inputs Y) (r : Result X Cause)
        → rule n (map (option_map part) inputs) r
        → (s : Result Y Cause) × more n inputs s × (r ≡ part_in part s)) where
      more_made : (n : Node) (inputs : Result (Inputs Y) Fault) (value : Result X Fault)
          → IsMade rule n (parts_in part inputs) value
          → (other : Result Y Fault) × IsMade more n inputs other × (value ≡ part_in part other)
      more_made n (Err fault) value m = (Err fault, refl, m)
      more_made n (Ok inputs) value m =
          let l = lift n inputs m.0 m.1 in
          (at_node n l.0, (l.0, l.1, refl), m.2 ∙ ap (at_node n) l.2 ∙ at_part n l.0)

      more_given : (cone : Cone) (all : Result (Inputs X) Fault) → AreGiven rule cone all
          → (others : Result (Inputs Y) Fault) × AreGiven more cone others ×
          (all ≡ parts_in part others)
      more_given none all g = (Ok [], refl, g)
      more_given (empty others) all g =
          let r = more_given others g.0 g.1 in
          (joined (Ok None) r.0, (r.0, r.1, refl), g.2 ∙ ap (joined (Ok None)) r.2 ∙ none_part r.0)
      more_given (fed n own others) all g =
          let i = more_given own g.0 g.3 in
          let v = more_made n i.0 g.1 (subst (λ z. IsMade rule n z g.1) i.2 g.4) in
          let r = more_given others g.2 g.5 in (
            joined (filled v.0) r.0,
            (i.0, v.0, r.0, i.1, v.1, r.1, refl),
            g.6 ∙ ap (λ z. joined (filled z) g.2) v.2 ∙ ap (joined (filled (part_in part v.0))) r.2
                ∙ joined_part v.0 r.0,
          )

      pub more_value : (t : Option Tree) (value : Result X Fault) → IsGiven rule t value
          → (other : Result Y Fault) × IsGiven more t other × (value ≡ part_in part other)
      more_value None value g = absurd g
      more_value (Some t) value g =
          let i = more_given t.1 g.0 g.1 in
          let v = more_made t.0 i.0 value (subst (λ z. IsMade rule t.0 z value) i.2 g.2) in
          (v.0, (i.0, i.1, v.1), v.2)
