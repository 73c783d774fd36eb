-- A table of what steps give grows by the rule.
use Rattle.std.specs.Option.{option_copied}
use Rattle.std.proofs.Common.{Bor, IsSome, ◌≡◌, ℕ, zero, suc, ◌+◌, ◌<◌, ◌⊎◌, inl, inr, Bool, true, false, nat_eq, List, [], ◌∷◌, ◌++◌, length, length-append, map, slice_get, Option, None, Some, Result, Ok, Err, refl, sym, ap, subst, ◌∙◌, arith}
use Rattle.std.proofs.lemmas.Bool.{eqb-true}
use Rattle.std.proofs.lemmas.Bool.Decides.{nat_tests}
use Rattle.std.proofs.lemmas.Option.{get_or_from_slice_get}
use Rattle.viz_base.specs.declared.node.NodeId.{NodeId}
use Rattle.viz_network.specs.declared.node.Node.{Node}
use Rattle.viz_network.specs.declared.steps.Step.{Step}
use Rattle.viz_network.specs.declared.fault.Fault.{Fault}
use Rattle.viz_network.specs.Network.{Network, node_of}
use Rattle.viz_network.specs.Cone.{Tree, grow, port, cone_of}
use Rattle.viz_network.specs.Step.{nodes_of, AreFed, AreSteps}
use Rattle.viz_node_meaning.specs.Rules.{Inputs, NodeRule}
use Rattle.viz_node_meaning.specs.Fold.{filled, joined, IsMade, AreGiven, IsGiven}
use Rattle.viz_node_rules.specs.Places.{Table, value_of, value_at}
use Rattle.viz_inform.specs.Table.{fault_of, first_of, first_fault, faulted, told, HasInputs, IsTable, always}

-- an item of a list with one more is one of the list, or the one more
pub last_or : {A : Type 0} (xs : List A) (y : A) (j : ℕ) (x : A) → slice_get (xs ++ y ∷ []) j ≡ Some x → (slice_get xs j ≡ Some x) ⊎ ((j ≡ length xs) × (x ≡ y))
last_or [] y zero x at = inr (refl, (let e : x ≡ y = cc in e))
last_or [] y (suc j) x at = let bad : ⊥ = cc in absurd bad
last_or (z ∷ xs) y zero x at = inl at
last_or (z ∷ xs) y (suc j) x at = elim (last_or xs y j x at) [ inl e ↦ inl e | inr e ↦ inr (ap suc e.0, e.1) ]

-- an item of a list is one of the list with more
pub kept_at : {A : Type 0} (xs ys : List A) (j : ℕ) (x : A) → slice_get xs j ≡ Some x → slice_get (xs ++ ys) j ≡ Some x
kept_at [] ys j x at = let bad : ⊥ = cc in absurd bad
kept_at (z ∷ xs) ys zero x at = at
kept_at (z ∷ xs) ys (suc j) x at = kept_at xs ys j x at

pub last_at : {A : Type 0} (xs : List A) (y : A) → slice_get (xs ++ y ∷ []) (length xs) ≡ Some y
last_at [] y = refl
last_at (z ∷ xs) y = last_at xs y

-- an empty port in front of what the table has
told_empty : {X : Type 0} (table : Table X) (places : List (Option ℕ)) → told table (None ∷ places) ≡ joined (Ok None) (told table places)
told_empty {X} table places = by (first_fault table places)
  where
    by : (o : Option Fault) → faulted o (None ∷ map (value_at table) places) ≡ joined (Ok None) (faulted o (map (value_at table) places))
    by None = refl
    by (Some f) = refl

-- a port with its value in front of what the table has
told_fed : {X : Type 0} (table : Table X) (place : ℕ) (places : List (Option ℕ)) (value : Result X Fault) → slice_get table place ≡ Some (Some value)
    → told table (Some place ∷ places) ≡ joined (filled value) (told table places)
told_fed {X} table place places value at =
    ap (λ e. faulted (first_of (fault_of e) (first_fault table places)) (value_of e ∷ map (value_at table) places)) (get_or_from_slice_get table place (Some value) None at)
    ∙ by value (first_fault table places)
  where
    by : (v : Result X Fault) (o : Option Fault) → faulted (first_of (fault_of (Some v)) o) (value_of (Some v) ∷ map (value_at table) places) ≡ joined (filled v) (faulted o (map (value_at table) places))
    by (Ok x) None = refl
    by (Ok x) (Some f) = refl
    by (Err f) o = refl

module _ {X : Type 0} (rule : NodeRule X) (net : Network) (order : List NodeId) (k : ℕ) (table : Table X)
    (given : (j : ℕ) (id : NodeId) (value : Result X Fault) → slice_get table j ≡ Some (Some value) → slice_get order j ≡ Some id → IsGiven rule (cone_of net id.0) value) where
  -- what feeds a port, with the others
  one_fed : (t : Option Tree) (inputs : List (Option NodeId)) (value : Result X Fault) (rest : Result (Inputs X) Fault) → IsGiven rule t value → AreGiven rule (grow (cone_of net) inputs) rest
      → AreGiven rule (port t (grow (cone_of net) inputs)) (joined (filled value) rest)
  one_fed None inputs value rest h others = absurd h
  one_fed (Some t) inputs value rest h others = (h.0, value, rest, h.1, h.2, others, refl)

  -- what the table has of the ports is what feeds them
  pub gathered : (inputs : List (Option NodeId)) (places : List (Option ℕ)) → AreFed order k inputs places → HasInputs table places → AreGiven rule (grow (cone_of net) inputs) (told table places)
  gathered [] [] f h = refl
  gathered [] (p ∷ places) f h = absurd f
  gathered (None ∷ inputs) [] f h = absurd f
  gathered (Some id ∷ inputs) [] f h = absurd f
  gathered (None ∷ inputs) (None ∷ places) f h = (told table places, gathered inputs places f h, told_empty table places)
  gathered (None ∷ inputs) (Some p ∷ places) f h = absurd f
  gathered (Some id ∷ inputs) (None ∷ places) f h = absurd f
  gathered (Some id ∷ inputs) (Some p ∷ places) f h =
      subst (AreGiven rule (port (cone_of net id.0) (grow (cone_of net) inputs))) (sym (told_fed table p places h.0.0 h.0.1))
      (one_fed (cone_of net id.0) inputs h.0.0 (told table places) (given p id h.0.0 h.0.1 f.1) (gathered inputs places f.2 h.1))

-- the node of a step
pub step_node : (steps : List Step) (j : ℕ) (s : Step) → slice_get steps j ≡ Some s → slice_get (nodes_of steps) j ≡ Some s.node
step_node [] j s at = let bad : ⊥ = cc in absurd bad
step_node (z ∷ steps) zero s at = let e : z ≡ s = cc in ap (λ q. Some q.node) e
step_node (z ∷ steps) (suc j) s at = step_node steps j s at

-- no step yet
pub no_table : {X : Type 0} (rule : NodeRule X) (P : X → Type 0) (needs : ℕ → ℕ → Type 0) (net : Network) (steps : List Step) → IsTable rule P needs net steps 0 []
no_table rule P needs net steps = record {
  count = refl;
  given = λ j id value at there. (let bad : ⊥ = cc in absurd bad);
  sound = λ j x at. (let bad : ⊥ = cc in absurd bad);
  kept = λ j l h. absurd (omega (arith, l));
}

module _ {X : Type 0} (rule : NodeRule X) (P : X → Type 0) (needs : ℕ → ℕ → Type 0) (net : Network) (steps : List Step) (all : AreSteps net steps)
    (fewer : (j k : ℕ) → needs j (k + 1) → needs j k) where
  -- what a step gives
  given_step : (k : ℕ) (table : Table X) → IsTable rule P needs net steps k table → (s : Step) → slice_get steps k ≡ Some s → HasInputs table s.inputs
      → (n : Node) → node_of net s.node.0 ≡ Some n → (value : Result X Fault) → IsMade rule n (told table s.inputs) value → IsGiven rule (cone_of net s.node.0) value
  given_step k table t s at has n found value made =
      let step = all.each k s at in
      let same : step.node ≡ n = (let some : Some step.node ≡ Some n = sym step.there ∙ found in cc) in
      let fed = subst (λ (v : Node). AreFed (nodes_of steps) k v.inputs s.inputs) same step.fed in
      let cone = step.cone ∙ ap (λ (v : Node). Some (v, grow (cone_of net) v.inputs)) same in
      subst (λ c. IsGiven rule c value) (sym cone)
      (told table s.inputs, gathered rule net (nodes_of steps) k table t.given n.inputs s.inputs fed has, made)

  -- one step more that is evaluated
  pub more_table : (k : ℕ) (table : Table X) → IsTable rule P needs net steps k table → (s : Step) → slice_get steps k ≡ Some s → HasInputs table s.inputs
      → (n : Node) → node_of net s.node.0 ≡ Some n → (value : Result X Fault) → IsMade rule n (told table s.inputs) value → ((x : X) → value ≡ Ok x → P x)
      → IsTable rule P needs net steps (k + 1) (table ++ Some value ∷ [])
  more_table k table t s at has n found value made sound = record {
    count = length-append table (Some value ∷ []) ∙ ap (λ q. q + 1) t.count;
    given = λ j id v here there. elim (last_or table (Some value) j (Some v) here) [
      | inl old ↦ t.given j id v old there
      | inr e ↦ (let node : s.node ≡ id = (let f : Some s.node ≡ Some id = sym (step_node steps k s at) ∙ sym (ap (slice_get (nodes_of steps)) (e.0 ∙ t.count)) ∙ there in cc) in
          let one : value ≡ v = (let f : Some (Some value) ≡ Some (Some v) = ap Some (sym e.1) in cc) in
          subst (λ (i : NodeId). IsGiven rule (cone_of net i.0) v) node (subst (IsGiven rule (cone_of net s.node.0)) one (given_step k table t s at has n found value made)))
    ];
    sound = λ j x here. elim (last_or table (Some value) j (Some (Ok x)) here) [
      | inl old ↦ t.sound j x old
      | inr e ↦ (let one : value ≡ Ok x = (let f : Some (Some value) ≡ Some (Some (Ok x)) = ap Some (sym e.1) in cc) in sound x one)
    ];
    kept = λ j l need. by j l need (nat_eq j k) refl;
  }
    where
      Kept : ℕ → Type 0
      Kept j = (v : Result X Fault) × (slice_get (table ++ Some value ∷ []) j ≡ Some (Some v))

      by : (j : ℕ) → j < k + 1 → needs j (k + 1) → (b : Bool) → nat_eq j k ≡ b → Kept j
      by j l need true e = (value, ap (slice_get (table ++ Some value ∷ [])) (eqb-true j k e ∙ sym t.count) ∙ last_at table (Some value))
      by j l need false e =
          let was = t.kept j (let before : j < k = grind (arith, nat_tests) in before) (fewer j k need) in
          (was.0, kept_at table (Some value ∷ []) j (Some was.0) was.1)

-- where all is kept, the table has what feeds a step
pub has_always : {X : Type 0} (rule : NodeRule X) (P : X → Type 0) (net : Network) (steps : List Step) (order : List NodeId) (k : ℕ) (table : Table X) → IsTable rule P always net steps k table
    → (inputs : List (Option NodeId)) (places : List (Option ℕ)) → AreFed order k inputs places → HasInputs table places
has_always rule P net steps order k table t [] [] f = tt
has_always rule P net steps order k table t [] (p ∷ places) f = absurd f
has_always rule P net steps order k table t (None ∷ inputs) [] f = absurd f
has_always rule P net steps order k table t (Some id ∷ inputs) [] f = absurd f
has_always rule P net steps order k table t (None ∷ inputs) (None ∷ places) f = has_always rule P net steps order k table t inputs places f
has_always rule P net steps order k table t (None ∷ inputs) (Some p ∷ places) f = absurd f
has_always rule P net steps order k table t (Some id ∷ inputs) (None ∷ places) f = absurd f
has_always rule P net steps order k table t (Some id ∷ inputs) (Some p ∷ places) f = (t.kept p f.0 tt, has_always rule P net steps order k table t inputs places f.2)

-- a node that is lent is there
pub lent_there : {A : Type 0} (o : Option (Bor A)) (x : A) → option_copied o ≡ Some x → IsSome o
lent_there None x h = let bad : ⊥ = cc in absurd bad
lent_there (Some b) x h = refl

-- a step that is there has a place below their number
pub place_within : (steps : List Step) (p : ℕ) (id : NodeId) → slice_get (nodes_of steps) p ≡ Some id → p < length steps
place_within [] p id at = let bad : ⊥ = cc in absurd bad
place_within (s ∷ steps) zero id at = omega arith
place_within (s ∷ steps) (suc p) id at = let l = place_within steps p id at in omega (arith, l)
