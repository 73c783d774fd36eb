-- A table of the data pass, of which what is read no more is given up.
use Rattle.std.specs.Option.{option_copied}
use Rattle.std.proofs.Common.{Bor, IfOk, ◌≡◌, ℕ, zero, suc, ◌+◌, ◌<◌, inl, inr, Bool, true, false, nat_eq, List, [], ◌∷◌, ◌++◌, length, length-append, slice_get, set, get_or, Option, None, Some, Result, Ok, Err, refl, sym, ap, subst, ◌∙◌, arith}
use Rattle.std.proofs.lemmas.Bool.{eqb-true}
use Rattle.std.proofs.lemmas.Bool.Decides.{nat_tests}
use Rattle.std.proofs.lemmas.List.{get_or-set_same, length-set}
use Rattle.std.proofs.lemmas.Option.{slice_get-get_or}
use Rattle.viz_base.specs.declared.node.NodeId.{NodeId}
use Rattle.viz_inform.proofs.TableLemmas.{last_or, kept_at}
use Rattle.viz_inform.specs.Table.{HasInputs, IsTable}
use Rattle.viz_network.specs.declared.steps.Step.{Step}
use Rattle.viz_network.specs.declared.fault.Fault.{Fault}
use Rattle.viz_network.specs.Network.{Network}
use Rattle.viz_network.specs.Step.{nodes_of, AreFed, AreSteps}
use Rattle.viz_node_meaning.specs.Rules.{NodeRule}
use Rattle.viz_node_rules.specs.Places.{Table, AreSoundIn}
use Rattle.viz_scratch.specs.Steps.Table.{is_read, IsReleased}
use Rattle.viz_scratch.specs.Steps.Readers.{AreReadAt, AreBefore, AreBehind}

-- an item beside the one that is set
set_beside : {A : Type 0} (xs : List A) (p j : ℕ) (y : A) → (j ≡ p → ⊥) → slice_get (set xs p y) j ≡ slice_get xs j
set_beside [] p j y differs = refl
set_beside (x ∷ xs) zero zero y differs = absurd (differs refl)
set_beside (x ∷ xs) zero (suc j) y differs = refl
set_beside (x ∷ xs) (suc p) zero y differs = refl
set_beside (x ∷ xs) (suc p) (suc j) y differs = set_beside xs p j y (λ e. differs (ap suc e))

-- where a step is asked for, the table has what feeds it
pub has_read : {X : Type 0} (rule : NodeRule X) (P : X → Type 0) (net : Network) (steps : List Step) (last : List ℕ) (order : List NodeId) (k : ℕ) (table : Table X)
    → IsTable rule P (is_read last) net steps k table
    → (inputs : List (Option NodeId)) (places : List (Option ℕ)) → AreFed order k inputs places → AreReadAt last k places → HasInputs table places
has_read rule P net steps last order k table t [] [] f r = tt
has_read rule P net steps last order k table t [] (p ∷ places) f r = absurd f
has_read rule P net steps last order k table t (None ∷ inputs) [] f r = absurd f
has_read rule P net steps last order k table t (Some id ∷ inputs) [] f r = absurd f
has_read rule P net steps last order k table t (None ∷ inputs) (None ∷ places) f r = has_read rule P net steps last order k table t inputs places f r
has_read rule P net steps last order k table t (None ∷ inputs) (Some p ∷ places) f r = absurd f
has_read rule P net steps last order k table t (Some id ∷ inputs) (None ∷ places) f r = absurd f
has_read rule P net steps last order k table t (Some id ∷ inputs) (Some p ∷ places) f r =
    (t.kept p f.0 (omega (arith, f.0, r.0), r.0), has_read rule P net steps last order k table t inputs places f.2 r.1)

-- a step that isn't asked for
pub skip_table : {X : Type 0} (rule : NodeRule X) (P : X → Type 0) (net : Network) (steps : List Step) (last : List ℕ) (k : ℕ) (table : Table X)
    → IsTable rule P (is_read last) net steps k table → get_or last k 0 ≡ 0 → IsTable rule P (is_read last) net steps (k + 1) (table ++ None ∷ [])
skip_table {X} rule P net steps last k table t none = record {
  count = length-append table (None ∷ []) ∙ ap (λ q. q + 1) t.count;
  given = λ j id v here there. elim (last_or table None j (Some v) here) [ inl old ↦ t.given j id v old there | inr e ↦ (let bad : ⊥ = cc in absurd bad) ];
  sound = λ j x here. elim (last_or table None j (Some (Ok x)) here) [ inl old ↦ t.sound j x old | inr e ↦ (let bad : ⊥ = cc in absurd bad) ];
  kept = λ j l need. by j l need (nat_eq j k) refl;
}
  where
    Kept : ℕ → Type 0
    Kept j = (v : Result X Fault) × (slice_get (table ++ None ∷ []) j ≡ Some (Some v))

    by : (j : ℕ) → j < k + 1 → is_read last j (k + 1) → (b : Bool) → nat_eq j k ≡ b → Kept j
    by j l need true e =
        let place = ap (λ q. get_or last q 0) (eqb-true j k e) in
        absurd (omega (arith, place, none, need.0))
    by j l need false e =
        let was = t.kept j (let before : j < k = grind (arith, nat_tests) in before) (need.0, omega (arith, need.1)) in
        (was.0, kept_at table (None ∷ []) j (Some was.0) was.1)

-- what isn't read behind the last step is given up
pub released_table : {X : Type 0} (rule : NodeRule X) (P : X → Type 0) (net : Network) (steps : List Step) (last : List ℕ) (k : ℕ) (old new : Table X)
    → IsTable rule P (is_read last) net steps (k + 1) old → IsReleased last k old new → IsTable rule P (is_read last) net steps (k + 1) new
released_table rule P net steps last k old new t r = record {
  count = r.count ∙ t.count;
  given = λ j id v here there. t.given j id v (r.same j v here) there;
  sound = λ j x here. t.sound j x (r.same j (Ok x) here);
  kept = λ j l need. (let was = t.kept j l need in (was.0, r.kept j (omega (arith, need.1)) ∙ was.1));
}

-- nothing is given up
pub released_none : {X : Type 0} (last : List ℕ) (k : ℕ) (table : Table X) → IsReleased last k table table
released_none last k table = record { count = refl; kept = λ j l. refl; same = λ j v e. e }

-- what is given up, and then more
pub released_more : {X : Type 0} (last : List ℕ) (k : ℕ) (old mid new : Table X) → IsReleased last k old mid → IsReleased last k mid new → IsReleased last k old new
released_more last k old mid new a b = record {
  count = b.count ∙ a.count;
  kept = λ j l. b.kept j l ∙ a.kept j l;
  same = λ j v e. a.same j v (b.same j v e);
}

-- one place is given up
pub released_one : {X : Type 0} (last : List ℕ) (k p : ℕ) (table : Table X) → p < length table → get_or last p 0 ≡ k → IsReleased last k table (set table p None)
released_one {X} last k p table within here = record {
  count = length-set table p None;
  kept = λ j l. (let differs : (j ≡ p → ⊥) = λ e. (let same = ap (λ q. get_or last q 0) e in omega (arith, same, here, l)) in other j differs);
  same = λ j v e. by j v e (nat_eq j p) refl;
}
  where
    other : (j : ℕ) → (j ≡ p → ⊥) → slice_get (set table p None) j ≡ slice_get table j
    other j differs = set_beside table p j None differs

    by : (j : ℕ) (v : Result X Fault) → slice_get (set table p None) j ≡ Some (Some v) → (b : Bool) → nat_eq j p ≡ b → slice_get table j ≡ Some (Some v)
    by j v e true q =
        let first : slice_get (set table p None) p ≡ Some None = slice_get-get_or (set table p None) p None (omega (arith, within, length-set table p None)) ∙ ap Some (get_or-set_same table p None None within) in
        let found = sym first ∙ sym (ap (slice_get (set table p None)) (eqb-true j p q)) ∙ e in
        let bad : ⊥ = cc in absurd bad
    by j v e false q = sym (other j (λ (z : j ≡ p). (let bad : ⊥ = grind (arith, nat_tests) in bad))) ∙ e

-- a value that is sound
pub sound_value : {X : Type 0} (P : X → Type 0) (value : Result X Fault) → IfOk value P → (x : X) → value ≡ Ok x → P x
sound_value P (Ok y) h x e = let same : y ≡ x = cc in subst P same h
sound_value P (Err f) h x e = let bad : ⊥ = cc in absurd bad

-- each step stands behind what feeds it
fed_before : (order : List NodeId) (k : ℕ) (inputs : List (Option NodeId)) (places : List (Option ℕ)) → AreFed order k inputs places → AreBefore k places
fed_before order k [] [] f = tt
fed_before order k [] (p ∷ places) f = absurd f
fed_before order k (None ∷ inputs) [] f = absurd f
fed_before order k (Some id ∷ inputs) [] f = absurd f
fed_before order k (None ∷ inputs) (None ∷ places) f = fed_before order k inputs places f
fed_before order k (None ∷ inputs) (Some p ∷ places) f = absurd f
fed_before order k (Some id ∷ inputs) (None ∷ places) f = absurd f
fed_before order k (Some id ∷ inputs) (Some p ∷ places) f = (f.0, fed_before order k inputs places f.2)

pub behind_of : (net : Network) (steps : List Step) → AreSteps net steps → AreBehind steps
behind_of net steps all k s at = let step = all.each k s at in fed_before (nodes_of steps) k step.node.inputs s.inputs step.fed

-- an entry that is lent
pub lent_at : {A : Type 0} (xs : List A) (p : ℕ) (o : Option (Bor A)) (x : Bor A) → option_copied o ≡ slice_get xs p → o ≡ Some x → slice_get xs p ≡ Some x.now
lent_at xs p o x e is = sym e ∙ ap option_copied is

-- what holds of a value that was made, by what held of it
pub if_ok_more : {A E : Type 0} {P Q : A → Type 0} (r : Result A E) → ((x : A) → P x → Q x) → IfOk r P → IfOk r Q
if_ok_more (Ok x) f h = f x h
if_ok_more (Err e) f h = tt

-- a value of a table is sound
pub sound_of_value : {X : Type 0} (P : X → Type 0) (table : Table X) (p : ℕ) (value : Result X Fault) → AreSoundIn P table → slice_get table p ≡ Some (Some value) → IfOk value P
sound_of_value P table p (Ok x) h at = h p x at
sound_of_value P table p (Err f) h at = tt
