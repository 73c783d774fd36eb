-- Sets are refused as they are checked before any is made: none changes a kind.
use Rattle.std.proofs.Common.{◌≡◌, ℕ, ◌+◌, ℤ, Bool, true, false, not, cond, nat_eq, ◌⊎◌, inl, inr, List, [], ◌∷◌, Option, None, Some, Result, Ok, Err, refl, sym, ap, ◌∙◌, if◌then◌else◌}
use Rattle.std.specs.List.{All}
use Rattle.std.specs.Option.{option_map, option_map_or}
use Rattle.std.specs.Cmp.Lexicographic.{pointwise}
use Rattle.std.proofs.lemmas.List.Elements.{All-head, All-tail}
use Rattle.viz_kinds.specs.declared.param.Param.{Param}
use Rattle.viz_kinds.specs.declared.param.Param.TheVariants as param
use Rattle.viz_kinds.specs.declared.param.Value.{Value}
use Rattle.viz_kinds.specs.declared.param.Value.TheVariants.{Numbers, Text}
use Rattle.viz_kinds.specs.declared.settings.Settings.{Settings}
use Rattle.viz_kinds.specs.declared.settings.Settings.TheVariants as settings
use Rattle.viz_kinds.specs.Kinds.{has_param}
use Rattle.viz_kinds.specs.Settings.{kind_of, with, with_numbers, with_text}
use Rattle.viz_kinds.specs.Values.{is_value}
use Rattle.viz_base.specs.declared.node.NodeId.{NodeId}
use Rattle.viz_network.specs.declared.node.Node.{Node}
use Rattle.viz_network.specs.declared.edit.Edit.{Edit}
use Rattle.viz_network.specs.declared.edit.Edit.TheVariants.{Set}
use Rattle.viz_network.specs.declared.refusal.Refusal.{Refusal}
use Rattle.viz_network.specs.declared.refusal.Refusal.TheVariants.{Unknown, NoParam, BadValue}
use Rattle.viz_network.specs.Network.{Network, named, node_of, change}
use Rattle.viz_network.specs.Readers.{kind_at}
use Rattle.viz_network.specs.Edits.{apply, unless, valued}
use Rattle.viz_network.specs.EqualStamps.{IsAscending}
use Rattle.viz_network.proofs.RemoveLemmas.{named_node}
use Rattle.viz_batches.specs.declared.stop.BatchStop.{BatchStop}
use Rattle.viz_batches.specs.declared.stop.BatchStop.TheVariants.{Refused, Memory}
use Rattle.viz_batches.specs.Batches.{BatchRefusal, then_all, apply_from, apply_all}
use Rattle.viz_batches.specs.AppliesAll.{AppliesAll, IsSet}
use Rattle.viz_batches.specs.Steps.Making.{Makes}
use Rattle.viz_batches.specs.Steps.Checking.{AnswersCheck, kind_check, set_check, then_check, check_each}

-- ---- kinds

numbers_kind : (s : Settings) (p : Param) (count : ℕ) (items : List ℤ) → kind_of (with_numbers s p count items) ≡ kind_of s
numbers_kind (settings.File array unit) param.Unit count items = refl
numbers_kind (settings.Crop x0 x1 y0 y1 z0 z1) param.Bounds count items = refl
numbers_kind (settings.Sample x y z) param.Rate count items = refl
numbers_kind (settings.Threshold lo hi) param.Range count items = refl
numbers_kind (settings.Smooth radius) param.Radius count items = refl
numbers_kind (settings.Select lo hi all) param.Range count items = refl
numbers_kind (settings.Contour number levels) param.Levels count items = refl
numbers_kind (settings.Cut a b c r) param.Plane count items = refl
numbers_kind (settings.Writer binary digits version) param.Digits count items = refl
numbers_kind (settings.Writer binary digits version) param.Version count items = refl
numbers_kind _ _ _ _ = refl

text_kind : (s : Settings) (p : Param) (text : List ℕ) → kind_of (with_text s p text) ≡ kind_of s
text_kind (settings.File array unit) param.Array text = refl
text_kind (settings.Arith op) param.Op text = refl
text_kind (settings.Select lo hi all) param.Mode text = refl
text_kind (settings.Writer binary digits version) param.Style text = refl
text_kind _ _ _ = refl

with_kind : (s : Settings) (p : Param) (v : Value) → kind_of (with s p v) ≡ kind_of s
with_kind s p (Numbers count items) = numbers_kind s p count items
with_kind s p (Text text) = text_kind s p text

-- each name has a node of the same kind
abbrev SameKinds : Network → Network → Type 0
SameKinds old new = (name : List ℕ) → option_map kind_at (named new name) ≡ option_map kind_at (named old name)

change_kinds : (f : Node → Node) → ((n : Node) → kind_at (f n) ≡ kind_at n) → (net : Network) (name : List ℕ) → SameKinds net (change f net name)
change_kinds f keeps [] name other = refl
change_kinds f keeps (e ∷ net) name other = by (pointwise nat_eq name e.0) (change_kinds f keeps net name other)
  where
    by : (t : Bool) → option_map kind_at (named (change f net name) other) ≡ option_map kind_at (named net other)
        → option_map kind_at (named (cond t ((e.0, f e.1) ∷ net) (e ∷ change f net name)) other) ≡ option_map kind_at (cond (pointwise nat_eq other e.0) (Some e.1) (named net other))
    by true rest = here (pointwise nat_eq other e.0)
      where
        here : (c : Bool) → option_map kind_at (cond c (Some (f e.1)) (named net other)) ≡ option_map kind_at (cond c (Some e.1) (named net other))
        here true = ap Some (keeps e.1)
        here false = refl
    by false rest = there (pointwise nat_eq other e.0)
      where
        there : (c : Bool) → option_map kind_at (cond c (Some e.1) (named (change f net name) other)) ≡ option_map kind_at (cond c (Some e.1) (named net other))
        there true = refl
        there false = rest

-- the node that a name finds is that of its position
pub found_node : (net : Network) (name : List ℕ) (id : NodeId) → IsAscending net → option_map (λ n. n.id) (named net name) ≡ Some id → node_of net id.0 ≡ named net name
found_node net name id up h = by (named net name) refl h
  where
    by : (o : Option Node) → named net name ≡ o → option_map (λ (n : Node). n.id) o ≡ Some id → node_of net id.0 ≡ named net name
    by None e q = let bad : ⊥ = cc in absurd bad
    by (Some n) e q = let same : n.id ≡ id = cc in ap (λ (i : NodeId). node_of net i.0) (sym same) ∙ (named_node net name n up e ∙ sym e)

-- ---- refusals

-- the refusal, where there is one
abbrev refusal_of : {A : Type 0} → Result A BatchRefusal → Option BatchRefusal
refusal_of (Ok done) = None
refusal_of (Err r) = Some r

-- both are accepted, or refused in the same way
abbrev Agree : Result (Unit {0}) Refusal → Result Network Refusal → Network → Type 0
Agree check made new = ((check ≡ Ok tt) × (made ≡ Ok new)) ⊎ ((r : Refusal) × (check ≡ Err r) × (made ≡ Err r))

set_agrees : (at : ℕ) (name : List ℕ) (p : Param) (value : Value) (net : Network) → Agree (set_check net name p value) (apply at (Set name p value) net) (change (valued at p value) net name)
set_agrees at name p value net = by (named net name)
  where
    new : Network
    new = change (valued at p value) net name

    by : (o : Option Node) → Agree (option_map_or (kind_check p value) (option_map kind_at o) (Err Unknown))
        (option_map_or (λ n. unless (not (has_param (kind_of n.settings) p)) NoParam (unless (not (is_value p value)) BadValue (Ok new))) o (Err Unknown)) new
    by None = inr (Unknown, refl, refl)
    by (Some n) = inner (has_param (kind_of n.settings) p) (is_value p value)
      where
        inner : (a b : Bool) → Agree (if not a then Err NoParam else (if not b then Err BadValue else Ok tt)) (unless (not a) NoParam (unless (not b) BadValue (Ok new))) new
        inner false b = inr (NoParam, refl, refl)
        inner true false = inr (BadValue, refl, refl)
        inner true true = inl (refl, refl)

sets_refused : (index at : ℕ) (edits : List Edit) (old net : Network) → All IsSet edits → SameKinds old net → refusal_of (apply_from index at edits net) ≡ refusal_of (check_each index edits old)
sets_refused index at [] old net sets same = refl
sets_refused index at (Set name p value ∷ edits) old net sets same =
    by (set_agrees at name p value net)
    (sets_refused (index + 1) (at + 1) edits old (change (valued at p value) net name) (All-tail IsSet (Set name p value) edits sets)
    (λ other. change_kinds (valued at p value) (λ n. with_kind n.settings p value) net name other ∙ same other))
  where
    new : Network
    new = change (valued at p value) net name

    checked : set_check old name p value ≡ set_check net name p value
    checked = ap (λ o. option_map_or (kind_check p value) o (Err Unknown)) (sym (same name))

    by : Agree (set_check net name p value) (apply at (Set name p value) net) new → refusal_of (apply_from (index + 1) (at + 1) edits new) ≡ refusal_of (check_each (index + 1) edits old)
        → refusal_of (then_all (apply_from (index + 1) (at + 1) edits) index (apply at (Set name p value) net)) ≡ refusal_of (then_check (check_each (index + 1) edits old) index (set_check old name p value))
    by (inl h) rest =
        ap (λ m. refusal_of (then_all (apply_from (index + 1) (at + 1) edits) index m)) h.1
        ∙ (rest ∙ ap (λ m. refusal_of (then_check (check_each (index + 1) edits old) index m)) (sym (checked ∙ h.0)))
    by (inr h) rest =
        ap (λ m. refusal_of (then_all (apply_from (index + 1) (at + 1) edits) index m)) h.2
        ∙ ap (λ m. refusal_of (then_check (check_each (index + 1) edits old) index m)) (sym (checked ∙ h.1))
sets_refused index at (e ∷ edits) old net sets same = absurd (All-head IsSet e edits sets)

refused : (made : Result Network BatchRefusal) (r : BatchRefusal) → refusal_of made ≡ Some r → made ≡ Err r
refused (Ok new) r h = let bad : ⊥ = cc in absurd bad
refused (Err q) r h = let same : q ≡ r = cc in ap Err same

-- where the check refuses, the batch is refused so
pub check_refuses : (at : ℕ) (edits : List Edit) (net : Network) (stop : BatchStop) → All IsSet edits → AnswersCheck (Err stop) (check_each 1 edits net) → AppliesAll (Err stop) net net (apply_all at edits net)
check_refuses at edits net (Refused index r) sets h = (refused (apply_all at edits net) (index, r) (sets_refused 1 at edits net net sets (λ name. refl) ∙ ap refusal_of h), refl)
check_refuses at edits net Memory sets h = absurd h

-- where it refuses none, none is refused
pub check_passes : (at : ℕ) (edits : List Edit) (net new : Network) (result : Result (Unit {0}) BatchStop) → All IsSet edits → check_each 1 edits net ≡ Ok tt → (result ≡ Err Memory → ⊥)
    → Makes result new (apply_all at edits net) → AppliesAll result net new (apply_all at edits net)
check_passes at edits net new (Ok done) sets h room makes = makes
check_passes at edits net new (Err (Refused index r)) sets h room makes =
    let none : refusal_of (apply_all at edits net) ≡ None = sets_refused 1 at edits net net sets (λ name. refl) ∙ ap refusal_of h in
    let some : refusal_of (apply_all at edits net) ≡ Some (index, r) = ap refusal_of makes in
    let bad : ⊥ = cc in
    absurd bad
check_passes at edits net new (Err Memory) sets h room makes = absurd (room refl)
