-- The networks of a history and of a longer one.
use Rattle.std.proofs.Common.{◌≡◌, ℕ, suc, ◌+◌, ◌<◌, ◌≤◌, inl, inr, List, [], ◌∷◌, ◌++◌, length, Option, None, Some, Result, Ok, Err, zero-add, refl, sym, ap, subst, ◌∙◌, arith}
use Rattle.std.specs.Option.{option_map}
use Rattle.viz_network.specs.declared.node.Node.{Node}
use Rattle.viz_network.specs.declared.edit.Edit.{Edit}
use Rattle.viz_network.specs.declared.refusal.ApplyStop.{ApplyStop}
use Rattle.viz_network.specs.declared.refusal.ApplyStop.TheVariants.{Refused, Memory}
use Rattle.viz_network.specs.Network.{Network, node_of}
use Rattle.viz_network.specs.Edits.{apply}
use Rattle.viz_network.specs.Cone.{Tree, grow, above, cone_of, newest, stamp_of}
use Rattle.viz_network.specs.Applies.{Applies, IsPast}
use Rattle.viz_network.specs.History.{pick, after, net_after, net_of}
use Rattle.viz_network.specs.EqualStamps.{IsSound, EqualStamps, StampsStay}
use Rattle.viz_network.specs.Steps.Since.{Since}
use Rattle.viz_network.proofs.StampLemmas.{same_or_newer, same_tree}
use Rattle.viz_network.proofs.SinceLemmas.{since_same, since_both, after_since}
use Rattle.viz_network.proofs.SoundLemmas.{past_of, up_to_node, sound_more, sound_after}

sound_later : (p : ℕ) (edits : List Edit) (net : Network) → IsSound p net → IsSound (p + length edits) (net_after (p + 1) edits net)
sound_later p [] net s = subst (λ q. IsSound q net) (let e : p ≡ p + 0 = omega arith in e) s
sound_later p (edit ∷ edits) net s =
    let next = sound_after p (p + 1) edit net (omega arith) s in
    let rest = sound_later (p + 1) edits (after (p + 1) edit net) next in
    subst (λ q. IsSound q (net_after (p + 1 + 1) edits (after (p + 1) edit net))) (let e : (p + 1) + length edits ≡ p + suc (length edits) = omega arith in e) rest

pub sound_of : (edits : List Edit) → IsSound (length edits) (net_of edits)
sound_of edits = subst (λ q. IsSound q (net_of edits)) (zero-add (length edits)) (sound_later 0 edits [] (record { closed = λ x n h. (let bad : ⊥ = cc in absurd bad); ascending = tt; up_to = tt }))

pub past_of_history : (edits : List Edit) → IsPast (length edits + 1) (net_of edits)
past_of_history edits = past_of (length edits) (length edits + 1) (net_of edits) (omega arith) ((sound_of edits).up_to)

-- edits at positions past q
since_later : (q p : ℕ) (edits : List Edit) (net : Network) → q ≤ p → IsSound p net → Since q net (net_after (p + 1) edits net)
since_later q p [] net l s = since_same q net
since_later q p (edit ∷ edits) net l s =
    let made = after (p + 1) edit net in
    since_both q net made (net_after (p + 1 + 1) edits made) (after_since q (p + 1) edit net (omega (arith, l)) s.ascending)
    (since_later q (p + 1) edits made (omega (arith, l)) (sound_after p (p + 1) edit net (omega arith) s))

net_after-append : (at : ℕ) (edits more : List Edit) (net : Network) → net_after at (edits ++ more) net ≡ net_after (at + length edits) more (net_after at edits net)
net_after-append at [] more net = ap (λ k. net_after k more net) (let e : at ≡ at + 0 = omega arith in e)
net_after-append at (edit ∷ edits) more net =
    net_after-append (at + 1) edits more (after at edit net)
    ∙ ap (λ k. net_after k more (net_after (at + 1) edits (after at edit net))) (let e : (at + 1) + length edits ≡ at + suc (length edits) = omega arith in e)

net_of-append : (edits more : List Edit) → net_of (edits ++ more) ≡ net_after (length edits + 1) more (net_of edits)
net_of-append edits more = net_after-append 1 edits more [] ∙ ap (λ k. net_after k more (net_of edits)) (let e : 1 + length edits ≡ length edits + 1 = omega arith in e)

-- a node with a stamp is there
stamped_node : (net : Network) (id stamp : ℕ) → stamp_of net id ≡ Some stamp → (n : Node) × (node_of net id ≡ Some n) × (newest (cone_of net id) ≡ stamp)
stamped_node net id stamp h = by (node_of net id) refl h
  where
    tree : Node → Tree
    tree = λ v. (v, grow (above 255 net) v.inputs)

    by : (o : Option Node) → node_of net id ≡ o → option_map (λ t. newest (Some t)) (option_map (λ (v : Node). (v, grow (above 255 net) v.inputs)) o) ≡ Some stamp
        → (n : Node) × (node_of net id ≡ Some n) × (newest (option_map (λ (v : Node). (v, grow (above 255 net) v.inputs)) (node_of net id)) ≡ stamp)
    by None e p = let bad : ⊥ = cc in absurd bad
    by (Some n) e p = (n, e, ap (λ q. newest (option_map (λ (v : Node). (v, grow (above 255 net) v.inputs)) q)) e ∙ (let same : newest (Some (n, grow (above 255 net) n.inputs)) ≡ stamp = cc in same))

pub equal_stamps : EqualStamps
equal_stamps edits more id stamp old new =
    let p = length edits in
    let was = net_of edits in
    let made = net_after (p + 1) more was in
    let whole : net_of (edits ++ more) ≡ made = net_of-append edits more in
    let s = sound_of edits in
    let later = sound_later p more was s in
    let a = stamped_node was id stamp old in
    let b = stamped_node made id stamp (subst (λ net. stamp_of net id ≡ Some stamp) whole new) in
    let tree = same_tree p was made (since_later p p more was (omega arith) s) later.closed (up_to_node p was s.up_to) 256 id b.0 b.1 (b.2 ∙ sym a.2) in
    sym tree ∙ ap (λ net. cone_of net id) (sym whole)

pub stamps_stay : StampsStay
stamps_stay edits more id stamp low new =
    let p = length edits in
    let was = net_of edits in
    let made = net_after (p + 1) more was in
    let s = sound_of edits in
    let later = sound_later p more was s in
    let now : stamp_of made id ≡ Some stamp = subst (λ net. stamp_of net id ≡ Some stamp) (net_of-append edits more) new in
    let b = stamped_node made id stamp now in
    elim (same_or_newer p was made (since_later p p more was (omega arith) s) later.closed 256 id b.0 b.1) [
      | inl same ↦ ap (option_map (λ t. newest (Some t))) (sym same) ∙ now
      | inr l ↦ absurd (omega (arith, l, low, b.2))
    ]

-- what apply leaves is sound at its position
pub sound_applied : (p at : ℕ) (edit : Edit) (old new : Network) (answer : Result (Unit {0}) ApplyStop) → p < at → IsSound p old → Applies answer old new (apply at edit old) → IsSound at new
sound_applied p at edit old new (Ok done) l s made = subst (IsSound at) (ap (pick old) made) (sound_after p at edit old l s)
sound_applied p at edit old new (Err (Refused r)) l s made = subst (IsSound at) (sym made.1) (sound_more p at old (omega (arith, l)) s)
sound_applied p at edit old new (Err Memory) l s made = subst (IsSound at) (sym made.1) (sound_more p at old (omega (arith, l)) s)
