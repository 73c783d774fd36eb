-- What each network of a history keeps.
use Rattle.std.proofs.Common.{◌≡◌, ℕ, zero, suc, ◌-◌, ◌<◌, ◌≤◌, Bool, true, false, not, cond, nat_eq, nat_le, is_some, ◌⊎◌, inl, inr, List, [], ◌∷◌, ◌++◌, length, slice_set, Option, None, Some, Result, Ok, Err, refl, sym, subst, arith}
use Rattle.std.specs.List.{AllByRecursion}
use Rattle.std.specs.Option.{option_map_or}
use Rattle.std.specs.Cmp.Lexicographic.{pointwise}
use Rattle.viz_base.specs.declared.node.NodeId.{NodeId}
use Rattle.viz_kinds.specs.declared.kind.Kind.{Kind}
use Rattle.viz_network.specs.declared.node.Node.{Node}
use Rattle.viz_network.specs.declared.edit.Edit.{Edit}
use Rattle.viz_network.specs.declared.edit.Edit.TheVariants.{Add, Remove, Connect, Disconnect, Set, Load}
use Rattle.viz_network.specs.declared.refusal.Refusal.{Refusal}
use Rattle.viz_network.specs.declared.refusal.Refusal.TheVariants.{Unknown, Exists, TooManyNodes, InUse, NoPort, WouldCycle, NoParam, BadValue}
use Rattle.viz_kinds.specs.Kinds.{has_port, has_param}
use Rattle.viz_kinds.specs.Settings.{kind_of}
use Rattle.viz_kinds.specs.Values.{is_value}
use Rattle.viz_network.specs.Network.{Network, named, node_of, change, without}
use Rattle.viz_network.specs.Cone.{nodes_limit, cone_of, has_node}
use Rattle.viz_network.specs.Edits.{known, unless, connected, valued, loaded, fresh, is_input, is_used, is_file}
use Rattle.viz_network.specs.Applies.{IsPast}
use Rattle.viz_network.specs.History.{pick, after}
use Rattle.viz_network.specs.EqualStamps.{IsFed, IsUpTo, IsSound}
use Rattle.viz_network.proofs.BehindLemmas.{or_false}
use Rattle.viz_network.proofs.ConnectLemmas.{change_node}
use Rattle.viz_network.proofs.EditLemmas.{all_push, node_front, node_back, ascending_push, change_ascending}
use Rattle.viz_network.proofs.RemoveLemmas.{named_node, without_all, without_other, without_back, without_ascending, unused}

all_map : {A : Type 0} (P Q : A → Type 0) → ((a : A) → P a → Q a) → (xs : List A) → AllByRecursion P xs → AllByRecursion Q xs
all_map P Q h [] g = tt
all_map P Q h (x ∷ xs) g = (h x g.0, all_map P Q h xs g.1)

up_to_more : (p at : ℕ) (net : Network) → p ≤ at → IsUpTo p net → IsUpTo at net
up_to_more p at net l h = all_map (λ (n : List ℕ × Node). (n.1.id.0 ≤ p) × (n.1.stamp ≤ p)) (λ (n : List ℕ × Node). (n.1.id.0 ≤ at) × (n.1.stamp ≤ at)) (λ n g. (omega (arith, g.0, l), omega (arith, g.1, l))) net h

pub past_of : (p at : ℕ) (net : Network) → p < at → IsUpTo p net → IsPast at net
past_of p at net l h = all_map (λ (n : List ℕ × Node). (n.1.id.0 ≤ p) × (n.1.stamp ≤ p)) (λ (n : List ℕ × Node). (n.1.id.0 < at) × (n.1.stamp < at)) (λ n g. (omega (arith, g.0, l), omega (arith, g.1, l))) net h

pub up_to_node : (p : ℕ) (net : Network) → IsUpTo p net → (x : ℕ) (n : Node) → node_of net x ≡ Some n → n.stamp ≤ p
up_to_node p [] h x n at = let bad : ⊥ = cc in absurd bad
up_to_node p (e ∷ net) h x n at = by (nat_eq x e.1.id.0) at (up_to_node p net h.1 x n)
  where
    by : (b : Bool) → cond b (Some e.1) (node_of net x) ≡ Some n → (node_of net x ≡ Some n → n.stamp ≤ p) → n.stamp ≤ p
    by true q rest = let same : e.1 ≡ n = cc in subst (λ (m : Node). m.stamp ≤ p) same h.0.1
    by false q rest = rest q

pub sound_more : (p at : ℕ) (net : Network) → p ≤ at → IsSound p net → IsSound at net
sound_more p at net l s = record { closed = s.closed; ascending = s.ascending; up_to = up_to_more p at net l s.up_to }

-- what feeds the ports is there as long as the nodes are
fed_map : (old new : Network) → ((x : ℕ) (n : Node) → node_of old x ≡ Some n → (m : Node) × (node_of new x ≡ Some m)) → (inputs : List (Option NodeId)) → AllByRecursion (IsFed old) inputs → AllByRecursion (IsFed new) inputs
fed_map old new h [] g = tt
fed_map old new h (None ∷ inputs) g = (tt, fed_map old new h inputs g.1)
fed_map old new h (Some id ∷ inputs) g = (h id.0 g.0.0 g.0.1, fed_map old new h inputs g.1)

sound_add : (p at : ℕ) (net : Network) (name : List ℕ) (kind : Kind) → p < at → IsSound p net → IsSound at (net ++ (name, fresh at kind) ∷ [])
sound_add p at net name kind l s = record {
  closed = λ x n h. elim (node_back net e x n h) [
    | inl was ↦ fed_map net new (λ y m k. (m, node_front net e y m k)) n.inputs (s.closed x n was)
    | inr last ↦ subst (λ (m : Node). AllByRecursion (IsFed new) m.inputs) last (tt, (tt, (tt, (tt, (tt, (tt, (tt, (tt, tt))))))))
  ];
  ascending = ascending_push net e s.ascending (past_of p at net l s.up_to);
  up_to = all_push (λ (n : List ℕ × Node). (n.1.id.0 ≤ at) × (n.1.stamp ≤ at)) net e (up_to_more p at net (omega (arith, l)) s.up_to) (omega arith, omega arith);
}
  where
    e : List ℕ × Node
    e = (name, fresh at kind)

    new : Network
    new = net ++ e ∷ []

-- what feeds the ports is there without a node that feeds none of them
fed_left : (net : Network) (name : List ℕ) (b : Node) → named net name ≡ Some b → (inputs : List (Option NodeId)) → is_input b.id.0 inputs ≡ false → AllByRecursion (IsFed net) inputs
    → AllByRecursion (IsFed (without net name)) inputs
fed_left net name b found [] u h = tt
fed_left net name b found (None ∷ inputs) u h = (tt, fed_left net name b found inputs u h.1)
fed_left net name b found (Some id ∷ inputs) u h =
    let both = or_false (nat_eq b.id.0 id.0) (is_input b.id.0 inputs) u in
    ((h.0.0, without_other net name b found id.0 h.0.0 h.0.1 both.0), fed_left net name b found inputs both.1 h.1)

sound_remove : (p : ℕ) (net : Network) (name : List ℕ) (b : Node) → named net name ≡ Some b → is_used b.id.0 net ≡ false → IsSound p net → IsSound p (without net name)
sound_remove p net name b found u s = record {
  closed = λ x n h. (let back = without_back net name b s.ascending found x n h in fed_left net name b found n.inputs (unused b.id.0 net x n u back.0) (s.closed x n back.0));
  ascending = without_ascending net name s.ascending;
  up_to = without_all (λ (n : List ℕ × Node). (n.1.id.0 ≤ p) × (n.1.stamp ≤ p)) net name s.up_to;
}

-- a node after a change is one of before, or the changed one
change_either : (f : Node → Node) → ((n : Node) → (f n).id ≡ n.id) → (net : Network) (name : List ℕ) (x : ℕ) (n : Node) → node_of (change f net name) x ≡ Some n
    → (m : Node) × (node_of net x ≡ Some m) × ((m ≡ n) ⊎ (f m ≡ n))
change_either f keeps [] name x n h = let bad : ⊥ = cc in absurd bad
change_either f keeps (e ∷ net) name x n h = by (pointwise nat_eq name e.0) h (change_either f keeps net name x n)
  where
    by : (b : Bool) → node_of (cond b ((e.0, f e.1) ∷ net) (e ∷ change f net name)) x ≡ Some n → (node_of (change f net name) x ≡ Some n → (m : Node) × (node_of net x ≡ Some m) × ((m ≡ n) ⊎ (f m ≡ n)))
        → (m : Node) × (node_of (e ∷ net) x ≡ Some m) × ((m ≡ n) ⊎ (f m ≡ n))
    by true p rest = inner (nat_eq x e.1.id.0) (subst (λ (i : NodeId). cond (nat_eq x i.0) (Some (f e.1)) (node_of net x) ≡ Some n) (keeps e.1) p)
      where
        inner : (c : Bool) → cond c (Some (f e.1)) (node_of net x) ≡ Some n → (m : Node) × (cond c (Some e.1) (node_of net x) ≡ Some m) × ((m ≡ n) ⊎ (f m ≡ n))
        inner true q = let same : f e.1 ≡ n = cc in (e.1, refl, inr same)
        inner false q = (n, q, inl refl)
    by false p rest = inner (nat_eq x e.1.id.0) p
      where
        inner : (c : Bool) → cond c (Some e.1) (node_of (change f net name) x) ≡ Some n → (m : Node) × (cond c (Some e.1) (node_of net x) ≡ Some m) × ((m ≡ n) ⊎ (f m ≡ n))
        inner true q = (n, q, inl refl)
        inner false q = rest q

change_up_to : (at : ℕ) (f : Node → Node) → ((n : Node) → (f n).id ≡ n.id) → ((n : Node) → (f n).stamp ≡ at) → (net : Network) (name : List ℕ) → IsUpTo at net → IsUpTo at (change f net name)
change_up_to at f keeps stamps [] name h = tt
change_up_to at f keeps stamps (e ∷ net) name h = by (pointwise nat_eq name e.0) (change_up_to at f keeps stamps net name h.1)
  where
    by : (b : Bool) → IsUpTo at (change f net name) → IsUpTo at (cond b ((e.0, f e.1) ∷ net) (e ∷ change f net name))
    by true r = ((subst (λ (i : NodeId). i.0 ≤ at) (sym (keeps e.1)) h.0.0, omega (arith, stamps e.1)), h.1)
    by false r = (h.0, r)

module _ (p at : ℕ) (later : p < at) (f : Node → Node) (keeps : (n : Node) → (f n).id ≡ n.id) (stamps : (n : Node) → (f n).stamp ≡ at) (net : Network) (name : List ℕ) (b : Node) (found : named net name ≡ Some b) where
  -- each node is still there
  pub still_there : (x : ℕ) (m : Node) → node_of net x ≡ Some m → (n : Node) × (node_of (change f net name) x ≡ Some n)
  still_there x m h = elim (change_node f keeps net name b found x m h) [ inl same ↦ (m, same) | inr hit ↦ (f m, hit.1) ]

  sound_change : ((m : Node) → AllByRecursion (IsFed (change f net name)) m.inputs → AllByRecursion (IsFed (change f net name)) (f m).inputs) → IsSound p net → IsSound at (change f net name)
  sound_change fed s = record {
    closed = λ x n h. (
        let m = change_either f keeps net name x n h in
        let was = fed_map net (change f net name) still_there m.0.inputs (s.closed x m.0 m.1) in
        elim m.2 [
          | inl same ↦ subst (λ (v : Node). AllByRecursion (IsFed (change f net name)) v.inputs) same was
          | inr hit ↦ subst (λ (v : Node). AllByRecursion (IsFed (change f net name)) v.inputs) hit (fed m.0 was)
        ]);
    ascending = change_ascending f keeps net name s.ascending;
    up_to = change_up_to at f keeps stamps net name (up_to_more p at net (omega (arith, later)) s.up_to);
  }

-- one port with another input
inputs_put : (net : Network) (o : Option NodeId) → IsFed net o → (inputs : List (Option NodeId)) (i : ℕ) → AllByRecursion (IsFed net) inputs → AllByRecursion (IsFed net) (slice_set inputs i o)
inputs_put net o h [] i g = tt
inputs_put net o h (q ∷ inputs) zero g = (h, g.1)
inputs_put net o h (q ∷ inputs) (suc i) g = (g.0, inputs_put net o h inputs i g.1)

-- what holds of the network before and of the one that is made holds whichever is picked
unless_case : (P : Network → Type 0) (net : Network) (b : Bool) (r : Refusal) (done : Result Network Refusal) → P net → (b ≡ false → P (pick net done)) → P (pick net (unless b r done))
unless_case P net true r done h k = h
unless_case P net false r done h k = k refl

known_case : (P : Network → Type 0) (net : Network) (name : List ℕ) (f : Node → Result Network Refusal) → P net → ((n : Node) → named net name ≡ Some n → P (pick net (f n))) → P (pick net (known net name f))
known_case P net name f h k = by (named net name) k
  where
    by : (o : Option Node) → ((n : Node) → o ≡ Some n → P (pick net (f n))) → P (pick net (option_map_or f o (Err Unknown)))
    by None j = h
    by (Some n) j = j n refl

-- an edit at a later position
pub sound_after : (p at : ℕ) (edit : Edit) (net : Network) → p < at → IsSound p net → IsSound at (after at edit net)
sound_after p at (Add kind name) net l s =
    let same = sound_more p at net (omega (arith, l)) s in
    let made : Result Network Refusal = Ok (net ++ (name, fresh at kind) ∷ []) in
    unless_case (IsSound at) net (is_some (named net name)) Exists (unless (nat_le nodes_limit (length net)) TooManyNodes made) same
    (λ _. unless_case (IsSound at) net (nat_le nodes_limit (length net)) TooManyNodes made same (λ _. sound_add p at net name kind l s))
sound_after p at (Remove name) net l s =
    let same = sound_more p at net (omega (arith, l)) s in
    known_case (IsSound at) net name (λ n. unless (is_used n.id.0 net) InUse (Ok (without net name))) same
    (λ n found. unless_case (IsSound at) net (is_used n.id.0 net) InUse (Ok (without net name)) same (λ u. sound_remove at net name n found u same))
sound_after p at (Connect from to port) net l s =
    let same = sound_more p at net (omega (arith, l)) s in
    let made : Node → Result Network Refusal = λ a. Ok (change (connected at port (Some a.id)) net to) in
    let cycle : Node → Node → Result Network Refusal = λ a b. unless (has_node b.id.0 (cone_of net a.id.0)) WouldCycle (made a) in
    let second : Node → Result Network Refusal = λ a. known net to (λ b. unless (not (has_port (kind_of b.settings) port)) NoPort (cycle a b)) in
    known_case (IsSound at) net from second same (λ a source.
    known_case (IsSound at) net to (λ b. unless (not (has_port (kind_of b.settings) port)) NoPort (cycle a b)) same (λ b found.
    unless_case (IsSound at) net (not (has_port (kind_of b.settings) port)) NoPort (cycle a b) same (λ _.
    unless_case (IsSound at) net (has_node b.id.0 (cone_of net a.id.0)) WouldCycle (made a) same (λ _.
    sound_change p at l (connected at port (Some a.id)) (λ n. refl) (λ n. refl) net to b found
    (λ m fed. inputs_put (change (connected at port (Some a.id)) net to) (Some a.id)
    (still_there p at l (connected at port (Some a.id)) (λ n. refl) (λ n. refl) net to b found a.id.0 a (named_node net from a s.ascending source)) m.inputs (port - 1) fed) s))))
sound_after p at (Disconnect to port) net l s =
    let same = sound_more p at net (omega (arith, l)) s in
    let made : Result Network Refusal = Ok (change (connected at port None) net to) in
    known_case (IsSound at) net to (λ b. unless (not (has_port (kind_of b.settings) port)) NoPort made) same (λ b found.
    unless_case (IsSound at) net (not (has_port (kind_of b.settings) port)) NoPort made same (λ _.
    sound_change p at l (connected at port None) (λ n. refl) (λ n. refl) net to b found (λ m fed. inputs_put (change (connected at port None) net to) None tt m.inputs (port - 1) fed) s))
sound_after p at (Set name param value) net l s =
    let same = sound_more p at net (omega (arith, l)) s in
    let made : Result Network Refusal = Ok (change (valued at param value) net name) in
    let fits : Result Network Refusal = unless (not (is_value param value)) BadValue made in
    known_case (IsSound at) net name (λ n. unless (not (has_param (kind_of n.settings) param)) NoParam fits) same (λ b found.
    unless_case (IsSound at) net (not (has_param (kind_of b.settings) param)) NoParam fits same (λ _.
    unless_case (IsSound at) net (not (is_value param value)) BadValue made same (λ _.
    sound_change p at l (valued at param value) (λ n. refl) (λ n. refl) net name b found (λ m fed. fed) s)))
sound_after p at (Load name bytes) net l s =
    let same = sound_more p at net (omega (arith, l)) s in
    let made : Result Network Refusal = Ok (change (loaded at bytes) net name) in
    known_case (IsSound at) net name (λ n. unless (not (is_file (kind_of n.settings))) NoParam made) same (λ b found.
    unless_case (IsSound at) net (not (is_file (kind_of b.settings))) NoParam made same (λ _.
    sound_change p at l (loaded at bytes) (λ n. refl) (λ n. refl) net name b found (λ m fed. fed) s))
