-- Each node after an edit is one of before, or was stamped by it.
use Rattle.std.proofs.Common.{◌≡◌, ℕ, ◌<◌, Bool, true, false, cond, not, nat_eq, nat_le, is_some, ◌⊎◌, inl, inr, List, [], ◌∷◌, ◌++◌, length, Option, None, Some, Result, Ok, Err, refl, sym, ap, subst, ◌∙◌, arith}
use Rattle.std.specs.List.{AllByRecursion}
use Rattle.std.specs.Option.{option_map_or}
use Rattle.std.specs.Cmp.Lexicographic.{pointwise}
use Rattle.std.proofs.lemmas.Bool.{eqb-true}
use Rattle.viz_network.specs.declared.node.Node.{Node}
use Rattle.viz_network.specs.declared.edit.Edit.{Edit}
use Rattle.viz_network.specs.declared.edit.Edit.TheVariants.{Add, Remove, Connect, Disconnect, Set, Load}
use Rattle.viz_network.specs.declared.refusal.Refusal.{Refusal}
use Rattle.viz_network.specs.declared.refusal.Refusal.TheVariants.{Unknown, Exists, TooManyNodes, InUse, NoPort, WouldCycle, NoParam, BadValue}
use Rattle.viz_network.specs.Network.{Network, named, node_of, change, without}
use Rattle.viz_network.specs.Edits.{known, unless, connected, valued, loaded, fresh, is_used, is_file}
use Rattle.viz_kinds.specs.Kinds.{has_port, has_param}
use Rattle.viz_kinds.specs.Settings.{kind_of}
use Rattle.viz_kinds.specs.Values.{is_value}
use Rattle.viz_network.specs.Cone.{nodes_limit, cone_of, has_node}
use Rattle.viz_network.specs.History.{pick, after}
use Rattle.viz_network.specs.Steps.Since.{Since}
use Rattle.viz_network.specs.EqualStamps.{IsAscending}

pub since_same : (p : ℕ) (net : Network) → Since p net net
since_same p net x n h = inl h

pub since_both : (p : ℕ) (a b c : Network) → Since p a b → Since p b c → Since p a c
since_both p a b c s t x n h = elim (t x n h) [ inl k ↦ s x n k | inr l ↦ inr l ]

-- one node more in front
front_since : (p : ℕ) (e f : List ℕ × Node) (old new : Network) → (f.1.id ≡ e.1.id) → ((f.1 ≡ e.1) ⊎ (p < f.1.stamp)) → Since p old new → Since p (e ∷ old) (f ∷ new)
front_since p e f old new same step s x n h = by (nat_eq x e.1.id.0) (subst (λ i. cond (nat_eq x i.0) (Some f.1) (node_of new x) ≡ Some n) same h)
  where
    some : Some f.1 ≡ Some n → f.1 ≡ n
    some q = let get : Option Node → Node = λ o. elim o [ Some z ↦ z | None ↦ n ] in ap get q

    by : (b : Bool) → cond b (Some f.1) (node_of new x) ≡ Some n → (cond b (Some e.1) (node_of old x) ≡ Some n) ⊎ (p < n.stamp)
    by false q = s x n q
    by true q = elim step [ inl k ↦ inl (ap Some (sym k) ∙ q) | inr l ↦ inr (subst (λ m. p < m.stamp) (some q) l) ]

change_since : (p : ℕ) (f : Node → Node) → ((n : Node) → (f n).id ≡ n.id) → ((n : Node) → p < (f n).stamp) → (net : Network) (name : List ℕ) → Since p net (change f net name)
change_since p f keeps newer [] name = since_same p []
change_since p f keeps newer (e ∷ net) name = by (pointwise nat_eq name e.0) (change_since p f keeps newer net name)
  where
    by : (b : Bool) → Since p net (change f net name) → Since p (e ∷ net) (cond b ((e.0, f e.1) ∷ net) (e ∷ change f net name))
    by true r = front_since p e (e.0, f e.1) net net (keeps e.1) (inr (newer e.1)) (since_same p net)
    by false r = front_since p e e net (change f net name) refl (inl refl) r

append_since : (p : ℕ) (e : List ℕ × Node) → p < e.1.stamp → (net : Network) → Since p net (net ++ e ∷ [])
append_since p e newer [] x n h = by (nat_eq x e.1.id.0) h
  where
    by : (b : Bool) → cond b (Some e.1) None ≡ Some n → (None ≡ Some n) ⊎ (p < n.stamp)
    by true q = let get : Option Node → Node = λ o. elim o [ Some z ↦ z | None ↦ n ] in inr (subst (λ m. p < m.stamp) (ap get q) newer)
    by false q = inl q
append_since p e newer (d ∷ net) x n h = front_since p d d net (net ++ e ∷ []) refl (inl refl) (append_since p e newer net) x n h

-- what stands behind a node in order has another position
above_none : (net : Network) (a : ℕ) → AllByRecursion (λ (m : List ℕ × Node). a < m.1.id.0) net → node_of net a ≡ None
above_none [] a h = refl
above_none (e ∷ net) a h = by (nat_eq a e.1.id.0) refl (above_none net a h.1)
  where
    by : (b : Bool) → nat_eq a e.1.id.0 ≡ b → node_of net a ≡ None → cond b (Some e.1) (node_of net a) ≡ None
    by true t rest = absurd (omega (arith, eqb-true a e.1.id.0 t, h.0))
    by false t rest = rest

without_since : (p : ℕ) (net : Network) (name : List ℕ) → IsAscending net → Since p net (without net name)
without_since p [] name d = since_same p []
without_since p (e ∷ net) name d = by (pointwise nat_eq name e.0) (without_since p net name d.1)
  where
    gone : Since p (e ∷ net) net
    gone x n h = inner (nat_eq x e.1.id.0) refl
      where
        inner : (b : Bool) → nat_eq x e.1.id.0 ≡ b → (cond b (Some e.1) (node_of net x) ≡ Some n) ⊎ (p < n.stamp)
        inner false q = inl h
        inner true q = let bad : Some n ≡ None = sym h ∙ ap (node_of net) (eqb-true x e.1.id.0 q) ∙ above_none net e.1.id.0 d.0 in let no : ⊥ = cc in absurd no

    by : (b : Bool) → Since p net (without net name) → Since p (e ∷ net) (cond b net (e ∷ without net name))
    by true r = gone
    by false r = front_since p e e net (without net name) refl (inl refl) r

-- what holds of the network before and of the one that is made holds whichever is picked
unless_keeps : (P : Network → Type 0) (net : Network) (b : Bool) (r : Refusal) (done : Result Network Refusal) → P net → P (pick net done) → P (pick net (unless b r done))
unless_keeps P net true r done h k = h
unless_keeps P net false r done h k = k

known_keeps : (P : Network → Type 0) (net : Network) (name : List ℕ) (f : Node → Result Network Refusal) → P net → ((n : Node) → P (pick net (f n))) → P (pick net (known net name f))
known_keeps P net name f h k = by (named net name)
  where
    by : (o : Option Node) → P (pick net (option_map_or f o (Err Unknown)))
    by None = h
    by (Some n) = k n

-- an edit at a later position
pub after_since : (p at : ℕ) (e : Edit) (net : Network) → p < at → IsAscending net → Since p net (after at e net)
after_since p at (Add k name) net l d =
    let made = net ++ (name, fresh at k) ∷ [] in
    unless_keeps (Since p net) net (is_some (named net name)) Exists (unless (nat_le nodes_limit (length net)) TooManyNodes (Ok made)) (since_same p net)
    (unless_keeps (Since p net) net (nat_le nodes_limit (length net)) TooManyNodes (Ok made) (since_same p net) (append_since p (name, fresh at k) l net))
after_since p at (Remove name) net l d =
    known_keeps (Since p net) net name (λ n. unless (is_used n.id.0 net) InUse (Ok (without net name))) (since_same p net)
    (λ n. unless_keeps (Since p net) net (is_used n.id.0 net) InUse (Ok (without net name)) (since_same p net) (without_since p net name d))
after_since p at (Connect from to port) net l d =
    let made : Node → Result Network Refusal = λ a. Ok (change (connected at port (Some a.id)) net to) in
    let cycle : Node → Node → Result Network Refusal = λ a b. unless (has_node b.id.0 (cone_of net a.id.0)) WouldCycle (made a) in
    let second : Node → Result Network Refusal = λ a. known net to (λ b. unless (not (has_port (kind_of b.settings) port)) NoPort (cycle a b)) in
    known_keeps (Since p net) net from second (since_same p net) (λ a.
    known_keeps (Since p net) net to (λ b. unless (not (has_port (kind_of b.settings) port)) NoPort (cycle a b)) (since_same p net) (λ b.
    unless_keeps (Since p net) net (not (has_port (kind_of b.settings) port)) NoPort (cycle a b) (since_same p net)
    (unless_keeps (Since p net) net (has_node b.id.0 (cone_of net a.id.0)) WouldCycle (made a) (since_same p net)
    (change_since p (connected at port (Some a.id)) (λ n. refl) (λ n. l) net to))))
after_since p at (Disconnect to port) net l d =
    let made : Result Network Refusal = Ok (change (connected at port None) net to) in
    known_keeps (Since p net) net to (λ b. unless (not (has_port (kind_of b.settings) port)) NoPort made) (since_same p net) (λ b.
    unless_keeps (Since p net) net (not (has_port (kind_of b.settings) port)) NoPort made (since_same p net) (change_since p (connected at port None) (λ n. refl) (λ n. l) net to))
after_since p at (Set name param value) net l d =
    let made : Result Network Refusal = Ok (change (valued at param value) net name) in
    let fits : Result Network Refusal = unless (not (is_value param value)) BadValue made in
    known_keeps (Since p net) net name (λ n. unless (not (has_param (kind_of n.settings) param)) NoParam fits) (since_same p net) (λ n.
    unless_keeps (Since p net) net (not (has_param (kind_of n.settings) param)) NoParam fits (since_same p net)
    (unless_keeps (Since p net) net (not (is_value param value)) BadValue made (since_same p net) (change_since p (valued at param value) (λ m. refl) (λ m. l) net name)))
after_since p at (Load name bytes) net l d =
    let made : Result Network Refusal = Ok (change (loaded at bytes) net name) in
    known_keeps (Since p net) net name (λ n. unless (not (is_file (kind_of n.settings))) NoParam made) (since_same p net) (λ n.
    unless_keeps (Since p net) net (not (is_file (kind_of n.settings))) NoParam made (since_same p net) (change_since p (loaded at bytes) (λ m. refl) (λ m. l) net name))
