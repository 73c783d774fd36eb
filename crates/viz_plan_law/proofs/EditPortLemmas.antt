-- Edits feed only ports of a node's kind.
use Rattle.std.proofs.Common.{
  ◌≡◌,
  ℕ,
  zero,
  suc,
  ◌+◌,
  ◌-◌,
  ◌≤◌,
  ◌<◌,
  nat_le,
  nat_eq,
  not,
  is_some,
  ℤ,
  Bool,
  true,
  false,
  cond,
  List,
  [],
  ◌∷◌,
  length,
  replicate,
  Option,
  None,
  Some,
  Result,
  Err,
  refl,
  sym,
  subst,
  ◌∙◌,
  arith,
}
use Rattle.std.proofs.lemmas.Bool.Decides.{nat_tests}
use Rattle.std.proofs.lemmas.List.{get_or-set_other}
use Rattle.std.specs.Cmp.Lexicographic.{pointwise}
use Rattle.std.specs.Map.{lookup}
use Rattle.std.specs.Option.{option_map_or}
use Rattle.std.specs.Prelude.{slice_index_or}
use Rattle.viz_base.specs.declared.node.NodeId.{NodeId}
use Rattle.viz_kinds.specs.Kinds.{has_param, has_port, ports_of}
use Rattle.viz_kinds.specs.Settings.{kind_of, with, with_numbers, with_text}
use Rattle.viz_kinds.specs.Values.{is_value}
use Rattle.viz_kinds.specs.declared.kind.Kind.{Kind}
use Rattle.viz_kinds.specs.declared.param.Param.{Param}
use Rattle.viz_kinds.specs.declared.param.Param.TheVariants as param
use Rattle.viz_kinds.specs.declared.param.Value.{Value}
use Rattle.viz_kinds.specs.declared.param.Value.TheVariants.{Numbers, Text}
use Rattle.viz_kinds.specs.declared.settings.Settings.{Settings}
use Rattle.viz_kinds.specs.declared.settings.Settings.TheVariants as settings
use Rattle.viz_network.proofs.EditLemmas.{all_push}
use Rattle.viz_network.proofs.RemoveLemmas.{without_all}
use Rattle.viz_network.specs.Cone.{cone_of, has_node, nodes_limit}
use Rattle.viz_network.specs.Edits.{
  connected,
  fresh,
  is_file,
  is_used,
  known,
  loaded,
  unless,
  valued,
}
use Rattle.viz_network.specs.History.{after, net_after, pick}
use Rattle.viz_network.specs.Network.{Network, change, named, node_of}
use Rattle.viz_network.specs.declared.edit.Edit.{Edit}
use Rattle.viz_network.specs.declared.edit.Edit.TheVariants.{
  Add,
  Connect,
  Disconnect,
  Load,
  Remove,
  Set,
}
use Rattle.viz_network.specs.declared.node.Node.{Node}
use Rattle.viz_network.specs.declared.refusal.Refusal.{Refusal}
use Rattle.viz_network.specs.declared.refusal.Refusal.TheVariants.{
  BadValue,
  Exists,
  InUse,
  NoParam,
  NoPort,
  TooManyNodes,
  Unknown,
  WouldCycle,
}
use Rattle.viz_plan_law.specs.Ports.{
  EditsKeepPorts,
  HasOwnPorts,
  HaveOwnPorts,
  HistoriesKeepPorts,
}
use Rattle.viz_plan_law.proofs.ServeLemmas.{and_left, and_right}

-- a node of the network feeds only ports of its kind
pub own_node : (net : Network) (x : ℕ) (n : Node) → HaveOwnPorts net → node_of net x ≡ Some n
    → HasOwnPorts n
own_node [] x n h e = let bad : ⊥ = cc in absurd bad
own_node (m ∷ net) x n h e = by (nat_eq x m.1.id.0) e (own_node net x n h.1)
  where
    by : (b : Bool) → cond b (Some m.1) (node_of net x) ≡ Some n
        → (node_of net x ≡ Some n → HasOwnPorts n) → HasOwnPorts n
    by true q rest = (let same : m.1 ≡ n = cc in subst HasOwnPorts same h.0)
    by false q rest = rest q

-- ---- single nodes

abbrev nothing : Option NodeId
nothing = None

nothing_fed : (n place : ℕ) → slice_index_or (replicate n nothing) place nothing ≡ nothing
nothing_fed zero place = refl
nothing_fed (suc n) zero = refl
nothing_fed (suc n) (suc place) = nothing_fed n place

fresh_own : (at : ℕ) (kind : Kind) → HasOwnPorts (fresh at kind)
fresh_own at kind port l = nothing_fed 8 (port - 1)

connected_own : (at port : ℕ) (from : Option NodeId) (n : Node)
    → has_port (kind_of n.settings) port ≡ true → HasOwnPorts n
    → HasOwnPorts (connected at port from n)
connected_own at port from n has h other l =
    let first = and_left (nat_le 1 port) (nat_le port (ports_of (kind_of n.settings))) has in
    let last = and_right (nat_le 1 port) (nat_le port (ports_of (kind_of n.settings))) has in
    let some : 1 ≤ port = grind (arith, nat_tests, first) in
    let most : port ≤ ports_of (kind_of n.settings) = grind (arith, nat_tests, last) in
    get_or-set_other n.inputs (port - 1) (other - 1) from None
    (λ q. omega (arith, some, most, l, q)) ∙ h other l

numbers_kind : (s : Settings) (p : Param) (count : ℕ) (items : List ℤ)
    → kind_of (with_numbers s p count items) ≡ kind_of s
numbers_kind (settings.File array unit) param.Unit count items = refl
numbers_kind (settings.Crop x0 x1 y0 y1 z0 z1) param.Bounds count items = refl
numbers_kind (settings.Sample x y z) param.Rate count items = refl
numbers_kind (settings.Threshold lo hi) param.Range count items = refl
numbers_kind (settings.Smooth radius) param.Radius count items = refl
numbers_kind (settings.Select lo hi all) param.Range count items = refl
numbers_kind (settings.Contour number levels) param.Levels count items = refl
numbers_kind (settings.Cut a b c r) param.Plane count items = refl
numbers_kind (settings.Writer binary digits version) param.Digits count items = refl
numbers_kind (settings.Writer binary digits version) param.Version count items = refl
numbers_kind _ _ _ _ = refl

text_kind : (s : Settings) (p : Param) (text : List ℕ)
    → kind_of (with_text s p text) ≡ kind_of s
text_kind (settings.File array unit) param.Array text = refl
text_kind (settings.Arith op) param.Op text = refl
text_kind (settings.Select lo hi all) param.Mode text = refl
text_kind (settings.Writer binary digits version) param.Style text = refl
text_kind _ _ _ = refl

with_kind : (s : Settings) (p : Param) (v : Value) → kind_of (with s p v) ≡ kind_of s
with_kind s p (Numbers count items) = numbers_kind s p count items
with_kind s p (Text text) = text_kind s p text

valued_own : (at : ℕ) (p : Param) (v : Value) (n : Node) → HasOwnPorts n
    → HasOwnPorts (valued at p v n)
valued_own at p v n h port l =
    h port (subst (λ (kind : Kind). ports_of kind < port) (with_kind n.settings p v) l)

-- ---- networks

abbrev Keep : Network → Type 0
Keep net = HaveOwnPorts net

change_own : (f : Node → Node) (net : Network) (name : List ℕ) (b : Node)
    → named net name ≡ Some b → (HasOwnPorts b → HasOwnPorts (f b)) → Keep net
    → Keep (change f net name)
change_own f [] name b e keeps h = tt
change_own f (n ∷ net) name b e keeps h =
    by (pointwise nat_eq name n.0) e (λ q. change_own f net name b q keeps h.1)
  where
    by : (t : Bool) → cond t (Some n.1) (lookup (pointwise nat_eq name) net) ≡ Some b
        → (named net name ≡ Some b → Keep (change f net name))
        → Keep (cond t ((n.0, f n.1) ∷ net) (n ∷ change f net name))
    by true q rest = (
        let same : n.1 ≡ b = cc in
        let kept : HasOwnPorts n.1 → HasOwnPorts (f n.1) =
        subst (λ (m : Node). HasOwnPorts m → HasOwnPorts (f m)) (sym same) keeps in
        (kept h.0, h.1)
        )
    by false q rest = (h.0, rest q)

-- what an edit comes to keeps it, in place of a network that does
abbrev Keeps : Network → Result Network Refusal → Type 0
Keeps net made = Keep (pick net made)

unless_keeps : (net : Network) (b : Bool) (r : Refusal) (made : Result Network Refusal) → Keep net
    → (b ≡ false → Keeps net made) → Keeps net (unless b r made)
unless_keeps net true r made h k = h
unless_keeps net false r made h k = k refl

known_keeps : (net : Network) (name : List ℕ) (f : Node → Result Network Refusal) → Keep net
    → ((n : Node) → named net name ≡ Some n → Keeps net (f n)) → Keeps net (known net name f)
known_keeps net name f h k = by (named net name) refl
  where
    by : (o : Option Node) → named net name ≡ o → Keeps net (option_map_or f o (Err Unknown))
    by None e = h
    by (Some n) e = k n e

not_false : (b : Bool) → not b ≡ false → b ≡ true
not_false true e = refl
not_false false e = let bad : ⊥ = cc in absurd bad

pub edits_keep : EditsKeepPorts
edits_keep at (Add kind name) net h =
    unless_keeps net (is_some (named net name)) Exists _ h
    (λ q. unless_keeps net (nat_le nodes_limit (length net)) TooManyNodes _ h
    (λ p. all_push (λ (n : List ℕ × Node). HasOwnPorts n.1) net (name, fresh at kind) h
    (fresh_own at kind)))
edits_keep at (Remove name) net h =
    known_keeps net name _ h
    (λ n e. unless_keeps net (is_used n.id.0 net) InUse _ h
    (λ q. without_all (λ (m : List ℕ × Node). HasOwnPorts m.1) net name h))
edits_keep at (Connect from to port) net h =
    known_keeps net from _ h
    (λ a d. known_keeps net to _ h
    (λ b e. unless_keeps net (not (has_port (kind_of b.settings) port)) NoPort _ h
    (λ q. unless_keeps net (has_node b.id.0 (cone_of net a.id.0)) WouldCycle _ h
    (λ p. change_own (connected at port (Some a.id)) net to b e
    (connected_own at port (Some a.id) b
    (not_false (has_port (kind_of b.settings) port) q)) h))))
edits_keep at (Disconnect to port) net h =
    known_keeps net to _ h
    (λ b e. unless_keeps net (not (has_port (kind_of b.settings) port)) NoPort _ h
    (λ q. change_own (connected at port None) net to b e
    (connected_own at port None b (not_false (has_port (kind_of b.settings) port) q)) h))
edits_keep at (Set name p v) net h =
    known_keeps net name _ h
    (λ n e. unless_keeps net (not (has_param (kind_of n.settings) p)) NoParam _ h
    (λ q. unless_keeps net (not (is_value p v)) BadValue _ h
    (λ r. change_own (valued at p v) net name n e (valued_own at p v n) h)))
edits_keep at (Load name bytes) net h =
    known_keeps net name _ h
    (λ n e. unless_keeps net (not (is_file (kind_of n.settings))) NoParam _ h
    (λ q. change_own (loaded at bytes) net name n e (λ k. k) h))

after_keeps : (at : ℕ) (edits : List Edit) (net : Network) → Keep net
    → Keep (net_after at edits net)
after_keeps at [] net h = h
after_keeps at (edit ∷ edits) net h =
    after_keeps (at + 1) edits (after at edit net) (edits_keep at edit net h)

pub histories_keep : HistoriesKeepPorts
histories_keep edits = after_keeps 1 edits [] tt
