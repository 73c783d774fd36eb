-- Each node of a network, and of the network of a history, gives something.
use Rattle.std.proofs.Common.{
  ◌≡◌,
  ℕ,
  zero,
  suc,
  ◌+◌,
  Bool,
  true,
  false,
  cond,
  is_some,
  nat_eq,
  nat_le,
  not,
  List,
  [],
  ◌∷◌,
  ◌++◌,
  length,
  Option,
  None,
  Some,
  Result,
  Ok,
  Err,
  refl,
  sym,
  ap,
  subst,
}
use Rattle.std.specs.Cmp.Lexicographic.{pointwise}
use Rattle.std.specs.List.{AllByRecursion}
use Rattle.std.specs.Option.{option_map, option_map_or}
use Rattle.viz_base.specs.declared.node.NodeId.{NodeId}
use Rattle.viz_base.specs.declared.node.Pick.{Pick}
use Rattle.viz_dataset.specs.declared.dataset.Dataset.{Dataset}
use Rattle.viz_kinds.specs.Kinds.{has_param, has_port}
use Rattle.viz_kinds.specs.Settings.{kind_of}
use Rattle.viz_kinds.specs.Values.{is_value}
use Rattle.viz_legacy_read.specs.File.{file}
use Rattle.viz_legacy_read.specs.Header.{header}
use Rattle.viz_lex.specs.Rules.{IsDefinite}
use Rattle.viz_network.specs.Cone.{
  Cone,
  Tree,
  above,
  cone_of,
  empty,
  fed,
  grow,
  has_node,
  nodes_limit,
  none,
  port,
}
use Rattle.viz_network.specs.Edits.{
  apply,
  connected,
  fresh,
  is_file,
  is_used,
  known,
  loaded,
  unless,
  valued,
}
use Rattle.viz_network.specs.History.{after, net_after, net_of, pick}
use Rattle.viz_network.specs.Network.{Network, change, named, node_of, without}
use Rattle.viz_network.specs.declared.edit.Edit.{Edit}
use Rattle.viz_network.specs.declared.edit.Edit.TheVariants.{
  Add,
  Connect,
  Disconnect,
  Load,
  Remove,
  Set,
}
use Rattle.viz_network.specs.declared.fault.Fault.{Fault}
use Rattle.viz_network.specs.declared.node.Node.{Node}
use Rattle.viz_network.specs.declared.refusal.Refusal.{Refusal}
use Rattle.viz_network.specs.declared.refusal.Refusal.TheVariants.{
  BadValue,
  Exists,
  InUse,
  NoParam,
  NoPort,
  TooManyNodes,
  Unknown,
  WouldCycle,
}
use Rattle.viz_network.proofs.EditLemmas.{all_push}
use Rattle.viz_network.proofs.RemoveLemmas.{without_all}
use Rattle.viz_node_meaning.specs.Data.{DataRule}
use Rattle.viz_node_meaning.specs.Fold.{IsGiven}
use Rattle.viz_node_meaning.specs.Information.{InformationRule}
use Rattle.viz_node_meaning.specs.Rules.{IsOne}
use Rattle.viz_node_meaning.specs.Scratch.{IsBehind, IsScratchOf}
use Rattle.viz_node_meaning.specs.declared.information.Information.{Information}
use Rattle.viz_node_meaning.proofs.OneLemmas.{value_one}
use Rattle.viz_node_total.specs.Files.{HasBytes, IsValid, LoadsBytes, NetHasBytes, OfCone, OfTree}
use Rattle.viz_node_total.specs.Laws.{
  ConesGive,
  ConesHaveBytes,
  ConesInform,
  GivenAreValid,
  HistoriesGive,
  HistoriesHaveBytes,
  NodesGive,
  NodesInform,
}
use Rattle.viz_node_total.proofs.FoldLemmas.{OfValue, value_some}
use Rattle.viz_node_total.proofs.RowLemmas.{Anything, data_made, information_made}

-- ---- cones

any_cone : (cone : Cone) → OfCone Anything cone
any_cone none = tt
any_cone (empty others) = any_cone others
any_cone (fed n own others) = (tt, any_cone own, any_cone others)

pub cones_inform : IsDefinite header → ConesInform
cones_inform definite t =
    let value =
    value_some InformationRule Anything Anything (information_made definite) t
    (tt, any_cone t.1) in
    (value.0, value.1)

-- a dataset behind information
behind_some : (i : Result Information Fault) (t : Option Tree) (r : Result Dataset Fault)
    → IsGiven DataRule t r → (s : Result Dataset Fault) × IsBehind i t s
behind_some (Ok i) t r h = (r, h)
behind_some (Err fault) t r h = (Err fault, refl)

module _ (headers : IsDefinite header)
    (files : (pick : Pick) (unit : ℕ) → IsDefinite (file pick unit)) where
  pub cones_give : ConesGive
  cones_give t bytes =
      let i = cones_inform headers t in
      let d = value_some DataRule IsValid HasBytes (data_made files) t bytes in
      let r = behind_some i.0 (Some t) d.0 d.1 in
      (r.0, (i.0, i.1, r.1))

  pub given_are_valid : IsOne DataRule → GivenAreValid
  given_are_valid one t d bytes h =
      by h.0 h.2
    where
      by : (i : Result Information Fault) → IsBehind i (Some t) (Ok d) → IsValid d
      by (Ok i) g =
          let v = value_some DataRule IsValid HasBytes (data_made files) t bytes in
          let same = value_one DataRule one (Some t) v.0 (Ok d) v.1 g in
          subst (OfValue {X = Dataset} {E = Fault} IsValid) same v.2
      by (Err fault) g = let bad : ⊥ = cc in absurd bad

-- ---- the cone of a node

-- a node that is there has a cone
cone_there : (net : Network) (id : ℕ) (n : Node) → node_of net id ≡ Some n
    → cone_of net id ≡ Some (n, grow (above 255 net) n.inputs)
cone_there net id n e =
    ap (option_map (λ (m : Node). (m, grow (above 255 net) m.inputs))) e

pub nodes_inform : IsDefinite header → NodesInform
nodes_inform definite net id n e =
    let t : Tree = (n, grow (above 255 net) n.inputs) in
    subst (λ (o : Option Tree). (i : Result Information Fault) × IsGiven InformationRule o i)
    (sym (cone_there net id n e)) (cones_inform definite t)

found_node : (P : Node → Type 0) (net : Network) → AllByRecursion (λ m. P m.1) net
    → (id : ℕ) (n : Node) → node_of net id ≡ Some n → P n
found_node P [] h id n e = let bad : ⊥ = cc in absurd bad
found_node P (m ∷ net) h id n e = by (nat_eq id m.1.id.0) e (found_node P net h.1 id n)
  where
    by : (b : Bool) → cond b (Some m.1) (node_of net id) ≡ Some n
        → (node_of net id ≡ Some n → P n) → P n
    by true q rest = (let same : m.1 ≡ n = cc in subst P same h.0)
    by false q rest = rest q

port_of : (P : Node → Type 0) (o : Option Tree) (others : Cone)
    → ((t : Tree) → o ≡ Some t → OfTree P t) → OfCone P others → OfCone P (port o others)
port_of P None others h g = g
port_of P (Some t) others h g = let own = h t refl in (own.0, own.1, g)

grown : (P : Node → Type 0) (up : ℕ → Option Tree)
    → ((id : ℕ) (t : Tree) → up id ≡ Some t → OfTree P t)
    → (inputs : List (Option NodeId)) → OfCone P (grow up inputs)
grown P up h [] = tt
grown P up h (None ∷ inputs) = grown P up h inputs
grown P up h (Some id ∷ inputs) =
    port_of P (up id.0) (grow up inputs) (h id.0) (grown P up h inputs)

above_of : (P : Node → Type 0) (net : Network) → AllByRecursion (λ m. P m.1) net → (k id : ℕ)
    (t : Tree) → above k net id ≡ Some t → OfTree P t
above_of P net h zero id t e = let bad : ⊥ = cc in absurd bad
above_of P net h (suc k) id t e =
    by (node_of net id) (λ n q. found_node P net h id n q)
    (λ n. grown P (above k net) (above_of P net h k) n.inputs) e
  where
    by : (o : Option Node) → ((n : Node) → o ≡ Some n → P n)
        → ((n : Node) → OfCone P (grow (above k net) n.inputs))
        → option_map (λ (m : Node). (m, grow (above k net) m.inputs)) o ≡ Some t → OfTree P t
    by None node up q = let bad : ⊥ = cc in absurd bad
    by (Some n) node up q =
        let same : (n, grow (above k net) n.inputs) ≡ t = cc in
        subst (OfTree P) same (node n refl, up n)

pub cones_have_bytes : ConesHaveBytes
cones_have_bytes net id t h e = above_of HasBytes net h.each 256 id t e

pub nodes_give : ConesGive → NodesGive
nodes_give cones net id n bytes e =
    let t : Tree = (n, grow (above 255 net) n.inputs) in
    let cone = cone_there net id n e in
    subst (λ (o : Option Tree). (r : Result Dataset Fault) × IsScratchOf o r) (sym cone)
    (cones t (cones_have_bytes net id t bytes cone))

-- ---- histories

-- what is made of a network of bytes
abbrev MadeHasBytes : Result Network Refusal → Type 0
MadeHasBytes (Ok made) = NetHasBytes made
MadeHasBytes (Err refusal) = Unit {0}

picked : (net : Network) (r : Result Network Refusal) → NetHasBytes net → MadeHasBytes r
    → NetHasBytes (pick net r)
picked net (Ok made) h g = g
picked net (Err refusal) h g = h

unless_has : (b : Bool) (r : Refusal) (done : Result Network Refusal) → MadeHasBytes done
    → MadeHasBytes (unless b r done)
unless_has true r done h = tt
unless_has false r done h = h

known_has : (net : Network) (name : List ℕ) (f : Node → Result Network Refusal)
    → ((n : Node) → MadeHasBytes (f n)) → MadeHasBytes (known net name f)
known_has net name f h = by (named net name)
  where
    by : (o : Option Node) → MadeHasBytes (option_map_or f o (Err Unknown))
    by None = tt
    by (Some n) = h n

change_each : (f : Node → Node) → ((n : Node) → HasBytes n → HasBytes (f n)) → (net : Network)
    (name : List ℕ) → AllByRecursion (λ m. HasBytes m.1) net
    → AllByRecursion (λ m. HasBytes m.1) (change f net name)
change_each f keeps [] name h = tt
change_each f keeps (n ∷ net) name h =
    by (pointwise nat_eq name n.0) (change_each f keeps net name h.1)
  where
    by : (b : Bool) → AllByRecursion (λ m. HasBytes m.1) (change f net name)
        → AllByRecursion (λ m. HasBytes m.1)
        (cond b ((n.0, f n.1) ∷ net) (n ∷ change f net name))
    by true rest = (keeps n.1 h.0, h.1)
    by false rest = (h.0, rest)

changed : (f : Node → Node) → ((n : Node) → HasBytes n → HasBytes (f n)) → (net : Network)
    (name : List ℕ) → NetHasBytes net → NetHasBytes (change f net name)
changed f keeps net name h = record { each = change_each f keeps net name h.each }

edit_has : (at : ℕ) (edit : Edit) (net : Network) → LoadsBytes edit → NetHasBytes net
    → MadeHasBytes (apply at edit net)
edit_has at (Add kind name) net l h =
    let entry : List ℕ × Node = (name, fresh at kind) in
    let made : NetHasBytes (net ++ entry ∷ []) =
    record { each = all_push (λ (m : List ℕ × Node). HasBytes m.1) net entry h.each tt } in
    let done : Result Network Refusal = Ok (net ++ entry ∷ []) in
    let many = nat_le nodes_limit (length net) in
    unless_has (is_some (named net name)) Exists (unless many TooManyNodes done)
    (unless_has many TooManyNodes done made)
edit_has at (Remove name) net l h =
    let made : NetHasBytes (without net name) =
    record { each = without_all (λ (m : List ℕ × Node). HasBytes m.1) net name h.each } in
    let done : Result Network Refusal = Ok (without net name) in
    known_has net name (λ n. unless (is_used n.id.0 net) InUse done)
    (λ n. unless_has (is_used n.id.0 net) InUse done made)
edit_has at (Connect from to p) net l h =
    let done : Node → Result Network Refusal =
    λ a. Ok (change (connected at p (Some a.id)) net to) in
    let cycle : Node → Node → Result Network Refusal =
    λ a b. unless (has_node b.id.0 (cone_of net a.id.0)) WouldCycle (done a) in
    let second : Node → Node → Result Network Refusal =
    λ a b. unless (not (has_port (kind_of b.settings) p)) NoPort (cycle a b) in
    known_has net from (λ a. known net to (second a)) (λ a.
    known_has net to (second a) (λ b.
    unless_has (not (has_port (kind_of b.settings) p)) NoPort (cycle a b)
    (unless_has (has_node b.id.0 (cone_of net a.id.0)) WouldCycle (done a)
    (changed (connected at p (Some a.id)) (λ n g. g) net to h))))
edit_has at (Disconnect to p) net l h =
    let done : Result Network Refusal = Ok (change (connected at p None) net to) in
    known_has net to (λ b. unless (not (has_port (kind_of b.settings) p)) NoPort done) (λ b.
    unless_has (not (has_port (kind_of b.settings) p)) NoPort done
    (changed (connected at p None) (λ n g. g) net to h))
edit_has at (Set name param value) net l h =
    let done : Result Network Refusal = Ok (change (valued at param value) net name) in
    let fits : Result Network Refusal = unless (not (is_value param value)) BadValue done in
    known_has net name (λ n. unless (not (has_param (kind_of n.settings) param)) NoParam fits)
    (λ n. unless_has (not (has_param (kind_of n.settings) param)) NoParam fits
    (unless_has (not (is_value param value)) BadValue done
    (changed (valued at param value) (λ m g. g) net name h)))
edit_has at (Load name bytes) net l h =
    let done : Result Network Refusal = Ok (change (loaded at bytes) net name) in
    known_has net name (λ n. unless (not (is_file (kind_of n.settings))) NoParam done) (λ n.
    unless_has (not (is_file (kind_of n.settings))) NoParam done
    (changed (loaded at bytes) (λ m g. l) net name h))

after_has : (at : ℕ) (edit : Edit) (net : Network) → LoadsBytes edit → NetHasBytes net
    → NetHasBytes (after at edit net)
after_has at edit net l h = picked net (apply at edit net) h (edit_has at edit net l h)

later_has : (at : ℕ) (edits : List Edit) (net : Network) → AllByRecursion LoadsBytes edits
    → NetHasBytes net → NetHasBytes (net_after at edits net)
later_has at [] net l h = h
later_has at (edit ∷ edits) net l h =
    later_has (at + 1) edits (after at edit net) l.1 (after_has at edit net l.0 h)

pub histories_have_bytes : HistoriesHaveBytes
histories_have_bytes edits l = later_has 1 edits [] l.each (record { each = tt })

pub histories_give : NodesGive → HistoriesGive
histories_give nodes edits id n l e = nodes (net_of edits) id n (histories_have_bytes edits l) e
