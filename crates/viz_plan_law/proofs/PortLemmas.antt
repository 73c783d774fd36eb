-- What is known of a node's extent, by what is known of what feeds its ports.
use Rattle.std.proofs.Common.{
  ◌≡◌,
  ℕ,
  zero,
  suc,
  Bool,
  true,
  false,
  cond,
  List,
  [],
  ◌∷◌,
  Option,
  None,
  Some,
  Ok,
  Err,
  refl,
  sym,
  ap,
  subst,
  ◌∙◌,
}
use Rattle.std.specs.List.{list_any}
use Rattle.viz_extent.specs.Extent.{Bounds}
use Rattle.viz_kinds.specs.Kinds.{ports_of}
use Rattle.viz_kinds.specs.Settings.{kind_of}
use Rattle.viz_kinds.specs.declared.settings.Settings.{Settings}
use Rattle.viz_kinds.specs.declared.settings.Settings.TheVariants as settings
use Rattle.viz_network.specs.Cone.{Cone, empty, fed, none}
use Rattle.viz_network.specs.declared.fault.Cause.TheVariants.{Unconnected}
use Rattle.viz_network.specs.declared.node.Node.{Node}
use Rattle.viz_node_meaning.specs.Information.{
  IsInformed,
  fed_at,
  is_fed,
  meshes_at,
  meshes_from,
}
use Rattle.viz_node_meaning.specs.Rules.{Inputs}
use Rattle.viz_node_meaning.specs.declared.information.Information.{Information}
use Rattle.viz_node_meaning.specs.declared.information.Information.TheVariants.{OfImage, OfMesh}
use Rattle.viz_parts.specs.declared.request.Request.{Request}
use Rattle.viz_plan_meaning.specs.Known.{Known, ports_extent}
use Rattle.viz_requests.specs.Upstream.{CanAsk, Fits, FittingCanBeAsked, HasRoom, extent_made}
use Rattle.viz_plan_law.specs.Fitting.{IsExtentTold}
use Rattle.viz_plan_law.proofs.InformLemmas.{
  AreDeep,
  IsDeep,
  IsToldBy,
  arith_by,
  crop_by,
  extent_in,
  filter_by,
  kept_by,
  sample_by,
  section_by,
  tets_by,
  writer_by,
}
use Rattle.viz_plan_law.proofs.RowLemmas.{after_all}

-- what feeds the ports has the property
abbrev pub AllFed : (Node → Type 0) → Cone → Type 0
AllFed P none = Unit {0}
AllFed P (empty others) = AllFed P others
AllFed P (fed n own others) = P n × AllFed P others

pub fed_map : (P Q : Node → Type 0) → ((n : Node) → P n → Q n) → (c : Cone) → AllFed P c
    → AllFed Q c
fed_map P Q h none a = tt
fed_map P Q h (empty c) a = fed_map P Q h c a
fed_map P Q h (fed n own c) a = (h n a.0, fed_map P Q h c a.1)

-- only the first so many ports are fed
abbrev pub AreFirst : ℕ → Cone → Type 0
AreFirst ports none = Unit {0}
AreFirst zero (empty others) = AreFirst zero others
AreFirst (suc ports) (empty others) = AreFirst ports others
AreFirst zero (fed n own others) = ⊥
AreFirst (suc ports) (fed n own others) = AreFirst ports others

none_fed : (P : Node → Type 0) (c : Cone) → AreFirst 0 c → AllFed P c
none_fed P none f = tt
none_fed P (empty c) f = none_fed P c f
none_fed P (fed n own c) f = absurd f

pub told_in : (o : Option Bounds) (i : Information) → IsExtentTold o i → o ≡ extent_in i
told_in o (OfImage g) t = t
told_in o OfMesh t = t

module _ (k : Known) where
  abbrev pub extent_at : Node → Option Bounds
  extent_at n = k.extent n.id.0

  -- this is told of what feeds the ports
  abbrev pub AreTold : Cone → Inputs Information → Type 0
  AreTold none [] = Unit {0}
  AreTold none (i ∷ inputs) = ⊥
  AreTold (empty others) [] = ⊥
  AreTold (empty others) (None ∷ inputs) = AreTold others inputs
  AreTold (empty others) (Some i ∷ inputs) = ⊥
  AreTold (fed n own others) [] = ⊥
  AreTold (fed n own others) (None ∷ inputs) = ⊥
  AreTold (fed n own others) (Some i ∷ inputs) =
      (k.extent n.id.0 ≡ extent_in i) × AreTold others inputs

  -- all that feeds the ports has this extent
  abbrev pub AllHave : Option Bounds → Cone → Type 0
  AllHave o c = AllFed (λ n. k.extent n.id.0 ≡ o) c

  -- where one is fed
  record HaveOne (o : Option Bounds) (c : Cone) : Type 0 where
    first : ports_extent k c ≡ o
    all : AllHave o c

  -- images at the ports have planes
  pub deep_ports : (c : Cone) (inputs : Inputs Information) → AreTold c inputs → AreDeep inputs
      → IsDeep (ports_extent k c)
  deep_ports none inputs t d = tt
  deep_ports (empty c) [] t d = absurd t
  deep_ports (empty c) (None ∷ inputs) t d = deep_ports c inputs t d
  deep_ports (empty c) (Some i ∷ inputs) t d = absurd t
  deep_ports (fed n own c) [] t d = absurd t
  deep_ports (fed n own c) (None ∷ inputs) t d = absurd t
  deep_ports (fed n own c) (Some i ∷ inputs) t d = subst IsDeep (sym t.0) d.0

  -- the only port
  one_port : (c : Cone) (inputs : Inputs Information) (i : Information) → AreTold c inputs
      → AreFirst 1 c → fed_at 1 inputs ≡ Some i → HaveOne (extent_in i) c
  one_port none [] i t f e = let bad : ⊥ = cc in absurd bad
  one_port none (j ∷ inputs) i t f e = absurd t
  one_port (empty c) [] i t f e = absurd t
  one_port (empty c) (None ∷ inputs) i t f e = let bad : ⊥ = cc in absurd bad
  one_port (empty c) (Some j ∷ inputs) i t f e = absurd t
  one_port (fed n own c) [] i t f e = absurd t
  one_port (fed n own c) (None ∷ inputs) i t f e = absurd t
  one_port (fed n own c) (Some j ∷ inputs) i t f e =
      let same : j ≡ i = cc in
      let is : k.extent n.id.0 ≡ extent_in i = t.0 ∙ ap extent_in same in
      record { first = is; all = (is, none_fed (λ m. k.extent m.id.0 ≡ extent_in i) c f) }

  -- both ports
  two_ports : (c : Cone) (inputs : Inputs Information) (i j : Information) → AreTold c inputs
      → AreFirst 2 c → fed_at 1 inputs ≡ Some i → fed_at 2 inputs ≡ Some j
      → extent_in i ≡ extent_in j → HaveOne (extent_in i) c
  two_ports none [] i j t f e g s = let bad : ⊥ = cc in absurd bad
  two_ports none (o ∷ inputs) i j t f e g s = absurd t
  two_ports (empty c) [] i j t f e g s = absurd t
  two_ports (empty c) (None ∷ inputs) i j t f e g s = let bad : ⊥ = cc in absurd bad
  two_ports (empty c) (Some o ∷ inputs) i j t f e g s = absurd t
  two_ports (fed n own c) [] i j t f e g s = absurd t
  two_ports (fed n own c) (None ∷ inputs) i j t f e g s = absurd t
  two_ports (fed n own c) (Some o ∷ inputs) i j t f e g s =
      let same : o ≡ i = cc in
      let is : k.extent n.id.0 ≡ extent_in i = t.0 ∙ ap extent_in same in
      let other = one_port c inputs j t.1 f g in
      record {
        first = is;
        all = (is, subst (λ (b : Option Bounds). AllHave b c) (sym s) other.all);
      }

  -- meshes alone
  mesh_ports : (port : ℕ) (c : Cone) (inputs : Inputs Information) (i : Information)
      → AreTold c inputs → meshes_from port inputs ≡ Ok i → AllHave None c
  mesh_ports port none inputs i t e = tt
  mesh_ports port (empty c) [] i t e = absurd t
  mesh_ports port (empty c) (None ∷ inputs) i t e = mesh_ports (suc port) c inputs i t e
  mesh_ports port (empty c) (Some j ∷ inputs) i t e = absurd t
  mesh_ports port (fed n own c) [] i t e = absurd t
  mesh_ports port (fed n own c) (None ∷ inputs) i t e = absurd t
  mesh_ports port (fed n own c) (Some (OfImage g) ∷ inputs) i t e =
      let bad : ⊥ = cc in absurd bad
  mesh_ports port (fed n own c) (Some OfMesh ∷ inputs) i t e =
      (t.0, mesh_ports (suc port) c inputs i t.1 e)

  first_none : (c : Cone) → AllHave None c → ports_extent k c ≡ None
  first_none none a = refl
  first_none (empty c) a = first_none c a
  first_none (fed n own c) a = a.0

  all_meshes : (c : Cone) (inputs : Inputs Information) (i : Information) → AreTold c inputs
      → meshes_at inputs ≡ Ok i → HaveOne None c
  all_meshes c inputs i t e = by (list_any is_fed inputs) e
    where
      by : (b : Bool) → cond b (meshes_from 1 inputs) (Err (Unconnected 1)) ≡ Ok i
          → HaveOne None c
      by true q = (
          let all = mesh_ports 1 c inputs i t q in
          record { first = first_none c all; all = all }
          )
      by false q = (let bad : ⊥ = cc in absurd bad)

  -- ---- nodes

  -- the node can ask its inputs for what fits its own extent, and these have one extent
  pub record Asks (s : Settings) (c : Cone) (own : Option Bounds) : Type 0 where
    pub can : (w : Request) → Fits own w → HasRoom w → CanAsk s (ports_extent k c) w
    pub all : AllHave (ports_extent k c) c

  module _ (fitting : FittingCanBeAsked) where
    asks_of : (s : Settings) (c : Cone) (own o : Option Bounds) → own ≡ extent_made s o
        → HaveOne o c → Asks s c own
    asks_of s c own o made h = record {
      can = λ w f r. fitting s (ports_extent k c) w
          (subst (λ (b : Option Bounds). Fits b w)
          (made ∙ ap (extent_made s) (sym h.first)) f) r;
      all = subst (λ (b : Option Bounds). AllHave b c) (sym h.first) h.all;
    }

    -- what is told of the node is told by what is told at its only port
    asks_one : (s : Settings) (c : Cone) (inputs : Inputs Information) (i : Information)
        (own : Option Bounds) → AreTold c inputs → AreFirst 1 c → own ≡ extent_in i
        → IsToldBy s inputs i → Asks s c own
    asks_one s c inputs i own t f e told =
        asks_of s c own (extent_in told.first) (e ∙ told.made)
        (one_port c inputs told.first t f told.fed)

    writes_all : (s : Settings) → ((b : Bounds) → extent_made s (Some b) ≡ Some b)
        → extent_made s None ≡ None → (o : Option Bounds) → o ≡ extent_made s o
    writes_all s some nothing None = sym nothing
    writes_all s some nothing (Some b) = sym (some b)

    section_none : (s : Settings) → ((b : Bounds) → extent_made s (Some b) ≡ None)
        → extent_made s None ≡ None → (o : Option Bounds) → None ≡ extent_made s o
    section_none s some nothing None = sym nothing
    section_none s some nothing (Some b) = sym (some b)

    pub asks : (s : Settings) (file : Option (List ℕ)) (c : Cone) (inputs : Inputs Information)
        (i : Information) (own : Option Bounds)
        → AreTold c inputs → AreFirst (ports_of (kind_of s)) c → IsInformed s file inputs (Ok i)
        → own ≡ extent_in i → Asks s c own
    asks (settings.File array unit) file c inputs i own t f m e = record {
      can = λ w g r. tt;
      all = none_fed (λ n. k.extent n.id.0 ≡ ports_extent k c) c f;
    }
    asks (settings.Crop x0 x1 y0 y1 z0 z1) file c inputs i own t f m e =
        asks_one (settings.Crop x0 x1 y0 y1 z0 z1) c inputs i own t f e
        (crop_by x0 x1 y0 y1 z0 z1 inputs i (sym m))
    asks (settings.Sample x y z) file c inputs i own t f m e =
        asks_one (settings.Sample x y z) c inputs i own t f e (sample_by x y z inputs i (sym m))
    asks (settings.Threshold lo hi) file c inputs i own t f m e =
        asks_one (settings.Threshold lo hi) c inputs i own t f e
        (kept_by (settings.Threshold lo hi) inputs i (λ b. refl) (sym m))
    asks (settings.Smooth radius) file c inputs i own t f m e =
        asks_one (settings.Smooth radius) c inputs i own t f e
        (kept_by (settings.Smooth radius) inputs i (λ b. refl) (sym m))
    asks (settings.Arith op) file c inputs i own t f m e =
        let both = arith_by inputs i (sym m) in
        asks_of (settings.Arith op) c own (Some both.own.extent)
        (e ∙ ap extent_in (sym both.made))
        (two_ports c inputs (OfImage both.own) (OfImage both.other) t f both.first both.second
        (ap (λ (b : Bounds). Some b) both.same))
    asks settings.Tets file c inputs i own t f m e =
        asks_one settings.Tets c inputs i own t f e (tets_by inputs i (sym m))
    asks (settings.Select lo hi all) file c inputs i own t f m e =
        asks_one (settings.Select lo hi all) c inputs i own t f e
        (filter_by (settings.Select lo hi all) inputs i refl (sym m))
    asks (settings.Contour count levels) file c inputs i own t f m e =
        asks_one (settings.Contour count levels) c inputs i own t f e
        (section_by (settings.Contour count levels) inputs i
        (section_none (settings.Contour count levels) (λ b. refl) refl) (sym m))
    asks (settings.Cut a b d r) file c inputs i own t f m e =
        asks_one (settings.Cut a b d r) c inputs i own t f e
        (section_by (settings.Cut a b d r) inputs i
        (section_none (settings.Cut a b d r) (λ o. refl) refl) (sym m))
    asks settings.Append file c inputs i own t f m e =
        asks_of settings.Append c own None (e ∙ ap extent_in (sym (after_all inputs i (sym m))))
        (all_meshes c inputs i t (sym m))
    asks settings.Boundary file c inputs i own t f m e =
        asks_one settings.Boundary c inputs i own t f e
        (filter_by settings.Boundary inputs i refl (sym m))
    asks settings.Merge file c inputs i own t f m e =
        asks_one settings.Merge c inputs i own t f e
        (filter_by settings.Merge inputs i refl (sym m))
    asks (settings.Writer binary digits version) file c inputs i own t f m e =
        asks_one (settings.Writer binary digits version) c inputs i own t f e
        (writer_by (settings.Writer binary digits version) inputs i
        (writes_all (settings.Writer binary digits version) (λ b. refl) refl) (sym m))
