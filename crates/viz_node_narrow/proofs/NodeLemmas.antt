-- Where the data come to what the exact rule gives.
use Rattle.std.proofs.Common.{
  ◌≡◌,
  ℕ,
  List,
  Option,
  None,
  Some,
  Result,
  Ok,
  Err,
  refl,
  sym,
  subst,
  ◌∙◌,
}
use Rattle.viz_dataset.specs.declared.dataset.Dataset.{Dataset}
use Rattle.viz_fraction.specs.declared.forms.Form.{Form}
use Rattle.viz_kinds.specs.declared.settings.Settings.{Settings}
use Rattle.viz_kinds.specs.declared.settings.Settings.TheVariants as settings
use Rattle.viz_network.specs.Cone.{Cone, none, empty, fed}
use Rattle.viz_network.specs.declared.fault.Cause.{Cause}
use Rattle.viz_network.specs.declared.fault.Fault.{Fault}
use Rattle.viz_network.specs.declared.node.Node.{Node}
use Rattle.viz_node_division.specs.Exact.{ExactRule, IsExact, IsExactSectionOf}
use Rattle.viz_node_division.proofs.ExactLemmas.{exact_one, node_also}
use Rattle.viz_node_meaning.specs.Data.{
  DataRule,
  IsEvaluated,
  IsMadeWith,
  IsSectionOf,
  all_information,
  contour_forms,
  cut_forms,
}
use Rattle.viz_node_meaning.specs.Fold.{AreGiven, IsMade, at_node, filled, joined}
use Rattle.viz_node_meaning.specs.Information.{fed_at, filter_information}
use Rattle.viz_node_meaning.specs.Rules.{Inputs, IsOne}
use Rattle.viz_node_meaning.specs.declared.information.Information.{Information}
use Rattle.viz_node_meaning.proofs.OneLemmas.{given_one}
use Rattle.viz_node_narrow.specs.Nodes.{
  AreNarrowAt,
  AreNarrowOf,
  GivenAreNarrow,
  IsNarrowAt,
  IsNarrowOf,
  NarrowAreGiven,
}

-- ---- rows

section_given : (forms : List Form) (port : Option Dataset) (w : Dataset)
    → AreNarrowOf forms port → IsExactSectionOf forms port (Ok w)
    → IsSectionOf forms port (Ok w)
section_given forms None w h m = absurd m
section_given forms (Some d) w h m = (h, m)

with_given : (i : Result Information Cause) (P Q : Result Dataset Cause → Type 0) (w : Dataset)
    → (P (Ok w) → Q (Ok w)) → IsMadeWith i P (Ok w) → IsMadeWith i Q (Ok w)
with_given (Ok i) P Q w h m = h m
with_given (Err cause) P Q w h m = m

row_given : (s : Settings) (file : Option (List ℕ)) (inputs : Inputs Dataset) (w : Dataset)
    → IsNarrowOf s (fed_at 1 inputs) → IsExact s file inputs (Ok w)
    → IsEvaluated s file inputs (Ok w)
row_given (settings.Contour count levels) file inputs w h m =
    with_given (filter_information (settings.Contour count levels) (all_information inputs))
    (IsExactSectionOf (contour_forms count levels) (fed_at 1 inputs))
    (IsSectionOf (contour_forms count levels) (fed_at 1 inputs)) w
    (section_given (contour_forms count levels) (fed_at 1 inputs) w h) m
row_given (settings.Cut x y z r) file inputs w h m =
    with_given (filter_information (settings.Cut x y z r) (all_information inputs))
    (IsExactSectionOf (cut_forms x y z r) (fed_at 1 inputs))
    (IsSectionOf (cut_forms x y z r) (fed_at 1 inputs)) w
    (section_given (cut_forms x y z r) (fed_at 1 inputs) w h) m
row_given (settings.File array unit) file inputs w h m = m
row_given (settings.Crop x0 x1 y0 y1 z0 z1) file inputs w h m = m
row_given (settings.Sample x y z) file inputs w h m = m
row_given (settings.Threshold lo hi) file inputs w h m = m
row_given (settings.Smooth radius) file inputs w h m = m
row_given (settings.Arith op) file inputs w h m = m
row_given settings.Tets file inputs w h m = m
row_given (settings.Select lo hi all) file inputs w h m = m
row_given settings.Append file inputs w h m = m
row_given settings.Boundary file inputs w h m = m
row_given settings.Merge file inputs w h m = m
row_given (settings.Writer binary digits version) file inputs w h m = m

section_narrow : (forms : List Form) (port : Option Dataset) (w : Dataset)
    → IsSectionOf forms port (Ok w) → AreNarrowOf forms port
section_narrow forms None w m = absurd m
section_narrow forms (Some d) w m = m.0

with_narrow : (i : Result Information Cause) (P : Result Dataset Cause → Type 0) (Q : Type 0)
    (w : Dataset) → (P (Ok w) → Q) → IsMadeWith i P (Ok w) → Q
with_narrow (Ok i) P Q w h m = h m
with_narrow (Err cause) P Q w h m = let bad : ⊥ = cc in absurd bad

row_narrow : (s : Settings) (file : Option (List ℕ)) (inputs : Inputs Dataset) (w : Dataset)
    → IsEvaluated s file inputs (Ok w) → IsNarrowOf s (fed_at 1 inputs)
row_narrow (settings.Contour count levels) file inputs w m =
    with_narrow (filter_information (settings.Contour count levels) (all_information inputs))
    (IsSectionOf (contour_forms count levels) (fed_at 1 inputs))
    (AreNarrowOf (contour_forms count levels) (fed_at 1 inputs)) w
    (section_narrow (contour_forms count levels) (fed_at 1 inputs) w) m
row_narrow (settings.Cut x y z r) file inputs w m =
    with_narrow (filter_information (settings.Cut x y z r) (all_information inputs))
    (IsSectionOf (cut_forms x y z r) (fed_at 1 inputs))
    (AreNarrowOf (cut_forms x y z r) (fed_at 1 inputs)) w
    (section_narrow (cut_forms x y z r) (fed_at 1 inputs) w) m
row_narrow (settings.File array unit) file inputs w m = tt
row_narrow (settings.Crop x0 x1 y0 y1 z0 z1) file inputs w m = tt
row_narrow (settings.Sample x y z) file inputs w m = tt
row_narrow (settings.Threshold lo hi) file inputs w m = tt
row_narrow (settings.Smooth radius) file inputs w m = tt
row_narrow (settings.Arith op) file inputs w m = tt
row_narrow settings.Tets file inputs w m = tt
row_narrow (settings.Select lo hi all) file inputs w m = tt
row_narrow settings.Append file inputs w m = tt
row_narrow settings.Boundary file inputs w m = tt
row_narrow settings.Merge file inputs w m = tt
row_narrow (settings.Writer binary digits version) file inputs w m = tt

-- ---- what comes out of a node and of ports

own_ok : (n : Node) (r : Result Dataset Cause) (w : Dataset) → Ok w ≡ at_node n r → r ≡ Ok w
own_ok n (Ok v) w e = let same : Ok v ≡ Ok w = cc in same
own_ok n (Err cause) w e = let bad : ⊥ = cc in absurd bad

pub inputs_ok : (rule : Node → Inputs Dataset → Result Dataset Cause → Type 0) (n : Node)
    (inputs : Result (Inputs Dataset) Fault) (w : Dataset) → IsMade rule n inputs (Ok w)
    → (xs : Inputs Dataset) × (inputs ≡ Ok xs) × rule n xs (Ok w)
inputs_ok rule n (Ok xs) w m = (xs, refl, subst (rule n xs) (own_ok n m.0 w m.2) m.1)
inputs_ok rule n (Err fault) w m = let bad : ⊥ = cc in absurd bad

pub rest_ok : (rest : Result (Inputs Dataset) Fault) (xs : Inputs Dataset)
    → Ok xs ≡ joined (Ok None) rest → (ys : Inputs Dataset) × (rest ≡ Ok ys)
rest_ok (Ok ys) xs e = (ys, refl)
rest_ok (Err fault) xs e = let bad : ⊥ = cc in absurd bad

pub both_ok : (value : Result Dataset Fault) (rest : Result (Inputs Dataset) Fault)
    (xs : Inputs Dataset) → Ok xs ≡ joined (filled value) rest
    → (x : Dataset) × (ys : Inputs Dataset) × (value ≡ Ok x) × (rest ≡ Ok ys)
both_ok (Ok x) (Ok ys) xs e = (x, ys, refl, refl)
both_ok (Ok x) (Err fault) xs e = let bad : ⊥ = cc in absurd bad
both_ok (Err fault) rest xs e = let bad : ⊥ = cc in absurd bad

same_inputs : (xs ys : Inputs Dataset) (r : Result (Inputs Dataset) Fault) → r ≡ Ok xs → r ≡ Ok ys
    → xs ≡ ys
same_inputs xs ys r e f = let same : xs ≡ ys = cc in same

-- ---- where no number is wide

made_given : (n : Node) (own : Cone) (inputs : Result (Inputs Dataset) Fault) (w : Dataset)
    → IsNarrowAt n own → AreGiven ExactRule own inputs → IsMade ExactRule n inputs (Ok w)
    → IsMade DataRule n inputs (Ok w)
made_given n own inputs w h g m =
    let r = inputs_ok ExactRule n inputs w m in
    let narrow = h.each r.0 (subst (AreGiven ExactRule own) r.1 g) in
    subst (λ i. IsMade DataRule n i (Ok w)) (sym r.1)
    (Ok w, row_given n.settings n.file r.0 w narrow r.2, refl)

ports_given : (cone : Cone) (all : Result (Inputs Dataset) Fault) (xs : Inputs Dataset)
    → all ≡ Ok xs → AreNarrowAt cone → AreGiven ExactRule cone all → AreGiven DataRule cone all
ports_given none all xs e h g = g
ports_given (empty others) all xs e h g =
    let r = rest_ok g.0 xs (sym e ∙ g.2) in
    (g.0, ports_given others g.0 r.0 r.1 h g.1, g.2)
ports_given (fed n own others) all xs e h g =
    let b = both_ok g.1 g.2 xs (sym e ∙ g.6) in
    let m = subst (IsMade ExactRule n g.0) b.2 g.4 in
    let i = inputs_ok ExactRule n g.0 b.0 m in (
      g.0,
      g.1,
      g.2,
      ports_given own g.0 i.0 i.1 h.1 g.3,
      subst (IsMade DataRule n g.0) (sym b.2) (made_given n own g.0 b.0 h.0 g.3 m),
      ports_given others g.2 b.1 b.3 h.2 g.5,
      g.6,
    )

pub narrow_given : NarrowAreGiven
narrow_given None whole g h = absurd g
narrow_given (Some t) whole g h =
    let i = inputs_ok ExactRule t.0 g.0 whole g.2 in (
      g.0,
      ports_given t.1 g.0 i.0 i.1 h.1 g.1,
      made_given t.0 t.1 g.0 whole h.0 g.1 g.2,
    )

-- ---- where the data come to a dataset

made_exact : (n : Node) (inputs : Result (Inputs Dataset) Fault) (w : Dataset)
    → IsMade DataRule n inputs (Ok w) → IsMade ExactRule n inputs (Ok w)
made_exact n inputs w m =
    let r = inputs_ok DataRule n inputs w m in
    subst (λ i. IsMade ExactRule n i (Ok w)) (sym r.1) (Ok w, node_also n r.0 w r.2, refl)

ports_exact : (cone : Cone) (all : Result (Inputs Dataset) Fault) (xs : Inputs Dataset)
    → all ≡ Ok xs → AreGiven DataRule cone all → AreGiven ExactRule cone all
ports_exact none all xs e g = g
ports_exact (empty others) all xs e g =
    let r = rest_ok g.0 xs (sym e ∙ g.2) in
    (g.0, ports_exact others g.0 r.0 r.1 g.1, g.2)
ports_exact (fed n own others) all xs e g =
    let b = both_ok g.1 g.2 xs (sym e ∙ g.6) in
    let m = subst (IsMade DataRule n g.0) b.2 g.4 in
    let i = inputs_ok DataRule n g.0 b.0 m in (
      g.0,
      g.1,
      g.2,
      ports_exact own g.0 i.0 i.1 g.3,
      subst (IsMade ExactRule n g.0) (sym b.2) (made_exact n g.0 b.0 m),
      ports_exact others g.2 b.1 b.3 g.5,
      g.6,
    )

module _ (data_one : IsOne DataRule) where
  node_narrow : (n : Node) (own : Cone) (inputs : Result (Inputs Dataset) Fault) (w : Dataset)
      → AreGiven DataRule own inputs → IsMade DataRule n inputs (Ok w) → IsNarrowAt n own
  node_narrow n own inputs w g m = record { each = each }
    where
      each : (others : Inputs Dataset) → AreGiven ExactRule own (Ok others)
          → IsNarrowOf n.settings (fed_at 1 others)
      each others h =
          let r = inputs_ok DataRule n inputs w m in
          let exact = ports_exact own inputs r.0 r.1 g in
          let both = given_one ExactRule (exact_one data_one) own inputs (Ok others) exact h in
          let same = same_inputs r.0 others inputs r.1 both in
          subst (λ i. IsNarrowOf n.settings (fed_at 1 i)) same
          (row_narrow n.settings n.file r.0 w r.2)

  ports_narrow : (cone : Cone) (all : Result (Inputs Dataset) Fault) (xs : Inputs Dataset)
      → all ≡ Ok xs → AreGiven DataRule cone all → AreNarrowAt cone
  ports_narrow none all xs e g = tt
  ports_narrow (empty others) all xs e g =
      let r = rest_ok g.0 xs (sym e ∙ g.2) in
      ports_narrow others g.0 r.0 r.1 g.1
  ports_narrow (fed n own others) all xs e g =
      let b = both_ok g.1 g.2 xs (sym e ∙ g.6) in
      let m = subst (IsMade DataRule n g.0) b.2 g.4 in
      let i = inputs_ok DataRule n g.0 b.0 m in (
        node_narrow n own g.0 b.0 g.3 m,
        ports_narrow own g.0 i.0 i.1 g.3,
        ports_narrow others g.2 b.1 b.3 g.5,
      )

  pub given_narrow : GivenAreNarrow
  given_narrow None whole g = tt
  given_narrow (Some t) whole g =
      let i = inputs_ok DataRule t.0 g.0 whole g.2 in
      (node_narrow t.0 t.1 g.0 whole g.1 g.2, ports_narrow t.1 g.0 i.0 i.1 g.1)
