-- Something feeds each writer whose information is told.
use Rattle.std.proofs.Common.{
  ◌≡◌,
  ℕ,
  Bool,
  true,
  false,
  List,
  [],
  ◌∷◌,
  Option,
  None,
  Some,
  Result,
  Ok,
  Err,
  refl,
  sym,
  subst,
  ◌∙◌,
}
use Rattle.viz_kinds.specs.declared.settings.Settings.{Settings}
use Rattle.viz_kinds.specs.declared.settings.Settings.TheVariants as settings
use Rattle.viz_network.specs.Cone.{Cone, Tree, empty, fed, none}
use Rattle.viz_network.specs.declared.fault.Cause.{Cause}
use Rattle.viz_network.specs.declared.fault.Fault.{Fault}
use Rattle.viz_network.specs.declared.node.Node.{Node}
use Rattle.viz_node_meaning.specs.Fold.{AreGiven, IsGiven, IsMade, at_node, joined}
use Rattle.viz_node_meaning.specs.Information.{InformationRule, IsInformed, either_in, fed_at}
use Rattle.viz_node_meaning.specs.Rules.{Inputs}
use Rattle.viz_node_meaning.specs.declared.information.Information.{Information}
use Rattle.viz_plan_law.proofs.ConeLemmas.{AllAt, AllNodes, IsAt}
use Rattle.viz_plan_law.specs.Fitting.{IsKnown}
use Rattle.viz_plan_meaning.specs.Known.{Known}
use Rattle.viz_plan_meaning.specs.Networks.{head_of, passes, way_of, ways}
use Rattle.viz_task_parts.proofs.WriterLemmas.{passed_none}

-- ---- information

own_ok : (n : Node) (r : Result Information Cause) (i : Information) → Ok i ≡ at_node n r
    → r ≡ Ok i
own_ok n (Ok j) i e = let same : Ok j ≡ Ok i = cc in same
own_ok n (Err cause) i e = let bad : ⊥ = cc in absurd bad

-- a node that has information, and what it is made of
informed : (n : Node) (ports : Result (Inputs Information) Fault) (i : Information)
    → IsMade InformationRule n ports (Ok i)
    → (xs : Inputs Information) × (ports ≡ Ok xs) × IsInformed n.settings n.file xs (Ok i)
informed n (Ok xs) i m =
    (xs, refl, subst (IsInformed n.settings n.file xs) (own_ok n m.0 i m.2) m.1)
informed n (Err fault) i m = let bad : ⊥ = cc in absurd bad

-- of a writer there is none where nothing is told at its port
writer_untold : (s : Settings) (file : Option (List ℕ)) (xs : Inputs Information)
    (i : Information) → passes s ≡ true → fed_at 1 xs ≡ None → IsInformed s file xs (Ok i) → ⊥
writer_untold (settings.Writer binary digits version) file xs i e unfed h =
    let missed = subst (λ (o : Option Information). Ok i ≡ either_in 1 o) unfed h in
    let bad : ⊥ = cc in
    bad
writer_untold (settings.File array unit) file xs i e unfed h = let bad : ⊥ = cc in bad
writer_untold (settings.Crop x0 x1 y0 y1 z0 z1) file xs i e unfed h = let bad : ⊥ = cc in bad
writer_untold (settings.Sample x y z) file xs i e unfed h = let bad : ⊥ = cc in bad
writer_untold (settings.Threshold lo hi) file xs i e unfed h = let bad : ⊥ = cc in bad
writer_untold (settings.Smooth radius) file xs i e unfed h = let bad : ⊥ = cc in bad
writer_untold (settings.Arith op) file xs i e unfed h = let bad : ⊥ = cc in bad
writer_untold settings.Tets file xs i e unfed h = let bad : ⊥ = cc in bad
writer_untold (settings.Select lo hi all) file xs i e unfed h = let bad : ⊥ = cc in bad
writer_untold (settings.Contour count levels) file xs i e unfed h = let bad : ⊥ = cc in bad
writer_untold (settings.Cut a b c r) file xs i e unfed h = let bad : ⊥ = cc in bad
writer_untold settings.Append file xs i e unfed h = let bad : ⊥ = cc in bad
writer_untold settings.Boundary file xs i e unfed h = let bad : ⊥ = cc in bad
writer_untold settings.Merge file xs i e unfed h = let bad : ⊥ = cc in bad

none_first : (rest all : Result (Inputs Information) Fault) (xs : Inputs Information)
    → all ≡ joined (Ok None) rest → all ≡ Ok xs → fed_at 1 xs ≡ None
none_first (Ok ys) all xs e f =
    let same : None ∷ ys ≡ xs = cc in
    subst (λ (zs : Inputs Information). fed_at 1 zs ≡ None) same refl
none_first (Err fault) all xs e f = let bad : ⊥ = cc in absurd bad

-- the first port isn't fed
abbrev IsFirstUnfed : Cone → Type 0
IsFirstUnfed none = Unit {0}
IsFirstUnfed (empty others) = Unit {0}
IsFirstUnfed (fed n own others) = ⊥

unfed_first : (c : Cone) (all : Result (Inputs Information) Fault) (xs : Inputs Information)
    → IsFirstUnfed c → AreGiven InformationRule c all → all ≡ Ok xs → fed_at 1 xs ≡ None
unfed_first none all xs u g e =
    let some : Ok [] ≡ Ok xs = sym g ∙ e in
    let same : [] ≡ xs = cc in
    subst (λ (zs : Inputs Information). fed_at 1 zs ≡ None) same refl
unfed_first (empty others) all xs u g e = none_first g.0 all xs g.2 e
unfed_first (fed n own others) all xs u g e = absurd u

writer_unfed : (n : Node) (own : Cone) (i : Information) → passes n.settings ≡ true
    → IsFirstUnfed own → IsGiven InformationRule (Some (n, own)) (Ok i) → ⊥
writer_unfed n own i e u g =
    let m = informed n g.0 i g.2 in
    writer_untold n.settings n.file m.0 i e (unfed_first own g.0 m.0 u g.1 m.1) m.2

-- ---- what feeds a port

module _ (k : Known) where
  known_unfed : (n : Node) (own : Cone) → IsAt k.net n own → IsKnown k n.id.0
      → passes n.settings ≡ true → IsFirstUnfed own → ⊥
  known_unfed n own at known e u =
      writer_unfed n own known.information e u
      (subst (λ (t : Option Tree). IsGiven InformationRule t (Ok known.information)) at.cone
      known.given)

  step_some : (n : Node) (own others : Cone) (b : Bool) → passes n.settings ≡ b
      → (passes n.settings ≡ true → head_of (ways own) ≡ None → ⊥)
      → head_of (way_of b n.id.0 (ways own) (ways others)) ≡ None → ⊥
  step_some n own others true e up q = up e (passed_none (ways own) (ways others) q)
  step_some n own others false e up q = let bad : ⊥ = cc in bad

  -- requests to a port that is fed reach a node
  pub reached_some : (n : Node) (own others : Cone) → IsAt k.net n own → AllAt k.net own
      → IsKnown k n.id.0 → AllNodes (IsKnown k) own
      → head_of (ways (fed n own others)) ≡ None → ⊥
  reached_some n none others at all known above q =
      step_some n none others (passes n.settings) refl
      (λ e f. known_unfed n none at known e tt) q
  reached_some n (empty c) others at all known above q =
      step_some n (empty c) others (passes n.settings) refl
      (λ e f. known_unfed n (empty c) at known e tt) q
  reached_some n (fed m own c) others at all known above q =
      step_some n (fed m own c) others (passes n.settings) refl
      (λ e f. reached_some m own c all.0 all.1 above.0 above.1 f) q
