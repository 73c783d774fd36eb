-- What a writer gives from scratch is what feeds it.
use Rattle.std.proofs.Common.{◌≡◌, ℕ, Bool, true, false, List, ◌∷◌, Option, None, Some, Result, Ok, Err, refl, sym, ap, subst, ◌∙◌}
use Rattle.viz_dataset.specs.declared.dataset.Dataset.{Dataset}
use Rattle.viz_kinds.specs.declared.settings.Settings.{Settings}
use Rattle.viz_kinds.specs.declared.settings.Settings.TheVariants as settings
use Rattle.viz_network.specs.Cone.{Cone, Tree, cone_of, empty, fed, none, port}
use Rattle.viz_network.specs.Network.{Network}
use Rattle.viz_network.specs.declared.fault.Cause.{Cause}
use Rattle.viz_network.specs.declared.fault.Fault.{Fault}
use Rattle.viz_network.specs.declared.node.Node.{Node}
use Rattle.viz_node_meaning.specs.Data.{
  DataRule,
  IsEvaluated,
  IsFiltered,
  IsMadeWith,
  all_information,
}
use Rattle.viz_node_meaning.specs.Fold.{AreGiven, IsGiven, IsMade, at_node, filled, joined}
use Rattle.viz_node_meaning.specs.Information.{InformationRule, filter_information}
use Rattle.viz_node_meaning.specs.Rules.{Inputs, NodeRule}
use Rattle.viz_node_meaning.specs.Scratch.{IsBehind, IsScratch, IsScratchOf}
use Rattle.viz_node_meaning.specs.declared.information.Information.{Information}
use Rattle.viz_plan_law.proofs.ConeLemmas.{AllAt, IsAt, placed_at}
use Rattle.viz_plan_meaning.specs.Networks.{head_of, passes, way_of, ways}
use Rattle.viz_task_parts.specs.Tasks.{DatasetsArePassed}
use Rattle.viz_task_parts.proofs.WriterLemmas.{passed_head}

-- ---- what feeds the first port of a node that gives something

-- what feeds the port, and what the node makes of it with what feeds the others
record AtPort {X : Type 0} (rule : NodeRule X) (n m : Node) (own : Cone) (v : X) : Type 0 where
  x : X
  rest : Inputs X
  given : IsGiven rule (Some (m, own)) (Ok x)
  made : rule n (Some x ∷ rest) (Ok v)

module _ {X : Type 0} (rule : NodeRule X) (n m : Node) (own others : Cone) (v : X) where
  own_made : (inputs : Inputs X) (made : Result X Cause) → rule n inputs made
      → Ok v ≡ at_node n made → rule n inputs (Ok v)
  own_made inputs (Ok d) r e =
      let same : d ≡ v = cc in
      subst (λ (y : X). rule n inputs (Ok y)) same r
  own_made inputs (Err cause) r e = let bad : ⊥ = cc in absurd bad

  at_port : (value : Result X Fault) (rest inputs below : Result (Inputs X) Fault)
      → AreGiven rule own below → IsMade rule m below value
      → inputs ≡ joined (filled value) rest → IsMade rule n inputs (Ok v)
      → AtPort rule n m own v
  at_port (Ok x) (Ok xs) inputs below a k e made =
      let h = subst (λ (i : Result (Inputs X) Fault). IsMade rule n i (Ok v)) e made in
      record {
        x = x;
        rest = xs;
        given = (below, a, k);
        made = own_made (Some x ∷ xs) h.0 h.1 h.2;
      }
  at_port (Ok x) (Err fault) inputs below a k e made =
      let h : Ok v ≡ Err fault =
      subst (λ (i : Result (Inputs X) Fault). IsMade rule n i (Ok v)) e made in
      let bad : ⊥ = cc in
      absurd bad
  at_port (Err fault) rest inputs below a k e made =
      let h : Ok v ≡ Err fault =
      subst (λ (i : Result (Inputs X) Fault). IsMade rule n i (Ok v)) e made in
      let bad : ⊥ = cc in
      absurd bad

  port_given : IsGiven rule (Some (n, fed m own others)) (Ok v) → AtPort rule n m own v
  port_given g =
      let a = g.1 in
      at_port a.1 a.2 g.0 a.0 a.3 a.4 a.6 g.2

-- ---- a writer

-- a writer gives what is at its port
writer_gives : (s : Settings) (file : Option (List ℕ)) (x : Dataset) (rest : Inputs Dataset)
    (w : Dataset) → passes s ≡ true → IsEvaluated s file (Some x ∷ rest) (Ok w) → x ≡ w
writer_gives (settings.Writer binary digits version) file x rest w e h =
    with_told
    (filter_information (settings.Writer binary digits version) (all_information (Some x ∷ rest))) h
  where
    with_told : (r : Result Information Cause)
        → IsMadeWith r (IsFiltered (settings.Writer binary digits version) (Some x ∷ rest)) (Ok w)
        → x ≡ w
    with_told (Ok i) k =
        let at : Some x ≡ Some k.0 = k.1 in
        let is : Ok w ≡ Ok k.0 = k.2 in
        let same : x ≡ w = cc in
        same
    with_told (Err cause) k =
        let is : Ok w ≡ Err cause = k in
        let bad : ⊥ = cc in
        absurd bad
writer_gives (settings.File array unit) file x rest w e h = let bad : ⊥ = cc in absurd bad
writer_gives (settings.Crop x0 x1 y0 y1 z0 z1) file x rest w e h =
    let bad : ⊥ = cc in absurd bad
writer_gives (settings.Sample i j k) file x rest w e h = let bad : ⊥ = cc in absurd bad
writer_gives (settings.Threshold lo hi) file x rest w e h = let bad : ⊥ = cc in absurd bad
writer_gives (settings.Smooth radius) file x rest w e h = let bad : ⊥ = cc in absurd bad
writer_gives (settings.Arith op) file x rest w e h = let bad : ⊥ = cc in absurd bad
writer_gives settings.Tets file x rest w e h = let bad : ⊥ = cc in absurd bad
writer_gives (settings.Select lo hi all) file x rest w e h = let bad : ⊥ = cc in absurd bad
writer_gives (settings.Contour count levels) file x rest w e h =
    let bad : ⊥ = cc in absurd bad
writer_gives (settings.Cut a b c r) file x rest w e h = let bad : ⊥ = cc in absurd bad
writer_gives settings.Append file x rest w e h = let bad : ⊥ = cc in absurd bad
writer_gives settings.Boundary file x rest w e h = let bad : ⊥ = cc in absurd bad
writer_gives settings.Merge file x rest w e h = let bad : ⊥ = cc in absurd bad

module _ (n m : Node) (own others : Cone) (w : Dataset) (e : passes n.settings ≡ true) where
  behind_port : (i : Result Information Fault)
      → IsGiven InformationRule (Some (n, fed m own others)) i
      → IsBehind i (Some (n, fed m own others)) (Ok w) → IsScratchOf (Some (m, own)) (Ok w)
  behind_port (Err fault) g b =
      let is : Ok w ≡ Err fault = b in
      let bad : ⊥ = cc in
      absurd bad
  behind_port (Ok i) g b =
      let told = port_given InformationRule n m own others i g in
      let made = port_given DataRule n m own others w b in (
        Ok told.x,
        told.given,
        subst (λ (y : Dataset). IsGiven DataRule (Some (m, own)) (Ok y))
            (writer_gives n.settings n.file made.x made.rest w e made.made) made.given,
      )

  writer_scratch : IsScratchOf (Some (n, fed m own others)) (Ok w)
      → IsScratchOf (Some (m, own)) (Ok w)
  writer_scratch h = behind_port h.0 h.1 h.2

-- ---- the node that requests reach

module _ (net : Network) where
  own_given : (n : Node) (own : Cone) → IsAt net n own → (id : ℕ) → Some n.id.0 ≡ Some id
      → (w : Dataset) → IsScratchOf (Some (n, own)) (Ok w) → IsScratch net id (Ok w)
  own_given n own at id e w h =
      let same : n.id.0 ≡ id = cc in
      subst (λ (t : Option Tree). IsScratchOf t (Ok w))
      (sym (ap (cone_of net) (sym same) ∙ at.cone)) h

  step_given : (n : Node) (own others : Cone) → IsAt net n own → (b : Bool)
      → passes n.settings ≡ b → (id : ℕ) (w : Dataset)
      → (passes n.settings ≡ true → head_of (ways own) ≡ Some id
      → IsScratchOf (Some (n, own)) (Ok w) → IsScratch net id (Ok w))
      → head_of (way_of b n.id.0 (ways own) (ways others)) ≡ Some id
      → IsScratchOf (Some (n, own)) (Ok w) → IsScratch net id (Ok w)
  step_given n own others at true e id w up q h =
      up e (passed_head (ways own) (ways others) id q) h
  step_given n own others at false e id w up q h = own_given n own at id q w h

  reached_gives : (n : Node) (own others : Cone) → IsAt net n own → AllAt net own → (id : ℕ)
      (w : Dataset) → head_of (ways (fed n own others)) ≡ Some id
      → IsScratchOf (Some (n, own)) (Ok w) → IsScratch net id (Ok w)
  reached_gives n none others at all id w q h =
      step_given n none others at (passes n.settings) refl id w
      (λ e f g. let bad : ⊥ = cc in absurd bad) q h
  reached_gives n (empty c) others at all id w q h =
      step_given n (empty c) others at (passes n.settings) refl id w
      (λ e f g. let bad : ⊥ = cc in absurd bad) q h
  reached_gives n (fed m own c) others at all id w q h =
      step_given n (fed m own c) others at (passes n.settings) refl id w
      (λ e f g. reached_gives m own c all.0 all.1 id w f (writer_scratch n m own c w e g)) q h

  tree_gives : (t : Option Tree) → AllAt net (port t none) → (id : ℕ) (w : Dataset)
      → head_of (ways (port t none)) ≡ Some id → IsScratchOf t (Ok w) → IsScratch net id (Ok w)
  tree_gives None a id w e h = let bad : ⊥ = cc in absurd bad
  tree_gives (Some t) a id w e h = reached_gives t.0 t.1 none a.0 a.1 id w e h

pub datasets_passed : DatasetsArePassed
datasets_passed net sink reached w placed have h e =
    tree_gives net (cone_of net sink) (placed_at net sink placed have) reached w e h
