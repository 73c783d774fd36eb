-- Parts of what feeds a writer are parts of the writer.
use Rattle.std.proofs.Common.{
  ◌≡◌,
  ℕ,
  Bool,
  true,
  false,
  List,
  [],
  ◌∷◌,
  Option,
  None,
  Some,
  refl,
  sym,
  ap,
  subst,
  ◌∙◌,
}
use Rattle.viz_dataset.specs.declared.dataset.Dataset.{Dataset}
use Rattle.viz_kinds.specs.declared.settings.Settings.{Settings}
use Rattle.viz_kinds.specs.declared.settings.Settings.TheVariants as settings
use Rattle.viz_network.specs.Cone.{Cone, Tree, cone_of, empty, fed, none, port}
use Rattle.viz_network.specs.Network.{Network}
use Rattle.viz_network.specs.declared.node.Node.{Node}
use Rattle.viz_node_division.proofs.DividedLemmas.{shared_as}
use Rattle.viz_node_division.specs.Divided.{Divided, IsDivided, IsMadeOf}
use Rattle.viz_node_division.specs.Laws.{AreDivided, DividedByPorts}
use Rattle.viz_node_meaning.specs.Rules.{Inputs}
use Rattle.viz_parts.specs.Pieces.{Division}
use Rattle.viz_parts.specs.declared.request.Part.{Part}
use Rattle.viz_parts.specs.declared.request.Request.{Request}
use Rattle.viz_plan_law.proofs.ConeLemmas.{AllAt, IsAt, placed_at}
use Rattle.viz_plan_law.proofs.PortLemmas.{AreFirst}
use Rattle.viz_plan_law.specs.Cutting.{IsExactPart}
use Rattle.viz_plan_meaning.specs.Networks.{head_of, passed, passes, way_of, ways}
use Rattle.viz_plan_meaning.specs.Plan.{
  Upstream as Ways,
  empty as no_node,
  fed as way,
  heads,
  none as no_way,
}
use Rattle.viz_plan_truth.proofs.WayLemmas.{writer_first}
use Rattle.viz_task_parts.specs.Tasks.{PartsArePassed}

-- ---- a writer

-- nothing feeds the ports
record IsUnfed (c : Cone) : Type 0 where
  inputs : Inputs Divided
  divided : AreDivided c inputs

unfed : (c : Cone) → AreFirst 0 c → IsUnfed c
unfed none h = record { inputs = []; divided = tt }
unfed (empty others) h =
    let rest = unfed others h in
    record { inputs = None ∷ rest.inputs; divided = rest.divided }
unfed (fed n own others) h = absurd h

-- a writer makes what is at its port
writer_made : (s : Settings) (file : Option (List ℕ)) (d : Divided) (rest : Inputs Divided)
    → passes s ≡ true → IsMadeOf s file (Some d ∷ rest) d
writer_made (settings.Writer binary digits version) file d rest e =
    record { exact = (d.whole, refl, refl); divided = refl }
writer_made (settings.File array unit) file d rest e = let bad : ⊥ = cc in absurd bad
writer_made (settings.Crop x0 x1 y0 y1 z0 z1) file d rest e = let bad : ⊥ = cc in absurd bad
writer_made (settings.Sample x y z) file d rest e = let bad : ⊥ = cc in absurd bad
writer_made (settings.Threshold lo hi) file d rest e = let bad : ⊥ = cc in absurd bad
writer_made (settings.Smooth radius) file d rest e = let bad : ⊥ = cc in absurd bad
writer_made (settings.Arith op) file d rest e = let bad : ⊥ = cc in absurd bad
writer_made settings.Tets file d rest e = let bad : ⊥ = cc in absurd bad
writer_made (settings.Select lo hi all) file d rest e = let bad : ⊥ = cc in absurd bad
writer_made (settings.Contour count levels) file d rest e = let bad : ⊥ = cc in absurd bad
writer_made (settings.Cut a b c r) file d rest e = let bad : ⊥ = cc in absurd bad
writer_made settings.Append file d rest e = let bad : ⊥ = cc in absurd bad
writer_made settings.Boundary file d rest e = let bad : ⊥ = cc in absurd bad
writer_made settings.Merge file d rest e = let bad : ⊥ = cc in absurd bad

module _ (ports : DividedByPorts) where
  writer_divided : (n m : Node) (own others : Cone) (whole : Dataset) (division : Division)
      → passes n.settings ≡ true → AreFirst 1 (fed m own others)
      → IsDivided (Some (m, own)) whole division
      → IsDivided (Some (n, fed m own others)) whole division
  writer_divided n m own others whole division e first d =
      let rest = unfed others first in
      (ports n (fed m own others) whole division).1 (record {
        inputs = Some (shared_as whole division) ∷ rest.inputs;
        fed = (d, rest.divided);
        made = writer_made n.settings n.file (shared_as whole division) rest.inputs e;
      })

  writer_exact : (n m : Node) (own others : Cone) → passes n.settings ≡ true
      → AreFirst 1 (fed m own others) → (r : Request) (p : Part)
      → IsExactPart (Some (m, own)) r p → IsExactPart (Some (n, fed m own others)) r p
  writer_exact n m own others e first r p h = record {
    whole = h.whole;
    one = record {
      division = h.one.division;
      divided = writer_divided n m own others h.whole h.one.division e first h.one.divided;
      answers = h.one.answers;
    };
  }

-- ---- what feeds a port

pub passed_head : (u v : Ways) (id : ℕ) → head_of (passed u v) ≡ Some id → head_of u ≡ Some id
passed_head no_way v id e = let bad : ⊥ = cc in absurd bad
passed_head (no_node c) v id e = let bad : ⊥ = cc in absurd bad
passed_head (way m own c) v id e = e

pub passed_none : (u v : Ways) → head_of (passed u v) ≡ None → head_of u ≡ None
passed_none no_way v e = refl
passed_none (no_node c) v e = refl
passed_none (way m own c) v e = e

passed_heads : (u v : Ways) → heads (passed u v) ≡ head_of (passed u v) ∷ heads v
passed_heads no_way v = refl
passed_heads (no_node c) v = refl
passed_heads (way m own c) v = refl

-- what feeds the first port, in front of what feeds the others
pub way_heads : (b : Bool) (id : ℕ) (u v : Ways)
    → heads (way_of b id u v) ≡ head_of (way_of b id u v) ∷ heads v
way_heads true id u v = passed_heads u v
way_heads false id u v = refl

module _ (net : Network) (ports : DividedByPorts) where
  own_exact : (n : Node) (own : Cone) → IsAt net n own → (id : ℕ) → Some n.id.0 ≡ Some id
      → (r : Request) (p : Part) → IsExactPart (cone_of net id) r p
      → IsExactPart (Some (n, own)) r p
  own_exact n own at id e r p h =
      let same : n.id.0 ≡ id = cc in
      subst (λ (t : Option Tree). IsExactPart t r p) (ap (cone_of net) (sym same) ∙ at.cone) h

  step_exact : (n : Node) (own others : Cone) → IsAt net n own → (b : Bool)
      → passes n.settings ≡ b → (id : ℕ) (r : Request) (p : Part)
      → (passes n.settings ≡ true → head_of (ways own) ≡ Some id
      → IsExactPart (cone_of net id) r p → IsExactPart (Some (n, own)) r p)
      → head_of (way_of b n.id.0 (ways own) (ways others)) ≡ Some id
      → IsExactPart (cone_of net id) r p → IsExactPart (Some (n, own)) r p
  step_exact n own others at true e id r p up q h =
      up e (passed_head (ways own) (ways others) id q) h
  step_exact n own others at false e id r p up q h = own_exact n own at id q r p h

  -- parts of the node that requests to the first port reach are parts of what feeds the port
  pub reached_exact : (n : Node) (own others : Cone) → IsAt net n own → AllAt net own
      → (id : ℕ) (r : Request) (p : Part)
      → head_of (ways (fed n own others)) ≡ Some id → IsExactPart (cone_of net id) r p
      → IsExactPart (Some (n, own)) r p
  reached_exact n none others at all id r p q h =
      step_exact n none others at (passes n.settings) refl id r p
      (λ e f g. let bad : ⊥ = cc in absurd bad) q h
  reached_exact n (empty c) others at all id r p q h =
      step_exact n (empty c) others at (passes n.settings) refl id r p
      (λ e f g. let bad : ⊥ = cc in absurd bad) q h
  reached_exact n (fed m own c) others at all id r p q h =
      step_exact n (fed m own c) others at (passes n.settings) refl id r p
      (λ e f g. writer_exact ports n m own c e
      (writer_first n.settings (fed m own c) e at.ports) r p
      (reached_exact m own c all.0 all.1 id r p f g)) q h

  tree_passed : (t : Option Tree) → AllAt net (port t none) → (id : ℕ) (r : Request) (p : Part)
      → head_of (ways (port t none)) ≡ Some id → IsExactPart (cone_of net id) r p
      → IsExactPart t r p
  tree_passed None a id r p e h = let bad : ⊥ = cc in absurd bad
  tree_passed (Some t) a id r p e h = reached_exact t.0 t.1 none a.0 a.1 id r p e h

pub parts_passed : DividedByPorts → PartsArePassed
parts_passed ports net sink reached r p placed have e h =
    tree_passed net ports (cone_of net sink) (placed_at net sink placed have) reached r p e h
