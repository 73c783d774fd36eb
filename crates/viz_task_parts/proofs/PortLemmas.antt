-- What feeds the ports of a task's node, by the parts that there are of it.
use Rattle.std.proofs.Common.{
  ◌≡◌,
  ℕ,
  List,
  [],
  ◌∷◌,
  Option,
  None,
  Some,
  Ok,
  refl,
  sym,
  ap,
  subst,
  ◌∙◌,
}
use Rattle.viz_dataset.specs.declared.dataset.Dataset.{Dataset}
use Rattle.viz_dataset.specs.declared.dataset.Dataset.TheVariants as dataset
use Rattle.viz_network.specs.Cone.{Cone, Tree, cone_of, empty, fed, none}
use Rattle.viz_network.specs.declared.node.Node.{Node}
use Rattle.viz_node_division.proofs.DividedLemmas.{shared_as}
use Rattle.viz_node_division.specs.Divided.{Divided, IsDivided}
use Rattle.viz_node_division.specs.Laws.{AreDivided, DividedAreExact, DividedByPorts}
use Rattle.viz_node_meaning.specs.Fold.{IsGiven}
use Rattle.viz_node_meaning.specs.Information.{InformationRule, information_of}
use Rattle.viz_node_gives.specs.Gives.{AreValid}
use Rattle.viz_node_total.specs.Files.{IsValid}
use Rattle.viz_node_meaning.specs.Rules.{Inputs}
use Rattle.viz_node_parts.specs.Answering.{AreAnswered, dataset_extent, extent_at_ports}
use Rattle.viz_parts.specs.Pieces.{Division, IsAnswer}
use Rattle.viz_parts.specs.declared.request.Part.{Part}
use Rattle.viz_parts.specs.declared.request.Part.TheVariants.{Image, Mesh}
use Rattle.viz_parts.specs.declared.request.Request.{Request}
use Rattle.viz_parts.specs.declared.request.Request.TheVariants.{Block, Piece}
use Rattle.viz_plan_law.proofs.ConeLemmas.{AllAt, AllNodes, IsAt}
use Rattle.viz_plan_law.proofs.InformLemmas.{extent_in}
use Rattle.viz_plan_law.proofs.PortLemmas.{told_in}
use Rattle.viz_plan_law.specs.Cutting.{IsExactPart}
use Rattle.viz_plan_law.specs.Fitting.{IsKnown}
use Rattle.viz_plan_law.specs.Told.{ToldIsOfDatasets}
use Rattle.viz_plan_meaning.specs.Evaluation.{IsFed}
use Rattle.viz_plan_meaning.specs.Known.{Known, ports_extent}
use Rattle.viz_plan_meaning.specs.Networks.{head_of, passes, ways}
use Rattle.viz_plan_meaning.specs.Plan.{heads}
use Rattle.viz_task_parts.proofs.ReachedLemmas.{reached_some}
use Rattle.viz_task_parts.proofs.WriterLemmas.{reached_exact, way_heads}

-- ---- one dataset

-- an image of which there is a block is valid
valid_whole : (whole : Dataset) (division : Division) (r : Request) (p : Part)
    → IsAnswer whole division r p → IsValid whole
valid_whole (dataset.Image image) division (Block block) (Image part) a = a.whole_is
valid_whole (dataset.Image image) division (Block block) (Mesh parts) a = absurd a
valid_whole (dataset.Image image) division (Piece p n ghosts) part a = absurd a
valid_whole (dataset.Mesh sheets) division r p a = tt

told_extent : (d : Dataset) → extent_in (information_of d) ≡ dataset_extent d
told_extent (dataset.Image image) = refl
told_extent (dataset.Mesh sheets) = refl

module _ (k : Known) (told : ToldIsOfDatasets) (exact : DividedAreExact) where
  -- what is known of a node's extent is that of the dataset that it gives
  pub known_extent : (n : Node) (own : Cone) (whole : Dataset) (division : Division)
      → IsAt k.net n own → IsKnown k n.id.0 → IsDivided (Some (n, own)) whole division
      → k.extent n.id.0 ≡ dataset_extent whole
  known_extent n own whole division at known d =
      let i = known.information in
      let g = subst (λ (t : Option Tree). IsGiven InformationRule t (Ok i)) at.cone known.given in
      let same = told (Some (n, own)) i whole g (exact (Some (n, own)) whole division d) in
      told_in (k.extent n.id.0) i known.extent ∙ ap extent_in (sym same) ∙ told_extent whole

-- ---- all ports

-- what feeds the ports, of which these are parts for the request
pub record ArePorts (k : Known) (c : Cone) (r : Request) (ps : List (Option Part)) : Type 0 where
  pub inputs : Inputs Divided
  pub divided : AreDivided c inputs
  pub answered : AreAnswered inputs r ps
  pub valid : AreValid inputs
  pub extent : ports_extent k c ≡ extent_at_ports inputs

-- the part is one of what the node gives by the exact rule
abbrev pub Exact : Known → ℕ → Request → Part → Type 0
Exact k id r p = IsExactPart (cone_of k.net id) r p

empty_ports : (k : Known) (c : Cone) (r : Request) (ps qs : List (Option Part))
    → ps ≡ None ∷ qs → ArePorts k c r qs → ArePorts k (empty c) r ps
empty_ports k c r ps qs e rest = record {
  inputs = None ∷ rest.inputs;
  divided = rest.divided;
  answered = subst (AreAnswered (None ∷ rest.inputs) r) (sym e) rest.answered;
  valid = rest.valid;
  extent = rest.extent;
}

module _ (k : Known) (told : ToldIsOfDatasets) (exact : DividedAreExact)
    (ports : DividedByPorts) where
  one_more : (n : Node) (own c : Cone) (r : Request) (ps qs : List (Option Part)) (p : Part)
      → IsAt k.net n own → IsKnown k n.id.0 → ps ≡ Some p ∷ qs
      → IsExactPart (Some (n, own)) r p → ArePorts k c r qs
      → ArePorts k (fed n own c) r ps
  one_more n own c r ps qs p at known e is rest =
      let d = shared_as is.whole is.one.division in
      record {
        inputs = Some d ∷ rest.inputs;
        divided = (is.one.divided, rest.divided);
        answered = subst (AreAnswered (Some d ∷ rest.inputs) r) (sym e)
            (is.one.answers, rest.answered);
        valid = (valid_whole is.whole is.one.division r p is.one.answers, rest.valid);
        extent = known_extent k told exact n own is.whole is.one.division at known
            is.one.divided;
      }

  fed_ports : (n : Node) (own c : Cone) (r : Request) (ps : List (Option Part))
      → IsAt k.net n own → AllAt k.net own → IsKnown k n.id.0 → AllNodes (IsKnown k) own
      → ((qs : List (Option Part)) → IsFed (Exact k) r (heads (ways c)) qs → ArePorts k c r qs)
      → (o : Option ℕ) → head_of (ways (fed n own c)) ≡ o
      → IsFed (Exact k) r (o ∷ heads (ways c)) ps → ArePorts k (fed n own c) r ps
  fed_ports n own c r ps at all known above next None e f =
      absurd (reached_some k n own c at all known above e)
  fed_ports n own c r ps at all known above next (Some id) e f =
      one_more n own c r ps f.1 f.0 at known f.2
      (reached_exact k.net ports n own c at all id r f.0 e f.3) (next f.1 f.4)

  -- what feeds the ports of a cone, of which there are parts
  pub all_ports : (c : Cone) (r : Request) (ps : List (Option Part)) → AllAt k.net c
      → AllNodes (IsKnown k) c → IsFed (Exact k) r (heads (ways c)) ps → ArePorts k c r ps
  all_ports none r ps a h f = record {
    inputs = [];
    divided = tt;
    answered = subst (AreAnswered [] r) (sym f) tt;
    valid = tt;
    extent = refl;
  }
  all_ports (empty c) r ps a h f = empty_ports k c r ps f.0 f.1 (all_ports c r f.0 a h f.2)
  all_ports (fed n own c) r ps a h f =
      fed_ports n own c r ps a.0 a.1 h.0 h.1 (λ qs g. all_ports c r qs a.2 h.2 g)
      (head_of (ways (fed n own c))) refl
      (subst (λ (hs : List (Option ℕ)). IsFed (Exact k) r hs ps)
      (way_heads (passes n.settings) n.id.0 (ways own) (ways c)) f)
