-- The file of the filter's node, and whose fault it is where there is none.
use Rattle.std.proofs.Common.{◌≡◌, ◌⊎◌, ℕ, List, Some, Result, Ok, Err, refl, sym, ap, ap₂, subst, ◌∙◌, inl, inr}
use Rattle.viz_base.specs.declared.node.NodeId.{NodeId}
use Rattle.viz_dataset.specs.declared.dataset.Dataset.{Dataset}
use Rattle.viz_network.specs.declared.fault.Fault.{Fault}
use Rattle.viz_network.specs.declared.fault.Stop.{Stop}
use Rattle.viz_network.specs.declared.node.Node.{Node}
use Rattle.viz_network.specs.Cone.{Tree, cone_of}
use Rattle.viz_node_meaning.specs.declared.information.Information.{Information}
use Rattle.viz_node_meaning.specs.Data.{DataRule}
use Rattle.viz_node_meaning.specs.Fold.{IsGiven}
use Rattle.viz_node_meaning.specs.Information.{InformationRule}
use Rattle.viz_node_meaning.specs.Scratch.{Answers, IsBehind, IsScratchOf, IsScratch}
use Rattle.viz_scratch.specs.Written.{Style, IsTextOf, IsTextBehind, style_with, style_of}
use Rattle.viz_once.specs.declared.command.NodeFilter.{NodeFilter}
use Rattle.viz_once.specs.declared.command.Filter.TheVariants as filters
use Rattle.viz_once.specs.Files.{IsNodeFile}
use Rattle.viz_once.specs.FixedHistory.{HasNumbers, network_for, source_id, op_id, name_at}
use Rattle.viz_once.specs.Reasons.{IsFaultFor}
use Rattle.viz_once.specs.Steps.Nodes.{settings_of, source_node, op_node, tree_of}
use Rattle.viz_once.proofs.GivenLemmas.{answers_more, of_either}
use Rattle.viz_once.proofs.NetworkLemmas.{name_is, cone_is}

module _ (filter : NodeFilter) (bytes : List ℕ) (numbers : HasNumbers filter) where
  abbrev tree : Tree
  tree = tree_of (source_node bytes) (op_node filter)

  -- what the two nodes give is what the network gives
  pub scratch_is : (r : Result Dataset Fault) → IsScratchOf (Some tree) r → IsScratch (network_for filter bytes) op_id r
  scratch_is r h = subst (λ t. IsScratchOf t r) (sym (cone_is filter bytes numbers)) h

  scratch_was : (r : Result Dataset Fault) → IsScratch (network_for filter bytes) op_id r → IsScratchOf (Some tree) r
  scratch_was r h = subst (λ t. IsScratchOf t r) (cone_is filter bytes numbers) h

  -- the same of two nodes that were made
  pub scratch_answers : (src node : Node) → src ≡ source_node bytes → node ≡ op_node filter → (i : Information) → IsGiven InformationRule (Some (tree_of src node)) (Ok i)
      → (r : Result Dataset Stop) → Answers (IsGiven DataRule (Some (tree_of src node))) r → Answers (IsScratch (network_for filter bytes) op_id) r
  scratch_answers src node src_is node_is i known r given =
      let same : tree_of src node ≡ tree = ap₂ tree_of src_is node_is in
      let k = subst (λ (t : Tree). IsGiven InformationRule (Some t) (Ok i)) same known in
      let g = subst (λ (t : Tree). Answers (IsGiven DataRule (Some t)) r) same given in
      answers_more (IsGiven DataRule (Some tree)) (IsScratch (network_for filter bytes) op_id) (λ v h. scratch_is v (Ok i, k, h)) r g

  pub scratch_fault : (src node : Node) → src ≡ source_node bytes → node ≡ op_node filter → (fault : Fault) → IsGiven InformationRule (Some (tree_of src node)) (Err fault)
      → IsScratch (network_for filter bytes) op_id (Err fault)
  scratch_fault src node src_is node_is fault known =
      let same : tree_of src node ≡ tree = ap₂ tree_of src_is node_is in
      scratch_is (Err fault) (Err fault, subst (λ (t : Tree). IsGiven InformationRule (Some t) (Err fault)) same known, refl)

  -- the style of the file is that of the filter's node
  style_is : (style : Style) → style ≡ style_with (settings_of filter) → style ≡ style_of (cone_of (network_for filter bytes) op_id)
  style_is style is = is ∙ sym (ap style_of (cone_is filter bytes numbers))

  -- the text of the dataset that the node gives is its file
  pub file_is : (style : Style) → style ≡ style_with (settings_of filter) → (d : Dataset) → IsScratch (network_for filter bytes) op_id (Ok d)
      → (r : Result (List ℕ) Fault) → IsTextOf style op_id d r → IsNodeFile filter bytes r
  file_is style is d given r text = (Ok d, given, subst (λ (s : Style). IsTextOf s op_id d r) (style_is style is) text)

  -- ---- names

  abbrev IsEither : Fault → Type 0
  IsEither fault = (fault.node.0 ≡ source_id) ⊎ (fault.node.0 ≡ op_id)

  as_numbers : (fault : Fault) → (fault.node ≡ (source_node bytes).id) ⊎ (fault.node ≡ (op_node filter).id) → IsEither fault
  as_numbers fault (inl e) = inl (ap (λ (n : NodeId). n.0) e)
  as_numbers fault (inr e) = inr (ap (λ (n : NodeId). n.0) e)

  behind_either : (i : Result Information Fault) (fault : Fault) → IsGiven InformationRule (Some tree) i → IsBehind i (Some tree) (Err fault) → IsEither fault
  behind_either (Err known) fault given behind =
      let same : fault ≡ known = (let e : (let r : Result Dataset Fault = Err fault in r) ≡ Err known = behind in cc) in
      subst IsEither (sym same) (as_numbers known (of_either InformationRule (source_node bytes) (op_node filter) known given))
  behind_either (Ok i) fault given behind = as_numbers fault (of_either DataRule (source_node bytes) (op_node filter) fault behind)

  pub scratch_either : (fault : Fault) → IsScratch (network_for filter bytes) op_id (Err fault) → IsEither fault
  scratch_either fault h = let t = scratch_was (Err fault) h in behind_either t.0 fault t.1 t.2

  text_either : (s : Result Dataset Fault) (fault : Fault) → IsScratch (network_for filter bytes) op_id s
      → IsTextBehind (style_of (cone_of (network_for filter bytes) op_id)) op_id s (Err fault) → IsEither fault
  text_either (Err known) fault h text =
      let same : fault ≡ known = (let e : (let r : Result (List ℕ) Fault = Err fault in r) ≡ Err known = text in cc) in
      subst IsEither (sym same) (scratch_either known h)
  text_either (Ok d) fault h text = inr text.0

  -- where the filter's node has no file, that is a fault of a node that has a name
  pub fault_is : (fault : Fault) → IsNodeFile filter bytes (Err fault) → IsFaultFor (filters.Node filter) bytes fault (name_at fault.node.0)
  fault_is fault h = record { file = h; named = name_is filter bytes numbers fault.node.0 (text_either h.0 fault h.1 h.2) }
