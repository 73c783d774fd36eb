-- What a node gives from scratch is one.
use Rattle.std.proofs.Common.{◌≡◌, Option, Result, Ok, Err, sym, subst, ◌∙◌}
use Rattle.viz_dataset.specs.declared.dataset.Dataset.{Dataset}
use Rattle.viz_network.specs.declared.fault.Fault.{Fault}
use Rattle.viz_network.specs.Cone.{Tree}
use Rattle.viz_network.specs.EqualStamps.{EqualStamps}
use Rattle.viz_node_meaning.specs.declared.information.Information.{Information}
use Rattle.viz_node_meaning.specs.Information.{InformationRule}
use Rattle.viz_node_meaning.specs.Data.{DataRule}
use Rattle.viz_node_meaning.specs.Rules.{IsOne}
use Rattle.viz_node_meaning.specs.Scratch.{IsBehind, IsScratchOf}
use Rattle.viz_node_meaning.specs.Laws.{ConesGiveOne, EqualStampsGiveOne}
use Rattle.viz_node_meaning.proofs.OneLemmas.{value_one}

module _ (informed : IsOne InformationRule) (evaluated : IsOne DataRule) where
  behind_one : (i : Result Information Fault) (t : Option Tree) (a b : Result Dataset Fault) → IsBehind i t a → IsBehind i t b → a ≡ b
  behind_one (Err fault) t a b p q = p ∙ sym q
  behind_one (Ok i) t a b p q = value_one DataRule evaluated t a b p q

  pub cones_give_one : ConesGiveOne
  cones_give_one t a b p q =
      let same = value_one InformationRule informed t p.0 q.0 p.1 q.1 in
      behind_one q.0 t a b (subst (λ i. IsBehind i t a) same p.2) q.2

-- equal cones give the same
pub equal_stamps : EqualStamps → EqualStampsGiveOne
equal_stamps same edits more id stamp here later r =
    let cone = same edits more id stamp here later in
    (subst (λ t. IsScratchOf t r) cone, subst (λ t. IsScratchOf t r) (sym cone))
