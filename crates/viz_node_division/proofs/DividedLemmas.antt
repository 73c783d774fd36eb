-- What a node gives has one division.
use Rattle.std.proofs.Common.{◌≡◌, Option, Result, Ok, Err, refl, sym, ap, ap₂, subst, ◌∙◌}
use Rattle.viz_dataset.specs.declared.dataset.Dataset.{Dataset}
use Rattle.viz_network.specs.declared.node.Node.{Node}
use Rattle.viz_network.specs.declared.fault.Cause.{Cause}
use Rattle.viz_network.specs.declared.fault.Fault.{Fault}
use Rattle.viz_network.specs.Cone.{Tree}
use Rattle.viz_node_meaning.specs.Data.{DataRule}
use Rattle.viz_node_meaning.specs.Fold.{IsGiven}
use Rattle.viz_node_meaning.specs.Rules.{Inputs, IsOne}
use Rattle.viz_node_meaning.specs.Scratch.{IsBehind}
use Rattle.viz_node_meaning.specs.declared.information.Information.{Information}
use Rattle.viz_node_meaning.proofs.OneLemmas.{value_one}
use Rattle.viz_parts.specs.Pieces.{Division}
use Rattle.viz_node_division.specs.Divided.{Divided, DividedRule, IsDivided, division_of, wholes}
use Rattle.viz_node_division.specs.Exact.{ExactRule}
use Rattle.viz_node_division.specs.Laws.{
  DataAreExact,
  DatasetsAreDivided,
  DividedAreExact,
  DivisionsAreOne,
  ExactAreDivided,
}
use Rattle.viz_node_division.proofs.ExactLemmas.{exact_one, node_also}
use Rattle.viz_node_division.proofs.FoldLemmas.{less_value, more_value, part_in, value_also}

abbrev pub shared_as : Dataset → Division → Divided
shared_as whole division = record { whole = whole; division = division }

abbrev whole_of : Divided → Dataset
whole_of d = d.whole

-- ---- the dataset

less : (n : Node) (inputs : Inputs Divided) (r : Result Divided Cause) → DividedRule n inputs r
    → ExactRule n (wholes inputs) (part_in whole_of r)
less n inputs (Ok made) m = m.exact
less n inputs (Err cause) m = m

pub are_exact : DividedAreExact
are_exact cone whole division d =
    less_value whole_of ExactRule DividedRule less cone (Ok (shared_as whole division)) d.given

-- ---- a division

lift : (n : Node) (inputs : Inputs Divided) (r : Result Dataset Cause)
    → ExactRule n (wholes inputs) r
    → (s : Result Divided Cause) × DividedRule n inputs s × (r ≡ part_in whole_of s)
lift n inputs (Ok whole) m = (
  Ok
      (shared_as whole
      (division_of n.settings inputs whole)),
  record { exact = m; divided = refl },
  refl,
)
lift n inputs (Err cause) m = (Err cause, m, refl)

behind : (i : Result Information Fault) (t : Option Tree) (whole : Dataset)
    → IsBehind i t (Ok whole) → IsGiven DataRule t (Ok whole)
behind (Ok i) t whole b = b
behind (Err fault) t whole b = let bad : ⊥ = cc in absurd bad

divided_from : (cone : Option Tree) (whole : Dataset) (other : Result Divided Fault)
    → IsGiven DividedRule cone other → Ok whole ≡ part_in whole_of other
    → (division : Division) × IsDivided cone whole division
divided_from foot whole (Ok d) g e =
    let same : d.whole ≡ whole = cc in (
      d.division,
      record {
        given = subst
            (λ w. IsGiven DividedRule foot (Ok (shared_as w d.division))) same g;
      },
    )
divided_from foot whole (Err fault) g e = let bad : ⊥ = cc in absurd bad

pub exact_divided : ExactAreDivided
exact_divided cone whole given =
    let d = more_value whole_of ExactRule DividedRule lift cone (Ok whole) given in
    divided_from cone whole d.0 d.1 d.2

pub data_exact : DataAreExact
data_exact cone whole given = value_also DataRule ExactRule node_also cone whole given

pub are_divided : DatasetsAreDivided
are_divided cone whole given =
    exact_divided cone whole (data_exact cone whole (behind given.0 cone whole given.2))

-- ---- one

module _ (data_one : IsOne DataRule) where
  whole_one : IsOne ExactRule
  whole_one = exact_one data_one

  rule_one : IsOne DividedRule
  rule_one n inputs (Ok a) (Ok b) p q =
      let given = whole_one n (wholes inputs) (Ok a.whole) (Ok b.whole) p.exact q.exact in
      let whole : a.whole ≡ b.whole = cc in
      let division : a.division ≡ b.division = p.divided ∙ ap (division_of n.settings inputs) whole
      ∙ sym q.divided in
      ap₂ (λ w d. Ok (shared_as w d)) whole division
  rule_one n inputs (Ok a) (Err c) p q =
      let given = whole_one n (wholes inputs) (Ok a.whole) (Err c) p.exact q in
      let bad : ⊥ = cc in
      absurd bad
  rule_one n inputs (Err c) (Ok b) p q =
      let given = whole_one n (wholes inputs) (Err c) (Ok b.whole) p q.exact in
      let bad : ⊥ = cc in
      absurd bad
  rule_one n inputs (Err c) (Err d) p q =
      let given = whole_one n (wholes inputs) (Err c) (Err d) p q in
      let same : c ≡ d = cc in
      ap (λ (z : Cause). Err z) same

  pub are_one : DivisionsAreOne
  are_one cone a b c d p q =
      let all =
      value_one DividedRule rule_one cone (Ok (shared_as a c))
      (Ok (shared_as b d)) p.given q.given in
      let same : shared_as a c ≡ shared_as b d = cc in
      (ap (λ (x : Divided). x.whole) same, ap (λ (x : Divided). x.division) same)
