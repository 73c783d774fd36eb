-- What is told of marked steps is what is known of the nodes of the cone.
use Rattle.std.proofs.Common.{◌≡◌, ℕ, ◌+◌, ◌<◌, ◌≤◌, inl, inr, ⊎_elim, Bool, true, List, [], ◌∷◌, ◌++◌, length, slice_get, Some, Ok, refl, sym, ap, subst, ◌∙◌, arith}
use Rattle.std.proofs.lemmas.Bool.{cases_lt}
use Rattle.std.proofs.lemmas.Option.{slice_get_within}
use Rattle.viz_base.specs.declared.node.NodeId.{NodeId}
use Rattle.viz_network.specs.declared.steps.Step.{Step}
use Rattle.viz_network.specs.Network.{Network}
use Rattle.viz_network.specs.Cone.{cone_of, has_node}
use Rattle.viz_network.specs.Step.{nodes_of}
use Rattle.viz_node_meaning.specs.Information.{InformationRule}
use Rattle.viz_node_meaning.specs.declared.information.Information.{Information}
use Rattle.viz_node_rules.specs.Places.{Table}
use Rattle.viz_inform.proofs.TableLemmas.{last_or, kept_at, last_at}
use Rattle.viz_inform.specs.Above.{AreMarks, IsAt, LiesAbove}
use Rattle.viz_inform.specs.Informed.{AreTold}
use Rattle.viz_inform.specs.Steps.Taking.{AreTaken, IsTaken}
use Rattle.viz_inform.specs.Table.{IsTable, always, anything}
use Rattle.viz_inform.specs.declared.told.Told.{Told}

module _ (steps : List Step) (marks : List Bool) (table : Table Information) where
  -- nothing is told yet
  pub none_taken : AreTaken steps marks table 0 []
  none_taken = record {
    each = λ i t at. (let bad : ⊥ = cc in absurd bad);
    covers = λ j x l m at. absurd (omega (arith, l));
  }

  -- a step without a mark
  pub pass_over : (k : ℕ) (told : List Told) → (slice_get marks k ≡ Some true → ⊥)
      → AreTaken steps marks table k told → AreTaken steps marks table (k + 1) told
  pass_over k told bare a = record {
    each = a.each;
    covers = λ j x l m at. ⊎_elim (λ (low : j < k). a.covers j x low m at)
        (λ (g : k ≤ j). absurd (bare (subst (λ i. slice_get marks i ≡ Some true)
        (let e : j ≡ k = omega (arith, g, l) in e) m))) (cases_lt j k);
  }

  -- a step with a mark
  pub take_one : (k : ℕ) (old new : List Told) (t : Told) → slice_get marks k ≡ Some true
      → slice_get (nodes_of steps) k ≡ Some t.node
      → slice_get table k ≡ Some (Some (Ok t.information))
      → AreTaken steps marks table k old → new ≡ old ++ t ∷ []
      → AreTaken steps marks table (k + 1) new
  take_one k old new t marked at known a is =
      subst (AreTaken steps marks table (k + 1)) (sym is)
      (record {
        each = λ i u here. elim (last_or old t i u here) [
          | inl l ↦ a.each i u l
          | inr e ↦ subst (IsTaken steps marks table) (sym e.1)
              (record { place = k; marked = marked; at = at; known = known })
        ];
        covers = λ j x l m there. ⊎_elim
            (λ (low : j < k).
            let b = a.covers j x low m there in
            (b.0, b.1, kept_at old (t ∷ []) b.0 b.1 b.2, b.3))
            (λ (g : k ≤ j).
            let e : k ≡ j = omega (arith, g, l) in
            let both : Some t.node ≡ Some x = sym at ∙ ap (slice_get (nodes_of steps)) e ∙ there in
            let same : t.node ≡ x = cc in
            (length old, t, last_at old t, same)) (cases_lt j k);
      })

-- all marked steps are told, so the cone is
pub all_told : (net : Network) (steps : List Step) (sink : ℕ) (node : NodeId) (marks : List Bool)
    (table : Table Information) (told : List Told)
    → slice_get (nodes_of steps) sink ≡ Some node → AreMarks net steps sink 0 marks
    → IsTable InformationRule anything always net steps (length steps) table
    → AreTaken steps marks table (length steps) told → AreTold net node.0 told
all_told net steps sink node marks table told at known t a = record {
  each = λ k u here. (let b = a.each k u here in
      let mine : IsAt steps b.place u.node.0 = (u.node, b.at, refl) in
      let above = (known.above u.node.0).1 (b.place, b.marked, inl (omega arith, mine)) in
      record {
        upstream = here_above u.node.0 above;
        given = t.given b.place u.node (Ok u.information) b.known b.at;
      });
  covers = λ x h. (let left = (known.above x).0 (node, at, h) in
      elim left.2 [
        | inl w ↦ (let within = slice_get_within marks left.0 true left.1 in
            let b = a.covers left.0 w.1.0 (omega (arith, within, known.count)) left.1 w.1.1 in
            (b.0, b.1, b.2, ap (λ (n : NodeId). n.0) b.3 ∙ sym w.1.2))
        | inr w ↦ absurd (omega (arith, w.0))
      ]);
}
  where
    here_above : (x : ℕ) → LiesAbove net steps sink x → has_node x (cone_of net node.0) ≡ true
    here_above x (id, there, h) =
        let both : Some id ≡ Some node = sym there ∙ at in
        let same : id ≡ node = cc in
        subst (λ (z : NodeId). has_node x (cone_of net z.0) ≡ true) same h
