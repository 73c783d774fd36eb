use Rattle.std.proofs.Common.{◌≡◌, ◌<◌, ◌^◌, length, [], refl, ap, sym, ◌∙◌, arith, rules, true≢false, ◌==◌}
use Rattle.viz_grid_section.specs.GridSection.{grid_cells}
use Rattle.viz_flags.specs.Flags.{set_in}
use Rattle.viz_flags.proofs.MadeLemmas.{below_all, made_names, made_ranks, length-named, none_made, names_fit}
use Rattle.viz_flags.proofs.sections.ranked_in.Goals as goal

pub flags_of-requires : goal.flags_of-requires
flags_of-requires g c =
    below_all g.T.Ends.list c.args.window.now c.args.inside.now _ _ c.len.result (c.len.ensures.value ∙ c.requires.full) c.in_ok-numbers.ensures.cells c.deref.ensures.value

pub ranked-requires-clause-within : goal.ranked-requires-clause-within
ranked-requires-clause-within g c =
    let size : length c.deref-3.result.now ≡ length c.args.inside.now = ap length c.deref-3.ensures.value ∙ c.in_ok-flags.ensures.size ∙ c.len.ensures.value in
    below_all g.T.Ends.list c.args.window.now c.args.inside.now c.in_ok-numbers.numbers.items c.in_ok-numbers.numbers.items (length c.deref-3.result.now) (size ∙ c.requires.full) c.in_ok-numbers.ensures.cells refl

pub names_of-requires : goal.names_of-requires
names_of-requires g c =
    let items = c.in_ok-numbers.numbers.items in
    let some : grid_cells c.args.window.now c.args.inside.now ≡ [] → ⊥ = λ none.
    let zero : length items ≡ 0 = none_made g.T.Ends.list items _ _ _ c.in_ok-numbers.ensures.cells none in
    let empty = sym c.deref.ensures.len ∙ ap length c.deref.ensures.value ∙ zero in
    true≢false (sym (ap (λ n. n == 0) empty) ∙ sym c.is_empty.ensures ∙ c.if-is_empty.false) in
    let size : length c.deref-5.result.now ≡ length c.args.inside.now = ap length c.deref-5.ensures.value ∙ c.in_ok-flags.ensures.size ∙ c.len.ensures.value in
    record { few = names_fit c.bounds.result c.args.window.now c.args.inside.now c.args.first _ (length c.args.inside.now) c.bounds.ensures.value some c.requires.within size c.requires.full }

pub returns-clause-names : goal.returns-clause-names
returns-clause-names g c =
    made_names g.T.Ends.list c.args.window.now c.args.inside.now _ _ c.len.result (c.len.ensures.value ∙ c.requires.full) c.in_ok-numbers.ensures.cells c.deref.ensures.value
    _ c.in_ok-flags.ensures.marks c.args.first c.bounds.result _ _ c.bounds.ensures.value c.deref-5.ensures.value c.in_ok-names.ensures

pub returns-clause-ranks : goal.returns-clause-ranks
returns-clause-ranks g c =
    made_ranks g.T.Ends.list c.args.window.now c.args.inside.now _ _ c.len.result (c.len.ensures.value ∙ c.requires.full) c.in_ok-numbers.ensures.cells c.deref.ensures.value
    _ c.in_ok-flags.ensures.marks _ _ c.deref-3.ensures.value c.in_ok-triangles.ensures

pub returns-clause-few : goal.returns-clause-few
returns-clause-few g c =
    let long = length-named _ _ _ _ _ c.in_ok-names.ensures in
    let same : set_in c.deref-5.result.now ≡ c.in_ok-before.field-0.count = ap set_in (c.deref-5.ensures.value ∙ sym c.deref-2.ensures.value) ∙ sym c.in_ok-before.ensures.count in
    let small : c.in_ok-before.field-0.count < 2 ^ 32 = search rules in
    omega (arith, long, same, small)
