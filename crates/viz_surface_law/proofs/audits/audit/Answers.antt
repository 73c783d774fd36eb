use Rattle.std.proofs.Common.{◌≤◌, ◌^◌, ℕ, length, sym, subst, ap, ◌∙◌, arith}
use Rattle.std.specs.List.{All}
use Rattle.std.proofs.lemmas.List.Sorted.{IsNonDecreasingBy-from_sort, All-permutation}
use Rattle.viz_sheet.specs.Arrays.{ranks_in}
use Rattle.viz_surface_law.specs.Steps.Keys.{any_side, in_two, in_one, passing, Ascend, half}
use Rattle.viz_surface_law.specs.Steps.Ranked.{in_border, HasRanks}
use Rattle.viz_surface_law.proofs.PassLaw.{ascend-from_order}
use Rattle.viz_surface_law.proofs.Reordered.{passing-reordered}
use Rattle.viz_surface_law.proofs.AuditLemmas.{sizes, have_ranks, sides-keys, two-keys, lone-keys, border-keys}
use Rattle.viz_surface_law.proofs.audits.audit.Goals as goal

pub keys-requires-clause-sizes : goal.keys-requires-clause-sizes
keys-requires-clause-sizes c =
    let few : length c.args.sheet.now.names ≤ 2 ^ 31 = omega (arith, c.if-point_count-ge-MAX_NAMES.false, c.point_count.ensures.value) in
    sizes c.args.whole.now c.args.sheet.now (ranks_in c.ranks.result.now) c.ranks.ensures.value c.ranks.ensures.valid c.requires.surface few

pub count_keys-sides-requires-clause-sorted : goal.count_keys-sides-requires-clause-sorted
count_keys-sides-requires-clause-sorted c =
    subst Ascend (sym c.deref.ensures.value) (ascend-from_order _ (IsNonDecreasingBy-from_sort (λ x. x) _ c.sort_unstable.ensures.sorted))

pub count_keys-sides-requires-clause-ranks : goal.count_keys-sides-requires-clause-ranks
count_keys-sides-requires-clause-ranks c =
    let few : length c.args.sheet.now.names ≤ 2 ^ 31 = omega (arith, c.if-point_count-ge-MAX_NAMES.false, c.point_count.ensures.value) in
    let P : ℕ → Type 0 = λ key. HasRanks (length c.args.sheet.now.names) (half key) in
    let first = have_ranks c.args.whole.now c.args.sheet.now (ranks_in c.ranks.result.now) c.ranks.ensures.value c.ranks.ensures.valid c.requires.surface few in
    subst (All P) (sym c.deref.ensures.value)
    (All-permutation P _ _ c.sort_unstable.ensures.permutation (subst (All P) (sym c.in_ok-keys.ensures.value) first))

pub returns-clause-sides : goal.returns-clause-sides
returns-clause-sides c =
    let few : length c.args.sheet.now.names ≤ 2 ^ 31 = omega (arith, c.if-point_count-ge-MAX_NAMES.false, c.point_count.ensures.value) in
    c.count_keys-sides.ensures.sides ∙ ap (passing any_side) c.deref.ensures.value ∙ passing-reordered any_side _ _ c.sort_unstable.ensures.permutation ∙ ap (passing any_side) c.in_ok-keys.ensures.value
    ∙ sides-keys c.args.whole.now c.args.sheet.now (ranks_in c.ranks.result.now) c.ranks.ensures.value c.ranks.ensures.valid c.requires.surface few

pub returns-clause-two : goal.returns-clause-two
returns-clause-two c =
    let few : length c.args.sheet.now.names ≤ 2 ^ 31 = omega (arith, c.if-point_count-ge-MAX_NAMES.false, c.point_count.ensures.value) in
    c.count_keys-sides.ensures.two ∙ ap (passing in_two) c.deref.ensures.value ∙ passing-reordered in_two _ _ c.sort_unstable.ensures.permutation ∙ ap (passing in_two) c.in_ok-keys.ensures.value
    ∙ two-keys c.args.whole.now c.args.sheet.now (ranks_in c.ranks.result.now) c.ranks.ensures.value c.ranks.ensures.valid c.requires.surface few

pub returns-clause-lone : goal.returns-clause-lone
returns-clause-lone c =
    let few : length c.args.sheet.now.names ≤ 2 ^ 31 = omega (arith, c.if-point_count-ge-MAX_NAMES.false, c.point_count.ensures.value) in
    c.count_keys-sides.ensures.lone ∙ ap (passing in_one) c.deref.ensures.value ∙ passing-reordered in_one _ _ c.sort_unstable.ensures.permutation ∙ ap (passing in_one) c.in_ok-keys.ensures.value
    ∙ lone-keys c.args.whole.now c.args.sheet.now (ranks_in c.ranks.result.now) c.ranks.ensures.value c.ranks.ensures.valid c.requires.surface few

pub returns-clause-border : goal.returns-clause-border
returns-clause-border c =
    let few : length c.args.sheet.now.names ≤ 2 ^ 31 = omega (arith, c.if-point_count-ge-MAX_NAMES.false, c.point_count.ensures.value) in
    let test = in_border c.args.whole.now c.args.sheet.now.names in
    c.count_keys-sides.ensures.border ∙ ap (passing test) c.deref.ensures.value ∙ passing-reordered test _ _ c.sort_unstable.ensures.permutation ∙ ap (passing test) c.in_ok-keys.ensures.value
    ∙ border-keys c.args.whole.now c.args.sheet.now (ranks_in c.ranks.result.now) c.ranks.ensures.value c.ranks.ensures.valid c.requires.surface few
