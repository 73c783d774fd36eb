use Rattle.std.proofs.Common.{◌≡◌, None, IfSome, List, map, get_or, refl, sym, ap, subst, ◌∙◌}
use Rattle.std.specs.Option.{option_copied}
use Rattle.viz_dataset.specs.declared.dataset.Dataset.{Dataset}
use Rattle.viz_extent.specs.Parts.{Rate, rate_of}
use Rattle.viz_kinds.specs.declared.settings.Settings.{Settings}
use Rattle.viz_kinds.specs.declared.settings.Settings.TheVariants as settings
use Rattle.viz_legacy_read.specs.Reading.{IsSound}
use Rattle.viz_meaning.specs.ImageFilters.{sample_of, arith_of}
use Rattle.viz_node_meaning.specs.Rules.{Inputs}
use Rattle.viz_node_rules.specs.Makes.{Makes}
use Rattle.viz_node_meaning.specs.Information.{thinned, rate_with, fed_at}
use Rattle.viz_node_meaning.specs.Data.{IsEvaluated, op_with}
use Rattle.viz_node_rules.specs.Steps.Made.{IsFromOne, IsFromTwo}
use Rattle.viz_node_rules.specs.Places.{value_at}
use Rattle.viz_node_rules.proofs.PlaceLemmas.{sound_at}
use Rattle.viz_node_rules.proofs.DataLemmas.{fed_map, made_of_one, made_of_two}
use Rattle.viz_node_rules.proofs.MakesLemmas.{makes_more, shared_makes}
use Rattle.viz_node_rules.proofs.datasets.own_dataset.Goals as goal

pub contours-requires : goal.contours-requires
contours-requires c = record { sound = subst (λ o. IfSome o IsSound) (sym c.dataset_at-first.ensures) (sound_at IsSound c.args.table.now _ c.requires.sound) }

pub select_input-requires : goal.select_input-requires
select_input-requires c = record { sound = subst (λ o. IfSome o IsSound) (sym c.dataset_at-first.ensures) (sound_at IsSound c.args.table.now _ c.requires.sound) }

pub cut_input-requires : goal.cut_input-requires
cut_input-requires c = record { sound = subst (λ o. IfSome o IsSound) (sym c.dataset_at-first.ensures) (sound_at IsSound c.args.table.now _ c.requires.sound) }

pub boundary_input-requires : goal.boundary_input-requires
boundary_input-requires c = record { sound = subst (λ o. IfSome o IsSound) (sym c.dataset_at-first.ensures) (sound_at IsSound c.args.table.now _ c.requires.sound) }

pub merge_input-requires : goal.merge_input-requires
merge_input-requires c = record { sound = subst (λ o. IfSome o IsSound) (sym c.dataset_at-first.ensures) (sound_at IsSound c.args.table.now _ c.requires.sound) }

pub passed_on-requires : goal.passed_on-requires
passed_on-requires c = record { sound = subst (λ o. IfSome o IsSound) (sym c.dataset_at-first.ensures) (sound_at IsSound c.args.table.now _ c.requires.sound) }

pub returns-in-Sample-clause-value : goal.returns-in-Sample-clause-value
returns-in-Sample-clause-value c =
    let inputs : Inputs Dataset = map (value_at c.args.table.now) c.args.places.now in
    let rate = rate_with c.in-Sample.x c.in-Sample.y c.in-Sample.z in
    let s : Settings = settings.Sample c.in-Sample.x c.in-Sample.y c.in-Sample.z in
    let file = c.args.node.now.file in
    let first = c.dataset_at-first.ensures ∙ sym (fed_map (value_at c.args.table.now) refl 0 c.args.places.now) in
    let made = subst (λ (q : Rate). Makes (IsFromOne (thinned q) (sample_of q) (option_copied c.dataset_at-first.result)) c.sample_input.result) c.rate_with.ensures.value c.sample_input.ensures.value in
    let fed = subst (λ d. Makes (IsFromOne (thinned rate) (sample_of rate) d) c.sample_input.result) first made in
    let rule = makes_more (IsFromOne (thinned rate) (sample_of rate) (fed_at 1 inputs)) (IsEvaluated s file inputs) (made_of_one (thinned rate) (sample_of rate) inputs) c.sample_input.result fed in
    subst (λ z. Makes (IsEvaluated z file inputs) c.shared-in-Sample.result) (sym c.in-Sample.is)
    (shared_makes (IsEvaluated s file inputs) c.sample_input.result c.shared-in-Sample.result c.shared-in-Sample.ensures rule)

pub returns-in-Arith-clause-value : goal.returns-in-Arith-clause-value
returns-in-Arith-clause-value c =
    let inputs : Inputs Dataset = map (value_at c.args.table.now) c.args.places.now in
    let filter = arith_of (op_with c.in-Arith.op) in
    let s : Settings = settings.Arith c.in-Arith.op in
    let file = c.args.node.now.file in
    let first = c.dataset_at-first.ensures ∙ sym (fed_map (value_at c.args.table.now) refl 0 c.args.places.now) in
    let second = c.dataset_at.ensures ∙ sym (fed_map (value_at c.args.table.now) refl 1 c.args.places.now) in
    let made = subst (λ d. Makes (IsFromTwo filter d (option_copied c.dataset_at.result)) c.arith_inputs.result) first c.arith_inputs.ensures.value in
    let fed = subst (λ d. Makes (IsFromTwo filter (fed_at 1 inputs) d) c.arith_inputs.result) second made in
    let rule = makes_more (IsFromTwo filter (fed_at 1 inputs) (fed_at 2 inputs)) (IsEvaluated s file inputs) (made_of_two filter inputs) c.arith_inputs.result fed in
    subst (λ z. Makes (IsEvaluated z file inputs) c.shared-in-Arith.result) (sym c.in-Arith.is)
    (shared_makes (IsEvaluated s file inputs) c.arith_inputs.result c.shared-in-Arith.result c.shared-in-Arith.ensures rule)
