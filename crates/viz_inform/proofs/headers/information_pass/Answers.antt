use Rattle.std.proofs.Common.{◌≡◌, ◌+◌, [], get_or, Some, sym, ap, subst, ◌∙◌, rules}
use Rattle.std.specs.Option.{option_copied}
use Rattle.std.proofs.lemmas.Option.{slice_get-get_or}
use Rattle.viz_network.specs.declared.steps.Step.{Step}
use Rattle.viz_network.specs.Step.{nodes_of}
use Rattle.viz_node_meaning.specs.Fold.{IsMade}
use Rattle.viz_node_meaning.specs.Information.{InformationRule}
use Rattle.viz_inform.specs.Table.{IsTable, anything, always, told}
use Rattle.viz_inform.proofs.TableLemmas.{lent_there, has_always, more_table}
use Rattle.viz_inform.proofs.headers.information_pass.Goals as goal

pub unwrap-node-requires : goal.unwrap-node-requires
unwrap-node-requires c =
    let step = c.requires.each c.loop-step.step-index _ (slice_get-get_or c.args.steps.now c.loop-step.step-index _ c.loop-step-test.true) in
    lent_there c.node.result step.node (c.node.ensures.value ∙ step.there)

pub loop-step-preserved : goal.loop-step-preserved
loop-step-preserved c =
    let net = c.args.net.now in
    let steps = c.args.steps.now in
    let k = c.loop-step.step-index in
    let table = c.loop-step.table.items in
    let none : Step = record { node = record { 0 = 0 }; inputs = [] } in
    let s = get_or steps k none in
    let at = slice_get-get_or steps k none c.loop-step-test.true in
    let step = c.requires.each k s at in
    let is : c.node.result ≡ Some c.unwrap-node.result = search rules in
    let found = sym c.node.ensures.value ∙ ap option_copied is in
    let known = c.loop-step.invariant.table in
    let has = has_always InformationRule anything net steps (nodes_of steps) k table known step.node.inputs s.inputs step.fed in
    let made = subst (λ t. IsMade InformationRule c.unwrap-node.result.now (told t s.inputs) c.known_of-known.result) c.deref.ensures.value c.known_of-known.ensures in
    record {
      table = subst (IsTable InformationRule anything always net steps (k + 1)) (sym c.in_ok-push.ensures.items)
          (more_table InformationRule anything always net steps c.requires (λ j q n. tt) k table known s at has c.unwrap-node.result.now found c.known_of-known.result made (λ x e. tt));
    }
