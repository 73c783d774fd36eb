use Rattle.std.proofs.Common.{◌≡◌, Some, subst}
use Rattle.std.specs.List.{slice_get}
use Rattle.viz_legacy_read.specs.Reading.{IsSound}
use Rattle.viz_inform.proofs.TableLemmas.{place_within}
use Rattle.viz_scratch.proofs.TableLemmas.{behind_of, if_ok_more, sound_of_value}
use Rattle.viz_scratch.proofs.evaluation.node_dataset.Goals as goal

pub last_readers-requires-clause-within : goal.last_readers-requires-clause-within
last_readers-requires-clause-within c = place_within c.args.steps.now c.args.sink c.args.node c.requires.at

pub last_readers-requires-clause-behind : goal.last_readers-requires-clause-behind
last_readers-requires-clause-behind c = behind_of c.args.net.now c.args.steps.now c.requires.steps

pub returns-clause-value : goal.returns-clause-value
returns-clause-value c =
    let table = c.in_ok-table.table.items in
    let known = c.in_ok-table.ensures in
    if_ok_more c.taken.result (λ v at. known.given c.args.sink c.args.node v (subst (λ t. slice_get t c.args.sink ≡ Some (Some v)) c.deref-2.ensures.value at) c.requires.at) c.taken.ensures

pub returns-clause-sound : goal.returns-clause-sound
returns-clause-sound c =
    let known = c.in_ok-table.ensures in
    if_ok_more c.taken.result (λ v at. sound_of_value IsSound c.in_ok-table.table.items c.args.sink v known.sound (subst (λ t. slice_get t c.args.sink ≡ Some (Some v)) c.deref-2.ensures.value at)) c.taken.ensures
