use Rattle.viz_base.specs.declared.node.Pick.TheVariants.{First}
use Rattle.viz_reshape.proofs.ReadingLemmas.{read_made, read_stopped, reads_one}
use Rattle.viz_reshape.proofs.reading.dataset_of.Goals as goal

pub returns-in-Ok-clause-value : goal.returns-in-Ok-clause-value
returns-in-Ok-clause-value c = read_made c.args.bytes c.list.result.now c.in-Ok.dataset c.list.ensures.value c.in-Ok.ensures.found

pub returns-in-Ok-clause-one : goal.returns-in-Ok-clause-one
returns-in-Ok-clause-one c = reads_one c.list.result.now First 0 c.in-Ok.dataset c.in-Ok.ensures.found

pub returns-in-Err-File-clause-value : goal.returns-in-Err-File-clause-value
returns-in-Err-File-clause-value c =
    let stop = rw c.in-Err-File.field-0-is at c.in-Err-File.ensures in
    read_stopped c.args.bytes c.list.result.now c.in-Err-File.fault c.list.ensures.value stop.fault
