use Rattle.std.proofs.Common.{Some, Err, sym, ap, subst, ◌∙◌}
use Rattle.viz_node_meaning.specs.Data.{unit_with, IsReadingOf}
use Rattle.viz_node_rules.specs.Makes.{Makes}
use Rattle.viz_node_rules.proofs.MakesLemmas.{file_read, file_stopped}
use Rattle.viz_node_rules.proofs.files.file_dataset.Goals as goal

pub returns-in-Ok-clause-value : goal.returns-in-Ok-clause-value
returns-in-Ok-clause-value c =
    file_read c.args.file.now c.list.result.now c.args.array.now c.unit_with.result (unit_with c.args.unit) c.in-Ok.dataset
    (c.in-Some.is ∙ ap (λ b. Some b) (sym (c.list.ensures.value ∙ c.get.ensures.value))) c.unit_with.ensures.value c.in-Ok.ensures.found

pub returns-in-Err-clause-value : goal.returns-in-Err-clause-value
returns-in-Err-clause-value c =
    subst (λ s. Makes (IsReadingOf c.args.array.now (unit_with c.args.unit) c.args.file.now) (Err s)) (sym c.of_read.ensures)
    (file_stopped c.args.file.now c.list.result.now c.args.array.now c.unit_with.result (unit_with c.args.unit) c.in-Err.stop
    (c.in-Some.is ∙ ap (λ b. Some b) (sym (c.list.ensures.value ∙ c.get.ensures.value))) c.unit_with.ensures.value c.in-Err.ensures.fault)
