use Rattle.std.proofs.Common.{ap, ◌∙◌}
use Rattle.viz_mesh_write.specs.Counts.{cells_written, points_written}
use Rattle.viz_scratch.specs.Written.{style_with}
use Rattle.viz_once.proofs.FileLemmas.{file_is}
use Rattle.viz_once.proofs.MadeLemmas.{stopped, unwritten, passed_on, counted}
use Rattle.viz_once.proofs.made.node_file.Goals as goal

pub returns-in_err-dataset : goal.returns-in_err-dataset
returns-in_err-dataset c =
    let stop = c.in_err-dataset.field-0.0 in
    passed_on c.args.filter.now c.args.bytes stop c.from_residual.result c.from_residual.ensures.1
    (stopped c.args.filter.now c.args.bytes c.settings_of.ensures.numbers stop c.in_err-dataset.ensures.value)

pub returns-in_err-text : goal.returns-in_err-text
returns-in_err-text c =
    let stop = c.in_err-text.field-0.0 in
    passed_on c.args.filter.now c.args.bytes stop c.from_residual-in_err-text.result c.from_residual-in_err-text.ensures.1
    (unwritten c.args.filter.now c.args.bytes c.settings_of.ensures.numbers _ (c.style_with-style.ensures.value ∙ ap style_with c.settings_of.ensures.value)
    c.in_ok-dataset.dataset c.in_ok-dataset.ensures.value stop c.in_err-text.ensures.value)

pub returns-in-Some-Some : goal.returns-in-Some-Some
returns-in-Some-Some c =
    let d = c.in_ok-dataset.dataset in
    record {
      file = file_is c.args.filter.now c.args.bytes c.settings_of.ensures.numbers _ (c.style_with-style.ensures.value ∙ ap style_with c.settings_of.ensures.value)
          d c.in_ok-dataset.ensures.value _ c.in_ok-text.ensures.value;
      counts = record {
        dataset = d;
        given = c.in_ok-dataset.ensures.value;
        cells_are = counted c.cell_count-cells.result c.in-Some-Some.cells _ c.cell_count-cells.ensures.value c.in-Some-Some.is-0 ∙ ap cells_written c.get.ensures.value;
        points_are = counted c.point_count-points.result c.in-Some-Some.points _ c.point_count-points.ensures.value c.in-Some-Some.is-1 ∙ ap points_written c.get-2.ensures.value;
      };
    }
