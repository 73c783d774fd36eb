use Rattle.std.proofs.Common.{◌^◌, ◌<◌, ◌∙◌, List, Bool, ap, arith, length}
use Rattle.viz_sheet.specs.Arrays.{names_in, points_in}
use Rattle.viz_sheet.specs.Kept.{kept}
use Rattle.viz_sheet.specs.Ranked.{leaf_names}
use Rattle.viz_mesh_meaning.specs.Merge.{all_points}
use Rattle.viz_merge.specs.Steps.Leads.{first_marks}
use Rattle.viz_merge.proofs.MadeLemmas.{AreMade, leads-lent, made-cells, made-sheet, marks-few, marks-matched, numbers-lent, points-few}
use Rattle.viz_merge.proofs.merging.merged.Goals as goal

pub marked_points-requires : goal.marked_points-requires
marked_points-requires c = record {
  matched =
      marks-matched (all_points c.args.sheets.now) c.in_ok-leads.leads.items c.in_ok-marks.marks.items c.deref-2.result.now c.in_ok-leads.ensures.value (c.in_ok-marks.ensures.value ∙ ap first_marks c.deref.ensures.value) c.deref-2.ensures.value;
}

pub numbers-requires-clause-few : goal.numbers-requires-clause-few
numbers-requires-clause-few c =
    marks-few c.in_ok-leads.leads.items c.in_ok-marks.marks.items c.deref-3.result.now c.in_ok-leads.ensures.few (c.in_ok-marks.ensures.value ∙ ap first_marks c.deref.ensures.value) c.deref-3.ensures.value

pub numbers-requires-clause-below : goal.numbers-requires-clause-below
numbers-requires-clause-below c =
    leads-lent (all_points c.args.sheets.now) c.in_ok-leads.leads.items c.deref-4.result.now c.in_ok-marks.marks.items c.deref-3.result.now c.in_ok-leads.ensures.value (c.in_ok-marks.ensures.value ∙ ap first_marks c.deref.ensures.value) c.deref-3.ensures.value c.deref-4.ensures.value

pub all_cells-requires : goal.all_cells-requires
all_cells-requires c = record {
  numbers =
      numbers-lent (all_points c.args.sheets.now) c.in_ok-leads.leads.items c.deref-4.result.now c.in_ok-numbers.numbers.items c.deref-5.result.now c.in_ok-marks.marks.items c.deref-3.result.now
      c.in_ok-leads.ensures.value (c.in_ok-marks.ensures.value ∙ ap first_marks c.deref.ensures.value) c.deref-3.ensures.value c.deref-4.ensures.value c.in_ok-numbers.ensures.value c.deref-5.ensures.value;
}

pub overflow_cast-len : goal.overflow_cast-len
overflow_cast-len c =
    let ps = all_points c.args.sheets.now in
    let few : length (points_in c.in_ok-places.places) < 2 ^ 32 = points-few ps c.in_ok-leads.leads.items c.deref-2.result.now (points_in c.in_ok-places.places) c.in_ok-leads.ensures.value c.in_ok-leads.ensures.few c.in_ok-places.ensures.value in
    omega (arith, few, c.len.ensures.value)

pub sheet_of-requires : goal.sheet_of-requires
sheet_of-requires c =
    let sheets = c.args.sheets.now in
    let leads = c.in_ok-leads.leads.items in
    let names = names_in c.in_ok-leaves.leaves in
    let points = points_in c.in_ok-places.places in
    let made : AreMade sheets leads names points c.in_ok-cells.cells.items = record {
      led = c.in_ok-leads.ensures.value;
      few = c.in_ok-leads.ensures.few;
      each = c.known.ensures;
      placed = c.in_ok-places.ensures.value ∙ ap (λ (ms : List Bool). kept ms (all_points sheets)) (c.deref-2.ensures.value ∙ c.in_ok-marks.ensures.value ∙ ap first_marks c.deref.ensures.value);
      named = c.in_ok-leaves.ensures.value ∙ ap leaf_names c.len.ensures.value;
      left = c.in_ok-cells.ensures.value;
    } in
    record { cells = made-cells sheets leads names points c.in_ok-cells.cells.items made }

pub returns : goal.returns
returns c =
    let sheets = c.args.sheets.now in
    let leads = c.in_ok-leads.leads.items in
    let names = names_in c.in_ok-leaves.leaves in
    let points = points_in c.in_ok-places.places in
    let made : AreMade sheets leads names points c.in_ok-cells.cells.items = record {
      led = c.in_ok-leads.ensures.value;
      few = c.in_ok-leads.ensures.few;
      each = c.known.ensures;
      placed = c.in_ok-places.ensures.value ∙ ap (λ (ms : List Bool). kept ms (all_points sheets)) (c.deref-2.ensures.value ∙ c.in_ok-marks.ensures.value ∙ ap first_marks c.deref.ensures.value);
      named = c.in_ok-leaves.ensures.value ∙ ap leaf_names c.len.ensures.value;
      left = c.in_ok-cells.ensures.value;
    } in
    record { value = made-sheet sheets c.in_ok-sheet.sheet leads names points c.in_ok-cells.cells.items made c.in_ok-sheet.ensures.value }
