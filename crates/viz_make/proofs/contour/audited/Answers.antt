use Rattle.std.proofs.Common.{◌∙◌}
use Rattle.viz_surface_law.specs.Audit.{count_sides, count_two, count_lone, count_border}
use Rattle.viz_make.specs.Make.{image_of}
use Rattle.viz_make.specs.Views.{make_of}
use Rattle.viz_make.proofs.MadeLemmas.{surface, counted, cells, closed}
use Rattle.viz_make.proofs.contour.audited.Goals as goal

pub audit-requires : goal.audit-requires
audit-requires g c = record {
  surface = surface c.contours_are_sections.ensures.section (make_of c.args.command.now) c.requires.writable c.only_sheet-sheet.result.now
      c.only_sheet-sheet.ensures c.contours_are_closed.ensures.surface;
}

pub returns : goal.returns
returns g c =
    let make = make_of c.args.command.now in
    let sheet = c.only_sheet-sheet.result.now in
    let law = c.contours_are_sections.ensures.section in
    let same = counted law make c.requires.writable sheet c.only_sheet-sheet.ensures in
    let counts = c.in_ok-counts.counts in
    let told = c.in_ok-counts.ensures in
    let sides = same counts.sides count_sides told.sides in
    let two = same counts.two count_two told.two in
    let lone = same counts.lone count_lone told.lone in
    let border = same counts.border (count_border make.extent) told.border in
    record {
      cells = c.cell_count.ensures.value ∙ cells law make c.requires.writable sheet c.only_sheet-sheet.ensures;
      sides = sides;
      two = two;
      lone = lone;
      border = border;
      closed = closed c.contours_are_closed.ensures.sides c.contours_are_closed.ensures.lone (image_of make) counts c.requires.writable.image sides two lone border;
    }
