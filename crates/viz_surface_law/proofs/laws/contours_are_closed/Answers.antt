use Rattle.viz_fraction.specs.Forms.{contour_form}
use Rattle.viz_surface_law.proofs.FormLaws.{sections_are_surfaces, sections_are_closed, sides_add_up, lone_sides_are_borders}
use Rattle.viz_surface_law.proofs.laws.contours_are_closed.Goals as goal

pub returns-clause-closed : goal.returns-clause-closed
returns-clause-closed c level image rule = sections_are_closed (contour_form level) image

pub returns-clause-sides : goal.returns-clause-sides
returns-clause-sides c level image rule = sides_add_up (contour_form level) image

pub returns-clause-lone : goal.returns-clause-lone
returns-clause-lone c level image rule = lone_sides_are_borders (contour_form level) image

pub returns-clause-surface : goal.returns-clause-surface
returns-clause-surface c level image rule = sections_are_surfaces (contour_form level) image
