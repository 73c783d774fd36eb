use Rattle.viz_surface_law.proofs.FormLaws.{sections_are_of_grid, sections_are_surfaces, sections_are_closed, sides_add_up, lone_sides_are_borders}
use Rattle.viz_surface_law.proofs.laws.form_sections_are_closed.Goals as goal

pub returns-clause-closed : goal.returns-clause-closed
returns-clause-closed c = sections_are_closed

pub returns-clause-sides : goal.returns-clause-sides
returns-clause-sides c = sides_add_up

pub returns-clause-lone : goal.returns-clause-lone
returns-clause-lone c = lone_sides_are_borders

pub returns-clause-surface : goal.returns-clause-surface
returns-clause-surface c = sections_are_surfaces

pub returns-clause-grid : goal.returns-clause-grid
returns-clause-grid c = sections_are_of_grid
