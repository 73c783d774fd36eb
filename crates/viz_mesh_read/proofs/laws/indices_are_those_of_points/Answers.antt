use Rattle.viz_mesh_read.proofs.SectionLaws.{cell_section-below}
use Rattle.viz_mesh_read.proofs.IndexLaws.{grid-below, polydata-below}
use Rattle.viz_mesh_read.proofs.laws.indices_are_those_of_points.Goals as goal

pub returns-clause-section : goal.returns-clause-section
returns-clause-section c = cell_section-below

pub returns-clause-grid : goal.returns-clause-grid
returns-clause-grid c = grid-below

pub returns-clause-polydata : goal.returns-clause-polydata
returns-clause-polydata c = polydata-below
