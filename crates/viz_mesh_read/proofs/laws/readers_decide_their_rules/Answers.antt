use Rattle.viz_mesh_read.proofs.PointLaws.{decides-points}
use Rattle.viz_mesh_read.proofs.SectionLaws.{decides-cell_section_numbers}
use Rattle.viz_mesh_read.proofs.GridLaws.{decides-grid_numbers}
use Rattle.viz_mesh_read.proofs.PolyLaws.{decides-polydata_numbers}
use Rattle.viz_mesh_read.proofs.laws.readers_decide_their_rules.Goals as goal

pub returns-clause-points : goal.returns-clause-points
returns-clause-points c = decides-points

pub returns-clause-section : goal.returns-clause-section
returns-clause-section c = decides-cell_section_numbers

pub returns-clause-grid : goal.returns-clause-grid
returns-clause-grid c = decides-grid_numbers

pub returns-clause-polydata : goal.returns-clause-polydata
returns-clause-polydata c = decides-polydata_numbers
