use Rattle.viz_lex.proofs.DecidedLemmas.{IsDefinite-decided}
use Rattle.viz_mesh_read.specs.Points.{points}
use Rattle.viz_mesh_read.specs.CellSections.{cell_section}
use Rattle.viz_mesh_read.specs.Steps.{points_at}
use Rattle.viz_mesh_read.proofs.PointLaws.{decides-points}
use Rattle.viz_mesh_read.proofs.SectionLaws.{cell_list_at, decides-cell_section}
use Rattle.viz_mesh_read.specs.Grid.{grid}
use Rattle.viz_mesh_read.proofs.GridLaws.{grid_list_at, decides-grid}
use Rattle.viz_mesh_read.specs.Poly.{polydata}
use Rattle.viz_mesh_read.proofs.PolyLaws.{polydata_list_at, decides-polydata}
use Rattle.viz_mesh_read.proofs.laws.geometry_is_definite.Goals as goal

pub returns-clause-points : goal.returns-clause-points
returns-clause-points c = λ binary. IsDefinite-decided (points binary) (points_at binary) (decides-points binary)

pub returns-clause-section : goal.returns-clause-section
returns-clause-section c = λ later binary n. IsDefinite-decided (cell_section later binary n) (cell_list_at later binary n) (decides-cell_section later binary n)

pub returns-clause-grid : goal.returns-clause-grid
returns-clause-grid c = λ binary later. IsDefinite-decided (grid binary later) (grid_list_at binary later) (decides-grid binary later)

pub returns-clause-polydata : goal.returns-clause-polydata
returns-clause-polydata c = λ binary later. IsDefinite-decided (polydata binary later) (polydata_list_at binary later) (decides-polydata binary later)
