use Rattle.viz_grid_section.proofs.ContourSection.{contour_is_section}
use Rattle.viz_grid_section.proofs.CutLemmas.{edges_are_cut}
use Rattle.viz_grid_section.proofs.NarrowLemmas.{narrow_to_edges, narrow_from_edges}
use Rattle.viz_grid_section.proofs.laws.contours_are_sections.Goals as goal

pub returns-clause-section : goal.returns-clause-section
returns-clause-section c level image rule = contour_is_section level image rule

pub returns-clause-narrow : goal.returns-clause-narrow
returns-clause-narrow c level image fits rule = (narrow_to_edges level image rule, narrow_from_edges level image fits rule)

pub returns-clause-cut : goal.returns-clause-cut
returns-clause-cut c level image = edges_are_cut level image
