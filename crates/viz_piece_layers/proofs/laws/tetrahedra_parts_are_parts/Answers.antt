use Rattle.viz_piece_layers.proofs.SheetLemmas as lemma
use Rattle.viz_piece_layers.proofs.ShiftLemmas.{shifted_is_sheet}
use Rattle.viz_piece_layers.proofs.laws.tetrahedra_parts_are_parts.Goals as goal

pub returns-clause-parts : goal.returns-clause-parts
returns-clause-parts c =
    lemma.parts_are c.corners_are_the_cubes.ensures.only c.edges_are_steps.ensures.steps c.tetrahedra_are_a_sheet.ensures.sheet

pub returns-clause-all : goal.returns-clause-all
returns-clause-all c = lemma.sheet_owns c.corners_are_the_cubes.ensures.only c.edges_are_steps.ensures.steps

pub returns-clause-sheet : goal.returns-clause-sheet
returns-clause-sheet c = shifted_is_sheet
