use Rattle.viz_piece_section.proofs.ShiftLemmas.{hand_on_shifted, sections_shift}
use Rattle.viz_piece_section.proofs.laws.sections_of_shifted_sheets.Goals as goal

pub returns : goal.returns
returns c = record { shift = sections_shift; hand_on = hand_on_shifted }
