use Rattle.viz_cells.proofs.NumberLemmas.{not_missing}
use Rattle.viz_clip.proofs.numbers.searched.Goals as goal

pub returns-in-Err-clause-value : goal.returns-in-Err-clause-value
returns-in-Err-clause-value c =
    absurd (not_missing c.args.keys.now c.args.key c.in-Err.field-0 c.requires.ascending c.requires.has c.in-Err.ensures.position)
