use Rattle.viz_sheet.specs.Arrays.{ranks_in}
use Rattle.viz_clip.proofs.MadeLemmas.{four-both}
use Rattle.viz_clip.proofs.clipping.has_tetrahedra.Goals as goal

pub returns : goal.returns
returns c =
    let both = four-both c.args.sheet.now (ranks_in c.ranks.result.now) c.ranks.ensures.value in
    (λ t. both.0 (c.are_tetrahedra.ensures.value.0 t), λ a. c.are_tetrahedra.ensures.value.1 (both.1 a))
