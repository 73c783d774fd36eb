use Rattle.std.proofs.Common.{◌∙◌}
use Rattle.viz_clip.proofs.CornerLemmas.{parted-first, parted-last}
use Rattle.viz_clip.proofs.corners.corners_of.Goals as goal

pub returns : goal.returns
returns c =
    let e = c.ascending-ranks.ensures.value in
    let cell = c.args.cell.now in record {
      parted = record {
        first = c.parted.ensures.inside ∙ parted-first c.args.inside.now cell c.ascending-ranks.result e c.requires.size c.requires.cell.apart;
        last = c.parted.ensures.outside ∙ parted-last c.args.inside.now cell c.ascending-ranks.result e c.requires.size c.requires.cell.apart;
        most = c.parted.ensures.most;
      };
    }
