use Rattle.std.proofs.Common.{◌<◌, ℕ, List, subst, sym, ◌∙◌}
use Rattle.std.specs.List.{All}
use Rattle.viz_clip.proofs.CornerLemmas.{all-ascending, four-slid}
use Rattle.viz_clip.proofs.corners.ascending.Goals as goal

pub returns-clause-value : goal.returns-clause-value
returns-clause-value c = c.slid.ensures ∙ four-slid c.args.cell.now c.requires.size c.requires.apart

pub returns-clause-below : goal.returns-clause-below
returns-clause-below c n h =
    subst (λ (l : List ℕ). All (λ r. r < n) l) (sym (c.slid.ensures ∙ four-slid c.args.cell.now c.requires.size c.requires.apart))
    (all-ascending (λ r. r < n) c.args.cell.now h)
