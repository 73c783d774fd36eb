use Rattle.viz_clip.proofs.AddedLemmas.{added-none_of}
use Rattle.viz_clip.proofs.key_list.add_cell.Goals as goal

pub returns : goal.returns
returns c = record {
  added =
      let k = c.args.corners.now in
      added-none_of c.args.ends.now.items k.inside k.a k.b k.c k.d c.if-count-eq1.false c.if-count-eq2.false c.if-count-eq3.false c.requires.most;
}
