use Rattle.viz_node_division.proofs.ShareLemmas as lemma
use Rattle.viz_node_division.proofs.laws.divisions_share_out.Goals as goal

pub returns : goal.returns
returns c =
    let m = c.made_is_shared_out.ensures in
    let layers = c.pieces_are_parts.ensures.all in
    record {
      all = lemma.all_shared m.turn m.selection m.section m.boundary m.appended layers;
      marks = lemma.all_marks m.turn m.selection m.section m.boundary m.appended layers;
      only = lemma.only_owns_all m.turn m.selection m.section m.boundary m.appended layers;
    }
