use Rattle.viz_mixed.proofs.WordLemmas.{eight-flags}
use Rattle.viz_mixed.proofs.corners.corner_words.Goals as goal

pub returns : goal.returns
returns c = record {
  value = λ t l.
      eight-flags c.args.flags.now c.args.lowest c.args.row c.args.plane t _ _ _ _ _ _ _ _
      (c.word_from.ensures.value t l) (c.word_from-2.ensures.value t l) (c.word_from-3.ensures.value t l) (c.word_from-4.ensures.value t l)
      (c.word_from-5.ensures.value t l) (c.word_from-6.ensures.value t l) (c.word_from-7.ensures.value t l) (c.word_from-8.ensures.value t l);
}
