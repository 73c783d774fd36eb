use Rattle.std.proofs.Common.{◌≡◌, ◌<◌, ◌∙◌, ◌+◌, ◌-◌, ℤ, pos, [], ◌∷◌, ◌++◌, length, take, drop, set, replicate, sym, ap, rules, arith}
use Rattle.std.proofs.lemmas.Int.{to_z-of_z}
use Rattle.std.proofs.lemmas.List.{take_more_set, drop-set-lt, drop-drop, drop-replicate, length-set}
use Rattle.std.specs.Int.{w64}
use mir.Val.{SFits}
use Rattle.viz_words.specs.Words.{words_of}
use Rattle.viz_words.specs.Commands.{numbers_in}
use Rattle.viz_words.specs.Steps.Numbered.{numbers_behind}
use Rattle.viz_words.proofs.NumberLemmas.{due-is, numbers-more}
use Rattle.viz_words.proofs.values.padded_in.Goals as goal

pub loop-i-preserved : goal.loop-i-preserved
loop-i-preserved c =
    let i = c.loop-i.i in
    let items = c.loop-i.items in
    let n = c.in_ok-n.n in
    let behind = words_of c.in_ok-word.behind.now in
    let small : i < 8 = omega arith in
    let fits : SFits w64 n = search rules in
    let written : c.put.new.items ≡ set items i n = c.put.ensures ∙ ap (λ (z : ℤ). set items i z) (to_z-of_z w64 n fits) in
    let front : take (i + 1) c.put.new.items ≡ take i items ++ n ∷ [] = ap (take (i + 1)) written ∙ take_more_set items i n (omega (arith, c.loop-i.invariant.size)) in
    let word = due-is (words_of c.loop-i.rest.now) (c.in_ok-word.word.now, behind) c.in_ok-word.ensures.gives in
    record {
      all = ap (λ l. numbers_behind l (numbers_in behind)) front
          ∙ sym (numbers-more (take i items) (words_of c.loop-i.rest.now) behind c.in_ok-word.word.now n word (sym c.in_ok-n.ensures)) ∙ c.loop-i.invariant.all;
      zeros = ap (drop (i + 1)) written ∙ drop-set-lt (i + 1) items i n (omega arith) ∙ sym (drop-drop 1 i items) ∙ ap (drop 1) c.loop-i.invariant.zeros
          ∙ drop-replicate 1 (8 - i) (pos 0) ∙ ap (λ m. replicate m (pos 0)) (omega arith);
      left = let one_less = ap length word in omega (arith, one_less, c.loop-i.invariant.left);
      size = ap length written ∙ length-set items i n ∙ c.loop-i.invariant.size;
    }
