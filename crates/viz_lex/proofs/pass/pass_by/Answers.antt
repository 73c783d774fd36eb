use Rattle.std.proofs.Common.{◌≡◌, ◌+◌, ◌<◌, ◌≤◌, length, take, drop, arith}
use Rattle.std.specs.Prelude.{false}
use Rattle.std.proofs.lemmas.Grind.{common_steps}
use Rattle.viz_lex.specs.Counted.{passed}
use Rattle.viz_lex.specs.Counted.{word_ends, inside_after}
use Rattle.viz_lex.proofs.PassLemmas.{passed-chunk}
use Rattle.viz_lex.proofs.pass.pass_by.Goals as goal

pub loop-at-preserved : goal.loop-at-preserved
loop-at-preserved c =
    let text = c.args.text.now in
    let at = c.loop-at.at in
    let chunk = take c.args.size (drop at text) in
    let within : at + c.args.size ≤ length text = grind (arith, common_steps) in
    let count : c.count_word_ends-n.result.0 ≡ word_ends c.loop-at.inside chunk = grind (arith, common_steps) in
    let open_ : c.count_word_ends-n.result.1 ≡ inside_after c.loop-at.inside chunk = grind (arith, common_steps) in
    let few : word_ends c.loop-at.inside chunk < c.loop-at.left = grind (arith, common_steps) in
    record {
      within = within;
      some = grind (arith, common_steps);
      told = rw (count, open_) (passed-chunk text at c.args.size c.loop-at.left c.loop-at.inside (passed false c.args.count text) within few c.loop-at.invariant.told);
    }
