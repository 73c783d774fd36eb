use Rattle.std.proofs.Common.{◌≡◌, ◌+◌, drop, Some, None, arith}
use Rattle.std.proofs.lemmas.List.{length-drop}
use Rattle.std.proofs.lemmas.Grind.{common_steps}
use Rattle.viz_lex.specs.Words.{line_len}
use Rattle.viz_lex.specs.Passing.{empty_line}
use Rattle.viz_lex.proofs.LineLemmas.{line_len-None}
use Rattle.viz_lex.proofs.MetadataLemmas.{metadata_len-none, metadata_line_empty, metadata_line_full}
use Rattle.viz_lex.proofs.metadata.metadata_len.Goals as goal

pub returns-then-empty-gt0-clause-value : goal.returns-then-empty-gt0-clause-value
returns-then-empty-gt0-clause-value c =
    let text = c.args.text.now in
    let at = c.loop-len.at in
    let line : line_len (drop at text) ≡ Some c.in-Some.len = grind (arith, common_steps) in
    let size : c.empty_line-empty.result ≡ empty_line (drop (at + (c.in-Some.len + 1)) text) = grind (arith, common_steps) in
    let here = metadata_line_empty text at c.in-Some.len line (omega (arith, size)) in
    omega (arith, size, here, c.loop-len.invariant.told)

pub loop-len-preserved : goal.loop-len-preserved
loop-len-preserved c =
    let text = c.args.text.now in
    let at = c.loop-len.at in
    let line : line_len (drop at text) ≡ Some c.in-Some.len = grind (arith, common_steps) in
    let size : c.empty_line-empty.result ≡ empty_line (drop (at + (c.in-Some.len + 1)) text) = grind (arith, common_steps) in
    let later = metadata_line_full text at c.in-Some.len line (omega (arith, size)) in
    record {
      within = grind (arith, common_steps);
      told = omega (arith, later, c.loop-len.invariant.told);
    }

pub returns-clause-value : goal.returns-clause-value
returns-clause-value c =
    let text = c.args.text.now in
    let at = c.loop-len.at in
    let none : line_len (drop at text) ≡ None = grind (arith, common_steps) in
    let all = metadata_len-none (drop at text) (line_len-None (drop at text) none) in
    omega (arith, all, length-drop at text, c.loop-len.invariant.told, c.loop-len.invariant.within)
