use Rattle.std.proofs.Common.{◌≡◌, ◌≤◌, ◌∙◌, ◌++◌, ◌+◌, ◌-◌, vec_len, vec_capacity, length, take, min, ap, arith}
use Rattle.std.proofs.lemmas.Bool.{cond-true}
use Rattle.std.proofs.lemmas.List.{length-take}
use Rattle.viz_source.specs.declared.limits.TheConstants.{KEPT}
use Rattle.viz_source.proofs.StepLemmas.{kept_behind}
use Rattle.viz_source.proofs.line_reader.put_run.Goals as goal

pub returns-clause-items : goal.returns-clause-items
returns-clause-items c =
    let old = c.args.line.now.items in
    let run = c.args.run.now in
    let len : vec_len c.args.line.now ≡ length c.args.line.now.items = search arith in
    let n : c.min-n.result ≡ min (length c.args.run.now) (KEPT - length c.args.line.now.items) =
    c.min-n.ensures ∙ ap (λ k. min (length run) (KEPT - k)) (c.len.ensures ∙ len) in
    let fits : vec_len c.args.line.now + length (take c.min-n.result c.args.run.now) ≤ vec_capacity c.args.line.now = simp length-take (omega arith) in
    c.extend_from_slice.ensures.items ∙ cond-true _ _ _ (c.extend_from_slice.ensures.succeeds fits)
    ∙ ap (λ k. old ++ take k run) n ∙ kept_behind KEPT old run (omega arith)
