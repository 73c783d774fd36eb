use Rattle.std.proofs.Common.{◌+◌, drop, sym, ap, ◌∙◌}
use Rattle.std.proofs.lemmas.List.{drop-drop, drop_min}
use Rattle.viz_source.proofs.memory_source.one_given.Goals as goal

pub returns-clause-rest : goal.returns-clause-rest
returns-clause-rest c =
    let cuts = c.args.cuts.now in
    ap (λ n. drop n cuts) c.min.ensures ∙ drop_min (c.args.given + 1) cuts ∙ sym (drop-drop 1 c.args.given cuts)
