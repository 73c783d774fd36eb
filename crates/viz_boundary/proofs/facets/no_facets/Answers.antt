use Rattle.std.proofs.Common.{◌≡◌, ◌∙◌, [], ap, length, sym}
use Rattle.std.proofs.lemmas.List.Elements.{All-from_get_or}
use Rattle.viz_sheet.specs.Kept.{kept}
use Rattle.viz_boundary.proofs.LoopLemmas.{kept-nothing, vertices-none}
use Rattle.viz_boundary.proofs.facets.no_facets.Goals as goal

pub returns : goal.returns
returns c =
    c.new.ensures.items ∙ sym (kept-nothing c.args.marks.now)
    ∙ ap (kept c.args.marks.now) (sym (vertices-none c.args.cells.now (All-from_get_or (λ n. length n ≡ 1) c.args.cells.now [] c.told-cells)))
