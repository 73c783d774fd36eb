use Rattle.std.proofs.Common.{ℕ, List, ◌∙◌, ap, subst}
use Rattle.viz_source.specs.Readers.{held}
use Rattle.viz_source.specs.Steps.Reading.{FindsNewline}
use Rattle.viz_source.proofs.StepLemmas.{part_is}
use Rattle.viz_source.proofs.line_reader.LineReader.newline.Goals as goal

pub returns : goal.returns
returns c =
    let r = c.self.inside in
    subst (λ (text : List ℕ). FindsNewline text c.newline_in.result)
    (part_is r.piece r.place r.count c.self.invariant.place_fits ∙ ap held c.self.view_is) c.newline_in.ensures
