use Rattle.std.proofs.Common.{◌≡◌, ◌-◌, ◌∙◌, length, take, drop, ap, arith}
use Rattle.std.proofs.lemmas.List.{length-take, length-drop}
use Rattle.viz_source.specs.Readers.{held}
use Rattle.viz_source.proofs.line_reader.LineReader.held_len.Goals as goal

pub returns : goal.returns
returns c =
    let r = c.self.inside in
    let len : r.count - r.place ≡ length (drop r.place (take r.count r.piece)) = simp (length-drop, length-take) (omega arith) in
    len ∙ ap (λ s. length (held s)) c.self.view_is
