use Rattle.std.proofs.Common.{◌≡◌, ◌≤◌, ℕ, List, ◌+◌, ◌-◌, ◌++◌, ◌∙◌, length, take, drop, sym, ap, arith}
use Rattle.std.proofs.lemmas.List.{length-take, length-drop}
use Rattle.viz_source.specs.declared.limits.TheConstants.{KEPT}
use Rattle.viz_source.specs.Readers.{Reader, held}
use Rattle.viz_source.specs.Steps.Reading.{kept_on}
use Rattle.viz_source.proofs.StepLemmas.{part_taken}
use Rattle.viz_source.proofs.line_reader.LineReader.keep.Goals as goal

pub returns : goal.returns
returns c =
    let r = c.self.inside in
    let n = c.args.n in
    let few : n ≤ length (held c.args.self.now) = c.requires in
    let len : length (held c.args.self.now) ≡ length (drop r.place (take r.count r.piece)) = ap (λ s. length (held s)) (sym c.self.view_is) in
    let size : length (drop r.place (take r.count r.piece)) ≡ r.count - r.place = simp (length-drop, length-take) (omega arith) in
    let line : c.put_part.new.line.items ≡ take KEPT (r.line.items ++ take n (drop r.place (take r.count r.piece))) =
    c.put_part.ensures.items ∙ ap (λ l. take KEPT (r.line.items ++ l)) (sym (part_taken r.piece r.place n r.count (omega arith))) in
    let with_line : List ℕ → Reader = λ (l : List ℕ). record {
      piece = take r.count r.piece;
      place = r.place + n;
      passed = r.passed + n;
      ended = r.ended;
      line = l;
    } in
    ap with_line line ∙ ap (λ s. kept_on s n) c.self.view_is
