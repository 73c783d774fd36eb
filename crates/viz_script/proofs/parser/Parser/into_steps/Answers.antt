use Rattle.std.proofs.Common.{◌≡◌, IfOk, map, subst}
use Rattle.viz_script.specs.Script.{stepped}
use Rattle.viz_script.proofs.ParserLemmas.{all-steps}
use Rattle.viz_script.proofs.parser.Parser.into_steps.Goals as goal

pub returns : goal.returns
returns c = record {
  steps = λ earlier r none.
      subst (λ l. IfOk c.steps_in.result (λ steps. map stepped steps.items ≡ l))
      (all-steps earlier c.args.self.phase c.args.self.steps.items c.args.self.batches r none) c.steps_in.ensures;
}
