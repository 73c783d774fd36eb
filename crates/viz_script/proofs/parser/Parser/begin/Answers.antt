use Rattle.std.proofs.Common.{◌≡◌, ◌∷◌, [], Option, None, ℕ, refl, sym, ap, ◌∙◌, length, rules, arith}
use Rattle.viz_script.specs.declared.parser.OpenStep.{OpenStep}
use Rattle.viz_script.specs.declared.parser.OpenBatch.{OpenBatch}
use Rattle.viz_script.specs.Lines.{begins_batch}
use Rattle.viz_script.specs.Steps.Parser.{batch_of, edits_of}
use Rattle.viz_script.proofs.BatchLemmas.{stands-begin}
use Rattle.viz_script.proofs.ParserLemmas.{begins, counted-none}
use Rattle.viz_script.proofs.parser.Parser.begin.Goals as goal

pub returns : goal.returns
returns c = λ earlier r n.
    let no : c.edit_count.result ≡ None = search rules in
    let none : batch_of c.args.actor c.args.self.now.batches ≡ None = counted-none (batch_of c.args.actor c.args.self.now.batches) (sym c.edit_count.ensures.count ∙ no) in
    let b : OpenBatch = record { index = c.len.result; edits = c.new.result } in
    let d : OpenStep = record { phase = c.args.self.now.phase; actor = c.args.actor; line = c.args.line; order = None } in
    let at : c.len.result ≡ length c.args.self.now.steps.items = search rules in (
      begins_batch c.args.actor,
      stands-begin earlier c.args.actor (sym (r.same c.args.actor c.requires.actor) ∙ ap edits_of none),
      rw c.in_ok-push.ensures.items
          (begins earlier c.args.self.now.phase c.args.self.now.steps.items c.args.self.now.batches r c.args.actor c.requires.actor b d none at c.new.ensures.items refl refl n refl),
    )
