use Rattle.std.proofs.Common.{◌≡◌, ◌∷◌, Some, refl, sym, ap, ◌∙◌, rules, arith}
use Rattle.viz_batches.specs.Batches.{IsBatch}
use Rattle.viz_script.specs.declared.order.Order.TheVariants.{DoAll}
use Rattle.viz_script.specs.Orders.{edits}
use Rattle.viz_script.specs.Lines.{ends_batch}
use Rattle.viz_script.specs.Steps.Parser.{batch_of, edits_of, index_of}
use Rattle.viz_script.proofs.BatchLemmas.{stands-end}
use Rattle.viz_script.proofs.ParserLemmas.{ends}
use Rattle.viz_script.proofs.parser.Parser.end.Goals as goal

pub fill-requires : goal.fill-requires
fill-requires c =
    let r = c.requires.read.1 in
    let is : batch_of c.args.actor c.args.self.now.batches ≡ Some c.in-Some.field-0 = sym c.in-Some.ensures.taken in
    let d = r.begun c.args.actor c.in-Some.field-0.index c.requires.actor (ap index_of is) in
    let within = d.within in
    record { within = omega (arith, within, c.args.self.now.steps.ok.0) }

pub returns : goal.returns
returns c = λ earlier r n.
    let is : batch_of c.args.actor c.args.self.now.batches ≡ Some c.in-Some.field-0 = sym c.in-Some.ensures.taken in
    let sized : IsBatch c.in-Some.field-0.edits.items = c.in-Some-new.ensures.some.0 refl in (
      ends_batch c.args.actor,
      stands-end earlier c.args.actor c.in-Some.field-0.edits.items (sym (r.same c.args.actor c.requires.actor) ∙ ap edits_of is) sized.some,
      rw c.take_batch.ensures.left
          (ends earlier c.args.self.now.phase c.args.self.now.steps.items c.args.self.now.batches r c.args.actor c.requires.actor c.in-Some.field-0
          (DoAll c.in-Some-new.batch) c.fill.new.steps.items is (ap edits c.in-Some-new.ensures.value) c.fill.ensures),
    )
