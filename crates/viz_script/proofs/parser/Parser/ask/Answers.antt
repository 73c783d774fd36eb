use Rattle.std.proofs.Common.{◌≡◌, ◌<◌, ◌∷◌, Some, None, Ok, refl, sym, ap, ◌∙◌, subst, length, rules, arith}
use Rattle.viz_script.specs.declared.order.Order.{Order}
use Rattle.viz_script.specs.declared.parser.OpenStep.{OpenStep}
use Rattle.viz_script.specs.Orders.{seen, edit}
use Rattle.viz_script.specs.Lines.{Line, asks}
use Rattle.viz_script.specs.Batches.{standing, open_behind}
use Rattle.viz_script.specs.Steps.Parser.{batch_of, edits_of, IsRead}
use Rattle.viz_script.proofs.BatchLemmas.{stands-alone, stands-edit}
use Rattle.viz_script.proofs.ParserLemmas.{adds, stands, counted-none, counted-some}
use Rattle.viz_script.proofs.parser.Parser.ask.Goals as goal

pub returns-in_ok-push-in-None-default : goal.returns-in_ok-push-in-None-default
returns-in_ok-push-in-None-default c = λ earlier r n.
    let none : batch_of c.args.actor c.args.self.now.batches ≡ None =
    counted-none (batch_of c.args.actor c.args.self.now.batches) (sym c.edit_count.ensures.count ∙ c.in-None-default.is-0) in
    let d : OpenStep = record { phase = c.args.self.now.phase; actor = c.args.actor; line = c.args.line; order = Some c.args.order } in (
      asks c.args.actor (seen c.args.order),
      stands-alone earlier c.args.actor (seen c.args.order) (sym (r.same c.args.actor c.requires.actor) ∙ ap edits_of none),
      rw c.in_ok-push-in-None-default.ensures.items
          (stands earlier c.args.self.now.phase c.args.self.now.steps.items c.args.self.now.batches r c.args.actor c.requires.actor d c.args.order none refl refl n refl),
    )

pub returns-in_ok-push_edit-in-Some-Do : goal.returns-in_ok-push_edit-in-Some-Do
returns-in_ok-push_edit-in-Some-Do c = λ earlier r n.
    let counted = counted-some (batch_of c.args.actor c.args.self.now.batches) c.in-Some-Do.count (sym c.edit_count.ensures.count ∙ c.in-Some-Do.is-0) in
    let b = counted.0 in
    let is = counted.1 in
    let many = counted.2 in
    let few = c.if-count-lt-BATCH.true in
    let room : length b.edits.items < 64 = omega (arith, many, few) in
    let added = c.in_ok-push_edit-in-Some-Do.ensures b is in
    let full : open_behind c.args.actor earlier ≡ Some b.edits.items = sym (r.same c.args.actor c.requires.actor) ∙ ap edits_of is in
    subst (λ (o : Order). (x : Line) × (standing earlier (asks c.args.actor (seen o)) ≡ Ok x)
    × IsRead (x ∷ earlier) c.args.self.now.phase c.args.self.now.steps.items c.push_edit.new.batches) (sym c.in-Some-Do.is-1) (
      asks c.args.actor (edit c.in-Some-Do.edit),
      stands-edit earlier c.args.actor c.in-Some-Do.edit b.edits.items full room,
      rw added.1
          (adds earlier c.args.self.now.phase c.args.self.now.steps.items c.args.self.now.batches r c.args.actor c.requires.actor b added.0 c.in-Some-Do.edit is added.2.index added.2.edits room),
    )
