-- What the answer to an act comes to.
use Rattle.std.proofs.Common.{◌≡◌, ℕ, Bool, List, [], ◌∷◌, Option, None, Some, refl, sym, ap, subst}
use Rattle.std.proofs.lemmas.List.{append-nil}
use Rattle.viz_base.specs.declared.out.Out as out
use Rattle.viz_base.specs.declared.port.Port as port
use Rattle.viz_words.specs.declared.refusal.ScriptRefusal.{ScriptRefusal}
use Rattle.viz_script.specs.declared.order.Order.{Order}
use Rattle.viz_script.specs.Orders.{seen}
use Rattle.viz_report.specs.declared.line.Line.{Line}
use Rattle.viz_hub.specs.Passes.{PassKnown}
use Rattle.viz_account.specs.Served.{Serves}
use Rattle.viz_account.proofs.AccountLemmas.{served_none, served_one}
use Rattle.viz_console.specs.declared.acts.Act.{Act}
use Rattle.viz_console.specs.declared.acts.Act.TheVariants as act
use Rattle.viz_console.specs.declared.ending.End.{End}
use Rattle.viz_console.specs.declared.ending.End.TheVariants as end
use Rattle.viz_console.specs.Replies.{bad, tells, bad_text, told_text}
use Rattle.viz_console.specs.Steps.Heard.{due_in, quits_by}
use Rattle.viz_console.specs.Steps.Serving.{Puts, PutsBy, AnswersAct}

module _ {P O : Type 0} (m : port.Ghosts P) (o : out.Ghosts O) (limit : ℕ) (a : Act) where
  pub answers_nothing : (pass : PassKnown) (p : P) (q : O) → a ≡ act.Nothing → AnswersAct m o limit a None pass pass p p q q
  answers_nothing pass p q is = record {
    replies = [];
    due = sym (ap due_in is);
    served = served_none m limit pass.number pass.seen p;
    put = subst (λ (b : Bool). PutsBy o b [] None q q) (sym (ap quits_by is)) (λ told. sym (append-nil (o.text q)));
  }

  pub answers_quit : (pass : PassKnown) (p : P) (q : O) → a ≡ act.Quit → AnswersAct m o limit a (Some end.Quit) pass pass p p q q
  answers_quit pass p q is = record {
    replies = [];
    due = sym (ap due_in is);
    served = served_none m limit pass.number pass.seen p;
    put = subst (λ (b : Bool). PutsBy o b [] (Some end.Quit) q q) (sym (ap quits_by is)) (refl, refl, refl);
  }

  pub answers_bad : (line : ℕ) (r : ScriptRefusal) (came : Option End) (pass : PassKnown) (p : P) (q new : O) → a ≡ act.Bad line r → Puts o (bad_text line r) came q new
      → AnswersAct m o limit a came pass pass p p q new
  answers_bad line r came pass p q new is put = record {
    replies = bad line r ∷ [];
    due = sym (ap due_in is);
    served = served_none m limit pass.number pass.seen p;
    put = subst (λ (b : Bool). PutsBy o b (bad line r ∷ []) came q new) (sym (ap quits_by is))
        (subst (λ (t : List ℕ). Puts o t came q new) (sym (append-nil (bad_text line r))) put);
  }

  pub answers_served : (number : ℕ) (order : Order) (l : Line) (came : Option End) (old new : PassKnown) (p p_new : P) (q q_new : O) → a ≡ act.Serve number order
      → Serves m limit old.number (seen order) l old.seen new.seen p p_new → Puts o (told_text number l) came q q_new
      → AnswersAct m o limit a came old new p p_new q q_new
  answers_served number order l came old new p p_new q q_new is served put = record {
    replies = tells number (seen order) l ∷ [];
    due = sym (ap due_in is);
    served = served_one m limit old.number (seen order) l old.seen new.seen p p_new served;
    put = subst (λ (b : Bool). PutsBy o b (tells number (seen order) l ∷ []) came q q_new) (sym (ap quits_by is))
        (subst (λ (t : List ℕ). Puts o t came q q_new) (sym (append-nil (told_text number l))) put);
  }
