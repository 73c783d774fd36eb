-- A run without faults answers Done exactly where its command came to what it asked for.
use Rattle.std.proofs.Common.{◌≡◌, ℕ, List, [], ◌∷◌, Result, Ok, Err, refl, ap, subst, inl, inr}
use Rattle.std.specs.Prelude.{◌⊎◌}
use Rattle.viz_base.specs.Faults.{Rose}
use Rattle.viz_base.specs.declared.port.Port as port
use Rattle.viz_base.specs.declared.out.Out as out
use Rattle.viz_base.specs.declared.call.ReadAnswer.{ReadAnswer}
use Rattle.viz_base.specs.declared.call.ReadAnswer.TheVariants as read
use Rattle.viz_base.specs.declared.call.WriteAnswer.TheVariants as write
use Rattle.viz_network.specs.declared.fault.Fault.{Fault}
use Rattle.viz_report.specs.declared.line.Reason.{Reason}
use Rattle.viz_report.specs.declared.line.Reason.TheVariants as reason
use Rattle.viz_told.specs.declared.status.Status.{Status}
use Rattle.viz_told.specs.declared.status.Status.TheVariants as status
use Rattle.viz_told.specs.Calls.{HasFailed}
use Rattle.viz_told.specs.Complete.{EndsComplete}
use Rattle.viz_told.specs.Told.{IsTold}
use Rattle.viz_told.proofs.ToldLemmas.{ends_in_memory, ends_whole}
use Rattle.viz_once.specs.declared.command.Filter.{Filter}
use Rattle.viz_once.specs.declared.outcome.Outcome.{Outcome}
use Rattle.viz_once.specs.declared.outcome.Outcome.TheVariants as outcome
use Rattle.viz_once.specs.Account.{Deed, Nothing, Asked, Answered, calls_of, IsOutcomeOf, Serves}
use Rattle.viz_once.specs.Command.{Command}
use Rattle.viz_once.specs.Complete.{Came, EndsBy, IsComplete}
use Rattle.viz_once.specs.Reasons.{IsReason}
use Rattle.viz_once.specs.Report.{status_of, telling_of}
use Rattle.viz_once.proofs.ReasonLemmas.{FiltersAreOne, made_file}

-- a command with a reason for its refusal didn't come to what it asked for
no_came : FiltersAreOne → (filter : Filter) (answer : ReadAnswer) (why : Reason) → IsReason filter answer why → Came filter answer → ⊥
no_came files filter (read.TooLong taken) why is c = c
no_came files filter read.Failed why is c = c
no_came files filter (read.Given bytes) (reason.Fault fault name) is c =
    let bad : (let r : Result (List ℕ) Fault = Ok c.0 in r) ≡ Err fault = files filter bytes (Ok c.0) (Err fault) c.1 is.file in
    cc
no_came files filter (read.Given bytes) (reason.Edit r) is c = is
no_came files filter (read.Given bytes) (reason.Batch index r) is c = is
no_came files filter (read.Given bytes) reason.Full is c = is
no_came files filter (read.Given bytes) reason.TooLong is c = is
no_came files filter (read.Given bytes) reason.Unknown is c = is

module _ {O : Type 0} (files : FiltersAreOne) (o : out.Ghosts O) (c : Command) (before after : O) (ended : Status) (found : Outcome)
    (told : IsTold o (telling_of found) ended before after) (quiet : Rose (o.faults before) (o.faults after) → ⊥) where
  by_outcome : (r : Outcome) → found ≡ r → (ended ≡ status_of r) ⊎ (ended ≡ status.Memory)
  by_outcome r is = ends_whole o before after ended (telling_of r) (subst (λ (x : Outcome). IsTold o (telling_of x) ended before after) is told) quiet

  in_memory : found ≡ outcome.Memory → ended ≡ status.Memory
  in_memory is = ends_in_memory o before after ended (telling_of found) (ap status_of is) told

  refused : (answer : ReadAnswer) (why : Reason) → IsReason c.filter answer why → found ≡ outcome.Refused why → EndsComplete (Came c.filter answer) ended
  refused answer why is same = elim (by_outcome (outcome.Refused why) same) [
    | inl e ↦ inr (inl (e, no_came files c.filter answer why is))
    | inr memory ↦ inr (inr memory)
  ]

  ends_by : (deed : Deed) → IsOutcomeOf c deed found → (HasFailed (calls_of c deed) → ⊥) → EndsBy c ended deed
  ends_by Nothing h none = in_memory h
  ends_by (Asked (read.Given bytes)) h none = elim h [
    | inl memory ↦ inr (inr (in_memory memory))
    | inr r ↦ refused (read.Given bytes) r.0 r.1 r.2
  ]
  ends_by (Asked (read.TooLong taken)) h none = refused (read.TooLong taken) h.0 h.1 h.2
  ends_by (Asked read.Failed) h none = absurd (none tt)
  ends_by (Answered bytes text write.Written) h none = elim (by_outcome (outcome.Written h.0) h.2) [
    | inl e ↦ inl (e, (text, made_file c.filter bytes text h.0 h.1))
    | inr memory ↦ inr (inr memory)
  ]
  ends_by (Answered bytes text write.Failed) h none = absurd (none tt)

pub complete-Run : {P O : Type 0} → FiltersAreOne → (m : port.Ghosts P) (o : out.Ghosts O) (c : Command) (old new : List P) (before after : O) (found : Outcome) (ended : Status)
    → Serves m c found old new → IsTold o (telling_of found) ended before after → IsComplete m o c old new before after ended
complete-Run files m o c [] new before after found ended h told = λ some quiet_ports quiet. absurd (some refl)
complete-Run files m o c (p ∷ ps) [] before after found ended h told = absurd h
complete-Run files m o c (p ∷ ps) (q ∷ qs) before after found ended h told = λ some quiet_ports quiet.
    (h.0.0, (h.0.2, h.1), ends_by files o c before after ended found told quiet h.0.0 h.0.1 (λ failed. quiet_ports (h.0.2.cause failed, h.1)))
