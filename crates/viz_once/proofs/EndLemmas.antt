-- What the status of a run says of the outcome that was found.
use Rattle.std.proofs.Common.{◌≡◌, Ok, Err, refl, ap, subst, inl, inr}
use Rattle.std.specs.Prelude.{◌⊎◌}
use Rattle.viz_base.specs.declared.out.Out as out
use Rattle.viz_base.specs.declared.refusal.WriteRefusal.TheVariants as writing
use Rattle.viz_report.specs.declared.line.Reason.{Reason}
use Rattle.viz_reshape.specs.declared.reshape.FileCounts.{FileCounts}
use Rattle.viz_once.specs.declared.outcome.Failed.{Failed}
use Rattle.viz_once.specs.declared.outcome.Outcome.{Outcome}
use Rattle.viz_once.specs.declared.outcome.Outcome.TheVariants as outcome
use Rattle.viz_once.specs.Promises.{EndsRefused}
use Rattle.viz_once.specs.Report.{refused_line, status_of, telling_of}
use Rattle.viz_told.specs.declared.status.Status.{Status}
use Rattle.viz_told.specs.declared.status.Status.TheVariants as status
use Rattle.viz_told.specs.Told.{status_after, IsPut, IsTold}
use Rattle.viz_told.proofs.ToldLemmas.{Answer, in_its_place, ends_in_memory}

-- what was found, and what the put answered, by the status
abbrev pub ToldBy : Outcome → Answer → Status → Type 0
ToldBy o a status.Done = (counts : FileCounts) × (o ≡ outcome.Written counts) × (a ≡ Ok tt)
ToldBy o a status.Refused = (why : Reason) × (o ≡ outcome.Refused why) × (a ≡ Ok tt)
ToldBy o a status.Script = o ≡ outcome.NoPort
ToldBy o a status.Fault = ((failed : Failed) × (o ≡ outcome.Fault failed) × (a ≡ Ok tt)) ⊎ (a ≡ Err writing.Failed)
ToldBy o a status.Usage = ⊥
ToldBy o a status.Memory = Unit {0}

pub told_by : (o : Outcome) (a : Answer) → ToldBy o a (status_after (status_of o) a)
told_by outcome.NoPort (Ok done) = refl
told_by (outcome.Written counts) (Ok done) = (counts, refl, refl)
told_by (outcome.Refused why) (Ok done) = (why, refl, refl)
told_by (outcome.Fault failed) (Ok done) = inl (failed, refl, refl)
told_by outcome.Memory (Ok done) = tt
told_by outcome.NoPort (Err writing.Failed) = refl
told_by (outcome.Written counts) (Err writing.Failed) = inr refl
told_by (outcome.Refused why) (Err writing.Failed) = inr refl
told_by (outcome.Fault failed) (Err writing.Failed) = inr refl
told_by outcome.Memory (Err writing.Failed) = tt
told_by outcome.NoPort (Err writing.Memory) = tt
told_by (outcome.Written counts) (Err writing.Memory) = tt
told_by (outcome.Refused why) (Err writing.Memory) = tt
told_by (outcome.Fault failed) (Err writing.Memory) = tt
told_by outcome.Memory (Err writing.Memory) = tt

-- ---- where a command is refused, or memory ran out

module _ {O : Type 0} (m : out.Ghosts O) (why : Reason) (old new : O) (ended : Status) where
  refused_by : (a : Answer) → ended ≡ status_after status.Refused a → IsPut m (refused_line why) a old new → EndsRefused m why old new ended
  refused_by (Ok done) e put = inl (e, put.text_after)
  refused_by (Err writing.Failed) e put = inr (inl (e, put.cause refl))
  refused_by (Err writing.Memory) e put = inr (inr e)

  refused_as : IsTold m (telling_of (outcome.Refused why)) ended old new → EndsRefused m why old new ended
  refused_as (inl told) = refused_by told.0 told.1 told.2
  refused_as (inr memory) = inr (inr (in_its_place m old new ended memory.1))

  pub refused_ends : (found : Outcome) → (found ≡ outcome.Memory) ⊎ (found ≡ outcome.Refused why) → IsTold m (telling_of found) ended old new → EndsRefused m why old new ended
  refused_ends found (inl memory) told = inr (inr (ends_in_memory m old new ended (telling_of found) (ap status_of memory) told))
  refused_ends found (inr refused) told = refused_as (subst (λ (o : Outcome). IsTold m (telling_of o) ended old new) refused told)
