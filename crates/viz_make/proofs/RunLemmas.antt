-- The promises of a run that makes a volume, from its account.
use Rattle.std.proofs.Common.{◌≡◌, List, [], ◌∷◌, Option, None, Some, Ok, Err, refl, subst, inl, inr}
use Rattle.std.specs.Prelude.{◌⊎◌}
use Rattle.viz_base.specs.Faults.{Rose}
use Rattle.viz_base.specs.declared.port.Port as port
use Rattle.viz_base.specs.declared.out.Out as out
use Rattle.viz_base.specs.declared.call.WriteAnswer.{WriteAnswer}
use Rattle.viz_base.specs.declared.call.WriteAnswer.TheVariants as write
use Rattle.viz_base.specs.declared.refusal.WriteRefusal.TheVariants as writing
use Rattle.viz_told.specs.declared.status.Status.{Status}
use Rattle.viz_told.specs.declared.status.Status.TheVariants as status
use Rattle.viz_told.specs.Calls.{IsCalled}
use Rattle.viz_told.specs.Ports.{FirstRose, OthersStay}
use Rattle.viz_told.specs.Puts.{PutsOrBreaks}
use Rattle.viz_told.specs.Told.{status_after, IsPut, IsTold}
use Rattle.viz_told.proofs.ToldLemmas.{Answer, is_no_done, is_no_usage, is_no_script, is_no_refused, is_no_fault, usage_is_no_script, usage_is_no_fault, gains, ends_in_script, told_at, puts_at}
use Rattle.viz_make.specs.declared.came.Came.{Came}
use Rattle.viz_make.specs.declared.came.Came.TheVariants as came
use Rattle.viz_make.specs.declared.made.Made.{Made}
use Rattle.viz_make.specs.Make.{Make, IsMade, IsClosed, written, IsEndOfMaking, IsMakeRun}
use Rattle.viz_make.specs.Told.{came_text, status_of, telling_of}
use Rattle.viz_make.specs.Complete.{IsComplete}
use Rattle.viz_make.specs.Promises.{FirstWrote, TellsRefusals, IsDone, IsScript, IsFault}

-- ---- what was found, and what the put answered, by the status

abbrev pub ToldBy : Came → Answer → Status → Type 0
ToldBy c a status.Done = (made : Made) × (c ≡ came.Written made) × (a ≡ Ok tt)
ToldBy c a status.Refused = ⊥
ToldBy c a status.Script = c ≡ came.NoPort
ToldBy c a status.Fault = (c ≡ came.Unwritten) ⊎ (a ≡ Err writing.Failed)
ToldBy c a status.Usage = ⊥
ToldBy c a status.Memory = Unit {0}

told_by : (c : Came) (a : Answer) → ToldBy c a (status_after (status_of c) a)
told_by came.NoPort (Ok done) = refl
told_by came.NoPort (Err writing.Failed) = refl
told_by came.NoPort (Err writing.Memory) = tt
told_by (came.Written made) (Ok done) = (made, refl, refl)
told_by (came.Written made) (Err writing.Failed) = inr refl
told_by (came.Written made) (Err writing.Memory) = tt
told_by came.Unwritten (Ok done) = inl refl
told_by came.Unwritten (Err writing.Failed) = inl refl
told_by came.Unwritten (Err writing.Memory) = tt
told_by came.Memory (Ok done) = tt
told_by came.Memory (Err writing.Failed) = tt
told_by came.Memory (Err writing.Memory) = tt

-- ---- what was done, by how the run ended

module _ (c : Make) where
  ends_written : (answer : Option WriteAnswer) (made : Made) → IsEndOfMaking c answer (came.Written made)
      → (answer ≡ Some write.Written) × IsMade c made × IsClosed made
  ends_written None made h = absurd h
  ends_written (Some write.Written) made h = (refl, h.0, h.1)
  ends_written (Some write.Failed) made h = absurd h

  ends_unwritten : (answer : Option WriteAnswer) → IsEndOfMaking c answer came.Unwritten → answer ≡ Some write.Failed
  ends_unwritten None h = absurd h
  ends_unwritten (Some write.Written) h = absurd h
  ends_unwritten (Some write.Failed) h = refl

  never_no_port : (answer : Option WriteAnswer) → IsEndOfMaking c answer came.NoPort → ⊥
  never_no_port None h = h
  never_no_port (Some write.Written) h = h
  never_no_port (Some write.Failed) h = h

module _ {P : Type 0} (m : port.Ghosts P) (c : Make) where
  answered_is : (answer known : Option WriteAnswer) (p q : P) → answer ≡ known → IsCalled m (written c answer) p q → IsCalled m (written c known) p q
  answered_is answer known p q is h = subst (λ (a : Option WriteAnswer). IsCalled m (written c a) p q) is h

  wrote : (old new : List P) (made : Made) → IsMakeRun m c (came.Written made) old new → IsMade c made × IsClosed made × FirstWrote m c write.Written old new
  wrote [] new made h = absurd (let bad : came.Written made ≡ came.NoPort = h.0 in cc)
  wrote (p ∷ ps) [] made h = absurd h
  wrote (p ∷ ps) (q ∷ qs) made h =
      let e = ends_written c h.0.0 made h.0.1 in
      (e.1, e.2, (answered_is h.0.0 (Some write.Written) p q e.0 h.0.2, h.1))

  unwritten : (old new : List P) → IsMakeRun m c came.Unwritten old new → FirstWrote m c write.Failed old new
  unwritten [] new h = absurd (let bad : (let x : Came = came.Unwritten in x) ≡ came.NoPort = h.0 in cc)
  unwritten (p ∷ ps) [] h = absurd h
  unwritten (p ∷ ps) (q ∷ qs) h = (answered_is h.0.0 (Some write.Failed) p q (ends_unwritten c h.0.0 h.0.1) h.0.2, h.1)

  no_port : (old new : List P) → IsMakeRun m c came.NoPort old new → (old ≡ []) × (new ≡ [])
  no_port [] new h = (refl, h.1)
  no_port (p ∷ ps) [] h = absurd h
  no_port (p ∷ ps) (q ∷ qs) h = absurd (never_no_port c h.0.0 h.0.1)

  without_port : (old new : List P) (found : Came) → old ≡ [] → IsMakeRun m c found old new → found ≡ came.NoPort
  without_port [] new found e h = h.0
  without_port (p ∷ ps) new found e h = absurd (let bad : p ∷ ps ≡ [] = e in cc)

  pub others : (old new : List P) (found : Came) → IsMakeRun m c found old new → OthersStay old new
  others [] new found h = h.1
  others (p ∷ ps) [] found h = h
  others (p ∷ ps) (q ∷ qs) found h = h.1

  first_rose : (old new : List P) → FirstWrote m c write.Failed old new → FirstRose m old new
  first_rose [] new h = h
  first_rose (p ∷ ps) [] h = h
  first_rose (p ∷ ps) (q ∷ qs) h = (h.0.cause tt, h.1)

-- ---- the promises

module _ {P O : Type 0} (m : port.Ghosts P) (o : out.Ghosts O) (c : Make) (old new : List P) (before after : O) (ended : Status)
    (found : Came) (ran : IsMakeRun m c found old new) (told : IsTold o (telling_of found) ended before after) where
  ran_as : (r : Came) → found ≡ r → IsMakeRun m c r old new
  ran_as r is = subst (λ (x : Came). IsMakeRun m c x old new) is ran

  -- what was found and put, by a status that is known
  at : (known : Status) → ended ≡ known → (status.Memory ≡ known → ⊥) → (a : Answer) × ToldBy found a known × IsPut o (came_text found) a before after
  at known is apart = told_at o before after ended (telling_of found) (ToldBy found) (told_by found) known told is apart

  text_put : (r : Came) (known : Status) → found ≡ r → ended ≡ known → (status.Memory ≡ known → ⊥) → (status.Usage ≡ known → ⊥) → PutsOrBreaks o (came_text r) before after
  text_put r known same is apart other =
      subst (λ (x : Came). PutsOrBreaks o (came_text x) before after) same (puts_at o before after ended (telling_of found) known told is apart other)

  pub done : ended ≡ status.Done → IsDone m o c old new before after
  done is =
      let t = at status.Done is is_no_done in
      let r : Came = came.Written t.1.0 in
      let w = wrote m c old new t.1.0 (ran_as r t.1.1) in
      (t.1.0, w.0, w.1, w.2, gains o (came_text r) before after t.0 t.1.2 (subst (λ (x : Came). IsPut o (came_text x) t.0 before after) t.1.1 t.2))

  pub script : ended ≡ status.Script → IsScript m o old new before after
  script is =
      let t = at status.Script is is_no_script in
      let w = no_port m c old new (ran_as came.NoPort t.1) in
      (w.0, w.1, text_put came.NoPort status.Script t.1 is is_no_script usage_is_no_script)

  pub refuses : TellsRefusals o old before after ended
  refuses none =
      ends_in_script o before after ended (telling_of came.NoPort) refl
      (subst (λ (x : Came). IsTold o (telling_of x) ended before after) (without_port m c old new found none ran) told)

  pub fault : ended ≡ status.Fault → IsFault m o c old new before after
  fault is =
      let t = at status.Fault is is_no_fault in
      elim t.1 [
        | inl same ↦ inl (unwritten m c old new (ran_as came.Unwritten same), text_put came.Unwritten status.Fault same is is_no_fault usage_is_no_fault)
        | inr failed ↦ inr (t.2.cause failed)
      ]

  pub cause : ended ≡ status.Fault → FirstRose m old new ⊎ Rose (o.faults before) (o.faults after)
  cause is = elim (fault is) [
    | inl w ↦ inl (first_rose m c old new w.0)
    | inr put ↦ inr put
  ]

  pub no_usage : ended ≡ status.Usage → ⊥
  no_usage is = (at status.Usage is is_no_usage).1

  pub no_refused : ended ≡ status.Refused → ⊥
  no_refused is = (at status.Refused is is_no_refused).1

  complete_by : (old ≡ [] → ⊥) → (FirstRose m old new → ⊥) → (Rose (o.faults before) (o.faults after) → ⊥) → (known : Status) → ended ≡ known → (ended ≡ status.Done) ⊎ (ended ≡ status.Memory)
  complete_by some quiet_ports quiet status.Done is = inl is
  complete_by some quiet_ports quiet status.Memory is = inr is
  complete_by some quiet_ports quiet status.Usage is = absurd (no_usage is)
  complete_by some quiet_ports quiet status.Refused is = absurd (no_refused is)
  complete_by some quiet_ports quiet status.Script is = absurd (some (script is).0)
  complete_by some quiet_ports quiet status.Fault is = absurd (elim (cause is) [ inl first ↦ quiet_ports first | inr put ↦ quiet put ])

  pub complete : IsComplete m o old new before after ended
  complete = λ some quiet_ports quiet. complete_by some quiet_ports quiet ended refl
