-- What the status of a run says of what was told.
use Rattle.std.proofs.Common.{◌≡◌, List, ℕ, Result, Ok, Err, refl, sym, subst, ◌∙◌, inl, inr}
use Rattle.std.specs.Prelude.{◌⊎◌}
use Rattle.viz_base.specs.Faults.{Rose}
use Rattle.viz_base.specs.declared.out.Out as out
use Rattle.viz_base.specs.declared.refusal.WriteRefusal.{WriteRefusal}
use Rattle.viz_base.specs.declared.refusal.WriteRefusal.TheVariants as writing
use Rattle.viz_told.specs.declared.status.Status.{Status}
use Rattle.viz_told.specs.declared.status.Status.TheVariants as status
use Rattle.viz_told.specs.Told.{Telling, memory_told, status_after, IsPut, IsToldAs, IsTold}
use Rattle.viz_told.specs.Puts.{GainsLine, PutsOrBreaks, EndsInScript}

abbrev pub Answer : Type 0
Answer = Result (Unit {0}) WriteRefusal

pub no_memory : (let a : Answer = Ok tt in a) ≡ Err writing.Memory → ⊥
no_memory e = let bad : (let a : Answer = Ok tt in a) ≡ Err writing.Memory = e in cc

pub failed_is_no_memory : (let a : Answer = Err writing.Failed in a) ≡ Err writing.Memory → ⊥
failed_is_no_memory e = let bad : (let a : Answer = Err writing.Failed in a) ≡ Err writing.Memory = e in cc

-- Memory is no other status
pub is_no_done : status.Memory ≡ status.Done → ⊥
is_no_done e = let bad : status.Memory ≡ status.Done = e in cc

pub is_no_usage : status.Memory ≡ status.Usage → ⊥
is_no_usage e = let bad : status.Memory ≡ status.Usage = e in cc

pub is_no_script : status.Memory ≡ status.Script → ⊥
is_no_script e = let bad : status.Memory ≡ status.Script = e in cc

pub is_no_refused : status.Memory ≡ status.Refused → ⊥
is_no_refused e = let bad : status.Memory ≡ status.Refused = e in cc

pub is_no_fault : status.Memory ≡ status.Fault → ⊥
is_no_fault e = let bad : status.Memory ≡ status.Fault = e in cc

pub usage_is_no_script : status.Usage ≡ status.Script → ⊥
usage_is_no_script e = let bad : status.Usage ≡ status.Script = e in cc

pub usage_is_no_fault : status.Usage ≡ status.Fault → ⊥
usage_is_no_fault e = let bad : status.Usage ≡ status.Fault = e in cc

-- ---- the text

module _ {O : Type 0} (m : out.Ghosts O) (text : List ℕ) (old new : O) where
  pub gains : (a : Answer) → a ≡ Ok tt → IsPut m text a old new → GainsLine m text old new
  gains a ok put = (subst (λ (b : Answer). IsPut m text b old new) ok put).text_after

  pub puts : (a : Answer) → (a ≡ Err writing.Memory → ⊥) → IsPut m text a old new → PutsOrBreaks m text old new
  puts (Ok done) apart put = λ t. inl (put.text_after t)
  puts (Err writing.Failed) apart put = λ t. inr (put.cause refl, put.text_after t)
  puts (Err writing.Memory) apart put = absurd (apart refl)

-- ---- the status

-- where memory ran out at the put the status is Memory or Usage
answered : (s : Status) (a : Answer) → (status.Memory ≡ status_after s a → ⊥) → (status.Usage ≡ status_after s a → ⊥) → a ≡ Err writing.Memory → ⊥
answered s (Ok done) apart other = no_memory
answered s (Err writing.Failed) apart other = failed_is_no_memory
answered status.Usage (Err writing.Memory) apart other = λ _. other refl
answered status.Done (Err writing.Memory) apart other = λ _. apart refl
answered status.Script (Err writing.Memory) apart other = λ _. apart refl
answered status.Refused (Err writing.Memory) apart other = λ _. apart refl
answered status.Fault (Err writing.Memory) apart other = λ _. apart refl
answered status.Memory (Err writing.Memory) apart other = λ _. apart refl

-- want of memory ends in its status, whatever the put answers
memory_after : (a : Answer) → status_after status.Memory a ≡ status.Memory
memory_after (Ok done) = refl
memory_after (Err writing.Failed) = refl
memory_after (Err writing.Memory) = refl

module _ {O : Type 0} (m : out.Ghosts O) (old new : O) (ended : Status) where
  -- what has the status Memory ends in it
  pub as_memory : (t : Telling) → t.status ≡ status.Memory → IsToldAs m t ended old new → ended ≡ status.Memory
  as_memory t is told = subst (λ (s : Status). ended ≡ status_after s told.0) is told.1 ∙ memory_after told.0

  pub in_its_place : IsToldAs m memory_told ended old new → ended ≡ status.Memory
  in_its_place told = as_memory memory_told refl told

  pub ends_in_memory : (t : Telling) → t.status ≡ status.Memory → IsTold m t ended old new → ended ≡ status.Memory
  ends_in_memory t is (inl told) = as_memory t is told
  ends_in_memory t is (inr memory) = in_its_place memory.1

  -- what has the status Script ends in it, or in Memory
  script_as : (t : Telling) (a : Answer) → ended ≡ status_after status.Script a → IsPut m t.text a old new → EndsInScript m t.text old new ended
  script_as t (Ok done) e put = inl (e, puts m t.text old new (Ok done) no_memory put)
  script_as t (Err writing.Failed) e put = inl (e, puts m t.text old new (Err writing.Failed) failed_is_no_memory put)
  script_as t (Err writing.Memory) e put = inr e

  pub ends_in_script : (t : Telling) → t.status ≡ status.Script → IsTold m t ended old new → EndsInScript m t.text old new ended
  ends_in_script t is (inl told) = script_as t told.0 (subst (λ (s : Status). ended ≡ status_after s told.0) is told.1) told.2
  ends_in_script t is (inr memory) = inr (in_its_place memory.1)

  -- another status than Memory belongs to what was found, whose text was put
  pub told_as : (t : Telling) (known : Status) → IsTold m t ended old new → ended ≡ known → (status.Memory ≡ known → ⊥) → IsToldAs m t ended old new
  told_as t known (inl told) is apart = told
  told_as t known (inr memory) is apart = absurd (apart (sym (in_its_place memory.1) ∙ is))

  -- what holds of each answer and its status holds of the status that is known
  pub told_at : (t : Telling) (R : Answer → Status → Type 0) → ((a : Answer) → R a (status_after t.status a)) → (known : Status) → IsTold m t ended old new → ended ≡ known
      → (status.Memory ≡ known → ⊥) → (a : Answer) × R a known × IsPut m t.text a old new
  told_at t R by known told is apart =
      let found = told_as t known told is apart in
      (found.0, subst (R found.0) (sym found.1 ∙ is) (by found.0), found.2)

  -- where the status is neither Memory nor Usage, the text was put, unless the put failed
  pub puts_at : (t : Telling) (known : Status) → IsTold m t ended old new → ended ≡ known → (status.Memory ≡ known → ⊥) → (status.Usage ≡ known → ⊥)
      → PutsOrBreaks m t.text old new
  puts_at t known told is apart other =
      let found = told_as t known told is apart in
      let same : known ≡ status_after t.status found.0 = sym is ∙ found.1 in
      puts m t.text old new found.0 (answered t.status found.0 (λ e. apart (e ∙ sym same)) (λ e. other (e ∙ sym same))) found.2

  -- where no put failed, the status is that of what was found, or Memory
  whole_as : (s : Status) (text : List ℕ) (a : Answer) → ended ≡ status_after s a → IsPut m text a old new → (Rose (m.faults old) (m.faults new) → ⊥) → (ended ≡ s) ⊎ (ended ≡ status.Memory)
  whole_as s text (Ok done) e put none = inl e
  whole_as s text (Err writing.Failed) e put none = absurd (none (put.cause refl))
  whole_as status.Usage text (Err writing.Memory) e put none = inl e
  whole_as status.Done text (Err writing.Memory) e put none = inr e
  whole_as status.Script text (Err writing.Memory) e put none = inr e
  whole_as status.Refused text (Err writing.Memory) e put none = inr e
  whole_as status.Fault text (Err writing.Memory) e put none = inr e
  whole_as status.Memory text (Err writing.Memory) e put none = inr e

  pub ends_whole : (t : Telling) → IsTold m t ended old new → (Rose (m.faults old) (m.faults new) → ⊥) → (ended ≡ t.status) ⊎ (ended ≡ status.Memory)
  ends_whole t (inl told) none = whole_as t.status t.text told.0 told.1 told.2 none
  ends_whole t (inr memory) none = inr (in_its_place memory.1)
