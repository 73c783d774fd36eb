-- Ports of actors without commands are as before.
use Rattle.std.proofs.Common.{◌≡◌, ◌≢◌, ℕ, zero, suc, ◌+◌, Bool, true, false, cond, ◌&&◌, ◌==◌, List, [], ◌∷◌, ◌++◌, map, flat_map, slice_get, Some, refl, ap, ◌∙◌, inl, inr, arith}
use Rattle.std.specs.Prelude.{◌⊎◌}
use Rattle.std.specs.List.{All}
use Rattle.std.proofs.lemmas.Bool.{eqb-true}
use Rattle.std.proofs.lemmas.List.Elements.{All-head, All-tail}
use Rattle.viz_base.specs.declared.port.Port as port
use Rattle.viz_base.specs.declared.call.ReadAnswer.TheVariants as read
use Rattle.viz_entries.specs.declared.entry.Entry.{Entry}
use Rattle.viz_script.specs.Orders.{Asked as Command}
use Rattle.viz_script.specs.Script.{Stepped, phase_limit}
use Rattle.viz_report.specs.declared.line.Line.{Line}
use Rattle.viz_report.specs.declared.line.Row.{Row}
use Rattle.viz_account.specs.Account.{AreActors}
use Rattle.viz_actor.specs.Groups.{numbers, commands_in, by_phase, actors_over, history_limit}
use Rattle.viz_actor.specs.declared.ran.Ran.{Ran}
use Rattle.viz_actor.specs.declared.ran.Ran.TheVariants as ran
use Rattle.viz_actor.specs.Deeds.{Deed, Nothing, Asked, Kept, IsEndOfScript, IsAccounted, IsServed, bytes_of}
use Rattle.viz_actor.specs.Promises.{AsksNoneOf}

-- ---- commands

-- where no step is of an actor, the actor has no command
none_in : (steps : List Stepped) (actor phase : ℕ) → All (λ (s : Stepped). s.actor ≢ actor) steps → commands_in steps actor phase ≡ []
none_in [] actor phase none = refl
none_in (s ∷ steps) actor phase none =
    by (s.actor == actor) refl (none_in steps actor phase (All-tail (λ (t : Stepped). t.actor ≢ actor) s steps none))
  where
    by : (b : Bool) → (s.actor == actor) ≡ b → commands_in steps actor phase ≡ []
        → cond (b && (s.phase == phase)) (s.asked ∷ commands_in steps actor phase) (commands_in steps actor phase) ≡ []
    by true is r = absurd (All-head (λ (t : Stepped). t.actor ≢ actor) s steps none (eqb-true s.actor actor is))
    by false is r = r

pub none_by : (steps : List Stepped) (actor : ℕ) → All (λ (s : Stepped). s.actor ≢ actor) steps → (phases : List ℕ)
    → flat_map (λ os. os) (map (commands_in steps actor) phases) ≡ []
none_by steps actor none [] = refl
none_by steps actor none (p ∷ phases) =
    ap (λ os. os ++ flat_map (λ (x : List Command). x) (map (commands_in steps actor) phases)) (none_in steps actor p none)
    ∙ none_by steps actor none phases

-- what stands at a place of a list that was made of numbers in turn
pub at_number : {X : Type 0} (f : ℕ → X) (count n i : ℕ) (x : X) → slice_get (map f (numbers count n)) i ≡ Some x → x ≡ f (i + n)
at_number f zero n i x at = let bad : ⊥ = cc in absurd bad
at_number f (suc count) n zero x at =
    let here : x ≡ f n = cc in here ∙ ap f (let e : n ≡ 0 + n = omega arith in e)
at_number f (suc count) n (suc i) x at =
    at_number f count (n + 1) i x at ∙ ap f (let e : i + (n + 1) ≡ suc i + n = omega arith in e)

-- ---- ports

module _ {P : Type 0} (m : port.Ghosts P) (limit : ℕ) (h : List Entry) (ends : List ℕ) where
  idle_port : (i : ℕ) (passes : List (List ℕ)) (script : List (List (List Command))) (told : List (List (List Line))) (before after : List P)
      → AreActors m limit h passes script told ends before after
      → ((phases : List (List Command)) → slice_get script i ≡ Some phases → flat_map (λ os. os) phases ≡ [])
      → slice_get after i ≡ slice_get before i
  idle_port i [] [] [] before after a idle = ap (λ ps. slice_get ps i) a
  idle_port i [] [] (l ∷ told) before after a idle = absurd a
  idle_port i [] (s ∷ script) told before after a idle = absurd a
  idle_port i (p ∷ passes) [] told before after a idle = absurd a
  idle_port i (p ∷ passes) (s ∷ script) [] before after a idle = absurd a
  idle_port i (p ∷ passes) (s ∷ script) (l ∷ told) [] after a idle = absurd a
  idle_port i (p ∷ passes) (s ∷ script) (l ∷ told) (b ∷ before) [] a idle = absurd a
  idle_port zero (p ∷ passes) (s ∷ script) (l ∷ told) (b ∷ before) (c ∷ after) a idle = ap Some (a.0.idle (idle s refl))
  idle_port (suc i) (p ∷ passes) (s ∷ script) (l ∷ told) (b ∷ before) (c ∷ after) a idle =
      idle_port i passes script told before after a.1 idle

module _ {P : Type 0} (m : port.Ghosts P) (old new : List P) where
  idle_account : (bytes text : List ℕ) (rows : List Row) → (a : IsAccounted m bytes rows text old new) → (i : ℕ)
      → All (λ (s : Stepped). s.actor ≢ i + 1) a.steps → slice_get new i ≡ slice_get old i
  idle_account bytes text rows a i none =
      idle_port m history_limit a.history a.account.ends i a.account.passes _ a.told old new a.account.actors
      (λ phases at. ap (λ ps. flat_map (λ (os : List Command). os) ps) (at_number (by_phase phase_limit a.steps) (actors_over old) 1 i phases at)
      ∙ none_by a.steps (i + 1) none (numbers phase_limit 1))

  -- a script was served, or no port was called
  pub served_or_same : (deed : Deed) (r : Ran) → IsEndOfScript m deed r old new
      → (new ≡ old) ⊎ ((bytes : List ℕ) × (bytes_of deed ≡ Some bytes) × IsServed m bytes old new)
  served_or_same Nothing ran.Memory h = inl h
  served_or_same Nothing ran.Unread h = absurd h
  served_or_same Nothing (ran.Refused line r) h = absurd h
  served_or_same Nothing (ran.Served rows kept) h = absurd h
  served_or_same (Asked read.Failed) ran.Unread h = inl h
  served_or_same (Asked read.Failed) ran.Memory h = absurd h
  served_or_same (Asked read.Failed) (ran.Refused line r) h = absurd h
  served_or_same (Asked read.Failed) (ran.Served rows kept) h = absurd h
  served_or_same (Asked (read.TooLong taken)) (ran.Refused line r) h = inl h.2
  served_or_same (Asked (read.TooLong taken)) ran.Memory h = absurd h
  served_or_same (Asked (read.TooLong taken)) ran.Unread h = absurd h
  served_or_same (Asked (read.TooLong taken)) (ran.Served rows kept) h = absurd h
  served_or_same (Asked (read.Given bytes)) (ran.Refused line r) h = inl h.1
  served_or_same (Asked (read.Given bytes)) ran.Memory h = elim h [ inl same ↦ inl same | inr served ↦ inr (bytes, refl, served) ]
  served_or_same (Asked (read.Given bytes)) ran.Unread h = absurd h
  served_or_same (Asked (read.Given bytes)) (ran.Served rows kept) h = absurd h
  served_or_same (Kept bytes text answer) (ran.Served rows kept) h = inr (bytes, refl, (rows, text, h.0))
  served_or_same (Kept bytes text answer) ran.Memory h = absurd h
  served_or_same (Kept bytes text answer) ran.Unread h = absurd h
  served_or_same (Kept bytes text answer) (ran.Refused line r) h = absurd h

  pub idle_ports : (deed : Deed) → (new ≡ old) ⊎ ((bytes : List ℕ) × (bytes_of deed ≡ Some bytes) × IsServed m bytes old new)
      → (i : ℕ) → AsksNoneOf (actors_over old) (i + 1) deed → slice_get new i ≡ slice_get old i
  idle_ports deed (inl same) i none = ap (λ ps. slice_get ps i) same
  idle_ports deed (inr s) i none = idle_account s.0 s.2.1 s.2.0 s.2.2 i (none s.0 s.2.2.steps s.1 s.2.2.reads)
