-- The steps of a script, phase after phase, have its commands by actor and phase.
use Rattle.std.proofs.Common.{◌≡◌, ℕ, zero, suc, ◌+◌, ◌<◌, ◌≤◌, Bool, true, false, cond, ◌&&◌, ◌==◌, List, [], ◌∷◌, ◌++◌, length, map, is_ok, Result, Ok, Err, refl, sym, ap, ap₂, subst, ◌∙◌, true≢false, eqb-true, false-eqb, arith}
use Rattle.std.proofs.lemmas.Bool.{ne_eqb}
use Rattle.std.specs.Prelude.{if◌then◌else◌}
use Rattle.viz_words.specs.declared.refusal.ScriptRefusal.{ScriptRefusal}
use Rattle.viz_words.specs.declared.refusal.ScriptRefusal.TheVariants as refusal
use Rattle.viz_words.specs.Gives.{◌>>=◌}
use Rattle.viz_words.specs.Lines.{lines_of}
use Rattle.viz_script.specs.declared.order.Step.{Step}
use Rattle.viz_script.specs.Orders.{Asked, seen}
use Rattle.viz_script.specs.Lines.{Line, silent, begins_phase, begins_batch, ends_batch, asks, line_in}
use Rattle.viz_script.specs.Batches.{phase_behind, is_open, some_open, breaks_phases, breaks_batch, standing}
use Rattle.viz_script.specs.Script.{Stepped, Stop, stepped, number_behind, with_line, then_lines, lines_behind, step_behind, step_of, steps_behind, steps_of, told, is_too_long, script_of}
use Rattle.viz_actor.specs.Serving.{commands_of}
use Rattle.viz_actor.specs.Groups.{numbers, commands_in, by_phase, in_front, behind, chunks_from}
use Rattle.viz_actor.proofs.RunLemmas.{scripts_from}

-- ---- phases go up

-- steps whose phases go up from this one, and are below 65
abbrev pub Ascend : ℕ → List Stepped → Type 0
Ascend phase [] = Unit {0}
Ascend phase (s ∷ steps) = (phase ≤ s.phase) × (s.phase < 65) × Ascend s.phase steps

ascend_before : (low phase : ℕ) (steps : List Stepped) → low ≤ phase → Ascend phase steps → Ascend low steps
ascend_before low phase [] le p = tt
ascend_before low phase (s ∷ steps) le p = (let first = p.0 in omega (arith, le, first), p.1, p.2)

no_stop : {T : Type 0} (stop : Stop) (x : T) → (let r : Result T Stop = Err stop in r) ≡ Ok x → ⊥
no_stop stop x e = true≢false (sym (ap is_ok e))

same_value : {T : Type 0} (x y : T) → (let r : Result T Stop = Ok x in r) ≡ Ok y → x ≡ y
same_value {T} x y e = ap value_of e
  where
    value_of : Result T Stop → T
    value_of (Ok z) = z
    value_of (Err stop) = x

-- a line that may stand behind others is in one of 64 phases
within : (earlier : List Line) (line : Line) → breaks_phases earlier line ≡ false → phase_behind earlier < 65 → phase_behind (line ∷ earlier) < 65
within earlier silent may lt = lt
within earlier begins_phase may lt = (let apart = false-eqb (phase_behind earlier) 64 (sym may) in omega (arith, lt, apart))
within earlier (begins_batch actor) may lt = lt
within earlier (ends_batch actor) may lt = lt
within earlier (asks actor asked) may lt = lt

-- the step of a line in front of those of the lines behind it
step_ascends : (earlier : List Line) (line : Line) (later : List Line) (steps : List Stepped) → phase_behind earlier < 65 → Ascend (phase_behind (line ∷ earlier)) steps
    → Ascend (phase_behind earlier) (step_of earlier line later ++ steps)
step_ascends earlier silent later steps lt rest = rest
step_ascends earlier begins_phase later steps lt rest = ascend_before (phase_behind earlier) (phase_behind earlier + 1) steps (omega arith) rest
step_ascends earlier (begins_batch actor) later steps lt rest = (omega arith, lt, rest)
step_ascends earlier (ends_batch actor) later steps lt rest = rest
step_ascends earlier (asks actor asked) later steps lt rest = by (is_open actor earlier)
  where
    by : (b : Bool) → Ascend (phase_behind earlier) ((if b then [] else step_behind earlier actor asked ∷ []) ++ steps)
    by true = rest
    by false = (omega arith, lt, rest)

abbrev Read : Type 0
Read = Result (List Line) Stop

-- the steps of lines that stand behind others
abbrev StepsAscend : List Line → List Line → Type 0
StepsAscend earlier lines = Ascend (phase_behind earlier) (steps_behind earlier lines)

ended : (b : Bool) (stop : Stop) (lines : List Line) → (let r : Read = if b then Err stop else Ok [] in r) ≡ Ok lines → lines ≡ []
ended true stop lines e = absurd (no_stop stop lines e)
ended false stop lines e = sym (same_value [] lines e)

module _ (earlier : List Line) (lt : phase_behind earlier < 65) (next : Line → Read)
    (all : (line : Line) (more : List Line) → phase_behind (line ∷ earlier) < 65 → next line ≡ Ok more → StepsAscend (line ∷ earlier) more) where
  line_ascends : (line : Line) (r : Read) (lines : List Line) → ((more : List Line) → r ≡ Ok more → StepsAscend (line ∷ earlier) more) → with_line line r ≡ Ok lines
      → StepsAscend earlier lines
  line_ascends line (Ok more) lines rest e =
      subst (StepsAscend earlier) (same_value (line ∷ more) lines e)
      (step_ascends earlier line more (steps_behind (line ∷ earlier) more) lt (rest more refl))
  line_ascends line (Err stop) lines rest e = absurd (no_stop stop lines e)

  standing_ascends : (line : Line) (b c : Bool) (lines : List Line) → breaks_phases earlier line ≡ b
      → then_lines (number_behind earlier) next (if b then Err refusal.Phase else (if c then Err refusal.Batch else Ok line)) ≡ Ok lines → StepsAscend earlier lines
  standing_ascends line true c lines may e = absurd (no_stop (number_behind earlier, refusal.Phase) lines e)
  standing_ascends line false true lines may e = absurd (no_stop (number_behind earlier, refusal.Batch) lines e)
  standing_ascends line false false lines may e = line_ascends line (next line) lines (λ more. all line more (within earlier line may lt)) e

  read_ascends : (r : Result Line ScriptRefusal) (lines : List Line) → then_lines (number_behind earlier) next (r >>= standing earlier) ≡ Ok lines → StepsAscend earlier lines
  read_ascends (Ok line) lines e = standing_ascends line (breaks_phases earlier line) (breaks_batch earlier line) lines refl e
  read_ascends (Err r) lines e = absurd (no_stop (number_behind earlier, r) lines e)

lines_ascend : (actors : ℕ) (earlier : List Line) (texts : List (List ℕ)) (lines : List Line) → phase_behind earlier < 65 → lines_behind actors earlier texts ≡ Ok lines
    → StepsAscend earlier lines
lines_ascend actors earlier [] lines lt e = subst (StepsAscend earlier) (sym (ended (some_open earlier) (length earlier, refusal.Batch) lines e)) tt
lines_ascend actors earlier (text ∷ texts) lines lt e =
    read_ascends earlier lt (λ line. lines_behind actors (line ∷ earlier) texts) (λ line more below. lines_ascend actors (line ∷ earlier) texts more below) (line_in actors text) lines e

told_ascends : (r : Read) (steps : List Stepped) → ((lines : List Line) → r ≡ Ok lines → Ascend 1 (steps_of lines)) → told r ≡ Ok steps → Ascend 1 steps
told_ascends (Ok lines) steps all e = subst (Ascend 1) (same_value (steps_of lines) steps e) (all lines refl)
told_ascends (Err stop) steps all e = absurd (no_stop stop steps e)

script_by : (b : Bool) (actors : ℕ) (bytes : List ℕ) (steps : List Stepped) → (if b then Err (0, refusal.TooLong) else told (lines_behind actors [] (lines_of bytes))) ≡ Ok steps → Ascend 1 steps
script_by true actors bytes steps e = absurd (no_stop (0, refusal.TooLong) steps e)
script_by false actors bytes steps e = told_ascends (lines_behind actors [] (lines_of bytes)) steps (λ lines. lines_ascend actors [] (lines_of bytes) lines (omega arith)) e

pub script_ascends : (actors : ℕ) (bytes : List ℕ) (steps : List Stepped) → script_of actors bytes ≡ Ok steps → Ascend 1 steps
script_ascends actors bytes steps e = script_by (is_too_long bytes) actors bytes steps e

-- ---- steps by phase

both : (b : Bool) → (b && true) ≡ b
both true = refl
both false = refl

neither : (b : Bool) → (b && false) ≡ false
neither true = refl
neither false = refl

-- a step counts in its own phase, and in no other
counts : (actor phase : ℕ) (s : Stepped) (steps : List Stepped) → (s.phase == phase) ≡ true
    → commands_in (s ∷ steps) actor phase ≡ cond (s.actor == actor) (s.asked ∷ commands_in steps actor phase) (commands_in steps actor phase)
counts actor phase s steps at =
    ap (λ b. cond b (s.asked ∷ commands_in steps actor phase) (commands_in steps actor phase)) (ap (λ b. (s.actor == actor) && b) at ∙ both (s.actor == actor))

passes_over : (actor phase : ℕ) (s : Stepped) (steps : List Stepped) → (s.phase == phase) ≡ false → commands_in (s ∷ steps) actor phase ≡ commands_in steps actor phase
passes_over actor phase s steps other =
    ap (λ b. cond b (s.asked ∷ commands_in steps actor phase) (commands_in steps actor phase)) (ap (λ b. (s.actor == actor) && b) other ∙ neither (s.actor == actor))

-- in a phase before all steps there is no command
none_before : (actor phase low : ℕ) (steps : List Stepped) → phase < low → Ascend low steps → commands_in steps actor phase ≡ []
none_before actor phase low [] lt p = refl
none_before actor phase low (s ∷ steps) lt p =
    let from = p.0 in
    let before : phase < s.phase = omega (arith, lt, from) in
    passes_over actor phase s steps (ne_eqb s.phase phase (λ same. let bad : s.phase ≡ phase = same in omega (arith, before, bad))) ∙ none_before actor phase s.phase steps before p.2

-- the steps in front have the commands of the phase
front_by : (actor phase : ℕ) (s : Step) (steps : List Step) (b : Bool) → (s.phase == phase) ≡ b → phase ≤ s.phase → Ascend s.phase (map stepped steps)
    → (s.phase ≡ phase → commands_of actor (in_front phase steps) ≡ commands_in (map stepped steps) actor phase)
    → commands_of actor (cond b (s ∷ in_front phase steps) []) ≡ commands_in (stepped s ∷ map stepped steps) actor phase
front_by actor phase s steps true at from p rest =
    ap (λ l. cond (s.actor == actor) (seen s.order ∷ l) l) (rest (eqb-true s.phase phase at)) ∙ sym (counts actor phase (stepped s) (map stepped steps) at)
front_by actor phase s steps false at from p rest =
    let apart = false-eqb s.phase phase (sym at) in
    let later : phase < s.phase = omega (arith, from, apart) in
    sym (passes_over actor phase (stepped s) (map stepped steps) at ∙ none_before actor phase s.phase (map stepped steps) later p)

front_commands : (actor phase : ℕ) (steps : List Step) → Ascend phase (map stepped steps) → commands_of actor (in_front phase steps) ≡ commands_in (map stepped steps) actor phase
front_commands actor phase [] p = refl
front_commands actor phase (s ∷ steps) p =
    front_by actor phase s steps (s.phase == phase) refl p.0 p.2 (λ same. front_commands actor phase steps (subst (λ n. Ascend n (map stepped steps)) same p.2))

-- the steps behind have those of all later phases
behind_by : (actor phase q : ℕ) (s : Step) (steps : List Step) (b : Bool) → (s.phase == phase) ≡ b → phase < q
    → (s.phase ≡ phase → commands_in (map stepped (behind phase steps)) actor q ≡ commands_in (map stepped steps) actor q)
    → commands_in (map stepped (cond b (behind phase steps) (s ∷ steps))) actor q ≡ commands_in (stepped s ∷ map stepped steps) actor q
behind_by actor phase q s steps true at lt rest =
    let same : s.phase ≡ phase = eqb-true s.phase phase at in
    rest same ∙ sym (passes_over actor q (stepped s) (map stepped steps) (ne_eqb s.phase q (λ e. let bad : s.phase ≡ q = e in omega (arith, same, bad, lt))))
behind_by actor phase q s steps false at lt rest = refl

behind_commands : (actor phase q : ℕ) (steps : List Step) → phase < q → Ascend phase (map stepped steps) → commands_in (map stepped (behind phase steps)) actor q ≡ commands_in (map stepped steps) actor q
behind_commands actor phase q [] lt p = refl
behind_commands actor phase q (s ∷ steps) lt p =
    behind_by actor phase q s steps (s.phase == phase) refl lt (λ same. behind_commands actor phase q steps lt (subst (λ n. Ascend n (map stepped steps)) same p.2))

-- and their phases go up from the next one
ascends_by : (phase : ℕ) (s : Step) (steps : List Step) (b : Bool) → (s.phase == phase) ≡ b → Ascend phase (stepped s ∷ map stepped steps)
    → (s.phase ≡ phase → Ascend (phase + 1) (map stepped (behind phase steps))) → Ascend (phase + 1) (map stepped (cond b (behind phase steps) (s ∷ steps)))
ascends_by phase s steps true at p rest = rest (eqb-true s.phase phase at)
ascends_by phase s steps false at p rest =
    let apart = false-eqb s.phase phase (sym at) in
    let from = p.0 in
    (omega (arith, from, apart), p.1, p.2)

behind_ascends : (phase : ℕ) (steps : List Step) → Ascend phase (map stepped steps) → Ascend (phase + 1) (map stepped (behind phase steps))
behind_ascends phase [] p = tt
behind_ascends phase (s ∷ steps) p =
    ascends_by phase s steps (s.phase == phase) refl p (λ same. behind_ascends phase steps (subst (λ n. Ascend n (map stepped steps)) same p.2))

same_phases : (actor count n phase : ℕ) (steps : List Step) → phase < n → Ascend phase (map stepped steps)
    → map (commands_in (map stepped (behind phase steps)) actor) (numbers count n) ≡ map (commands_in (map stepped steps) actor) (numbers count n)
same_phases actor zero n phase steps lt p = refl
same_phases actor (suc count) n phase steps lt p =
    ap₂ (λ (x : List Asked) (xs : List (List Asked)). x ∷ xs) (behind_commands actor phase n steps lt p) (same_phases actor count (n + 1) phase steps (omega (arith, lt)) p)

pub chunk_commands : (actor count phase : ℕ) (steps : List Step) → Ascend phase (map stepped steps)
    → map (commands_of actor) (chunks_from count phase steps) ≡ map (commands_in (map stepped steps) actor) (numbers count phase)
chunk_commands actor zero phase steps p = refl
chunk_commands actor (suc count) phase steps p =
    ap₂ (λ (x : List Asked) (xs : List (List Asked)). x ∷ xs) (front_commands actor phase steps p)
    (chunk_commands actor count (phase + 1) (behind phase steps) (behind_ascends phase steps p) ∙ same_phases actor count (phase + 1) phase steps (omega arith) p)

-- the commands by actor and phase
pub all_commands : (actors actor phases : ℕ) (steps : List Step) → Ascend 1 (map stepped steps)
    → scripts_from actors actor (chunks_from phases 1 steps) ≡ map (by_phase phases (map stepped steps)) (numbers actors actor)
all_commands zero actor phases steps p = refl
all_commands (suc actors) actor phases steps p =
    ap₂ (λ (x : List (List Asked)) (xs : List (List (List Asked))). x ∷ xs) (chunk_commands actor phases 1 steps p) (all_commands actors (actor + 1) phases steps p)
