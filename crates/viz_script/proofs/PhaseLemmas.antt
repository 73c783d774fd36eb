-- The phases of a script's steps go up.
use Rattle.std.proofs.Common.{◌≡◌, ℕ, ◌+◌, ◌<◌, ◌≤◌, Bool, true, false, cond, List, [], ◌∷◌, ◌++◌, Ok, refl, sym, subst, false-eqb, arith}
use Rattle.viz_words.specs.Lines.{lines_of}
use Rattle.viz_script.specs.Orders.{Asked, edits}
use Rattle.viz_script.specs.Lines.{Line, silent, begins_phase, begins_batch, ends_batch, asks}
use Rattle.viz_script.specs.Batches.{phase_behind, is_open, breaks_phases}
use Rattle.viz_script.specs.Script.{Stepped, lines_behind, batch_in, step_behind, step_of, steps_behind, script_of}
use Rattle.viz_script.proofs.LineLemmas.{lines-are, none-left, script-is}

-- steps whose phases go up from this one, and are below 65
abbrev pub Ascend : ℕ → List Stepped → Type 0
Ascend phase [] = Unit {0}
Ascend phase (s ∷ steps) = (phase ≤ s.phase) × (s.phase < 65) × Ascend s.phase steps

ascend-before : (low phase : ℕ) (steps : List Stepped) → low ≤ phase → Ascend phase steps → Ascend low steps
ascend-before low phase [] le p = tt
ascend-before low phase (s ∷ steps) le p = (let first = p.0 in omega (arith, le, first), p.1, p.2)

-- a line ends in its phase, or in the next one
phase-next : (earlier : List Line) (line : Line) → phase_behind earlier < 65 → breaks_phases earlier line ≡ false
    → (phase_behind earlier ≤ phase_behind (line ∷ earlier)) × (phase_behind (line ∷ earlier) < 65)
phase-next earlier silent lt h = (omega arith, lt)
phase-next earlier begins_phase lt h =
    let apart = false-eqb (phase_behind earlier) 64 (sym h) in
    (omega arith, omega (arith, lt, apart))
phase-next earlier (begins_batch actor) lt h = (omega arith, lt)
phase-next earlier (ends_batch actor) lt h = (omega arith, lt)
phase-next earlier (asks actor asked) lt h = (omega arith, lt)

-- the step of a line in front of steps that go up
step-ascends : (earlier : List Line) (line : Line) (later : List Line) (steps : List Stepped) → phase_behind earlier < 65
    → Ascend (phase_behind earlier) steps → Ascend (phase_behind earlier) (step_of earlier line later ++ steps)
step-ascends earlier silent later steps lt p = p
step-ascends earlier begins_phase later steps lt p = p
step-ascends earlier (begins_batch actor) later steps lt p = (omega arith, lt, p)
step-ascends earlier (ends_batch actor) later steps lt p = p
step-ascends earlier (asks actor asked) later steps lt p = by (is_open actor earlier)
  where
    by : (t : Bool) → Ascend (phase_behind earlier) (cond t [] (step_behind earlier actor asked ∷ []) ++ steps)
    by true = p
    by false = (omega arith, lt, p)

lines-ascend : (actors : ℕ) (earlier : List Line) (texts : List (List ℕ)) (lines : List Line) → phase_behind earlier < 65 → lines_behind actors earlier texts ≡ Ok lines
    → Ascend (phase_behind earlier) (steps_behind earlier lines)
lines-ascend actors earlier [] lines lt h = subst (λ ls. Ascend (phase_behind earlier) (steps_behind earlier ls)) (sym (none-left actors earlier lines h).1) tt
lines-ascend actors earlier (text ∷ texts) lines lt h =
    let r = lines-are actors earlier text texts lines h in
    let next = phase-next earlier r.line lt r.stands.phases in
    let rest = lines-ascend actors (r.line ∷ earlier) texts r.later next.1 r.rest in
    subst (λ ls. Ascend (phase_behind earlier) (steps_behind earlier ls)) (sym r.are)
    (step-ascends earlier r.line r.later (steps_behind (r.line ∷ earlier) r.later) lt
    (ascend-before (phase_behind earlier) (phase_behind (r.line ∷ earlier)) (steps_behind (r.line ∷ earlier) r.later) next.0 rest))

pub script_ascends : (actors : ℕ) (bytes : List ℕ) (steps : List Stepped) → script_of actors bytes ≡ Ok steps → Ascend 1 steps
script_ascends actors bytes steps h =
    let told = script-is actors bytes steps h in
    subst (Ascend 1) (sym told.same) (lines-ascend actors [] (lines_of bytes) told.lines (omega arith) told.read)
