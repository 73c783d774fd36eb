-- The steps of an actor's lines are the commands of its parts.
use Rattle.std.proofs.Common.{◌≡◌, ℕ, ◌+◌, Bool, true, false, cond, true≢false, List, [], ◌∷◌, ◌++◌, map, flat_map, Option, None, Some, refl, sym, ap, subst, ◌∙◌, append_assoc}
use Rattle.std.specs.Prelude.{◌==◌, is_some, filter}
use Rattle.viz_network.specs.declared.edit.Edit.{Edit}
use Rattle.viz_script.specs.Orders.{Asked, edit, edits, load, update, audit}
use Rattle.viz_script.specs.Lines.{Line, silent, begins_phase, begins_batch, ends_batch, asks}
use Rattle.viz_script.specs.Batches.{phase_behind, batch_after, open_behind, is_open}
use Rattle.viz_script.specs.Script.{Stepped, batch_in, step_behind, step_of, steps_behind, steps_of}
use Rattle.viz_script.proofs.BatchLemmas.{yes-is, after-alone}
use Rattle.viz_script_law.specs.Parts.{Part, phase, command, batch, part_lines, is_own, IsInParts, commands_in}
use Rattle.viz_script_law.specs.Says.{commands_by}
use Rattle.viz_script_law.proofs.PartLemmas.{Left, free, within, left_lines, other-line, yes, no}

-- the commands of what is left, where the first part of it stands in this phase
abbrev left_commands : ℕ → Left → List (ℕ × Asked)
left_commands p (free parts) = commands_in p parts
left_commands p (within es parts) = commands_in p parts

-- a batch is open just where its rest is left
abbrev Fits : Option (List Edit) → Left → Type 0
Fits None (free parts) = Unit {0}
Fits (Some front) (within es parts) = Unit {0}
Fits now left = ⊥

-- ---- the edits of a batch

-- another actor's line adds none
asked-adds : (actor a : ℕ) (asked : Asked) (later : List Line) → (a == actor) ≡ false → batch_in actor (asks a asked ∷ later) ≡ batch_in actor later
asked-adds actor a (edit e) later h = no (a == actor) (e ∷ batch_in actor later) (batch_in actor later) h
asked-adds actor a (edits es) later h = refl
asked-adds actor a (load node file) later h = refl
asked-adds actor a (update node file pieces workers) later h = refl
asked-adds actor a (audit node pieces workers) later h = refl

other-adds : (actor : ℕ) (line : Line) (later : List Line) → is_own actor line ≡ false → batch_in actor (line ∷ later) ≡ batch_in actor later
other-adds actor silent later h = refl
other-adds actor begins_phase later h = refl
other-adds actor (begins_batch a) later h = refl
other-adds actor (ends_batch a) later h = no (a == actor) [] (batch_in actor later) h
other-adds actor (asks a asked) later h = asked-adds actor a asked later h

batch-is : (actor : ℕ) (lines : List Line) (es : List Edit) (parts : List Part) → filter (is_own actor) lines ≡ left_lines actor (within es parts) → batch_in actor lines ≡ es
batch-is actor [] [] parts h = let bad : ⊥ = cc h in absurd bad
batch-is actor [] (e ∷ es) parts h = let bad : ⊥ = cc h in absurd bad
batch-is actor (line ∷ lines) es parts h = by (is_own actor line) refl (batch-is actor lines)
  where
    own : (left : List Edit) → line ∷ filter (is_own actor) lines ≡ left_lines actor (within left parts)
        → ((es : List Edit) (parts : List Part) → filter (is_own actor) lines ≡ left_lines actor (within es parts) → batch_in actor lines ≡ es) → batch_in actor (line ∷ lines) ≡ left
    own [] g ih =
        let is : line ≡ ends_batch actor = cc g in
        ap (λ l. batch_in actor (l ∷ lines)) is ∙ yes-is actor [] (batch_in actor lines)
    own (e ∷ left) g ih =
        let is : line ≡ asks actor (edit e) = cc g in
        let rest : filter (is_own actor) lines ≡ left_lines actor (within left parts) = cc g in
        ap (λ l. batch_in actor (l ∷ lines)) is ∙ yes-is actor (e ∷ batch_in actor lines) (batch_in actor lines) ∙ ap (λ l. e ∷ l) (ih left parts rest)

    by : (t : Bool) → is_own actor line ≡ t
        → ((es : List Edit) (parts : List Part) → filter (is_own actor) lines ≡ left_lines actor (within es parts) → batch_in actor lines ≡ es) → batch_in actor (line ∷ lines) ≡ es
    by true e ih = own es (sym (yes (is_own actor line) (line ∷ filter (is_own actor) lines) (filter (is_own actor) lines) e) ∙ h) ih
    by false e ih =
        other-adds actor line lines e ∙ ih es parts (sym (no (is_own actor line) (line ∷ filter (is_own actor) lines) (filter (is_own actor) lines) e) ∙ h)

-- ---- the commands

-- another actor's line has none, and leaves the phase
other-step : (actor : ℕ) (earlier : List Line) (line : Line) (later : List Line) (steps : List Stepped) → is_own actor line ≡ false
    → (commands_by actor (step_of earlier line later ++ steps) ≡ commands_by actor steps) × (phase_behind (line ∷ earlier) ≡ phase_behind earlier)
other-step actor earlier silent later steps h = (refl, refl)
other-step actor earlier begins_phase later steps h = absurd (true≢false h)
other-step actor earlier (begins_batch a) later steps h =
    (no (a == actor) ((phase_behind earlier, edits (batch_in a later)) ∷ commands_by actor steps) (commands_by actor steps) h, refl)
other-step actor earlier (ends_batch a) later steps h = (refl, refl)
other-step actor earlier (asks a asked) later steps h = (by (is_open a earlier), refl)
  where
    by : (t : Bool) → commands_by actor (cond t [] (step_behind earlier a asked ∷ []) ++ steps) ≡ commands_by actor steps
    by true = refl
    by false = no (a == actor) ((phase_behind earlier, asked) ∷ commands_by actor steps) (commands_by actor steps) h

-- the lines behind those in front and one more
Rest : ℕ → List Line → List Line → Type 0
Rest actor earlier lines = (left : Left) → filter (is_own actor) lines ≡ left_lines actor left → Fits (open_behind actor earlier) left
    → commands_by actor (steps_behind earlier lines) ≡ left_commands (phase_behind earlier) left

-- the first of these lines is the actor's
own-step : (actor : ℕ) (earlier : List Line) (line : Line) (lines : List Line) (now : Option (List Edit)) → open_behind actor earlier ≡ now → (left : Left)
    → line ∷ filter (is_own actor) lines ≡ left_lines actor left → Fits now left → Rest actor (line ∷ earlier) lines
    → commands_by actor (steps_behind earlier (line ∷ lines)) ≡ left_commands (phase_behind earlier) left
unfolding Rest
own-step actor earlier line lines None o (free []) h f ih = let bad : ⊥ = cc h in absurd bad
own-step actor earlier line lines None o (free (phase ∷ parts)) h f ih =
    let is : begins_phase ≡ line = cc h in
    let rest : filter (is_own actor) lines ≡ flat_map (part_lines actor) parts = cc h in
    let Is : Line → Type 0 = λ l. Rest actor (l ∷ earlier) lines → commands_by actor (steps_behind earlier (l ∷ lines)) ≡ commands_in (phase_behind earlier + 1) parts in
    subst Is is (λ r. r (free parts) rest (subst (λ b. Fits b (free parts)) (sym o) tt)) ih
own-step actor earlier line lines None o (free (command asked ∷ parts)) h f ih =
    let is : asks actor asked ≡ line = cc h in
    let rest : filter (is_own actor) lines ≡ flat_map (part_lines actor) parts = cc h in
    let here : ℕ × Asked = (phase_behind earlier, asked) in
    let next : open_behind actor (asks actor asked ∷ earlier) ≡ None = after-alone actor actor asked (open_behind actor earlier) (λ s. o) ∙ o in
    let Is : Line → Type 0 = λ l. Rest actor (l ∷ earlier) lines → commands_by actor (steps_behind earlier (l ∷ lines)) ≡ here ∷ commands_in (phase_behind earlier) parts in
    let steps = steps_behind (asks actor asked ∷ earlier) lines in
    subst Is is (λ r.
    ap (λ b. commands_by actor (cond (is_some b) [] (step_behind earlier actor asked ∷ []) ++ steps)) o
    ∙ yes-is actor (here ∷ commands_by actor steps) (commands_by actor steps)
    ∙ ap (λ l. here ∷ l) (r (free parts) rest (subst (λ b. Fits b (free parts)) (sym next) tt))) ih
own-step actor earlier line lines None o (free (batch es ∷ parts)) h f ih =
    let is : begins_batch actor ≡ line = cc h in
    let split : filter (is_own actor) lines ≡ (map (λ e. asks actor (edit e)) es ++ ends_batch actor ∷ []) ++ flat_map (part_lines actor) parts = cc h in
    let rest : filter (is_own actor) lines ≡ left_lines actor (within es parts) =
    split ∙ append_assoc (map (λ e. asks actor (edit e)) es) (ends_batch actor ∷ []) (flat_map (part_lines actor) parts) in
    let steps = steps_behind (begins_batch actor ∷ earlier) lines in
    let next : open_behind actor (begins_batch actor ∷ earlier) ≡ Some [] = yes-is actor (Some []) (open_behind actor earlier) in
    let Is : Line → Type 0 = λ l. Rest actor (l ∷ earlier) lines
    → commands_by actor (steps_behind earlier (l ∷ lines)) ≡ (phase_behind earlier, edits es) ∷ commands_in (phase_behind earlier) parts in
    subst Is is (λ r.
    yes-is actor ((phase_behind earlier, edits (batch_in actor lines)) ∷ commands_by actor steps) (commands_by actor steps)
    ∙ ap (λ x. (phase_behind earlier, edits x) ∷ commands_by actor steps) (batch-is actor lines es parts rest)
    ∙ ap (λ l. (phase_behind earlier, edits es) ∷ l) (r (within es parts) rest (subst (λ b. Fits b (within es parts)) (sym next) tt))) ih
own-step actor earlier line lines None o (within es parts) h f ih = absurd f
own-step actor earlier line lines (Some front) o (free parts) h f ih = absurd f
own-step actor earlier line lines (Some front) o (within [] parts) h f ih =
    let is : ends_batch actor ≡ line = cc h in
    let rest : filter (is_own actor) lines ≡ flat_map (part_lines actor) parts = cc h in
    let next : open_behind actor (ends_batch actor ∷ earlier) ≡ None = yes-is actor None (open_behind actor earlier) in
    let Is : Line → Type 0 = λ l. Rest actor (l ∷ earlier) lines → commands_by actor (steps_behind earlier (l ∷ lines)) ≡ commands_in (phase_behind earlier) parts in
    subst Is is (λ r. r (free parts) rest (subst (λ b. Fits b (free parts)) (sym next) tt)) ih
own-step actor earlier line lines (Some front) o (within (e ∷ es) parts) h f ih =
    let is : asks actor (edit e) ≡ line = cc h in
    let rest : filter (is_own actor) lines ≡ left_lines actor (within es parts) = cc h in
    let next : open_behind actor (asks actor (edit e) ∷ earlier) ≡ Some (front ++ e ∷ []) =
    ap (batch_after actor (asks actor (edit e))) o ∙ yes-is actor (Some (front ++ e ∷ [])) (Some front) in
    let Is : Line → Type 0 = λ l. Rest actor (l ∷ earlier) lines → commands_by actor (steps_behind earlier (l ∷ lines)) ≡ commands_in (phase_behind earlier) parts in
    let steps = steps_behind (asks actor (edit e) ∷ earlier) lines in
    subst Is is (λ r.
    ap (λ b. commands_by actor (cond (is_some b) [] (step_behind earlier actor (edit e) ∷ []) ++ steps)) o
    ∙ r (within es parts) rest (subst (λ b. Fits b (within es parts)) (sym next) tt)) ih

all-commands : (actor : ℕ) (earlier lines : List Line) → Rest actor earlier lines
unfolding Rest
all-commands actor earlier [] left h f = by (open_behind actor earlier) left h f
  where
    by : (now : Option (List Edit)) (left : Left) → [] ≡ left_lines actor left → Fits now left → [] ≡ left_commands (phase_behind earlier) left
    by None (free []) g f = refl
    by None (free (phase ∷ parts)) g f = let bad : ⊥ = cc g in absurd bad
    by None (free (command asked ∷ parts)) g f = let bad : ⊥ = cc g in absurd bad
    by None (free (batch es ∷ parts)) g f = let bad : ⊥ = cc g in absurd bad
    by None (within es parts) g f = absurd f
    by (Some front) (free parts) g f = absurd f
    by (Some front) (within [] parts) g f = let bad : ⊥ = cc g in absurd bad
    by (Some front) (within (e ∷ es) parts) g f = let bad : ⊥ = cc g in absurd bad
all-commands actor earlier (line ∷ lines) left h f = by (is_own actor line) refl (all-commands actor (line ∷ earlier) lines)
  where
    by : (t : Bool) → is_own actor line ≡ t → Rest actor (line ∷ earlier) lines → commands_by actor (steps_behind earlier (line ∷ lines)) ≡ left_commands (phase_behind earlier) left
    by true e ih =
        own-step actor earlier line lines (open_behind actor earlier) refl left
        (sym (yes (is_own actor line) (line ∷ filter (is_own actor) lines) (filter (is_own actor) lines) e) ∙ h) f ih
    by false e ih =
        let s = other-step actor earlier line lines (steps_behind (line ∷ earlier) lines) e in
        let rest = sym (no (is_own actor line) (line ∷ filter (is_own actor) lines) (filter (is_own actor) lines) e) ∙ h in
        let stays = (other-line actor line (open_behind actor earlier) e).1 in
        s.0 ∙ ih left rest (subst (λ b. Fits b left) (sym stays) f) ∙ ap (λ p. left_commands p left) s.1

-- the commands of an actor are those of its parts
pub parts-asked : (actor : ℕ) (lines : List Line) (p : IsInParts actor lines) → commands_by actor (steps_of lines) ≡ commands_in 1 p.parts
unfolding Rest
parts-asked actor lines p = all-commands actor [] lines (free p.parts) p.are tt
