-- An actor's lines are commands and whole batches just where no line breaks a batch.
use Rattle.std.proofs.Common.{◌≡◌, ℕ, ◌+◌, ◌≤◌, Bool, true, false, cond, ◌&&◌, true≢false, List, [], ◌∷◌, ◌++◌, map, length, flat_map, Option, None, Some, refl, sym, ap, subst, ◌∙◌, append_assoc, eqb-true, eq-eqb, false-eqb, length-append, arith}
use Rattle.std.specs.Prelude.{◌==◌, is_some, filter}
use Rattle.std.specs.List.{AllByRecursion}
use Rattle.std.proofs.lemmas.Bool.{ne_eqb}
use Rattle.viz_network.specs.declared.edit.Edit.{Edit}
use Rattle.viz_batches.specs.Batches.{batch_limit}
use Rattle.viz_script.specs.Orders.{Asked, edit, edits, load, update, audit}
use Rattle.viz_script.specs.Lines.{Line, silent, begins_phase, begins_batch, ends_batch, asks}
use Rattle.viz_script.specs.Batches.{batch_after, is_endless, is_full}
use Rattle.viz_script.specs.Steps.Parser.{so_far}
use Rattle.viz_script.proofs.BatchLemmas.{yes-is, after-alone}
use Rattle.viz_script_law.specs.Parts.{Part, phase, command, batch, part_lines, FitsPart, is_own, IsInParts}

-- whether a line breaks the batch that an actor has open, if it has one
abbrev pub breaks : ℕ → Option (List Edit) → Line → Bool
breaks actor now silent = false
breaks actor now begins_phase = is_some now
breaks actor now (begins_batch a) = (a == actor) && is_some now
breaks actor now (ends_batch a) = (a == actor) && is_endless now
breaks actor now (asks a (edit e)) = (a == actor) && is_full now
breaks actor now (asks a asked) = (a == actor) && is_some now

-- none of these lines breaks it, and in the end there is none
abbrev pub Runs : ℕ → Option (List Edit) → List Line → Type 0
Runs actor now [] = now ≡ None
Runs actor now (line ∷ lines) = (breaks actor now line ≡ false) × Runs actor (batch_after actor line now) lines

-- what is left: parts, or the edits that an open batch still gains, its end, and parts
pub data Left : Type 0 where
  free : List Part → Left
  within : List Edit → List Part → Left

abbrev pub left_lines : ℕ → Left → List Line
left_lines actor (free parts) = flat_map (part_lines actor) parts
left_lines actor (within es parts) = map (λ e. asks actor (edit e)) es ++ ends_batch actor ∷ flat_map (part_lines actor) parts

-- a batch is open just where its rest is left, and has 1 to 64 edits with it
abbrev pub Agrees : Option (List Edit) → Left → Type 0
Agrees None (free parts) = AllByRecursion FitsPart parts
Agrees (Some front) (within es parts) = (1 ≤ length front + length es) × (length front + length es ≤ batch_limit) × AllByRecursion FitsPart parts
Agrees now left = ⊥

-- ---- tests

and-false : (t : Bool) → (t && false) ≡ false
and-false true = refl
and-false false = refl

and-left : (t u : Bool) → t ≡ false → (t && u) ≡ false
and-left t u h = ap (λ x. x && u) h

-- the second of two that are false together, where the first is true
and-right : (t u : Bool) → t ≡ true → (t && u) ≡ false → u ≡ false
and-right t u h f = sym (ap (λ x. x && u) h) ∙ f

pub no : {A : Type 0} (t : Bool) (x y : A) → t ≡ false → cond t x y ≡ y
no t x y h = ap (λ b. cond b x y) h

pub yes : {A : Type 0} (t : Bool) (x y : A) → t ≡ true → cond t x y ≡ x
yes t x y h = ap (λ b. cond b x y) h

-- ---- another actor's line

asked-other : (actor a : ℕ) (asked : Asked) (now : Option (List Edit)) → (a == actor) ≡ false
    → (breaks actor now (asks a asked) ≡ false) × (batch_after actor (asks a asked) now ≡ now)
asked-other actor a (edit e) now h = (and-left (a == actor) (is_full now) h, no (a == actor) _ now h)
asked-other actor a (edits es) now h = (and-left (a == actor) (is_some now) h, refl)
asked-other actor a (load node file) now h = (and-left (a == actor) (is_some now) h, refl)
asked-other actor a (update node file pieces workers) now h = (and-left (a == actor) (is_some now) h, refl)
asked-other actor a (audit node pieces workers) now h = (and-left (a == actor) (is_some now) h, refl)

-- it breaks nothing, and leaves the batch
pub other-line : (actor : ℕ) (line : Line) (now : Option (List Edit)) → is_own actor line ≡ false → (breaks actor now line ≡ false) × (batch_after actor line now ≡ now)
other-line actor silent now h = (refl, refl)
other-line actor begins_phase now h = absurd (true≢false h)
other-line actor (begins_batch a) now h = (and-left (a == actor) (is_some now) h, no (a == actor) (Some []) now h)
other-line actor (ends_batch a) now h = (and-left (a == actor) (is_endless now) h, no (a == actor) None now h)
other-line actor (asks a asked) now h = asked-other actor a asked now h

-- ---- parts break nothing

alone-breaks : (actor : ℕ) (asked : Asked) → breaks actor None (asks actor asked) ≡ false
alone-breaks actor (edit e) = and-false (actor == actor)
alone-breaks actor (edits es) = and-false (actor == actor)
alone-breaks actor (load node file) = and-false (actor == actor)
alone-breaks actor (update node file pieces workers) = and-false (actor == actor)
alone-breaks actor (audit node pieces workers) = and-false (actor == actor)

-- the lines behind a line of the actor
Behind : ℕ → List Line → Type 0
Behind actor lines = (now : Option (List Edit)) (left : Left) → filter (is_own actor) lines ≡ left_lines actor left → Agrees now left → Runs actor now lines

-- a line that breaks nothing, and those behind it
goes : (actor : ℕ) (line told : Line) (lines : List Line) (now next : Option (List Edit)) → line ≡ told → breaks actor now told ≡ false → batch_after actor told now ≡ next
    → Runs actor next lines → Runs actor now (line ∷ lines)
goes actor line told lines now next is whole after runs =
    subst (λ l. Runs actor now (l ∷ lines)) (sym is) (whole, subst (λ b. Runs actor b lines) (sym after) runs)

own-line : (actor : ℕ) (line : Line) (lines : List Line) (now : Option (List Edit)) (left : Left) → line ∷ filter (is_own actor) lines ≡ left_lines actor left → Agrees now left
    → Behind actor lines → Runs actor now (line ∷ lines)
unfolding Behind
own-line actor line lines None (free []) h a ih = let bad : ⊥ = cc h in absurd bad
own-line actor line lines None (free (phase ∷ parts)) h a ih =
    let is : line ≡ begins_phase = cc h in
    let rest : filter (is_own actor) lines ≡ flat_map (part_lines actor) parts = cc h in
    goes actor line begins_phase lines None None is refl refl (ih None (free parts) rest a.1)
own-line actor line lines None (free (command asked ∷ parts)) h a ih =
    let is : line ≡ asks actor asked = cc h in
    let rest : filter (is_own actor) lines ≡ flat_map (part_lines actor) parts = cc h in
    goes actor line (asks actor asked) lines None None is (alone-breaks actor asked) (after-alone actor actor asked None (λ s. refl)) (ih None (free parts) rest a.1)
own-line actor line lines None (free (batch es ∷ parts)) h a ih =
    let is : line ≡ begins_batch actor = cc h in
    let rest : filter (is_own actor) lines ≡ (map (λ e. asks actor (edit e)) es ++ ends_batch actor ∷ []) ++ flat_map (part_lines actor) parts = cc h in
    let whole : filter (is_own actor) lines ≡ left_lines actor (within es parts) =
    rest ∙ append_assoc (map (λ e. asks actor (edit e)) es) (ends_batch actor ∷ []) (flat_map (part_lines actor) parts) in
    let some = a.0.some in
    let few = a.0.few in
    goes actor line (begins_batch actor) lines None (Some []) is (and-false (actor == actor)) (yes-is actor (Some []) None)
    (ih (Some []) (within es parts) whole (omega (arith, some), omega (arith, few), a.1))
own-line actor line lines None (within es parts) h a ih = absurd a
own-line actor line lines (Some front) (free parts) h a ih = absurd a
own-line actor line lines (Some front) (within [] parts) h a ih =
    let is : line ≡ ends_batch actor = cc h in
    let rest : filter (is_own actor) lines ≡ flat_map (part_lines actor) parts = cc h in
    let some = a.0 in
    let whole : (length front == 0) ≡ false = ne_eqb (length front) 0 (λ e. omega (arith, e, some)) in
    goes actor line (ends_batch actor) lines (Some front) None is (ap (λ x. (actor == actor) && x) whole ∙ and-false (actor == actor)) (yes-is actor None (Some front))
    (ih None (free parts) rest a.2)
own-line actor line lines (Some front) (within (e ∷ es) parts) h a ih =
    let is : line ≡ asks actor (edit e) = cc h in
    let rest : filter (is_own actor) lines ≡ left_lines actor (within es parts) = cc h in
    let many = a.1 in
    let long = length-append front (e ∷ []) in
    let room : (length front == 64) ≡ false = ne_eqb (length front) 64 (λ s. omega (arith, s, many)) in
    goes actor line (asks actor (edit e)) lines (Some front) (Some (front ++ e ∷ [])) is (ap (λ x. (actor == actor) && x) room ∙ and-false (actor == actor))
    (yes-is actor (Some (front ++ e ∷ [])) (Some front))
    (ih (Some (front ++ e ∷ [])) (within es parts) rest (omega (arith, long), omega (arith, long, many), a.2))

parts-run : (actor : ℕ) (lines : List Line) → Behind actor lines
unfolding Behind
parts-run actor [] None (free parts) h a = refl
parts-run actor [] None (within es parts) h a = absurd a
parts-run actor [] (Some front) (free parts) h a = absurd a
parts-run actor [] (Some front) (within [] parts) h a = let bad : ⊥ = cc h in absurd bad
parts-run actor [] (Some front) (within (e ∷ es) parts) h a = let bad : ⊥ = cc h in absurd bad
parts-run actor (line ∷ lines) now left h a = by (is_own actor line) refl (parts-run actor lines)
  where
    by : (t : Bool) → is_own actor line ≡ t → Behind actor lines → Runs actor now (line ∷ lines)
    by true e ih = own-line actor line lines now left (sym (yes (is_own actor line) (line ∷ filter (is_own actor) lines) (filter (is_own actor) lines) e) ∙ h) a ih
    by false e ih =
        let o = other-line actor line now e in
        goes actor line line lines now now refl o.0 o.1
        (ih now left (sym (no (is_own actor line) (line ∷ filter (is_own actor) lines) (filter (is_own actor) lines) e) ∙ h) a)

-- ---- lines that break nothing are parts

-- what these lines are, where this batch is open in front of them
record IsLeft (actor : ℕ) (now : Option (List Edit)) (lines : List Line) : Type 0 where
  pub left : Left
  pub are : filter (is_own actor) lines ≡ left_lines actor left
  pub agrees : Agrees now left

-- the same, where the first of them is the actor's
record IsOwn (actor : ℕ) (now : Option (List Edit)) (line : Line) (lines : List Line) : Type 0 where
  pub left : Left
  pub are : line ∷ filter (is_own actor) lines ≡ left_lines actor left
  pub agrees : Agrees now left

-- an open batch has at most 64 edits
Small : Option (List Edit) → Type 0
Small now = length (so_far now) ≤ batch_limit

-- parts are left where no batch is open
free-left : (actor : ℕ) (lines : List Line) → IsLeft actor None lines
    → (parts : List Part) × (filter (is_own actor) lines ≡ flat_map (part_lines actor) parts) × AllByRecursion FitsPart parts
free-left actor lines l = by l.left l.are l.agrees
  where
    by : (left : Left) → filter (is_own actor) lines ≡ left_lines actor left → Agrees None left
        → (parts : List Part) × (filter (is_own actor) lines ≡ flat_map (part_lines actor) parts) × AllByRecursion FitsPart parts
    by (free parts) e a = (parts, e, a)
    by (within es parts) e a = absurd a

-- and the rest of a batch where one is
within-left : (actor : ℕ) (front : List Edit) (lines : List Line) → IsLeft actor (Some front) lines
    → (es : List Edit) × (parts : List Part) × (filter (is_own actor) lines ≡ left_lines actor (within es parts)) × Agrees (Some front) (within es parts)
within-left actor front lines l = by l.left l.are l.agrees
  where
    by : (left : Left) → filter (is_own actor) lines ≡ left_lines actor left → Agrees (Some front) left
        → (es : List Edit) × (parts : List Part) × (filter (is_own actor) lines ≡ left_lines actor (within es parts)) × Agrees (Some front) (within es parts)
    by (free parts) e a = absurd a
    by (within es parts) e a = (es, parts, e, a)

-- what the lines behind are, in each state
Next : ℕ → List Line → Type 0
Next actor lines = (now : Option (List Edit)) → Small now → Runs actor now lines → IsLeft actor now lines

small-none : Small None
unfolding Small
small-none = omega arith

-- a command that breaks nothing stands alone, or is an edit of the open batch
asked-own : (actor : ℕ) (asked : Asked) (lines : List Line) (now : Option (List Edit)) → Small now → breaks actor now (asks actor asked) ≡ false
    → Runs actor (batch_after actor (asks actor asked) now) lines → Next actor lines → IsOwn actor now (asks actor asked) lines
unfolding Small Next
asked-own actor asked lines None small whole runs ih =
    let rest = free-left actor lines (ih None small-none (subst (λ b. Runs actor b lines) (after-alone actor actor asked None (λ s. refl)) runs)) in
    record { left = free (command asked ∷ rest.0); are = ap (λ l. asks actor asked ∷ l) rest.1; agrees = (tt, rest.2) }
asked-own actor (edit e) lines (Some front) small whole runs ih =
    let room : (length front == 64) ≡ false = and-right (actor == actor) (length front == 64) (eq-eqb actor actor refl) whole in
    let apart = false-eqb (length front) 64 (sym room) in
    let long = length-append front (e ∷ []) in
    let next : length (front ++ e ∷ []) ≤ batch_limit = omega (arith, long, small, apart) in
    let rest = within-left actor (front ++ e ∷ []) lines (ih (Some (front ++ e ∷ [])) next
    (subst (λ b. Runs actor b lines) (yes-is actor (Some (front ++ e ∷ [])) (Some front)) runs)) in
    let some = rest.3.0 in
    let few = rest.3.1 in
    record {
      left = within (e ∷ rest.0) rest.1;
      are = ap (λ l. asks actor (edit e) ∷ l) rest.2;
      agrees = (omega (arith, long, some), omega (arith, long, few), rest.3.2);
    }
asked-own actor (edits es) lines (Some front) small whole runs ih = absurd (true≢false (and-right (actor == actor) true (eq-eqb actor actor refl) whole))
asked-own actor (load node file) lines (Some front) small whole runs ih = absurd (true≢false (and-right (actor == actor) true (eq-eqb actor actor refl) whole))
asked-own actor (update node file pieces workers) lines (Some front) small whole runs ih =
    absurd (true≢false (and-right (actor == actor) true (eq-eqb actor actor refl) whole))
asked-own actor (audit node pieces workers) lines (Some front) small whole runs ih = absurd (true≢false (and-right (actor == actor) true (eq-eqb actor actor refl) whole))

begin-own : (actor : ℕ) (lines : List Line) (now : Option (List Edit)) → breaks actor now (begins_batch actor) ≡ false
    → Runs actor (batch_after actor (begins_batch actor) now) lines → Next actor lines → IsOwn actor now (begins_batch actor) lines
unfolding Small Next
begin-own actor lines None whole runs ih =
    let rest = within-left actor [] lines (ih (Some []) (omega arith) (subst (λ b. Runs actor b lines) (yes-is actor (Some []) None) runs)) in
    let some = rest.3.0 in
    let few = rest.3.1 in
    record {
      left = free (batch rest.0 ∷ rest.1);
      are = ap (λ l. begins_batch actor ∷ l)
          (rest.2 ∙ sym (append_assoc (map (λ e. asks actor (edit e)) rest.0) (ends_batch actor ∷ []) (flat_map (part_lines actor) rest.1)));
      agrees = (record { some = omega (arith, some); few = omega (arith, few) }, rest.3.2);
    }
begin-own actor lines (Some front) whole runs ih = absurd (true≢false (and-right (actor == actor) true (eq-eqb actor actor refl) whole))

end-own : (actor : ℕ) (lines : List Line) (now : Option (List Edit)) → Small now → breaks actor now (ends_batch actor) ≡ false
    → Runs actor (batch_after actor (ends_batch actor) now) lines → Next actor lines → IsOwn actor now (ends_batch actor) lines
unfolding Small Next
end-own actor lines None small whole runs ih = absurd (true≢false (and-right (actor == actor) true (eq-eqb actor actor refl) whole))
end-own actor lines (Some front) small whole runs ih =
    let some : (length front == 0) ≡ false = and-right (actor == actor) (length front == 0) (eq-eqb actor actor refl) whole in
    let apart = false-eqb (length front) 0 (sym some) in
    let rest = free-left actor lines (ih None small-none (subst (λ b. Runs actor b lines) (yes-is actor None (Some front)) runs)) in
    record { left = within [] rest.0; are = ap (λ l. ends_batch actor ∷ l) rest.1; agrees = (omega (arith, apart), omega (arith, small), rest.2) }

phase-own : (actor : ℕ) (lines : List Line) (now : Option (List Edit)) → is_some now ≡ false → Runs actor now lines → Next actor lines → IsOwn actor now begins_phase lines
unfolding Small Next
phase-own actor lines None whole runs ih =
    let rest = free-left actor lines (ih None small-none runs) in
    record { left = free (phase ∷ rest.0); are = ap (λ l. begins_phase ∷ l) rest.1; agrees = (tt, rest.2) }
phase-own actor lines (Some front) whole runs ih = absurd (true≢false whole)

line-own : (actor : ℕ) (line : Line) (lines : List Line) (now : Option (List Edit)) → is_own actor line ≡ true → Small now → breaks actor now line ≡ false
    → Runs actor (batch_after actor line now) lines → Next actor lines → IsOwn actor now line lines
line-own actor silent lines now own small whole runs ih = absurd (true≢false (sym own))
line-own actor begins_phase lines now own small whole runs ih = phase-own actor lines now whole runs ih
line-own actor (begins_batch a) lines now own small whole runs ih =
    let same : a ≡ actor = eqb-true a actor own in
    subst (λ n. breaks actor now (begins_batch n) ≡ false → Runs actor (batch_after actor (begins_batch n) now) lines → IsOwn actor now (begins_batch n) lines) (sym same)
    (λ w r. begin-own actor lines now w r ih) whole runs
line-own actor (ends_batch a) lines now own small whole runs ih =
    let same : a ≡ actor = eqb-true a actor own in
    subst (λ n. breaks actor now (ends_batch n) ≡ false → Runs actor (batch_after actor (ends_batch n) now) lines → IsOwn actor now (ends_batch n) lines) (sym same)
    (λ w r. end-own actor lines now small w r ih) whole runs
line-own actor (asks a asked) lines now own small whole runs ih =
    let same : a ≡ actor = eqb-true a actor own in
    subst (λ n. breaks actor now (asks n asked) ≡ false → Runs actor (batch_after actor (asks n asked) now) lines → IsOwn actor now (asks n asked) lines) (sym same)
    (λ w r. asked-own actor asked lines now small w r ih) whole runs

run-parts : (actor : ℕ) (lines : List Line) → Next actor lines
unfolding Small Next
run-parts actor [] now small runs = subst (λ b. IsLeft actor b []) (sym runs) (record { left = free []; are = refl; agrees = tt })
run-parts actor (line ∷ lines) now small runs = by (is_own actor line) refl (run-parts actor lines)
  where
    by : (t : Bool) → is_own actor line ≡ t → Next actor lines → IsLeft actor now (line ∷ lines)
    by true e ih =
        let o = line-own actor line lines now e small runs.0 runs.1 ih in
        record { left = o.left; are = yes (is_own actor line) (line ∷ filter (is_own actor) lines) (filter (is_own actor) lines) e ∙ o.are; agrees = o.agrees }
    by false e ih =
        let l = ih now small (subst (λ b. Runs actor b lines) (other-line actor line now e).1 runs.1) in
        record { left = l.left; are = no (is_own actor line) (line ∷ filter (is_own actor) lines) (filter (is_own actor) lines) e ∙ l.are; agrees = l.agrees }

-- lines that break nothing, with no batch open in front of them
pub run-is : (actor : ℕ) (lines : List Line) → Runs actor None lines → IsInParts actor lines
unfolding Small Next
run-is actor lines runs =
    let rest = free-left actor lines (run-parts actor lines None small-none runs) in
    record { parts = rest.0; are = rest.1; fit = rest.2 }

pub parts-are : (actor : ℕ) (lines : List Line) → IsInParts actor lines → Runs actor None lines
unfolding Behind
parts-are actor lines p = parts-run actor lines None (free p.parts) p.are p.fit
