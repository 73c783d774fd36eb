-- What is kept of the lines that were read stays so from line to line.
use Rattle.std.proofs.Common.{◌≡◌, ◌≢◌, ℕ, zero, suc, ◌+◌, ◌-◌, ◌<◌, ◌≤◌, Bool, true, false, cond, List, [], ◌∷◌, ◌++◌, map, length, get_or, set, Option, None, Some, Result, Ok, Err, refl, sym, ap, ap₂, subst, ◌∙◌, eqb-true, eq-eqb, false-eqb, append_assoc, append-nil, true≢false, flat_map, arith}
use Rattle.std.specs.Prelude.{◌==◌, option_map, is_some}
use Rattle.std.proofs.lemmas.List.{get_or-set_same, get_or-set_other, get_or_append_left, get_or_default, map-append, length-set, length-append}
use Rattle.std.proofs.Math.Seq.{get_or-append_seam}
use Rattle.viz_network.specs.declared.edit.Edit.{Edit}
use Rattle.viz_batches.specs.Batches.{IsBatch, batch_limit}
use Rattle.viz_script.specs.declared.order.Order.{Order}
use Rattle.viz_script.specs.declared.parser.OpenStep.{OpenStep}
use Rattle.viz_script.specs.declared.parser.OpenBatch.{OpenBatch}
use Rattle.viz_script.specs.Orders.{Asked, edit, edits, load, update, audit, seen}
use Rattle.viz_script.specs.Lines.{Line, begins_batch, ends_batch, asks, actor_limit}
use Rattle.viz_script.specs.Batches.{batch_after, open_behind, is_open, phase_behind, some_open, is_endless, is_full, standing}
use Rattle.viz_script.specs.Script.{Stepped, batch_in, step_of, step_behind, steps_behind, steps_of}
use Rattle.viz_script.specs.Steps.Heard.{IsActor}
use Rattle.viz_script.specs.Steps.Parser.{batch_of, edits_of, index_of, so_far, asked_of, finished, with_order, step_with, step_in, in_order, ArePlaced, IsStepOf, IsRead}
use Rattle.viz_script.proofs.BatchLemmas.{who, yes-is, no-is, after-alone, in-alone, none-open}

-- ---- lists

-- two maps that agree at each place
pub map-each : {A B : Type 0} (f g : A → B) (xs : List A) → ((k : ℕ) (d : A) → k < length xs → f (get_or xs k d) ≡ g (get_or xs k d)) → map f xs ≡ map g xs
map-each f g [] h = refl
map-each f g (x ∷ xs) h = ap₂ (λ y ys. y ∷ ys) (h zero x (omega arith)) (map-each f g xs (λ k d lt. h (suc k) d (omega (arith, lt))))

-- and where one item was replaced
pub map-set : {A B : Type 0} (f g : A → B) (xs : List A) (i : ℕ) (y : A) → ((d : A) → f y ≡ g (get_or xs i d))
    → ((k : ℕ) (d : A) → k < length xs → k ≢ i → f (get_or xs k d) ≡ g (get_or xs k d)) → map f (set xs i y) ≡ map g xs
map-set f g [] i y at h = refl
map-set f g (x ∷ xs) zero y at h =
    ap₂ (λ z zs. z ∷ zs) (at x) (map-each f g xs (λ k d lt. h (suc k) d (omega (arith, lt)) (λ e. omega (arith, e))))
map-set f g (x ∷ xs) (suc i) y at h =
    ap₂ (λ z zs. z ∷ zs) (h zero x (omega arith) (λ e. omega (arith, e))) (map-set f g xs i y at (λ k d lt ne. h (suc k) d (omega (arith, lt)) (λ e. ne (omega (arith, e)))))

-- ---- the table of open batches

set-same : (actor : ℕ) (table : List (Option OpenBatch)) (b : Option OpenBatch) → IsActor actor → length table ≡ actor_limit
    → batch_of actor (set table (actor - 1) b) ≡ b
set-same actor table b a wide =
    let low = a.least in
    let high = a.most in
    get_or-set_same table (actor - 1) b None (omega (arith, low, high, wide))

set-other : (actor other : ℕ) (table : List (Option OpenBatch)) (b : Option OpenBatch) → IsActor actor → IsActor other → other ≢ actor
    → batch_of other (set table (actor - 1) b) ≡ batch_of other table
set-other actor other table b a o ne =
    let low = a.least in
    let least = o.least in
    get_or-set_other table (actor - 1) (other - 1) b None (λ e. ne (omega (arith, e, low, least)))

-- ---- steps

-- steps are finished alike where their batches are
asked-same : (f b g d : List Edit) (o : Option Order) → (o ≡ None → f ++ b ≡ g ++ d) → asked_of f b o ≡ asked_of g d o
asked-same f b g d None h = ap edits (h refl)
asked-same f b g d (Some order) h = refl

finished-same : (e1 l1 e2 l2 : List Line) (d : OpenStep)
    → (d.order ≡ None → so_far (open_behind d.actor e1) ++ batch_in d.actor l1 ≡ so_far (open_behind d.actor e2) ++ batch_in d.actor l2)
    → finished e1 l1 d ≡ finished e2 l2 d
finished-same e1 l1 e2 l2 d h =
    let make : Asked → Stepped = λ a. record { phase = d.phase; actor = d.actor; line = d.line; asked = a } in
    ap make (asked-same (so_far (open_behind d.actor e1)) (batch_in d.actor l1) (so_far (open_behind d.actor e2)) (batch_in d.actor l2) d.order h)

step-is : (e later : List Line) (d : OpenStep) (phase actor line : ℕ) (o : Option Order) → d.phase ≡ phase → d.actor ≡ actor → d.line ≡ line → d.order ≡ o
    → finished e later d
    ≡ record { phase = phase; actor = actor; line = line; asked = asked_of (so_far (open_behind actor e)) (batch_in actor later) o }
step-is e later d phase actor line o p a l is =
    let make : ℕ → ℕ → ℕ → Option Order → Stepped =
    λ p n l o. record { phase = p; actor = n; line = l; asked = asked_of (so_far (open_behind n e)) (batch_in n later) o } in
    ap (λ n. make n d.actor d.line d.order) p ∙ ap (λ n. make phase n d.line d.order) a ∙ ap (λ n. make phase actor n d.order) l ∙ ap (make phase actor line) is

-- some step, where there are any
a-step : (steps : List OpenStep) (n : ℕ) → n < length steps → OpenStep
a-step [] n lt = absurd (omega (arith, lt))
a-step (d ∷ ds) n lt = d

-- the steps in front of a new one stay
keeps-step : (actor index : ℕ) (steps : List OpenStep) (d : OpenStep) → IsStepOf actor index steps → IsStepOf actor index (steps ++ d ∷ [])
keeps-step actor index steps d i =
    let lt = i.within in
    let more = length-append steps (d ∷ []) in
    record {
      within = omega (arith, lt, more);
      begun = λ x. ap (λ (y : OpenStep). y.order) (get_or_append_left steps (d ∷ []) x index lt) ∙ i.begun x;
      own = λ x. ap (λ (y : OpenStep). y.actor) (get_or_append_left steps (d ∷ []) x index lt) ∙ i.own x;
    }

-- the new one
new-step : (steps : List OpenStep) (d : OpenStep) → d.order ≡ None → IsStepOf d.actor (length steps) (steps ++ d ∷ [])
new-step steps d none =
    let more = length-append steps (d ∷ []) in
    record {
      within = omega (arith, more);
      begun = λ x. ap (λ (y : OpenStep). y.order) (get_or-append_seam steps d [] x) ∙ none;
      own = λ x. ap (λ (y : OpenStep). y.actor) (get_or-append_seam steps d [] x);
    }

-- a step is one of those in front, or the new one
pub each-step : (P : ℕ → OpenStep → Type 0) (steps : List OpenStep) (d : OpenStep) → ((k : ℕ) (x : OpenStep) → k < length steps → P k (get_or steps k x))
    → P (length steps) d → (k : ℕ) (x : OpenStep) → k < length (steps ++ d ∷ []) → P k (get_or (steps ++ d ∷ []) k x)
each-step P steps d front here k x lt = by (k == length steps) refl
  where
    more : length (steps ++ d ∷ []) ≡ length steps + 1
    more = length-append steps (d ∷ [])

    by : (t : Bool) → (k == length steps) ≡ t → P k (get_or (steps ++ d ∷ []) k x)
    by true e =
        let at : k ≡ length steps = eqb-true k (length steps) e in
        subst (λ n. P n (get_or (steps ++ d ∷ []) n x)) (sym at) (subst (P (length steps)) (sym (get_or-append_seam steps d [] x)) here)
    by false e =
        let ne = false-eqb k (length steps) (sym e) in
        let less : k < length steps = omega (arith, lt, more, ne) in
        subst (P k) (sym (get_or_append_left steps (d ∷ []) x k less)) (front k x less)

-- ---- a batch begins

module _ (earlier : List Line) (phase : ℕ) (steps : List OpenStep) (table : List (Option OpenBatch)) (r : IsRead earlier phase steps table) (actor : ℕ) (a : IsActor actor) where
  -- a step whose actor has no batch open has its order
  differs : batch_of actor table ≡ None → (k : ℕ) (d : OpenStep) → k < length steps → (get_or steps k d).order ≡ None → (get_or steps k d).actor ≢ actor
  differs none k d lt o same =
      let at : index_of (batch_of (get_or steps k d).actor table) ≡ Some k = (r.placed k d lt o).1 in
      let bad : None ≡ Some k = sym (ap index_of none) ∙ ap (λ n. index_of (batch_of n table)) (sym same) ∙ at in
      let worse : ⊥ = cc bad in absurd worse

  pub begins : (b : OpenBatch) (d : OpenStep) → batch_of actor table ≡ None → b.index ≡ length steps → b.edits.items ≡ [] → d.phase ≡ phase → d.actor ≡ actor
      → d.line ≡ length earlier + 1 → d.order ≡ None → IsRead (begins_batch actor ∷ earlier) phase (steps ++ d ∷ []) (set table (actor - 1) (Some b))
  begins b d none index empty its_phase its_actor its_line its_order =
      let now : List (Option OpenBatch) = set table (actor - 1) (Some b) in
      let lines : List Line = begins_batch actor ∷ earlier in
      let here : batch_of actor now ≡ Some b = set-same actor table (Some b) a r.wide in
      let opened : open_behind actor lines ≡ Some [] = yes-is actor (Some []) (open_behind actor earlier) in
      let kept = λ (other : ℕ) (ne : other ≢ actor). no-is actor other (Some []) (open_behind other earlier) ne in
      let alike = λ (later : List Line). map-each (finished lines later) (finished earlier (begins_batch actor ∷ later)) steps (λ k x lt.
      finished-same lines later earlier (begins_batch actor ∷ later) (get_or steps k x) (λ o.
      ap (λ batch. so_far batch ++ batch_in (get_or steps k x).actor later) (kept (get_or steps k x).actor (differs none k x lt o)))) in
      let last = λ (later : List Line). step-is lines later d (phase_behind earlier) actor (length earlier + 1) None (its_phase ∙ r.at_phase) its_actor its_line its_order
      ∙ ap (λ batch. step_behind earlier actor (edits (so_far batch ++ batch_in actor later))) opened in
      record {
        at_phase = r.at_phase;
        few = r.few;
        wide = length-set table (actor - 1) (Some b) ∙ r.wide;
        same = λ other. who (λ n. IsActor n → edits_of (batch_of n now) ≡ open_behind n lines) actor other
            (λ k. ap edits_of here ∙ ap (λ (es : List Edit). Some es) empty ∙ sym opened)
            (λ ne k. ap edits_of (set-other actor other table (Some b) a k ne) ∙ r.same other k ∙ sym (kept other ne));
        sized = λ other. who (λ n. length (so_far (open_behind n lines)) ≤ batch_limit) actor other
            (subst (λ o. length (so_far o) ≤ batch_limit) (sym opened) (omega arith)) (λ ne. subst (λ o. length (so_far o) ≤ batch_limit) (sym (kept other ne)) (r.sized other));
        placed = each-step (λ k x. x.order ≡ None → IsActor x.actor × (index_of (batch_of x.actor now) ≡ Some k)) steps d
            (λ k x lt o. let p = r.placed k x lt o in
            (p.0, ap index_of (set-other actor (get_or steps k x).actor table (Some b) a p.0 (differs none k x lt o)) ∙ p.1))
            (λ o. (subst IsActor (sym its_actor) a, ap (λ n. index_of (batch_of n now)) its_actor ∙ ap index_of here ∙ ap (λ (n : ℕ). Some n) index));
        begun = λ other i. who (λ n. IsActor n → index_of (batch_of n now) ≡ Some i → IsStepOf n i (steps ++ d ∷ [])) actor other
            (λ k e. let found : Some b.index ≡ Some i = sym (ap index_of here) ∙ e in
            let at : length steps ≡ i = sym index ∙ cc found in
            subst (λ n. IsStepOf actor n (steps ++ d ∷ [])) at (subst (λ n. IsStepOf n (length steps) (steps ++ d ∷ [])) its_actor (new-step steps d its_order)))
            (λ ne k e. keeps-step other i steps d (r.begun other i k (sym (ap index_of (set-other actor other table (Some b) a k ne)) ∙ e)));
        drawn = λ later. ap (λ l. l ++ steps_behind lines later)
            (map-append (finished lines later) steps (d ∷ [])
            ∙ ap₂ (λ (l : List Stepped) (s : Stepped). l ++ s ∷ []) (alike later) (last later))
            ∙ append_assoc (map (finished earlier (begins_batch actor ∷ later)) steps) (step_behind earlier actor (edits (batch_in actor later)) ∷ []) (steps_behind lines later)
            ∙ r.drawn (begins_batch actor ∷ later);
      }

  -- ---- it ends

  -- the step of an open batch is its actor's alone
  apart : (b : OpenBatch) → batch_of actor table ≡ Some b → (k : ℕ) (d : OpenStep) → k < length steps → k ≢ b.index → (get_or steps k d).order ≡ None
      → (get_or steps k d).actor ≢ actor
  apart b is k d lt ne o same =
      let at : index_of (batch_of (get_or steps k d).actor table) ≡ Some k = (r.placed k d lt o).1 in
      let both : Some b.index ≡ Some k = sym (ap index_of is) ∙ ap (λ n. index_of (batch_of n table)) (sym same) ∙ at in
      let found : b.index ≡ k = cc both in
      ne (sym found)

  pub ends : (b : OpenBatch) (order : Order) (ds : List OpenStep) → batch_of actor table ≡ Some b → seen order ≡ edits b.edits.items
      → ((d : OpenStep) → ds ≡ set steps b.index (with_order (get_or steps b.index d) order)) → IsRead (ends_batch actor ∷ earlier) phase ds (set table (actor - 1) None)
  ends b order ds is its_order made =
      let now : List (Option OpenBatch) = set table (actor - 1) None in
      let lines : List Line = ends_batch actor ∷ earlier in
      let i = r.begun actor b.index a (ap index_of is) in
      let x : OpenStep = a-step steps b.index i.within in
      let old : OpenStep = get_or steps b.index x in
      let whole : OpenStep = with_order old order in
      let here : batch_of actor now ≡ None = set-same actor table None a r.wide in
      let closed : open_behind actor lines ≡ None = yes-is actor None (open_behind actor earlier) in
      let kept = λ (other : ℕ) (ne : other ≢ actor). no-is actor other None (open_behind other earlier) ne in
      let other-batch = λ (other : ℕ) (ne : other ≢ actor) (later : List Line). no-is actor other [] (batch_in other later) ne in
      let full : so_far (open_behind actor earlier) ≡ b.edits.items = ap so_far (sym (r.same actor a)) ∙ ap (λ o. so_far (edits_of o)) is in
      let mk : Asked → Stepped = λ k. record { phase = old.phase; actor = actor; line = old.line; asked = k } in
      let own = λ (d : OpenStep) (later : List Line).
      step-is lines later whole old.phase actor old.line (Some order) refl (i.own x) refl refl ∙ ap mk its_order
      ∙ sym (ap (finished earlier (ends_batch actor ∷ later)) (get_or_default steps b.index d x i.within)
      ∙ step-is earlier (ends_batch actor ∷ later) old old.phase actor old.line None refl (i.own x) refl (i.begun x)
      ∙ ap (λ f. mk (edits (f ++ batch_in actor (ends_batch actor ∷ later)))) full
      ∙ ap (λ t. mk (edits (b.edits.items ++ t))) (yes-is actor [] (batch_in actor later)) ∙ ap (λ l. mk (edits l)) (append-nil b.edits.items)) in
      let result : IsRead lines phase (set steps b.index whole) now = record {
        at_phase = r.at_phase;
        few = r.few;
        wide = length-set table (actor - 1) None ∙ r.wide;
        same = λ other. who (λ n. IsActor n → edits_of (batch_of n now) ≡ open_behind n lines) actor other
            (λ k. ap edits_of here ∙ sym closed) (λ ne k. ap edits_of (set-other actor other table None a k ne) ∙ r.same other k ∙ sym (kept other ne));
        sized = λ other. who (λ n. length (so_far (open_behind n lines)) ≤ batch_limit) actor other
            (subst (λ o. length (so_far o) ≤ batch_limit) (sym closed) (omega arith)) (λ ne. subst (λ o. length (so_far o) ≤ batch_limit) (sym (kept other ne)) (r.sized other));
        placed = λ k d. who (λ n. n < length (set steps b.index whole) → (get_or (set steps b.index whole) n d).order ≡ None
            → IsActor (get_or (set steps b.index whole) n d).actor × (index_of (batch_of (get_or (set steps b.index whole) n d).actor now) ≡ Some n)) b.index k
            (λ lt o. let bad : Some order ≡ None = sym (ap (λ (y : OpenStep). y.order) (get_or-set_same steps b.index whole d i.within)) ∙ o in
            let worse : ⊥ = cc bad in absurd worse)
            (λ ne lt o. let e : get_or (set steps b.index whole) k d ≡ get_or steps k d = get_or-set_other steps b.index k whole d ne in
            let long = length-set steps b.index whole in
            let within : k < length steps = omega (arith, lt, long) in
            let still : (get_or steps k d).order ≡ None = sym (ap (λ (y : OpenStep). y.order) e) ∙ o in
            let p = r.placed k d within still in
            subst (λ (y : OpenStep). IsActor y.actor × (index_of (batch_of y.actor now) ≡ Some k)) (sym e)
            (p.0, ap index_of (set-other actor (get_or steps k d).actor table None a p.0 (apart b is k d within ne still)) ∙ p.1));
        begun = λ other j. who (λ n. IsActor n → index_of (batch_of n now) ≡ Some j → IsStepOf n j (set steps b.index whole)) actor other
            (λ k e. let bad : None ≡ Some j = sym (ap index_of here) ∙ e in let worse : ⊥ = cc bad in absurd worse)
            (λ ne k e. let d = r.begun other j k (sym (ap index_of (set-other actor other table None a k ne)) ∙ e) in
            let far : j ≢ b.index = λ s. ne (sym (d.own x) ∙ ap (λ n. (get_or steps n x).actor) s ∙ i.own x) in
            let lt = d.within in
            let long = length-set steps b.index whole in
            record {
              within = omega (arith, lt, long);
              begun = λ y. ap (λ (z : OpenStep). z.order) (get_or-set_other steps b.index j whole y far) ∙ d.begun y;
              own = λ y. ap (λ (z : OpenStep). z.actor) (get_or-set_other steps b.index j whole y far) ∙ d.own y;
            });
        drawn = λ later. ap (λ l. l ++ steps_behind lines later)
            (map-set (finished lines later) (finished earlier (ends_batch actor ∷ later)) steps b.index whole (λ d. own d later)
            (λ k d lt ne. finished-same lines later earlier (ends_batch actor ∷ later) (get_or steps k d) (λ none.
            let differ = apart b is k d lt ne none in
            ap₂ (λ o t. so_far o ++ t) (kept (get_or steps k d).actor differ) (sym (other-batch (get_or steps k d).actor differ later)))))
            ∙ r.drawn (ends_batch actor ∷ later);
      } in
      subst (λ l. IsRead lines phase l now) (sym (made x)) result

  -- ---- an edit is added to it

  pub adds : (b b2 : OpenBatch) (e : Edit) → batch_of actor table ≡ Some b → b2.index ≡ b.index → b2.edits.items ≡ b.edits.items ++ e ∷ []
      → length b.edits.items < batch_limit → IsRead (asks actor (edit e) ∷ earlier) phase steps (set table (actor - 1) (Some b2))
  adds b b2 e is its_index its_edits room =
      let now : List (Option OpenBatch) = set table (actor - 1) (Some b2) in
      let line : Line = asks actor (edit e) in
      let lines : List Line = line ∷ earlier in
      let more : Option (List Edit) → Option (List Edit) = option_map (λ es. es ++ e ∷ []) in
      let here : batch_of actor now ≡ Some b2 = set-same actor table (Some b2) a r.wide in
      let full : open_behind actor earlier ≡ Some b.edits.items = sym (r.same actor a) ∙ ap edits_of is in
      let longer : open_behind actor lines ≡ Some (b.edits.items ++ e ∷ []) =
      yes-is actor (more (open_behind actor earlier)) (open_behind actor earlier) ∙ ap more full in
      let kept = λ (other : ℕ) (ne : other ≢ actor). no-is actor other (more (open_behind other earlier)) (open_behind other earlier) ne in
      record {
        at_phase = r.at_phase;
        few = r.few;
        wide = length-set table (actor - 1) (Some b2) ∙ r.wide;
        same = λ other. who (λ n. IsActor n → edits_of (batch_of n now) ≡ open_behind n lines) actor other
            (λ k. ap edits_of here ∙ ap (λ (es : List Edit). Some es) its_edits ∙ sym longer)
            (λ ne k. ap edits_of (set-other actor other table (Some b2) a k ne) ∙ r.same other k ∙ sym (kept other ne));
        sized = λ other. who (λ n. length (so_far (open_behind n lines)) ≤ batch_limit) actor other
            (let long = length-append b.edits.items (e ∷ []) in
            subst (λ o. length (so_far o) ≤ batch_limit) (sym longer) (omega (arith, long, room)))
            (λ ne. subst (λ o. length (so_far o) ≤ batch_limit) (sym (kept other ne)) (r.sized other));
        placed = λ k d lt o. let p = r.placed k d lt o in (
          p.0,
          who (λ n. IsActor n → index_of (batch_of n table) ≡ Some k → index_of (batch_of n now) ≡ Some k) actor (get_or steps k d).actor
              (λ i f. ap index_of here ∙ ap (λ (n : ℕ). Some n) its_index ∙ sym (ap index_of is) ∙ f)
              (λ ne i f. ap index_of (set-other actor (get_or steps k d).actor table (Some b2) a i ne) ∙ f) p.0 p.1,
        );
        begun = λ other j. who (λ n. IsActor n → index_of (batch_of n now) ≡ Some j → IsStepOf n j steps) actor other
            (λ k f. r.begun actor j a (ap index_of is ∙ ap (λ (n : ℕ). Some n) (sym its_index) ∙ sym (ap index_of here) ∙ f))
            (λ ne k f. r.begun other j k (sym (ap index_of (set-other actor other table (Some b2) a k ne)) ∙ f));
        drawn = λ later.
            let behind : ℕ → List Edit = λ n. batch_in n later in
            let each = λ (n : ℕ). who (λ n. so_far (open_behind n lines) ++ behind n ≡ so_far (open_behind n earlier) ++ batch_in n (line ∷ later)) actor n
            (ap (λ o. so_far o ++ behind actor) longer ∙ append_assoc b.edits.items (e ∷ []) (behind actor)
            ∙ ap₂ (λ o t. so_far o ++ t) (sym full) (sym (yes-is actor (e ∷ behind actor) (behind actor))))
            (λ ne. ap₂ (λ o t. so_far o ++ t) (kept n ne) (sym (no-is actor n (e ∷ behind n) (behind n) ne))) in
            ap₂ (λ (l s : List Stepped). l ++ (s ++ steps_behind lines later))
            (map-each (finished lines later) (finished earlier (line ∷ later)) steps
            (λ k d lt. finished-same lines later earlier (line ∷ later) (get_or steps k d) (λ none. each (get_or steps k d).actor)))
            (sym (ap (λ o. cond (is_some o) [] (step_behind earlier actor (edit e) ∷ [])) full))
            ∙ r.drawn (line ∷ later);
      }

  -- ---- a command stands alone

  pub stands : (d : OpenStep) (order : Order) → batch_of actor table ≡ None → d.phase ≡ phase → d.actor ≡ actor → d.line ≡ length earlier + 1
      → d.order ≡ Some order → IsRead (asks actor (seen order) ∷ earlier) phase (steps ++ d ∷ []) table
  stands d order none its_phase its_actor its_line its_order =
      let asked : Asked = seen order in
      let line : Line = asks actor asked in
      let lines : List Line = line ∷ earlier in
      let closed : open_behind actor earlier ≡ None = sym (r.same actor a) ∙ ap edits_of none in
      let kept = λ (other : ℕ). after-alone other actor asked (open_behind other earlier) (λ s. ap (λ n. open_behind n earlier) s ∙ closed) in
      let alike = λ (later : List Line). map-each (finished lines later) (finished earlier (line ∷ later)) steps (λ k x lt.
      finished-same lines later earlier (line ∷ later) (get_or steps k x) (λ o.
      ap₂ (λ b t. so_far b ++ t) (kept (get_or steps k x).actor) (sym (in-alone (get_or steps k x).actor actor asked later (differs none k x lt o))))) in
      record {
        at_phase = r.at_phase;
        few = r.few;
        wide = r.wide;
        same = λ other k. r.same other k ∙ sym (kept other);
        sized = λ other. subst (λ o. length (so_far o) ≤ batch_limit) (sym (kept other)) (r.sized other);
        placed = each-step (λ k x. x.order ≡ None → IsActor x.actor × (index_of (batch_of x.actor table) ≡ Some k)) steps d r.placed
            (λ o. let bad : Some order ≡ None = sym its_order ∙ o in let worse : ⊥ = cc bad in absurd worse);
        begun = λ other j k e. keeps-step other j steps d (r.begun other j k e);
        drawn = λ later. ap (λ l. l ++ steps_behind lines later)
            (map-append (finished lines later) steps (d ∷ [])
            ∙ ap₂ (λ (l : List Stepped) (s : Stepped). l ++ s ∷ []) (alike later)
            (step-is lines later d (phase_behind earlier) actor (length earlier + 1) (Some order) (its_phase ∙ r.at_phase) its_actor its_line its_order))
            ∙ append_assoc (map (finished earlier (line ∷ later)) steps) (step_behind earlier actor asked ∷ []) (steps_behind lines later)
            ∙ ap (λ s. map (finished earlier (line ∷ later)) steps ++ (s ++ steps_behind lines later))
            (sym (ap (λ o. cond (is_some o) [] (step_behind earlier actor asked ∷ [])) closed))
            ∙ r.drawn (line ∷ later);
      }

-- ---- the count of a batch's edits

pub counted-none : (o : Option OpenBatch) → option_map length (edits_of o) ≡ None → o ≡ None
counted-none None h = refl
counted-none (Some b) h = let bad : ⊥ = cc h in absurd bad

pub counted-some : (o : Option OpenBatch) (n : ℕ) → option_map length (edits_of o) ≡ Some n → (b : OpenBatch) × (o ≡ Some b) × (length b.edits.items ≡ n)
counted-some None n h = let bad : ⊥ = cc h in absurd bad
counted-some (Some b) n h = let same : length b.edits.items ≡ n = cc h in (b, refl, same)

-- ---- all lines were read

whole : (d : OpenStep) (o : Order) (e later : List Line) → d.order ≡ Some o → step_in d ≡ finished e later d ∷ []
whole d o e later h =
    let mk : Asked → List Stepped = λ k. record { phase = d.phase; actor = d.actor; line = d.line; asked = k } ∷ [] in
    ap (step_with d) h ∙ sym (ap (λ x. mk (asked_of (so_far (open_behind d.actor e)) (batch_in d.actor later) x)) h)

flat-each : {A B : Type 0} (f : A → List B) (g : A → B) (xs : List A) → ((k : ℕ) (d : A) → k < length xs → f (get_or xs k d) ≡ g (get_or xs k d) ∷ []) → flat_map f xs ≡ map g xs
flat-each f g [] h = refl
flat-each f g (x ∷ xs) h =
    ap₂ (λ y ys. y ++ ys) (h zero x (omega arith)) (flat-each f g xs (λ k d lt. h (suc k) d (omega (arith, lt))))

-- then the steps are those of the lines
pub all-steps : (earlier : List Line) (phase : ℕ) (steps : List OpenStep) (table : List (Option OpenBatch)) → IsRead earlier phase steps table → some_open earlier ≡ false
    → flat_map step_in steps ≡ steps_of (in_order earlier [])
all-steps earlier phase steps table r none =
    flat-each step_in (finished earlier []) steps (λ k d lt. by k d lt (get_or steps k d).order refl)
    ∙ sym (append-nil (map (finished earlier []) steps)) ∙ r.drawn []
  where
    by : (k : ℕ) (d : OpenStep) → k < length steps → (o : Option Order) → (get_or steps k d).order ≡ o → step_in (get_or steps k d) ≡ finished earlier [] (get_or steps k d) ∷ []
    by k d lt (Some o) e = whole (get_or steps k d) o earlier [] e
    by k d lt None e =
        let p = r.placed k d lt e in
        let actor = (get_or steps k d).actor in
        let open_now : is_open actor earlier ≡ true = ap is_some (sym (r.same actor p.0)) ∙ opened (batch_of actor table) k p.1 in
        absurd (true≢false (sym open_now ∙ none-open earlier actor p.0 none))
      where
        opened : (o : Option OpenBatch) (k : ℕ) → index_of o ≡ Some k → is_some (edits_of o) ≡ true
        opened None k h = let bad : ⊥ = cc h in absurd bad
        opened (Some b) k h = refl
