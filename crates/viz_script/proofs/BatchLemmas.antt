-- What a line makes of the batch that an actor has open, and which lines may stand.
use Rattle.std.proofs.Common.{◌≡◌, ◌≢◌, ℕ, ◌+◌, ◌-◌, ◌<◌, ◌≤◌, Bool, true, false, cond, List, [], ◌∷◌, ◌++◌, length, get_or, Option, None, Some, Ok, Err, refl, sym, ap, subst, ◌∙◌, eqb-true, eq-eqb, false-eqb, true≢false, arith}
use Rattle.std.specs.Prelude.{◌==◌, option_map, is_some}
use Rattle.std.specs.List.{range_with_len}
use Rattle.std.proofs.lemmas.Bool.{ne_eqb}
use Rattle.std.proofs.lemmas.List.Folds.{list_any_at}
use Rattle.std.proofs.lemmas.List.FromFn.{get_or-range_with_len}
use Rattle.viz_network.specs.declared.edit.Edit.{Edit}
use Rattle.viz_batches.specs.Batches.{batch_limit}
use Rattle.viz_words.specs.declared.refusal.ScriptRefusal.TheVariants as refusal
use Rattle.viz_script.specs.Orders.{Asked, edit, edits, load, update, audit}
use Rattle.viz_script.specs.Lines.{Line, begins_batch, ends_batch, asks, actor_limit}
use Rattle.viz_script.specs.Batches.{batch_after, open_behind, is_open, some_open, is_endless, is_full, standing}
use Rattle.viz_script.specs.Script.{batch_in}
use Rattle.viz_script.specs.Steps.Heard.{IsActor}

-- ---- what a line makes of a batch

-- the batch of its actor, and those of others
pub yes-is : {A : Type 0} (n : ℕ) (x y : A) → cond (n == n) x y ≡ x
yes-is n x y = ap (λ b. cond b x y) (eq-eqb n n refl)

pub no-is : {A : Type 0} (m n : ℕ) (x y : A) → n ≢ m → cond (m == n) x y ≡ y
no-is m n x y ne = ap (λ b. cond b x y) (ne_eqb m n (λ e. ne (sym e)))

-- an actor is the one of a line, or isn't
pub who : (P : ℕ → Type 0) (actor other : ℕ) → P actor → (other ≢ actor → P other) → P other
who P actor other same differs = by (actor == other) refl
  where
    by : (t : Bool) → (actor == other) ≡ t → P other
    by true e = subst P (eqb-true actor other e) same
    by false e = differs (λ s. false-eqb actor other (sym e) (sym s))

-- a command that stands in no batch leaves them
pub after-alone : (other actor : ℕ) (asked : Asked) (batch : Option (List Edit)) → (other ≡ actor → batch ≡ None) → batch_after other (asks actor asked) batch ≡ batch
after-alone other actor (edit e) batch h =
    who (λ o. (o ≡ actor → batch ≡ None) → cond (actor == o) (option_map (λ es. es ++ e ∷ []) batch) batch ≡ batch) actor other
    (λ g. yes-is actor (option_map (λ es. es ++ e ∷ []) batch) batch ∙ ap (option_map (λ es. es ++ e ∷ [])) (g refl) ∙ sym (g refl))
    (λ ne g. no-is actor other (option_map (λ es. es ++ e ∷ []) batch) batch ne) h
after-alone other actor (edits es) batch h = refl
after-alone other actor (load node file) batch h = refl
after-alone other actor (update node file pieces workers) batch h = refl
after-alone other actor (audit node pieces workers) batch h = refl

-- and adds nothing to one that another actor has begun
pub in-alone : (other actor : ℕ) (asked : Asked) (later : List Line) → other ≢ actor → batch_in other (asks actor asked ∷ later) ≡ batch_in other later
in-alone other actor (edit e) later ne = no-is actor other (e ∷ batch_in other later) (batch_in other later) ne
in-alone other actor (edits es) later ne = refl
in-alone other actor (load node file) later ne = refl
in-alone other actor (update node file pieces workers) later ne = refl
in-alone other actor (audit node pieces workers) later ne = refl

-- no actor has a batch open, where none is
pub none-open : (earlier : List Line) (actor : ℕ) → IsActor actor → some_open earlier ≡ false → is_open actor earlier ≡ false
none-open earlier actor a none = by (is_open actor earlier) refl
  where
    by : (t : Bool) → is_open actor earlier ≡ t → t ≡ false
    by false e = refl
    by true e =
        let low = a.least in
        let high = a.most in
        let at : get_or (range_with_len 1 actor_limit) (actor - 1) 0 ≡ actor = get_or-range_with_len 1 actor_limit (actor - 1) 0 (omega (arith, low, high)) ∙ omega (arith, low) in
        let found : is_open (get_or (range_with_len 1 actor_limit) (actor - 1) 0) earlier ≡ true = ap (λ n. is_open n earlier) at ∙ e in
        absurd (true≢false (sym (list_any_at (λ n. is_open n earlier) (range_with_len 1 actor_limit) (actor - 1) 0 (omega (arith, low, high)) found) ∙ none))

-- ---- lines that may stand

pub stands-begin : (earlier : List Line) (actor : ℕ) → open_behind actor earlier ≡ None → standing earlier (begins_batch actor) ≡ Ok (begins_batch actor)
stands-begin earlier actor h = ap (λ o. cond (is_some o) (Err refusal.Batch) (Ok (begins_batch actor))) h

pub stands-end : (earlier : List Line) (actor : ℕ) (es : List Edit) → open_behind actor earlier ≡ Some es → 1 ≤ length es → standing earlier (ends_batch actor) ≡ Ok (ends_batch actor)
stands-end earlier actor es h some =
    ap (λ o. cond (is_endless o) (Err refusal.Batch) (Ok (ends_batch actor))) h
    ∙ ap (λ b. cond b (Err refusal.Batch) (Ok (ends_batch actor))) (ne_eqb (length es) 0 (λ e. omega (arith, e, some)))

pub stands-edit : (earlier : List Line) (actor : ℕ) (e : Edit) (es : List Edit) → open_behind actor earlier ≡ Some es → length es < batch_limit
    → standing earlier (asks actor (edit e)) ≡ Ok (asks actor (edit e))
stands-edit earlier actor e es h room =
    ap (λ o. cond (is_full o) (Err refusal.Batch) (Ok (asks actor (edit e)))) h
    ∙ ap (λ b. cond b (Err refusal.Batch) (Ok (asks actor (edit e)))) (ne_eqb (length es) 64 (λ s. omega (arith, s, room)))

pub stands-alone : (earlier : List Line) (actor : ℕ) (asked : Asked) → open_behind actor earlier ≡ None → standing earlier (asks actor asked) ≡ Ok (asks actor asked)
stands-alone earlier actor (edit e) h = ap (λ o. cond (is_full o) (Err refusal.Batch) (Ok (asks actor (edit e)))) h
stands-alone earlier actor (edits es) h = ap (λ o. cond (is_some o) (Err refusal.Batch) (Ok (asks actor (edits es)))) h
stands-alone earlier actor (load node file) h = ap (λ o. cond (is_some o) (Err refusal.Batch) (Ok (asks actor (load node file)))) h
stands-alone earlier actor (update node file pieces workers) h =
    ap (λ o. cond (is_some o) (Err refusal.Batch) (Ok (asks actor (update node file pieces workers)))) h
stands-alone earlier actor (audit node pieces workers) h = ap (λ o. cond (is_some o) (Err refusal.Batch) (Ok (asks actor (audit node pieces workers)))) h
