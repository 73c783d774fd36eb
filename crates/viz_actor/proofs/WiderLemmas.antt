-- What is told of an actor by some passes is told of it by more.
use Rattle.std.proofs.Common.{◌≡◌, ℕ, ◌+◌, Bool, true, false, not, cond, ◌||◌, List, [], ◌∷◌, refl, ap, ap₂, ◌==◌}
use Rattle.std.proofs.lemmas.Bool.{and_parts, not-true}
use Rattle.viz_base.specs.declared.call.Call.{Call}
use Rattle.viz_network.specs.declared.edit.Edit.{Edit}
use Rattle.viz_network.specs.declared.edit.Edit.TheVariants.{Load}
use Rattle.viz_turn.specs.Tales.{has, clear}
use Rattle.viz_entries.specs.declared.entry.Entry.{Entry}
use Rattle.viz_entries.specs.History.{by_of}
use Rattle.viz_script.specs.Orders.{Asked, edit, edits, load, update, audit}
use Rattle.viz_report.specs.declared.line.Line.{Line}
use Rattle.viz_report.specs.declared.line.Line.TheVariants as line
use Rattle.viz_report.specs.declared.line.Reason.TheVariants as reason
use Rattle.viz_account.specs.Lines.{IsEntry, TellsEdit, TellsBatch, TellsLoad, Tells}
use Rattle.viz_account.specs.Account.{AreTold, ArePhases, places_from}

module _ (limit : ℕ) (h : List Entry) (ps qs : List ℕ) (sub : (x : ℕ) → has x ps ≡ true → has x qs ≡ true) where
  entry_wider : (n : ℕ) (batch : List Edit) → IsEntry h ps n batch → IsEntry h qs n batch
  entry_wider n batch t = record { index = t.index; entry = t.entry; place = t.place; there = t.there; own = sub t.entry.pass t.own; asked = t.asked }

  edit_wider : (n : ℕ) (e : Edit) (l : Line) → TellsEdit limit h ps n e l → TellsEdit limit h qs n e l
  edit_wider n e (line.Edit at) t = (t.0, entry_wider n (e ∷ []) t.1)
  edit_wider n e (line.Refused (reason.Edit r) at) t = t
  edit_wider n e (line.Refused reason.Full at) t = t
  edit_wider n e (line.Refused (reason.Batch index r) at) t = absurd t
  edit_wider n e (line.Refused reason.TooLong at) t = absurd t
  edit_wider n e (line.Refused reason.Unknown at) t = absurd t
  edit_wider n e (line.Refused (reason.Fault f name) at) t = absurd t
  edit_wider n e (line.File at cells points ran) t = absurd t
  edit_wider n e (line.Audit at sides two lone border) t = absurd t
  edit_wider n e line.ReadFault t = absurd t
  edit_wider n e line.WriteFault t = absurd t
  edit_wider n e line.Memory t = t

  batch_wider : (n : ℕ) (batch : List Edit) (l : Line) → TellsBatch limit h ps n batch l → TellsBatch limit h qs n batch l
  batch_wider n batch (line.Edit at) t = (t.0, entry_wider n batch t.1)
  batch_wider n batch (line.Refused (reason.Batch index r) at) t = t
  batch_wider n batch (line.Refused reason.Full at) t = t
  batch_wider n batch (line.Refused (reason.Edit r) at) t = absurd t
  batch_wider n batch (line.Refused reason.TooLong at) t = absurd t
  batch_wider n batch (line.Refused reason.Unknown at) t = absurd t
  batch_wider n batch (line.Refused (reason.Fault f name) at) t = absurd t
  batch_wider n batch (line.File at cells points ran) t = absurd t
  batch_wider n batch (line.Audit at sides two lone border) t = absurd t
  batch_wider n batch line.ReadFault t = absurd t
  batch_wider n batch line.WriteFault t = absurd t
  batch_wider n batch line.Memory t = t

  load_wider : (n : ℕ) (node file : List ℕ) (l : Line) (calls : List Call) → TellsLoad limit h ps n node file l calls → TellsLoad limit h qs n node file l calls
  load_wider n node file (line.Refused reason.TooLong at) calls t = t
  load_wider n node file line.ReadFault calls t = t
  load_wider n node file line.Memory calls t = t
  load_wider n node file (line.Edit at) calls t = (t.0, edit_wider n (Load node t.0) (line.Edit at) t.1, t.2)
  load_wider n node file (line.Refused (reason.Edit r) at) calls t = t
  load_wider n node file (line.Refused reason.Full at) calls t = t
  load_wider n node file (line.Refused (reason.Batch index r) at) calls t = absurd t.1
  load_wider n node file (line.Refused reason.Unknown at) calls t = absurd t.1
  load_wider n node file (line.Refused (reason.Fault f name) at) calls t = absurd t.1
  load_wider n node file (line.File at cells points ran) calls t = absurd t.1
  load_wider n node file (line.Audit at sides two lone border) calls t = absurd t.1
  load_wider n node file line.WriteFault calls t = absurd t.1

  tells_wider : (n : ℕ) (o : Asked) (l : Line) (calls : List Call) → Tells limit h ps n o l calls → Tells limit h qs n o l calls
  tells_wider n (edit e) l calls t = (edit_wider n e l t.0, t.1)
  tells_wider n (edits batch) l calls t = (batch_wider n batch l t.0, t.1)
  tells_wider n (load node file) l calls t = load_wider n node file l calls t
  tells_wider n (update node file pieces workers) l calls t = t
  tells_wider n (audit node pieces workers) l calls t = t

  pub told_wider : (low : ℕ) (os : List Asked) (ls : List Line) (calls : List Call) (last : ℕ) → AreTold limit h ps low os ls calls last → AreTold limit h qs low os ls calls last
  told_wider low [] [] calls last t = t
  told_wider low [] (l ∷ ls) calls last t = t
  told_wider low (o ∷ os) [] calls last t = t
  told_wider low (o ∷ os) (l ∷ ls) calls last t = (t.0, t.1, t.2, t.3, tells_wider t.0 o l t.1 t.4, t.5, t.6, told_wider t.0 os ls t.2 last t.7)

  pub phases_wider : (low : ℕ) (phases : List (List Asked)) (lines : List (List Line)) (ends : List ℕ) (calls : List Call) → ArePhases limit h ps low phases lines ends calls
      → ArePhases limit h qs low phases lines ends calls
  phases_wider low [] [] [] calls t = t
  phases_wider low [] [] (e ∷ ends) calls t = absurd t
  phases_wider low [] (l ∷ lines) ends calls t = absurd t
  phases_wider low (os ∷ phases) [] ends calls t = absurd t
  phases_wider low (os ∷ phases) (l ∷ lines) [] calls t = absurd t
  phases_wider low (os ∷ phases) (l ∷ lines) (e ∷ ends) calls t =
      (t.0, t.1, t.2, t.3, told_wider low os l t.1 t.0 t.4, t.5, t.6, phases_wider e phases lines ends t.2 t.7)

-- ---- places of one pass and of others

-- where others have no entry, the places are those of the one
pub places_of_one : (k : ℕ) (ps : List ℕ) (n : ℕ) (h : List Entry) → clear by_of ps h ≡ true → places_from (k ∷ ps) n h ≡ places_from (k ∷ []) n h
places_of_one k ps n [] t = refl
places_of_one k ps n (e ∷ h) t =
    let p = and_parts (not (has e.pass ps)) (clear by_of ps h) t in
    let same : has e.pass (k ∷ ps) ≡ has e.pass (k ∷ []) = ap (λ b. (e.pass == k) || b) (not-true (has e.pass ps) p.0) in
    ap₂ (λ (b : Bool) (l : List ℕ). cond b (n ∷ l) l) same (places_of_one k ps (n + 1) h p.1)

-- where the one has no entry, they are those of the others
pub places_of_others : (k : ℕ) (ps : List ℕ) (n : ℕ) (h : List Entry) → clear by_of (k ∷ []) h ≡ true → places_from (k ∷ ps) n h ≡ places_from ps n h
places_of_others k ps n [] t = refl
places_of_others k ps n (e ∷ h) t =
    let p = and_parts (not (has e.pass (k ∷ []))) (clear by_of (k ∷ []) h) t in
    let none = not-true (has e.pass (k ∷ [])) p.0 in
    let first : (e.pass == k) ≡ false = or_false (e.pass == k) false none in
    let same : has e.pass (k ∷ ps) ≡ has e.pass ps = ap (λ b. b || has e.pass ps) first in
    ap₂ (λ (b : Bool) (l : List ℕ). cond b (n ∷ l) l) same (places_of_others k ps (n + 1) h p.1)
  where
    or_false : (a b : Bool) → (a || b) ≡ false → a ≡ false
    or_false true b e = e
    or_false false b e = refl

-- no passes have no places
pub places_of_none : (n : ℕ) (h : List Entry) → places_from [] n h ≡ []
places_of_none n [] = refl
places_of_none n (e ∷ h) = places_of_none (n + 1) h
