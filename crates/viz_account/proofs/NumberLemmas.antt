-- The numbers of one actor's lines are those of its edits.
use Rattle.std.proofs.Common.{◌≡◌, ℕ, zero, suc, ◌+◌, ◌≤◌, Bool, true, false, cond, List, [], ◌∷◌, length, flat_map, refl, sym, ap, subst, ◌∙◌, arith}
use Rattle.viz_base.specs.declared.call.Call.{Call}
use Rattle.viz_base.specs.declared.port.Port as port
use Rattle.viz_network.specs.declared.edit.Edit.{Edit}
use Rattle.viz_network.specs.Network.{Network}
use Rattle.viz_turn.specs.Tales.{has, entries_of}
use Rattle.viz_entries.specs.declared.entry.Entry.{Entry}
use Rattle.viz_entries.specs.History.{by_of}
use Rattle.viz_script.specs.Orders.{Asked, edit, edits, load, update, audit}
use Rattle.viz_report.specs.declared.line.Line.{Line}
use Rattle.viz_report.specs.declared.line.Line.TheVariants as line
use Rattle.viz_report.specs.declared.line.Reason.TheVariants as reason
use Rattle.viz_account.specs.Lines.{network_at, TellsEdit, TellsBatch, TellsLoad, TellsAudit, Tells}
use Rattle.viz_account.specs.Account.{edited, AreTold, places_from, IsActor}
use Rattle.viz_account.specs.Laws.{Shows, CountEdits}
use Rattle.viz_account.proofs.OnceLemmas.{few}
use Rattle.viz_account.proofs.ScriptLemmas.{least_low, phases_flat, edited_flat}

-- ---- a line shows its number

edit_shows : (limit : ℕ) (h : List Entry) (ps : List ℕ) (n : ℕ) (e : Edit) (l : Line) → TellsEdit limit h ps n e l → Shows n l
edit_shows limit h ps n e (line.Edit at) t = t.0
edit_shows limit h ps n e (line.Refused (reason.Edit r) at) t = t.0
edit_shows limit h ps n e (line.Refused reason.Full at) t = t.0
edit_shows limit h ps n e (line.Refused (reason.Batch index r) at) t = absurd t
edit_shows limit h ps n e (line.Refused reason.TooLong at) t = absurd t
edit_shows limit h ps n e (line.Refused reason.Unknown at) t = absurd t
edit_shows limit h ps n e (line.Refused (reason.Fault f node) at) t = absurd t
edit_shows limit h ps n e (line.File at cells points ran) t = absurd t
edit_shows limit h ps n e (line.Audit at sides two lone border) t = absurd t
edit_shows limit h ps n e line.ReadFault t = tt
edit_shows limit h ps n e line.WriteFault t = tt
edit_shows limit h ps n e line.Memory t = tt

batch_shows : (limit : ℕ) (h : List Entry) (ps : List ℕ) (n : ℕ) (batch : List Edit) (l : Line) → TellsBatch limit h ps n batch l → Shows n l
batch_shows limit h ps n batch (line.Edit at) t = t.0
batch_shows limit h ps n batch (line.Refused (reason.Batch index r) at) t = t.0
batch_shows limit h ps n batch (line.Refused reason.Full at) t = t.0
batch_shows limit h ps n batch (line.Refused (reason.Edit r) at) t = absurd t
batch_shows limit h ps n batch (line.Refused reason.TooLong at) t = absurd t
batch_shows limit h ps n batch (line.Refused reason.Unknown at) t = absurd t
batch_shows limit h ps n batch (line.Refused (reason.Fault f node) at) t = absurd t
batch_shows limit h ps n batch (line.File at cells points ran) t = absurd t
batch_shows limit h ps n batch (line.Audit at sides two lone border) t = absurd t
batch_shows limit h ps n batch line.ReadFault t = tt
batch_shows limit h ps n batch line.WriteFault t = tt
batch_shows limit h ps n batch line.Memory t = tt

load_shows : (limit : ℕ) (h : List Entry) (ps : List ℕ) (n : ℕ) (node file : List ℕ) (l : Line) (calls : List Call) → TellsLoad limit h ps n node file l calls → Shows n l
load_shows limit h ps n node file (line.Refused reason.TooLong at) calls t = t.0
load_shows limit h ps n node file (line.Edit at) calls t = t.1.0
load_shows limit h ps n node file (line.Refused (reason.Edit r) at) calls t = t.1.0
load_shows limit h ps n node file (line.Refused reason.Full at) calls t = t.1.0
load_shows limit h ps n node file (line.Refused (reason.Batch index r) at) calls t = absurd t.1
load_shows limit h ps n node file (line.Refused reason.Unknown at) calls t = absurd t.1
load_shows limit h ps n node file (line.Refused (reason.Fault f name) at) calls t = absurd t.1
load_shows limit h ps n node file (line.File at cells points ran) calls t = absurd t.1
load_shows limit h ps n node file (line.Audit at sides two lone border) calls t = absurd t.1
load_shows limit h ps n node file line.ReadFault calls t = tt
load_shows limit h ps n node file line.WriteFault calls t = tt
load_shows limit h ps n node file line.Memory calls t = tt

update_shows : (limit : ℕ) (h : List Entry) (ps : List ℕ) (n : ℕ) (node file : List ℕ) (pieces workers : ℕ) (l : Line) (calls : List Call) → Tells limit h ps n (update node file pieces workers) l calls → Shows n l
update_shows limit h ps n node file pieces workers (line.File at cells points ran) calls t = t.0
update_shows limit h ps n node file pieces workers (line.Audit at sides two lone border) calls t = absurd t
update_shows limit h ps n node file pieces workers (line.Refused reason.Unknown at) calls t = t.0
update_shows limit h ps n node file pieces workers (line.Refused (reason.Fault f name) at) calls t = t.0
update_shows limit h ps n node file pieces workers (line.Refused (reason.Edit r) at) calls t = absurd t
update_shows limit h ps n node file pieces workers (line.Refused (reason.Batch index r) at) calls t = absurd t
update_shows limit h ps n node file pieces workers (line.Refused reason.Full at) calls t = absurd t
update_shows limit h ps n node file pieces workers (line.Refused reason.TooLong at) calls t = absurd t
update_shows limit h ps n node file pieces workers (line.Edit at) calls t = absurd t
update_shows limit h ps n node file pieces workers line.ReadFault calls t = tt
update_shows limit h ps n node file pieces workers line.WriteFault calls t = tt
update_shows limit h ps n node file pieces workers line.Memory calls t = tt

audit_shows : (net : Network) (n : ℕ) (node : List ℕ) (l : Line) → TellsAudit net n node l → Shows n l
audit_shows net n node (line.Audit at sides two lone border) t = t.0
audit_shows net n node (line.Refused reason.Unknown at) t = t.0
audit_shows net n node (line.Refused (reason.Fault f name) at) t = t.0
audit_shows net n node (line.Refused (reason.Edit r) at) t = absurd t
audit_shows net n node (line.Refused (reason.Batch index r) at) t = absurd t
audit_shows net n node (line.Refused reason.Full at) t = absurd t
audit_shows net n node (line.Refused reason.TooLong at) t = absurd t
audit_shows net n node (line.Edit at) t = absurd t
audit_shows net n node (line.File at cells points ran) t = absurd t
audit_shows net n node line.ReadFault t = tt
audit_shows net n node line.WriteFault t = tt
audit_shows net n node line.Memory t = tt

pub shows : (limit : ℕ) (h : List Entry) (ps : List ℕ) (n : ℕ) (o : Asked) (l : Line) (calls : List Call) → Tells limit h ps n o l calls → Shows n l
shows limit h ps n (edit e) l calls t = edit_shows limit h ps n e l t.0
shows limit h ps n (edits batch) l calls t = batch_shows limit h ps n batch l t.0
shows limit h ps n (load node file) l calls t = load_shows limit h ps n node file l calls t
shows limit h ps n (update node file pieces workers) l calls t = update_shows limit h ps n node file pieces workers l calls t
shows limit h ps n (audit node pieces workers) l calls t = audit_shows (network_at h n) n node l t.0

-- ---- positions in turn

-- so many numbers behind n
abbrev pub behind : ℕ → ℕ → List ℕ
behind n zero = []
behind n (suc c) = (n + 1) ∷ behind (n + 1) c

-- the places of entries that are all by these passes
all_places : (ps : List ℕ) (n : ℕ) (h : List Entry) → entries_of by_of ps h ≡ h → places_from ps (n + 1) h ≡ behind n (length h)
all_places ps n [] whole = refl
all_places ps n (e ∷ h) whole = by (has e.pass ps) whole (few ps h) (λ rest. all_places ps (n + 1) h rest)
  where
    by : (b : Bool) → cond b (e ∷ entries_of by_of ps h) (entries_of by_of ps h) ≡ e ∷ h → length (entries_of by_of ps h) ≤ length h
        → (entries_of by_of ps h ≡ h → places_from ps ((n + 1) + 1) h ≡ behind (n + 1) (length h))
        → cond b ((n + 1) ∷ places_from ps ((n + 1) + 1) h) (places_from ps ((n + 1) + 1) h) ≡ behind n (length (e ∷ h))
    by true w short rest = ap (λ t. (n + 1) ∷ t) (rest (let tail : entries_of by_of ps h ≡ h = cc in tail))
    by false w short rest = let bad : ⊥ = omega (arith, short, ap length w) in absurd bad

-- the next of the numbers behind n
first_behind : (n c at : ℕ) (more : List ℕ) → at ∷ more ≡ behind n c → (d : ℕ) × (c ≡ suc d) × (at ≡ n + 1) × (more ≡ behind (n + 1) d)
first_behind n zero at more e = let bad : ⊥ = cc in absurd bad
first_behind n (suc d) at more e = (d, refl, (let one : at ≡ n + 1 = cc in one), (let rest : more ≡ behind (n + 1) d = cc in rest))

none_behind : (n c : ℕ) → [] ≡ behind n c → c ≡ 0
none_behind n zero e = refl
none_behind n (suc d) e = let bad : ⊥ = cc in absurd bad

module _ (limit : ℕ) (h : List Entry) (ps : List ℕ) where
  -- no number runs ahead of the edits
  bound : (low n c : ℕ) (os : List Asked) (ls : List Line) (calls : List Call) (last : ℕ) → AreTold limit h ps low os ls calls last → flat_map edited ls ≡ behind n c → n + c ≡ length h → low ≤ length h
      → low ≤ n
  bound low n c [] [] calls last t e whole within = omega (arith, whole, within, none_behind n c e)
  bound low n c [] (l ∷ ls) calls last t e whole within = absurd t
  bound low n c (o ∷ os) [] calls last t e whole within = absurd t
  bound low n c (o ∷ os) (line.Edit at ∷ ls) calls last t e whole within =
      let r = first_behind n c at (flat_map edited ls) e in
      let s : at ≡ t.0 = shows limit h ps t.0 o (line.Edit at) t.1 t.4 in
      omega (arith, r.2, s, t.5)
  bound low n c (o ∷ os) (line.File at cells points ran ∷ ls) calls last t e whole within = omega (arith, t.5, bound t.0 n c os ls t.2 last t.7 e whole t.6)
  bound low n c (o ∷ os) (line.Audit at sides two lone border ∷ ls) calls last t e whole within = omega (arith, t.5, bound t.0 n c os ls t.2 last t.7 e whole t.6)
  bound low n c (o ∷ os) (line.Refused r at ∷ ls) calls last t e whole within = omega (arith, t.5, bound t.0 n c os ls t.2 last t.7 e whole t.6)
  bound low n c (o ∷ os) (line.ReadFault ∷ ls) calls last t e whole within = omega (arith, t.5, bound t.0 n c os ls t.2 last t.7 e whole t.6)
  bound low n c (o ∷ os) (line.WriteFault ∷ ls) calls last t e whole within = omega (arith, t.5, bound t.0 n c os ls t.2 last t.7 e whole t.6)
  bound low n c (o ∷ os) (line.Memory ∷ ls) calls last t e whole within = omega (arith, t.5, bound t.0 n c os ls t.2 last t.7 e whole t.6)

  -- a line that is no edit leaves the number
  quiet : (n c : ℕ) (o : Asked) (os : List Asked) (l : Line) (ls : List Line) (calls : List Call) (last : ℕ) → AreTold limit h ps n (o ∷ os) (l ∷ ls) calls last → flat_map edited ls ≡ behind n c → n + c ≡ length h
      → (m : ℕ) × (m ≡ n + 0) × Shows (n + 0) l × ((rest : List Call) × AreTold limit h ps (n + 0) os ls rest last)
  quiet n c o os l ls calls last t e whole =
      let up = bound t.0 n c os ls t.2 last t.7 e whole t.6 in
      let low = least_low n t.0 l t.5 in
      let same : t.0 ≡ n + 0 = omega (arith, up, low) in
      (t.0, same, subst (λ m. Shows m l) same (shows limit h ps t.0 o l t.1 t.4), (t.2, subst (λ m. AreTold limit h ps m os ls t.2 last) same t.7))

  counted : (n c : ℕ) (os : List Asked) (ls : List Line) (calls : List Call) (last : ℕ) → AreTold limit h ps n os ls calls last → flat_map edited ls ≡ behind n c → n + c ≡ length h → CountEdits n ls
  counted n c [] [] calls last t e whole = tt
  counted n c [] (l ∷ ls) calls last t e whole = absurd t
  counted n c (o ∷ os) [] calls last t e whole = absurd t
  counted n c (o ∷ os) (line.Edit at ∷ ls) calls last t e whole =
      let r = first_behind n c at (flat_map edited ls) e in
      let s : at ≡ t.0 = shows limit h ps t.0 o (line.Edit at) t.1 t.4 in
      let same : t.0 ≡ n + 1 = sym s ∙ r.2 in (r.2, counted (n + 1) r.0 os ls t.2 last (subst (λ m. AreTold limit h ps m os ls t.2 last) same t.7) r.3 (omega (arith, whole, r.1)))
  counted n c (o ∷ os) (line.File at cells points ran ∷ ls) calls last t e whole =
      let q = quiet n c o os (line.File at cells points ran) ls calls last t e whole in (q.2, subst (λ k. CountEdits k ls) (let z : n ≡ n + 0 = omega arith in z) (counted n c os ls q.3.0 last (subst (λ k. AreTold limit h ps k os ls q.3.0 last) (let z : n + 0 ≡ n = omega arith in z) q.3.1) e whole))
  counted n c (o ∷ os) (line.Audit at sides two lone border ∷ ls) calls last t e whole =
      let q = quiet n c o os (line.Audit at sides two lone border) ls calls last t e whole in (q.2, subst (λ k. CountEdits k ls) (let z : n ≡ n + 0 = omega arith in z) (counted n c os ls q.3.0 last (subst (λ k. AreTold limit h ps k os ls q.3.0 last) (let z : n + 0 ≡ n = omega arith in z) q.3.1) e whole))
  counted n c (o ∷ os) (line.Refused r at ∷ ls) calls last t e whole = let q = quiet n c o os (line.Refused r at) ls calls last t e whole in (q.2, subst (λ k. CountEdits k ls) (let z : n ≡ n + 0 = omega arith in z) (counted n c os ls q.3.0 last (subst (λ k. AreTold limit h ps k os ls q.3.0 last) (let z : n + 0 ≡ n = omega arith in z) q.3.1) e whole))
  counted n c (o ∷ os) (line.ReadFault ∷ ls) calls last t e whole = let q = quiet n c o os line.ReadFault ls calls last t e whole in (q.2, subst (λ k. CountEdits k ls) (let z : n ≡ n + 0 = omega arith in z) (counted n c os ls q.3.0 last (subst (λ k. AreTold limit h ps k os ls q.3.0 last) (let z : n + 0 ≡ n = omega arith in z) q.3.1) e whole))
  counted n c (o ∷ os) (line.WriteFault ∷ ls) calls last t e whole = let q = quiet n c o os line.WriteFault ls calls last t e whole in (q.2, subst (λ k. CountEdits k ls) (let z : n ≡ n + 0 = omega arith in z) (counted n c os ls q.3.0 last (subst (λ k. AreTold limit h ps k os ls q.3.0 last) (let z : n + 0 ≡ n = omega arith in z) q.3.1) e whole))
  counted n c (o ∷ os) (line.Memory ∷ ls) calls last t e whole = let q = quiet n c o os line.Memory ls calls last t e whole in (q.2, subst (λ k. CountEdits k ls) (let z : n ≡ n + 0 = omega arith in z) (counted n c os ls q.3.0 last (subst (λ k. AreTold limit h ps k os ls q.3.0 last) (let z : n + 0 ≡ n = omega arith in z) q.3.1) e whole))

-- the lines of an actor whose passes made all entries
pub own_counts : {P : Type 0} (m : port.Ghosts P) (limit : ℕ) (h : List Entry) (ps : List ℕ) (phases : List (List Asked))
    (lines : List (List Line)) (ends : List ℕ) (before after : P) → IsActor m limit h ps phases lines ends before after
    → entries_of by_of ps h ≡ h → CountEdits 0 (flat_map (λ ls. ls) lines)
own_counts m limit h ps phases lines ends before after t whole =
    let r = phases_flat limit h ps 0 phases lines ends t.gained.0 t.gained.2 in
    counted limit h ps 0 (length h) (flat_map (λ os. os) phases) (flat_map (λ ls. ls) lines) t.gained.0 r.0 r.1
    (edited_flat lines ∙ sym t.own ∙ all_places ps 0 h whole) (let e : 0 + length h ≡ length h = omega arith in e)
