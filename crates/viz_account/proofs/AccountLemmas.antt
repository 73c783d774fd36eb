-- What an account says still holds of a longer history, and of more commands.
use Rattle.std.proofs.Common.{◌≡◌, ℕ, zero, suc, ◌+◌, ◌^◌, ◌<◌, ◌≤◌, ◌⊎◌, inl, inr, List, [], ◌∷◌, ◌++◌, length, length-append, slice_get, append_assoc, append-nil, flat_map, Some, refl, sym, ap, subst, ◌∙◌, arith}
use Rattle.std.proofs.lemmas.List.{take-append-le}
use Rattle.std.proofs.lemmas.Grind.{flat_map-append}
use Rattle.viz_base.specs.Faults.{most_faults, Rose}
use Rattle.viz_base.specs.declared.call.Call.{Call}
use Rattle.viz_base.specs.declared.port.Port as port
use Rattle.viz_network.specs.declared.edit.Edit.{Edit}
use Rattle.viz_network.specs.declared.edit.Edit.TheVariants.{Load}
use Rattle.viz_network.specs.declared.refusal.Refusal.{Refusal}
use Rattle.viz_entries.specs.declared.entry.Entry.{Entry}
use Rattle.viz_entries.specs.History.{network_of, apply_behind}
use Rattle.viz_script.specs.Orders.{Asked, edit, edits, load, update, audit}
use Rattle.viz_report.specs.declared.line.Line.{Line}
use Rattle.viz_report.specs.declared.line.Line.TheVariants as line
use Rattle.viz_report.specs.declared.line.Reason.TheVariants as reason
use Rattle.viz_account.specs.Lines.{network_at, IsEntry, IsRefusedAt, TellsEdit, TellsBatch, TellsLoad, TellsUpdate, TellsAudit, Tells}
use Rattle.viz_account.specs.Account.{edited, least, AreTold, places, faults_told, RoseBy}
use Rattle.viz_account.specs.Served.{Serves, ServesAll}

-- ---- a longer history

-- an entry stays where it is
slice_get-more : (h more : List Entry) (k : ℕ) (e : Entry) → slice_get h k ≡ Some e → slice_get (h ++ more) k ≡ Some e
slice_get-more [] more k e p = let bad : ⊥ = cc in absurd bad
slice_get-more (d ∷ h) more zero e p = p
slice_get-more (d ∷ h) more (suc k) e p = slice_get-more h more k e p

longer : (h more : List Entry) (n : ℕ) → n ≤ length h → n ≤ length (h ++ more)
longer h more n p = omega (arith, p, length-append h more)

network_more : (h more : List Entry) (n : ℕ) → n ≤ length h → network_at h n ≡ network_at (h ++ more) n
network_more h more n b = ap network_of (sym (take-append-le n h more b))

entry_more : (h more : List Entry) (ps : List ℕ) (n : ℕ) (batch : List Edit) → IsEntry h ps n batch → IsEntry (h ++ more) ps n batch
entry_more h more ps n batch t =
    record { index = t.index; entry = t.entry; place = t.place; there = slice_get-more h more t.index t.entry t.there; own = t.own; asked = t.asked }

refused_more : (h more : List Entry) (n : ℕ) (batch : List Edit) (index : ℕ) (r : Refusal) → n ≤ length h → IsRefusedAt h n batch index r → IsRefusedAt (h ++ more) n batch index r
refused_more h more n batch index r b t = ap (λ g. apply_behind g batch) (take-append-le n h more b) ∙ t

edit_more : (limit : ℕ) (h more : List Entry) (ps : List ℕ) (n : ℕ) (e : Edit) (l : Line) → n ≤ length h → TellsEdit limit h ps n e l → TellsEdit limit (h ++ more) ps n e l
edit_more limit h more ps n e (line.Edit at) b t = (t.0, entry_more h more ps n (e ∷ []) t.1)
edit_more limit h more ps n e (line.Refused (reason.Edit r) at) b t = (t.0, refused_more h more n (e ∷ []) 1 r b t.1)
edit_more limit h more ps n e (line.Refused reason.Full at) b t = t
edit_more limit h more ps n e line.Memory b t = tt
edit_more limit h more ps n e (line.Refused (reason.Batch index r) at) b t = absurd t
edit_more limit h more ps n e (line.Refused reason.TooLong at) b t = absurd t
edit_more limit h more ps n e (line.Refused reason.Unknown at) b t = absurd t
edit_more limit h more ps n e (line.Refused (reason.Fault f node) at) b t = absurd t
edit_more limit h more ps n e (line.File at cells points ran) b t = absurd t
edit_more limit h more ps n e (line.Audit at sides two lone border) b t = absurd t
edit_more limit h more ps n e line.ReadFault b t = absurd t
edit_more limit h more ps n e line.WriteFault b t = absurd t

batch_more : (limit : ℕ) (h more : List Entry) (ps : List ℕ) (n : ℕ) (batch : List Edit) (l : Line) → n ≤ length h → TellsBatch limit h ps n batch l → TellsBatch limit (h ++ more) ps n batch l
batch_more limit h more ps n batch (line.Edit at) b t = (t.0, entry_more h more ps n batch t.1)
batch_more limit h more ps n batch (line.Refused (reason.Batch index r) at) b t = (t.0, refused_more h more n batch index r b t.1)
batch_more limit h more ps n batch (line.Refused reason.Full at) b t = t
batch_more limit h more ps n batch line.Memory b t = tt
batch_more limit h more ps n batch (line.Refused (reason.Edit r) at) b t = absurd t
batch_more limit h more ps n batch (line.Refused reason.TooLong at) b t = absurd t
batch_more limit h more ps n batch (line.Refused reason.Unknown at) b t = absurd t
batch_more limit h more ps n batch (line.Refused (reason.Fault f node) at) b t = absurd t
batch_more limit h more ps n batch (line.File at cells points ran) b t = absurd t
batch_more limit h more ps n batch (line.Audit at sides two lone border) b t = absurd t
batch_more limit h more ps n batch line.ReadFault b t = absurd t
batch_more limit h more ps n batch line.WriteFault b t = absurd t

load_more : (limit : ℕ) (h more : List Entry) (ps : List ℕ) (n : ℕ) (node file : List ℕ) (l : Line) (calls : List Call) → n ≤ length h
    → TellsLoad limit h ps n node file l calls → TellsLoad limit (h ++ more) ps n node file l calls
load_more limit h more ps n node file (line.Refused reason.TooLong at) calls b t = t
load_more limit h more ps n node file line.ReadFault calls b t = t
load_more limit h more ps n node file line.Memory calls b t = t
load_more limit h more ps n node file (line.Edit at) calls b t = (t.0, edit_more limit h more ps n (Load node t.0) (line.Edit at) b t.1, t.2)
load_more limit h more ps n node file (line.Refused (reason.Edit r) at) calls b t = (t.0, edit_more limit h more ps n (Load node t.0) (line.Refused (reason.Edit r) at) b t.1, t.2)
load_more limit h more ps n node file (line.Refused reason.Full at) calls b t = (t.0, edit_more limit h more ps n (Load node t.0) (line.Refused reason.Full at) b t.1, t.2)
load_more limit h more ps n node file (line.Refused (reason.Batch index r) at) calls b t = absurd t.1
load_more limit h more ps n node file (line.Refused reason.Unknown at) calls b t = absurd t.1
load_more limit h more ps n node file (line.Refused (reason.Fault f name) at) calls b t = absurd t.1
load_more limit h more ps n node file (line.File at cells points ran) calls b t = absurd t.1
load_more limit h more ps n node file (line.Audit at sides two lone border) calls b t = absurd t.1
load_more limit h more ps n node file line.WriteFault calls b t = absurd t.1

tells_more : (limit : ℕ) (h more : List Entry) (ps : List ℕ) (n : ℕ) (o : Asked) (l : Line) (calls : List Call) → n ≤ length h
    → Tells limit h ps n o l calls → Tells limit (h ++ more) ps n o l calls
tells_more limit h more ps n (edit e) l calls b t = (edit_more limit h more ps n e l b t.0, t.1)
tells_more limit h more ps n (edits batch) l calls b t = (batch_more limit h more ps n batch l b t.0, t.1)
tells_more limit h more ps n (load node file) l calls b t = load_more limit h more ps n node file l calls b t
tells_more limit h more ps n (update node file pieces workers) l calls b t =
    subst (λ g. TellsUpdate g n node file pieces l calls) (network_more h more n b) t
tells_more limit h more ps n (audit node pieces workers) l calls b t = (subst (λ g. TellsAudit g n node l) (network_more h more n b) t.0, t.1)

-- an account holds of each longer history
pub told_longer : (limit : ℕ) (h more : List Entry) (ps : List ℕ) (low : ℕ) (os : List Asked) (ls : List Line) (calls : List Call) (last : ℕ)
    → AreTold limit h ps low os ls calls last → AreTold limit (h ++ more) ps low os ls calls last
told_longer limit h more ps low [] [] calls last t = t
told_longer limit h more ps low [] (l ∷ ls) calls last t = t
told_longer limit h more ps low (o ∷ os) [] calls last t = t
told_longer limit h more ps low (o ∷ os) (l ∷ ls) calls last t =
    (t.0, t.1, t.2, t.3, tells_more limit h more ps t.0 o l t.1 t.6 t.4, t.5, longer h more t.0 t.6, told_longer limit h more ps t.0 os ls t.2 last t.7)

-- ---- more commands

least_up : (low mid n : ℕ) (l : Line) → low ≤ mid → least mid l ≤ n → least low l ≤ n
least_up low mid n (line.Edit at) a b = omega (arith, a, b)
least_up low mid n (line.File at cells points ran) a b = omega (arith, a, b)
least_up low mid n (line.Audit at sides two lone border) a b = omega (arith, a, b)
least_up low mid n (line.Refused r at) a b = omega (arith, a, b)
least_up low mid n line.ReadFault a b = omega (arith, a, b)
least_up low mid n line.WriteFault a b = omega (arith, a, b)
least_up low mid n line.Memory a b = omega (arith, a, b)

-- numbers may begin lower
pub told_lower : (limit : ℕ) (h : List Entry) (ps : List ℕ) (low mid : ℕ) (os : List Asked) (ls : List Line) (calls : List Call) (last : ℕ) → low ≤ mid
    → AreTold limit h ps mid os ls calls last → (end : ℕ) × (end ≤ last) × AreTold limit h ps low os ls calls end
told_lower limit h ps low mid [] [] calls last up t = (low, omega (arith, up, t.1), (t.0, refl))
told_lower limit h ps low mid [] (l ∷ ls) calls last up t = absurd t
told_lower limit h ps low mid (o ∷ os) [] calls last up t = absurd t
told_lower limit h ps low mid (o ∷ os) (l ∷ ls) calls last up t =
    (last, omega arith, (t.0, t.1, t.2, t.3, t.4, least_up low mid t.0 l up t.5, t.6, t.7))

-- two lists of commands, one after the other
pub told_append : (limit : ℕ) (h : List Entry) (ps : List ℕ) (low : ℕ) (os more : List Asked) (ls behind : List Line) (first rest calls : List Call) (mid last : ℕ) → calls ≡ first ++ rest
    → AreTold limit h ps low os ls first mid → AreTold limit h ps mid more behind rest last → AreTold limit h ps low (os ++ more) (ls ++ behind) calls last
told_append limit h ps low [] more [] behind first rest calls mid last is s t =
    subst (λ (c : List Call). AreTold limit h ps low more behind c last) (sym (is ∙ ap (λ c. c ++ rest) s.0)) (subst (λ (n : ℕ). AreTold limit h ps n more behind rest last) s.1 t)
told_append limit h ps low [] more (l ∷ ls) behind first rest calls mid last is s t = absurd s
told_append limit h ps low (o ∷ os) more [] behind first rest calls mid last is s t = absurd s
told_append limit h ps low (o ∷ os) more (l ∷ ls) behind first rest calls mid last is s t =
    (s.0, s.1, s.2 ++ rest, is ∙ ap (λ c. c ++ rest) s.3 ∙ append_assoc s.1 s.2 rest, s.4, s.5, s.6, told_append limit h ps s.0 os more ls behind s.2 rest (s.2 ++ rest) mid last refl s.7 t)

pub faults_append : (ls ms : List Line) → faults_told (ls ++ ms) ≡ faults_told ls + faults_told ms
faults_append [] ms = let none : faults_told ms ≡ 0 + faults_told ms = omega arith in none
faults_append (line.ReadFault ∷ ls) ms = ap (λ n. n + 1) (faults_append ls ms) ∙ (let s : (faults_told ls + faults_told ms) + 1 ≡ (faults_told ls + 1) + faults_told ms = omega arith in s)
faults_append (line.WriteFault ∷ ls) ms = ap (λ n. n + 1) (faults_append ls ms) ∙ (let s : (faults_told ls + faults_told ms) + 1 ≡ (faults_told ls + 1) + faults_told ms = omega arith in s)
faults_append (line.Edit at ∷ ls) ms = faults_append ls ms
faults_append (line.File at cells points ran ∷ ls) ms = faults_append ls ms
faults_append (line.Audit at sides two lone border ∷ ls) ms = faults_append ls ms
faults_append (line.Refused r at ∷ ls) ms = faults_append ls ms
faults_append (line.Memory ∷ ls) ms = faults_append ls ms

-- ---- counts of faults

-- no call, or none that failed
pub rose_none : (a : ℕ) → RoseBy 0 a a
rose_none a = record { risen = inl (omega arith); later = omega arith; counted = inl refl }

pub rose_kept : (a b : ℕ) → a ≤ b → b < 2 ^ 64 → RoseBy 0 a b
rose_kept a b up fits = record { risen = inl (omega (arith, up)); later = up; counted = inr (omega (arith, fits)) }

-- a call that failed
pub rose_one : (a b : ℕ) → Rose a b → a ≤ b → b < 2 ^ 64 → RoseBy 1 a b
rose_one a b (inl x) up fits = record { risen = inl (omega (arith, x)); later = up; counted = inr (omega (arith, fits)) }
rose_one a b (inr x) up fits = record { risen = inr x; later = up; counted = inr (omega (arith, fits)) }

risen_more : (j k a b c : ℕ) → b ≤ c → (c ≡ b) ⊎ (c ≤ most_faults) → (a + j ≤ b) ⊎ (b ≡ most_faults) → (b + k ≤ c) ⊎ (c ≡ most_faults) → (a + (j + k) ≤ c) ⊎ (c ≡ most_faults)
risen_more j k a b c up most (inl x) (inl y) = inl (omega (arith, x, y))
risen_more j k a b c up most (inl x) (inr y) = inr y
risen_more j k a b c up (inl same) (inr x) s = inr (same ∙ x)
risen_more j k a b c up (inr most) (inr x) s = inr (omega (arith, x, up, most))

counted_more : (a b c : ℕ) → (b ≡ a) ⊎ (b ≤ most_faults) → (c ≡ b) ⊎ (c ≤ most_faults) → (c ≡ a) ⊎ (c ≤ most_faults)
counted_more a b c (inl x) (inl y) = inl (y ∙ x)
counted_more a b c (inr x) (inl y) = inr (omega (arith, x, y))
counted_more a b c x (inr y) = inr y

pub rose_more : (j k a b c : ℕ) → RoseBy j a b → RoseBy k b c → RoseBy (j + k) a c
rose_more j k a b c r s = record {
  risen = risen_more j k a b c s.later s.counted r.risen s.risen;
  later = omega (arith, r.later, s.later);
  counted = counted_more a b c r.counted s.counted;
}

-- ---- lists of commands

-- no command
pub served_none : {P : Type 0} (m : port.Ghosts P) (limit pass : ℕ) (h : List Entry) (p : P) → ServesAll m limit pass [] [] h h p p
served_none m limit pass h p = record {
  further = ([], sym (append-nil h));
  own = sym (append-nil (places (pass ∷ []) h));
  gained = ([], length h, λ told. sym (append-nil (m.calls p)), (refl, refl), omega arith);
  faults = rose_none (m.faults p);
  idle = λ e. refl;
}

-- one command
pub served_one : {P : Type 0} (m : port.Ghosts P) (limit pass : ℕ) (o : Asked) (l : Line) (old new : List Entry) (p q : P)
    → Serves m limit pass o l old new p q → ServesAll m limit pass (o ∷ []) (l ∷ []) old new p q
served_one m limit pass o l old new p q s = record {
  further = s.further;
  own = s.own ∙ ap (λ e. places (pass ∷ []) old ++ e) (sym (append-nil (edited l)));
  gained = (
    s.gained.1,
    s.gained.0,
    s.gained.2,
    (s.gained.0, s.gained.1, [], sym (append-nil s.gained.1), s.gained.3, s.gained.4, s.gained.5, (refl, refl)),
    s.gained.5,
  );
  faults = s.faults;
  idle = λ e. absurd (omega (arith, ap length e));
}

-- commands of both lists, so the later list alone where the first is empty
pub both_idle : {P : Type 0} (os more : List Asked) (p q r : P) → (os ≡ [] → q ≡ p) → (more ≡ [] → r ≡ q) → os ++ more ≡ [] → r ≡ p
both_idle [] more p q r s t e = t e ∙ s refl
both_idle (o ∷ os) more p q r s t e = absurd (omega (arith, ap length e))

-- commands behind others
pub served_append : {P : Type 0} (m : port.Ghosts P) (limit pass : ℕ) (os more : List Asked) (ls behind : List Line) (old mid new : List Entry) (p q r : P)
    → ServesAll m limit pass os ls old mid p q → ServesAll m limit pass more behind mid new q r → ServesAll m limit pass (os ++ more) (ls ++ behind) old new p r
served_append m limit pass os more ls behind old mid new p q r s t =
    let ps = pass ∷ [] in
    let first = s.gained.0 in
    let rest = t.gained.0 in
    let front : AreTold limit new ps (length old) os ls first s.gained.1 =
    subst (λ h. AreTold limit h ps (length old) os ls first s.gained.1) (sym t.further.1) (told_longer limit mid t.further.0 ps (length old) os ls first s.gained.1 s.gained.3) in
    let back = told_lower limit new ps s.gained.1 (length mid) more behind rest t.gained.1 s.gained.4 t.gained.3 in
    record {
      further = (s.further.0 ++ t.further.0, t.further.1 ∙ ap (λ h. h ++ t.further.0) s.further.1 ∙ append_assoc old s.further.0 t.further.0);
      own = t.own ∙ ap (λ h. h ++ flat_map edited behind) s.own ∙ append_assoc (places ps old) (flat_map edited ls) (flat_map edited behind)
          ∙ ap (λ h. places ps old ++ h) (sym (flat_map-append edited ls behind));
      gained = (
        first ++ rest,
        back.0,
        (λ told. t.gained.2 told ∙ ap (λ c. c ++ rest) (s.gained.2 told) ∙ append_assoc (m.calls p) first rest),
        told_append limit new ps (length old) os more ls behind first rest (first ++ rest) s.gained.1 back.0 refl front back.2,
        omega (arith, back.1, t.gained.4),
      );
      faults = subst (λ k. RoseBy k (m.faults p) (m.faults r)) (sym (faults_append ls behind)) (rose_more (faults_told ls) (faults_told behind) (m.faults p) (m.faults q) (m.faults r) s.faults t.faults);
      idle = both_idle os more p q r s.idle t.idle;
    }

-- a count that rose by so many rose
pub rose_by : (n old new : ℕ) → RoseBy (n + 1) old new → Rose old new
rose_by n old new r = elim r.risen [
  | inl more ↦ inl (omega (arith, more))
  | inr most ↦ inr most
]
