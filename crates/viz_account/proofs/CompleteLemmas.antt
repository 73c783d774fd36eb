-- All commands of an account came to what they asked for exactly where all lines tell so.
use Rattle.std.proofs.Common.{◌≡◌, ℕ, ◌+◌, ◌<◌, ◌≤◌, ◌⊎◌, inl, inr, cond, List, [], ◌∷◌, ◌++◌, flat_map, Option, None, Some, Result, Ok, Err, refl, sym, ap, ap₂, subst, ◌∙◌, arith}
use Rattle.std.specs.List.{All}
use Rattle.std.proofs.lemmas.List.Elements.{All-nil, All-cons, All-head, All-tail, All-append}
use Rattle.viz_base.specs.declared.call.Call.{Call}
use Rattle.viz_base.specs.declared.port.Port as port
use Rattle.viz_network.specs.declared.edit.Edit.{Edit}
use Rattle.viz_network.specs.declared.edit.Edit.TheVariants.{Load}
use Rattle.viz_network.specs.declared.fault.Fault.{Fault}
use Rattle.viz_network.specs.declared.node.Node.{Node}
use Rattle.viz_network.specs.Network.{Network, named}
use Rattle.viz_surface_law.specs.declared.audits.Counts.{Counts}
use Rattle.viz_entries.specs.declared.entry.Entry.{Entry}
use Rattle.viz_scratch.specs.Laws.{FilesAreOne}
use Rattle.viz_scratch.specs.Written.{IsFileOf}
use Rattle.viz_script.specs.Orders.{Asked, edit, edits, load, update, audit}
use Rattle.viz_report.specs.declared.line.Line.{Line}
use Rattle.viz_report.specs.declared.line.Line.TheVariants as line
use Rattle.viz_report.specs.declared.line.Reason.TheVariants as reason
use Rattle.viz_account.specs.Account.{edited, least, AreTold, places, IsActor, AreActors}
use Rattle.viz_account.specs.Audited.{IsAuditOf}
use Rattle.viz_account.specs.Complete.{IsAccepted, HasFile, HasAudit, Came, shown, HaveCome, AllCame, TellsCame, AllCameAreTold, SaysOf, UpdatesSayOfFiles}
use Rattle.viz_account.specs.Laws.{Shows, times}
use Rattle.viz_account.specs.Lines.{network_at, IsEntry, TellsEdit, TellsBatch, TellsLoad, TellsFile, TellsAudit, Tells}
use Rattle.viz_account.specs.SurfaceLaws.{AuditsAreOne}
use Rattle.viz_account.proofs.NumberLemmas.{shows}
use Rattle.viz_account.proofs.OnceLemmas.{times_append, not_first, places_here}
use Rattle.viz_account.proofs.ScriptLemmas.{least_low, phases_flat, edited_flat}

-- ---- where a line tells that its command came to what it asked for

edit_came : (limit : ℕ) (h : List Entry) (ps : List ℕ) (low n : ℕ) (e : Edit) (l : Line) → TellsCame l → TellsEdit limit h ps n e l → least low l ≤ n → (shown l ≡ Some n) × IsAccepted h ps low n (e ∷ [])
edit_came limit h ps low n e (line.Edit at) is t up = (ap Some t.0, record { past = omega (arith, up); entry = t.1 })
edit_came limit h ps low n e (line.File at cells points ran) is t up = absurd t
edit_came limit h ps low n e (line.Audit at sides two lone border) is t up = absurd t
edit_came limit h ps low n e (line.Refused r at) is t up = absurd is
edit_came limit h ps low n e line.ReadFault is t up = absurd is
edit_came limit h ps low n e line.WriteFault is t up = absurd is
edit_came limit h ps low n e line.Memory is t up = absurd is

batch_came : (limit : ℕ) (h : List Entry) (ps : List ℕ) (low n : ℕ) (batch : List Edit) (l : Line) → TellsCame l → TellsBatch limit h ps n batch l → least low l ≤ n → (shown l ≡ Some n) × IsAccepted h ps low n batch
batch_came limit h ps low n batch (line.Edit at) is t up = (ap Some t.0, record { past = omega (arith, up); entry = t.1 })
batch_came limit h ps low n batch (line.File at cells points ran) is t up = absurd t
batch_came limit h ps low n batch (line.Audit at sides two lone border) is t up = absurd t
batch_came limit h ps low n batch (line.Refused r at) is t up = absurd is
batch_came limit h ps low n batch line.ReadFault is t up = absurd is
batch_came limit h ps low n batch line.WriteFault is t up = absurd is
batch_came limit h ps low n batch line.Memory is t up = absurd is

load_came : (limit : ℕ) (h : List Entry) (ps : List ℕ) (low n : ℕ) (node file : List ℕ) (l : Line) (calls : List Call) → TellsCame l → TellsLoad limit h ps n node file l calls → least low l ≤ n
    → (shown l ≡ Some n) × ((bytes : List ℕ) × IsAccepted h ps low n (Load node bytes ∷ []))
load_came limit h ps low n node file (line.Edit at) calls is t up = (ap Some t.1.0, (t.0, record { past = omega (arith, up); entry = t.1.1 }))
load_came limit h ps low n node file (line.File at cells points ran) calls is t up = absurd t.1
load_came limit h ps low n node file (line.Audit at sides two lone border) calls is t up = absurd t.1
load_came limit h ps low n node file (line.Refused r at) calls is t up = absurd is
load_came limit h ps low n node file line.ReadFault calls is t up = absurd is
load_came limit h ps low n node file line.WriteFault calls is t up = absurd is
load_came limit h ps low n node file line.Memory calls is t up = absurd is

file_came : (Ran : ℕ → ℕ → Type 0) (net : Network) (n : ℕ) (node file : List ℕ) (l : Line) (calls : List Call) → TellsCame l → TellsFile Ran net n node file l calls → (shown l ≡ Some n) × HasFile net node
file_came Ran net n node file (line.File at cells points ran) calls is t = (ap Some t.0, (t.1.0, t.1.1, t.1.2, t.1.3.file))
file_came Ran net n node file (line.Edit at) calls is t = absurd t
file_came Ran net n node file (line.Audit at sides two lone border) calls is t = absurd t
file_came Ran net n node file (line.Refused r at) calls is t = absurd is
file_came Ran net n node file line.ReadFault calls is t = absurd is
file_came Ran net n node file line.WriteFault calls is t = absurd is
file_came Ran net n node file line.Memory calls is t = absurd is

audit_came : (net : Network) (n : ℕ) (node : List ℕ) (l : Line) → TellsCame l → TellsAudit net n node l → (shown l ≡ Some n) × HasAudit net node
audit_came net n node (line.Audit at sides two lone border) is t = (ap Some t.0, (t.1.0, record { sides = sides; two = two; lone = lone; border = border }, t.1.1, t.1.2))
audit_came net n node (line.Edit at) is t = absurd t
audit_came net n node (line.File at cells points ran) is t = absurd t
audit_came net n node (line.Refused r at) is t = absurd is
audit_came net n node line.ReadFault is t = absurd is
audit_came net n node line.WriteFault is t = absurd is
audit_came net n node line.Memory is t = absurd is

came : (limit : ℕ) (h : List Entry) (ps : List ℕ) (low n : ℕ) (o : Asked) (l : Line) (calls : List Call) → TellsCame l → Tells limit h ps n o l calls → least low l ≤ n → (shown l ≡ Some n) × Came h ps low n o
came limit h ps low n (edit e) l calls is t up = edit_came limit h ps low n e l is t.0 up
came limit h ps low n (edits batch) l calls is t up = batch_came limit h ps low n batch l is t.0 up
came limit h ps low n (load node file) l calls is t up = load_came limit h ps low n node file l calls is t up
came limit h ps low n (update node file pieces workers) l calls is t up = file_came _ (network_at h n) n node file l calls is t
came limit h ps low n (audit node pieces workers) l calls is t up = audit_came (network_at h n) n node l is t.0

have_come : (limit : ℕ) (h : List Entry) (ps : List ℕ) (low : ℕ) (os : List Asked) (ls : List Line) (calls : List Call) (last : ℕ) → AreTold limit h ps low os ls calls last → All TellsCame ls → HaveCome h ps low os ls
have_come limit h ps low [] [] calls last t all = tt
have_come limit h ps low [] (l ∷ ls) calls last t all = absurd t
have_come limit h ps low (o ∷ os) [] calls last t all = absurd t
have_come limit h ps low (o ∷ os) (l ∷ ls) calls last t all =
    let c = came limit h ps low t.0 o l t.1 (All-head TellsCame l ls all) t.4 t.5 in
    (t.0, c.0, c.1, have_come limit h ps t.0 os ls t.2 last t.7 (All-tail TellsCame l ls all))

-- ---- where a command came to what it asked for

-- the number that is shown is the line's
same_number : (n m : ℕ) (l : Line) → Shows n l → shown l ≡ Some m → m ≡ n
same_number n m (line.Edit at) s e = (let same : at ≡ m = cc in sym same ∙ s)
same_number n m (line.File at cells points ran) s e = (let same : at ≡ m = cc in sym same ∙ s)
same_number n m (line.Audit at sides two lone border) s e = (let same : at ≡ m = cc in sym same ∙ s)
same_number n m (line.Refused r at) s e = (let same : at ≡ m = cc in sym same ∙ s)
same_number n m line.ReadFault s e = absurd (let bad : (let o : Option ℕ = None in o) ≡ Some m = e in cc)
same_number n m line.WriteFault s e = absurd (let bad : (let o : Option ℕ = None in o) ≡ Some m = e in cc)
same_number n m line.Memory s e = absurd (let bad : (let o : Option ℕ = None in o) ≡ Some m = e in cc)

-- a line that tells of an entry tells that its command came to what it asked for
entry_told : (l : Line) → (edited l ≡ [] → ⊥) → TellsCame l
entry_told (line.Edit at) some = tt
entry_told (line.File at cells points ran) some = tt
entry_told (line.Audit at sides two lone border) some = tt
entry_told (line.Refused r at) some = absurd (some refl)
entry_told line.ReadFault some = absurd (some refl)
entry_told line.WriteFault some = absurd (some refl)
entry_told line.Memory some = absurd (some refl)

-- a name has one node
one_node : (net : Network) (node : List ℕ) (x y : Node) → named net node ≡ Some x → named net node ≡ Some y → x ≡ y
one_node net node x y a b = (let e : Some x ≡ Some y = sym a ∙ b in cc)

no_node : (net : Network) (node : List ℕ) (x : Node) → named net node ≡ None → named net node ≡ Some x → ⊥
no_node net node x a b = (let e : (let o : Option Node = None in o) ≡ Some x = sym a ∙ b in cc)

module _ (files : FilesAreOne) where
  -- a node with a fault has no file
  no_file : (net : Network) (node : List ℕ) (fault : Fault) (x : Node) → named net node ≡ Some x → IsFileOf net x.id.0 (Err fault) → HasFile net node → ⊥
  no_file net node fault x at none f =
      let same = one_node net node f.0 x f.2 at in
      let bad : (let r : Result (List ℕ) Fault = Ok f.1 in r) ≡ Err fault = files net x.id.0 (Ok f.1) (Err fault) (subst (λ (y : Node). IsFileOf net y.id.0 (Ok f.1)) same f.3) none in
      cc

  pub updates_say : (Ran : ℕ → ℕ → Type 0) → UpdatesSayOfFiles Ran
  updates_say Ran net n node file (line.File at cells points ran) calls t = (t.1.0, t.1.1, t.1.2, t.1.3.file)
  updates_say Ran net n node file (line.Refused reason.Unknown at) calls t = λ f. no_node net node f.0 t.1 f.2
  updates_say Ran net n node file (line.Refused (reason.Fault fault name) at) calls t = λ f. no_file net node fault t.1.0 t.1.1 t.1.2 f
  updates_say Ran net n node file (line.Refused (reason.Edit r) at) calls t = absurd t
  updates_say Ran net n node file (line.Refused (reason.Batch index r) at) calls t = absurd t
  updates_say Ran net n node file (line.Refused reason.Full at) calls t = absurd t
  updates_say Ran net n node file (line.Refused reason.TooLong at) calls t = absurd t
  updates_say Ran net n node file (line.Edit at) calls t = tt
  updates_say Ran net n node file (line.Audit at sides two lone border) calls t = tt
  updates_say Ran net n node file line.ReadFault calls t = tt
  updates_say Ran net n node file line.WriteFault calls t = tt
  updates_say Ran net n node file line.Memory calls t = tt

  -- a line that shows a number, and tells of no refusal, tells that its command came to what it asked for
  by_file : (File : Type 0) (l : Line) (m : ℕ) → shown l ≡ Some m → SaysOf l File → File → TellsCame l
  by_file File (line.Edit at) m e says f = tt
  by_file File (line.File at cells points ran) m e says f = tt
  by_file File (line.Audit at sides two lone border) m e says f = tt
  by_file File (line.Refused r at) m e says f = absurd (says f)
  by_file File line.ReadFault m e says f = absurd (let bad : (let o : Option ℕ = None in o) ≡ Some m = e in cc)
  by_file File line.WriteFault m e says f = absurd (let bad : (let o : Option ℕ = None in o) ≡ Some m = e in cc)
  by_file File line.Memory m e says f = absurd (let bad : (let o : Option ℕ = None in o) ≡ Some m = e in cc)

  module _ (audits : AuditsAreOne) where
    no_counts : (net : Network) (node : List ℕ) (fault : Fault) (x : Node) → named net node ≡ Some x → IsAuditOf net x.id.0 (Err fault) → HasAudit net node → ⊥
    no_counts net node fault x at none f =
        let same = one_node net node f.0 x f.2 at in
        let bad : (let r : Result Counts Fault = Ok f.1 in r) ≡ Err fault = audits net x.id.0 (Ok f.1) (Err fault) (subst (λ (y : Node). IsAuditOf net y.id.0 (Ok f.1)) same f.3) none in
        cc

    by_audit : (net : Network) (n : ℕ) (node : List ℕ) (l : Line) (m : ℕ) → TellsAudit net n node l → shown l ≡ Some m → HasAudit net node → TellsCame l
    by_audit net n node (line.Audit at sides two lone border) m t e f = tt
    by_audit net n node (line.Refused reason.Unknown at) m t e f = absurd (no_node net node f.0 t.1 f.2)
    by_audit net n node (line.Refused (reason.Fault fault name) at) m t e f = absurd (no_counts net node fault t.1.0 t.1.1 t.1.2 f)
    by_audit net n node (line.Refused (reason.Edit r) at) m t e f = absurd t
    by_audit net n node (line.Refused (reason.Batch index r) at) m t e f = absurd t
    by_audit net n node (line.Refused reason.Full at) m t e f = absurd t
    by_audit net n node (line.Refused reason.TooLong at) m t e f = absurd t
    by_audit net n node (line.Edit at) m t e f = tt
    by_audit net n node (line.File at cells points ran) m t e f = tt
    by_audit net n node line.ReadFault m t e f = absurd (let bad : (let o : Option ℕ = None in o) ≡ Some m = e in cc)
    by_audit net n node line.WriteFault m t e f = absurd (let bad : (let o : Option ℕ = None in o) ≡ Some m = e in cc)
    by_audit net n node line.Memory m t e f = absurd (let bad : (let o : Option ℕ = None in o) ≡ Some m = e in cc)

    module _ (limit : ℕ) (h : List Entry) (ps : List ℕ) where
      -- the number of an entry that a line tells is the line's
      none_told : (low n : ℕ) (o : Asked) (l : Line) (calls : List Call) (k : ℕ) → Tells limit h ps n o l calls → least low l ≤ n → (k ≤ low) ⊎ (n < k) → times k (edited l) ≡ 0
      none_told low n o (line.Edit at) calls k t up apart =
          let same : at ≡ n = shows limit h ps n o (line.Edit at) calls t in
          not_first k at 0 (λ e. elim apart [
            | inl le ↦ omega (arith, le, e, same, up)
            | inr lt ↦ omega (arith, lt, e, same)
          ])
      none_told low n o (line.File at cells points ran) calls k t up apart = refl
      none_told low n o (line.Audit at sides two lone border) calls k t up apart = refl
      none_told low n o (line.Refused r at) calls k t up apart = refl
      none_told low n o line.ReadFault calls k t up apart = refl
      none_told low n o line.WriteFault calls k t up apart = refl
      none_told low n o line.Memory calls k t up apart = refl

      -- entries that are told behind a number have later ones
      none_later : (k low : ℕ) (os : List Asked) (ls : List Line) (calls : List Call) (last : ℕ) → AreTold limit h ps low os ls calls last → k ≤ low → times k (flat_map edited ls) ≡ 0
      none_later k low [] [] calls last t le = refl
      none_later k low [] (l ∷ ls) calls last t le = absurd t
      none_later k low (o ∷ os) [] calls last t le = absurd t
      none_later k low (o ∷ os) (l ∷ ls) calls last t le =
          let up = least_low low t.0 l t.5 in
          times_append k (edited l) (flat_map edited ls)
          ∙ ap₂ (λ (x y : ℕ). x + y) (none_told low t.0 o l t.1 k t.4 t.5 (inl le)) (none_later k t.0 os ls t.2 last t.7 (omega (arith, le, up)))

      -- an entry by one of these passes is told by the line at its number
      is_told : (low n : ℕ) (os : List Asked) (l : Line) (ls : List Line) (calls : List Call) (last : ℕ) (batch : List Edit) → AreTold limit h ps n os ls calls last
          → times n (places ps h) ≡ times n (edited l ++ flat_map edited ls) → IsEntry h ps n batch → edited l ≡ [] → ⊥
      is_told low n os l ls calls last batch t own entry none =
          let later = none_later n n os ls calls last t (omega arith) in
          let here = places_here ps 1 entry.index h entry.entry entry.there in
          let at : n ≡ 1 + entry.index = entry.place ∙ omega arith in
          let one : times n (places ps h) ≡ 1 = ap (λ (k : ℕ). times k (places ps h)) at ∙ here ∙ ap (λ b. cond b 1 0) entry.own in
          let zero : times n (places ps h) ≡ 0 = own ∙ ap (λ (xs : List ℕ). times n (xs ++ flat_map edited ls)) none ∙ later in
          omega (arith, one, zero)

      told_as_came : (low n m : ℕ) (o : Asked) (os : List Asked) (l : Line) (ls : List Line) (mine rest : List Call) (last : ℕ) → Tells limit h ps n o l mine → AreTold limit h ps n os ls rest last
          → (low < n → times n (places ps h) ≡ times n (edited l ++ flat_map edited ls)) → shown l ≡ Some m → Came h ps low n o → TellsCame l
      told_as_came low n m (edit e) os l ls mine rest last t later own e_shown c = entry_told l (is_told low n os l ls rest last (e ∷ []) later (own c.past) c.entry)
      told_as_came low n m (edits batch) os l ls mine rest last t later own e_shown c = entry_told l (is_told low n os l ls rest last batch later (own c.past) c.entry)
      told_as_came low n m (load node file) os l ls mine rest last t later own e_shown c = entry_told l (is_told low n os l ls rest last (Load node c.0 ∷ []) later (own c.1.past) c.1.entry)
      told_as_came low n m (update node file pieces workers) os l ls mine rest last t later own e_shown c =
          by_file (HasFile (network_at h n) node) l m e_shown (updates_say _ (network_at h n) n node file l mine t) c
      told_as_came low n m (audit node pieces workers) os l ls mine rest last t later own e_shown c = by_audit (network_at h n) n node l m t.0 e_shown c

      all_told : (low : ℕ) (os : List Asked) (ls : List Line) (calls : List Call) (last : ℕ) → AreTold limit h ps low os ls calls last
          → ((k : ℕ) → low < k → times k (places ps h) ≡ times k (flat_map edited ls)) → HaveCome h ps low os ls → All TellsCame ls
      all_told low [] [] calls last t own c = All-nil TellsCame
      all_told low [] (l ∷ ls) calls last t own c = absurd t
      all_told low (o ∷ os) [] calls last t own c = absurd t
      all_told low (o ∷ os) (l ∷ ls) calls last t own c =
          let same : c.0 ≡ t.0 = same_number t.0 c.0 l (shows limit h ps t.0 o l t.1 t.4) c.1 in
          let up = least_low low t.0 l t.5 in
          let first = told_as_came low t.0 c.0 o os l ls t.1 t.2 last t.4 t.7 (own t.0) c.1 (subst (λ (n : ℕ). Came h ps low n o) same c.2) in
          let more : (k : ℕ) → t.0 < k → times k (places ps h) ≡ times k (flat_map edited ls) = λ k lt.
          own k (omega (arith, up, lt)) ∙ times_append k (edited l) (flat_map edited ls) ∙ ap (λ (x : ℕ). x + times k (flat_map edited ls)) (none_told low t.0 o l t.1 k t.4 t.5 (inr lt))
          ∙ (let same : 0 + times k (flat_map edited ls) ≡ times k (flat_map edited ls) = omega arith in same) in
          All-cons TellsCame l ls first (all_told t.0 os ls t.2 last t.7 more (subst (λ (n : ℕ). HaveCome h ps n os ls) same c.3))

    -- ---- actors

    module _ {P : Type 0} (m : port.Ghosts P) (limit : ℕ) (h : List Entry) (ends : List ℕ) where
      actor_come : (ps : List ℕ) (phases : List (List Asked)) (lines : List (List Line)) (before after : P) → IsActor m limit h ps phases lines ends before after
          → All TellsCame (flat_map (λ ls. ls) lines) → HaveCome h ps 0 (flat_map (λ os. os) phases) (flat_map (λ ls. ls) lines)
      actor_come ps phases lines before after t all =
          let r = phases_flat limit h ps 0 phases lines ends t.gained.0 t.gained.2 in
          have_come limit h ps 0 (flat_map (λ os. os) phases) (flat_map (λ ls. ls) lines) t.gained.0 r.0 r.1 all

      actor_told : (ps : List ℕ) (phases : List (List Asked)) (lines : List (List Line)) (before after : P) → IsActor m limit h ps phases lines ends before after
          → HaveCome h ps 0 (flat_map (λ os. os) phases) (flat_map (λ ls. ls) lines) → All TellsCame (flat_map (λ ls. ls) lines)
      actor_told ps phases lines before after t c =
          let r = phases_flat limit h ps 0 phases lines ends t.gained.0 t.gained.2 in
          all_told limit h ps 0 (flat_map (λ os. os) phases) (flat_map (λ ls. ls) lines) t.gained.0 r.0 r.1
          (λ k lt. ap (times k) (t.own ∙ sym (edited_flat lines))) c

      actors_come : (passes : List (List ℕ)) (script : List (List (List Asked))) (lines : List (List (List Line))) (before after : List P) → AreActors m limit h passes script lines ends before after
          → All TellsCame (flat_map (λ actor. flat_map (λ ls. ls) actor) lines) → AllCame h passes script lines
      actors_come [] [] [] before after t all = tt
      actors_come [] [] (l ∷ lines) before after t all = absurd t
      actors_come [] (s ∷ script) lines before after t all = absurd t
      actors_come (p ∷ passes) [] lines before after t all = absurd t
      actors_come (p ∷ passes) (s ∷ script) [] before after t all = absurd t
      actors_come (p ∷ passes) (s ∷ script) (l ∷ lines) [] after t all = absurd t
      actors_come (p ∷ passes) (s ∷ script) (l ∷ lines) (b ∷ before) [] t all = absurd t
      actors_come (p ∷ passes) (s ∷ script) (l ∷ lines) (b ∷ before) (a ∷ after) t all =
          let mine = flat_map (λ (ls : List Line). ls) l in
          let others = flat_map (λ (actor : List (List Line)). flat_map (λ (ls : List Line). ls) actor) lines in
          (actor_come p s l b a t.0 (front_all mine others all), actors_come passes script lines before after t.1 (behind_all mine others all))
        where
          front_all : (xs ys : List Line) → All TellsCame (xs ++ ys) → All TellsCame xs
          front_all [] ys h = All-nil TellsCame
          front_all (x ∷ xs) ys h = All-cons TellsCame x xs (All-head TellsCame x (xs ++ ys) h) (front_all xs ys (All-tail TellsCame x (xs ++ ys) h))

          behind_all : (xs ys : List Line) → All TellsCame (xs ++ ys) → All TellsCame ys
          behind_all [] ys h = h
          behind_all (x ∷ xs) ys h = behind_all xs ys (All-tail TellsCame x (xs ++ ys) h)

      actors_told : (passes : List (List ℕ)) (script : List (List (List Asked))) (lines : List (List (List Line))) (before after : List P) → AreActors m limit h passes script lines ends before after
          → AllCame h passes script lines → All TellsCame (flat_map (λ actor. flat_map (λ ls. ls) actor) lines)
      actors_told [] [] [] before after t c = All-nil TellsCame
      actors_told [] [] (l ∷ lines) before after t c = absurd t
      actors_told [] (s ∷ script) lines before after t c = absurd t
      actors_told (p ∷ passes) [] lines before after t c = absurd t
      actors_told (p ∷ passes) (s ∷ script) [] before after t c = absurd t
      actors_told (p ∷ passes) (s ∷ script) (l ∷ lines) [] after t c = absurd t
      actors_told (p ∷ passes) (s ∷ script) (l ∷ lines) (b ∷ before) [] t c = absurd t
      actors_told (p ∷ passes) (s ∷ script) (l ∷ lines) (b ∷ before) (a ∷ after) t c =
          All-append TellsCame (flat_map (λ (ls : List Line). ls) l) (flat_map (λ (actor : List (List Line)). flat_map (λ (ls : List Line). ls) actor) lines)
          (actor_told p s l b a t.0 c.0) (actors_told passes script lines before after t.1 c.1)

    pub all_came : {P : Type 0} (m : port.Ghosts P) → AllCameAreTold m
    all_came m limit script h lines before after a =
        (actors_told m limit h a.ends a.passes script lines before after a.actors, actors_come m limit h a.ends a.passes script lines before after a.actors)
