-- The network and the counts of one edit more, and of one entry more.
use Rattle.std.proofs.Common.{◌≡◌, ℕ, suc, ◌+◌, Bool, true, false, cond, nat_eq, List, [], ◌∷◌, ◌++◌, length, length-append, append_assoc, Ok, refl, sym, ap, ◌∙◌, eqb-true, arith}
use Rattle.std.specs.Prelude.{◌==◌}
use Rattle.std.proofs.lemmas.List.{append-nil}
use Rattle.std.proofs.lemmas.List.Sums.{fold-append}
use Rattle.viz_network.specs.declared.edit.Edit.{Edit}
use Rattle.viz_network.specs.Network.{Network}
use Rattle.viz_network.specs.Edits.{apply}
use Rattle.viz_network.specs.History.{pick, after, net_after, net_of}
use Rattle.viz_journal.specs.declared.entry.JournalEntry.{JournalEntry}
use Rattle.viz_journal.specs.Entries.{edits_of, entries_by}

-- the edits of entries and of one more
pub edits-more : (entries : List JournalEntry) (e : JournalEntry) → edits_of (entries ++ e ∷ []) ≡ edits_of entries ++ e.batch
edits-more [] e = append-nil e.batch
edits-more (x ∷ xs) e = ap (λ l. x.batch ++ l) (edits-more xs e) ∙ sym (append_assoc x.batch (edits_of xs) e.batch)

net_after-append : (at : ℕ) (edits : List Edit) (e : Edit) (net : Network) → net_after at (edits ++ e ∷ []) net ≡ after (at + length edits) e (net_after at edits net)
net_after-append at [] e net = ap (λ k. after k e net) (let e : at ≡ at + 0 = omega arith in e)
net_after-append at (edit ∷ edits) e net =
    net_after-append (at + 1) edits e (after at edit net)
    ∙ ap (λ k. after k e (net_after (at + 1) edits (after at edit net))) (let e : (at + 1) + length edits ≡ at + suc (length edits) = omega arith in e)

-- the network of the edits with one more
pub net-more : (edits : List Edit) (e : Edit) (new : Network) → apply (length edits + 1) e (net_of edits) ≡ Ok new → new ≡ net_of (edits ++ e ∷ [])
net-more edits e new made =
    let long : 1 + length edits ≡ length edits + 1 = omega arith in
    sym (net_after-append 1 edits e [] ∙ ap (λ n. pick (net_of edits) (apply n e (net_of edits))) long ∙ ap (pick (net_of edits)) made)

-- the same of the edits of entries, of a batch and of one more
pub net-grown : (before batch : List Edit) (e : Edit) (net new : Network) (at : ℕ) → net ≡ net_of (before ++ batch) → at ≡ length (before ++ batch) → apply (at + 1) e net ≡ Ok new
    → new ≡ net_of (before ++ (batch ++ e ∷ []))
net-grown before batch e net new at is counted made =
    net-more (before ++ batch) e new (ap (λ (n : Network). apply (length (before ++ batch) + 1) e n) (sym is) ∙ ap (λ k. apply (k + 1) e net) (sym counted) ∙ made)
    ∙ ap net_of (append_assoc before batch (e ∷ []))

pub length-grown : (before batch : List Edit) (e : Edit) → length (before ++ (batch ++ e ∷ [])) ≡ length (before ++ batch) + 1
length-grown before batch e = ap length (sym (append_assoc before batch (e ∷ []))) ∙ length-append (before ++ batch) (e ∷ [])

-- the edits where no batch is begun
pub length-closed : (before batch : List Edit) → batch ≡ [] → length (before ++ batch) ≡ length before
length-closed before batch none = ap (λ l. length (before ++ l)) none ∙ ap length (append-nil before)

-- the counts of the entries with one more
pub counts-more : (q : ℕ) (entries : List JournalEntry) (e : JournalEntry) (was is : ℕ) → was ≡ entries_by q entries
    → is ≡ cond (nat_eq e.actor q) e.count was → e.count ≡ entries_by e.actor entries + 1 → is ≡ entries_by q (entries ++ e ∷ [])
counts-more q entries e was is before raised counted = by (nat_eq e.actor q) refl
  where
    more : entries_by q (entries ++ e ∷ []) ≡ entries_by q entries + cond (nat_eq e.actor q) 1 0
    more = fold-append (λ (n : ℕ) (x : JournalEntry). n + cond (x.actor == q) 1 0) 0 entries (e ∷ [])

    by : (t : Bool) → nat_eq e.actor q ≡ t → is ≡ entries_by q (entries ++ e ∷ [])
    by true f =
        let same : e.actor ≡ q = eqb-true e.actor q f in
        let own : is ≡ e.count = raised ∙ ap (λ x. cond x e.count was) f in
        let here : entries_by e.actor entries ≡ entries_by q entries = ap (λ a. entries_by a entries) same in
        let grown : entries_by q (entries ++ e ∷ []) ≡ entries_by q entries + 1 = more ∙ ap (λ x. entries_by q entries + cond {A = ℕ} x 1 0) f in
        omega (arith, own, here, grown, counted)
    by false f =
        let own : is ≡ was = raised ∙ ap (λ x. cond x e.count was) f in
        let grown : entries_by q (entries ++ e ∷ []) ≡ entries_by q entries + 0 = more ∙ ap (λ x. entries_by q entries + cond {A = ℕ} x 1 0) f in
        omega (arith, own, grown, before)
