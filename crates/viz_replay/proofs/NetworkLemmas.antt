-- The network of one entry more.
use Rattle.std.proofs.Common.{◌≡◌, ℕ, suc, ◌+◌, ◌<◌, ◌≤◌, List, [], ◌∷◌, ◌++◌, length, length-append, take, drop, get_or, sym, ap, subst, ◌∙◌, arith}
use Rattle.std.specs.Prelude.{slice_index_or}
use Rattle.std.proofs.lemmas.Grind.{flat_map-append}
use Rattle.std.proofs.lemmas.List.{append-nil, take_more, take-append-drop}
use Rattle.viz_batches.specs.AppliesAll.{IsSoundBefore}
use Rattle.viz_journal.specs.declared.entry.JournalEntry.{JournalEntry}
use Rattle.viz_journal.specs.Entries.{edits_of}
use Rattle.viz_network.specs.declared.edit.Edit.{Edit}
use Rattle.viz_network.specs.Network.{Network}
use Rattle.viz_network.specs.History.{net_of, net_after, after}

net_after-append : (at : ℕ) (edits more : List Edit) (net : Network) → net_after at (edits ++ more) net ≡ net_after (at + length edits) more (net_after at edits net)
net_after-append at [] more net = ap (λ k. net_after k more net) (let same : at ≡ at + 0 = omega arith in same)
net_after-append at (edit ∷ edits) more net =
    net_after-append (at + 1) edits more (after at edit net)
    ∙ ap (λ k. net_after k more (net_after (at + 1) edits (after at edit net))) (let same : (at + 1) + length edits ≡ at + suc (length edits) = omega arith in same)

-- fewer entries have no more edits
pub front_few : (entries : List JournalEntry) (n : ℕ) → length (edits_of (take n entries)) ≤ length (edits_of entries)
front_few entries n =
    let front = take n entries in
    let rest = drop n entries in
    omega (arith, ap (λ (es : List JournalEntry). length (edits_of es)) (take-append-drop n entries), ap length (flat_map-append (λ (e : JournalEntry). e.batch) front rest), length-append (edits_of front) (edits_of rest))

module _ (entries : List JournalEntry) (i : ℕ) (d : JournalEntry) (within : i < length entries) where
  -- the edits with those of the next entry
  pub edits_more : edits_of (take (i + 1) entries) ≡ edits_of (take i entries) ++ (get_or entries i d).batch
  edits_more =
      ap edits_of (take_more entries i d within)
      ∙ flat_map-append (λ (e : JournalEntry). e.batch) (take i entries) (get_or entries i d ∷ [])
      ∙ ap (λ l. edits_of (take i entries) ++ l) (append-nil (get_or entries i d).batch)

  module _ (is : d ≡ slice_index_or entries i d) (before : ℕ) (counted : before ≡ length (edits_of (take i entries))) where
    -- how many they are
    pub count_more : before + length d.batch ≡ length (edits_of (take (i + 1) entries))
    count_more =
        ap (λ (x : JournalEntry). before + length x.batch) is ∙ ap (λ n. n + length (get_or entries i d).batch) counted
        ∙ sym (ap length edits_more ∙ length-append (edits_of (take i entries)) (get_or entries i d).batch)

    pub few_more : before + length d.batch ≤ length (edits_of entries)
    few_more = omega (arith, count_more, front_few entries (i + 1))

    -- the network that they make
    pub net_more : (net : Network) → net ≡ net_of (edits_of (take i entries)) → net_after (before + 1) d.batch net ≡ net_of (edits_of (take (i + 1) entries))
    net_more net made =
        let old = edits_of (take i entries) in
        let more = (get_or entries i d).batch in
        ap (λ (x : JournalEntry). net_after (before + 1) x.batch net) is
        ∙ ap (λ k. net_after (k + 1) more net) counted
        ∙ ap (net_after (length old + 1) more) made
        ∙ ap (λ k. net_after k more (net_of old)) (let same : length old + 1 ≡ 1 + length old = omega arith in same)
        ∙ sym (ap net_of edits_more ∙ net_after-append 1 old more [])

    pub sound_there : ((edits : List Edit) → IsSoundBefore (length edits + 1) (net_of edits)) → (net : Network) → net ≡ net_of (edits_of (take i entries)) → IsSoundBefore (before + 1) net
    sound_there sound net made =
        subst (λ (n : Network). IsSoundBefore (before + 1) n) (sym made) (subst (λ k. IsSoundBefore (k + 1) (net_of (edits_of (take i entries)))) (sym counted) (sound (edits_of (take i entries))))
