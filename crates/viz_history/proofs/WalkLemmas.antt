-- Entries go from the last place to the first, one after the other.
use Rattle.std.proofs.Common.{◌≡◌, ℕ, zero, suc, ◌-◌, ◌<◌, ◌≤◌, Bool, true, false, not, cond, nat_eq, None, Some, List, [], ◌∷◌, ◌++◌, length, map, take, drop, append-nil, append_assoc, refl, sym, ap, subst, ◌∙◌, arith}
use Rattle.std.specs.List.{All, AllByRecursion, IsDistinct}
use Rattle.std.specs.Option.{option_map_or}
use Rattle.std.specs.Prelude.{option_map, slice_get}
use Rattle.std.proofs.lemmas.Bool.{and_parts, eq-eqb, false≢true, leb-true}
use Rattle.std.proofs.lemmas.List.Elements.{All-cons, All-head, All-tail}
use Rattle.viz_parts.specs.declared.request.Part.{Part}
use Rattle.viz_parts.specs.declared.stored.Key.{Key}
use Rattle.viz_parts.specs.declared.stored.Stored.{Stored}
use Rattle.viz_cache.specs.Keys.{same_key}
use Rattle.viz_cache.specs.Cache.{brought_first, entry_of, last_key, replaced, without}
use Rattle.viz_cache.proofs.KeyLemmas.{key-same, key-itself}
use Rattle.viz_kept.specs.True.{HasStamp, IsTrueOf}
use Rattle.viz_kept.proofs.TrueLemmas.{overtaken_true}
use Rattle.viz_network.specs.declared.edit.Edit.{Edit}
use Rattle.viz_network.specs.History.{net_of}
use Rattle.viz_network.specs.Network.{Network}
use Rattle.viz_history.specs.Publishing.{is_lost, is_overtaken, KeepsPlace, GivesOvertakenUp}
use Rattle.viz_history.specs.Steps.Walk.{GivesUpIf, PassesOver, HasPassed}

-- ---- an entry behind others of other keys

-- no entry has the key
abbrev Lacks : Key → List Stored → Type 0
Lacks key = AllByRecursion (λ (e : Stored). same_key key e.key ≡ false)

other_way : (a b : Key) → same_key a b ≡ false → same_key b a ≡ false
other_way a b h = by (same_key b a) refl
  where
    by : (t : Bool) → same_key b a ≡ t → same_key b a ≡ false
    by true e = absurd (false≢true (sym h ∙ (ap (same_key a) (key-same b a e) ∙ key-itself a)))
    by false e = e

last_of : (P : Key → Type 0) (front : List Stored) (last : Stored) → AllByRecursion P (map (λ e. e.key) (front ++ last ∷ [])) → P last.key
last_of P [] last h = h.0
last_of P (e ∷ front) last h = last_of P front last h.1

lacks_last : (front : List Stored) (last : Stored) → IsDistinct same_key (map (λ e. e.key) (front ++ last ∷ [])) → Lacks last.key front
unfolding IsDistinct
lacks_last [] last d = tt
lacks_last (e ∷ front) last d = (other_way e.key last.key (last_of (λ k. same_key e.key k ≡ false) front last d.0), lacks_last front last d.1)

module _ (key : Key) (last : Stored) (is : same_key key last.key ≡ true) where
  found_last : (front : List Stored) → Lacks key front → entry_of key (front ++ last ∷ []) ≡ Some last
  found_last [] h = ap (λ b. cond b (Some last) None) is
  found_last (e ∷ front) h = ap (λ b. cond b (Some e) (entry_of key (front ++ last ∷ []))) h.0 ∙ found_last front h.1

  without_last : (front : List Stored) → Lacks key front → without key (front ++ last ∷ []) ≡ front
  without_last [] h = ap (λ b. cond b [] (last ∷ [])) is
  without_last (e ∷ front) h = ap (λ b. cond b (front ++ last ∷ []) (e ∷ without key (front ++ last ∷ []))) h.0 ∙ ap (λ l. e ∷ l) (without_last front h.1)

  brought_last : (front : List Stored) → Lacks key front → brought_first key (front ++ last ∷ []) ≡ last ∷ front
  brought_last front h =
      ap (λ o. option_map_or (λ e. e ∷ without key (front ++ last ∷ [])) o (front ++ last ∷ [])) (found_last front h) ∙ ap (λ l. last ∷ l) (without_last front h)

  replaced_last : (part : Part) (front : List Stored) → Lacks key front → replaced key part (front ++ last ∷ []) ≡ front ++ record { key = last.key; part = part } ∷ []
  replaced_last part [] h = ap (λ b. cond b (record { key = last.key; part = part } ∷ []) (last ∷ [])) is
  replaced_last part (e ∷ front) h =
      ap (λ b. cond b (record { key = e.key; part = part } ∷ (front ++ last ∷ [])) (e ∷ replaced key part (front ++ last ∷ []))) h.0
      ∙ ap (λ l. e ∷ l) (replaced_last part front h.1)

last_got : (front : List Stored) (last : Stored) → slice_get (front ++ last ∷ []) (length (front ++ last ∷ []) - 1) ≡ Some last
last_got [] last = refl
last_got (e ∷ []) last = refl
last_got (e ∷ f ∷ front) last =
    ap (slice_get (e ∷ f ∷ (front ++ last ∷ []))) (let q : length (e ∷ f ∷ (front ++ last ∷ [])) - 1 ≡ suc (length (f ∷ (front ++ last ∷ [])) - 1) = omega arith in q) ∙ last_got (f ∷ front) last

-- the last key, and none where there is no entry
pub last_key_is : (front : List Stored) (last : Stored) → last_key (front ++ last ∷ []) ≡ Some last.key
last_key_is front last = ap (option_map (λ (e : Stored). e.key)) (last_got front last)

-- ---- the last entry is passed over

module _ (net : Network) (at : ℕ) (front : List Stored) (last : Stored) (d : IsDistinct same_key (map (λ e. e.key) (front ++ last ∷ []))) where
  turned : (b : Bool) (mid new : List Stored) → is_overtaken net at last.key ≡ b → GivesUpIf b last.key (front ++ last ∷ []) mid → new ≡ brought_first last.key mid → PassesOver net at front last new
  turned true mid new is given brought =
      let lacks = lacks_last front last d in
      let entry : Stored = record { key = last.key; part = given.part } in
      record {
        entry = entry;
        place = record { key = refl; kept = λ no. absurd (false≢true (sym no ∙ is)); empty = λ yes. given.empty };
        entries = brought ∙ ap (brought_first last.key) (given.entries ∙ replaced_last last.key last (key-itself last.key) given.part front lacks)
            ∙ brought_last last.key entry (key-itself last.key) front lacks;
      }
  turned false mid new is same brought = record {
    entry = last;
    place = record { key = refl; kept = λ no. refl; empty = λ yes. absurd (false≢true (sym is ∙ yes)) };
    entries = brought ∙ ap (brought_first last.key) same ∙ brought_last last.key last (key-itself last.key) front (lacks_last front last d);
  }

  pub passed_over : (key : Key) (mid new : List Stored) → key ≡ last.key → GivesUpIf (is_overtaken net at key) key (front ++ last ∷ []) mid → new ≡ brought_first key mid → PassesOver net at front last new
  passed_over key mid new same given brought =
      turned (is_overtaken net at last.key) mid new refl (subst (λ k. GivesUpIf (is_overtaken net at k) k (front ++ last ∷ []) mid) same given) (brought ∙ ap (λ k. brought_first k mid) same)

-- ---- all entries are passed over

split_at : (j : ℕ) (es : List Stored) → j < length es → (e : Stored) × (take (suc j) es ≡ take j es ++ e ∷ []) × (drop j es ≡ e ∷ drop (suc j) es)
split_at j [] l = absurd (omega (arith, l))
split_at zero (e ∷ es) l = (e, refl, refl)
split_at (suc j) (e ∷ es) l = let s = split_at j es (omega (arith, l)) in (s.0, ap (λ r. e ∷ r) s.1, s.2)

drop_all : (es : List Stored) → drop (length es) es ≡ []
drop_all [] = refl
drop_all (e ∷ es) = drop_all es

take_all : (es : List Stored) → take (length es) es ≡ es
take_all [] = refl
take_all (e ∷ es) = ap (λ r. e ∷ r) (take_all es)

module _ (net : Network) (at : ℕ) (old : List Stored) where
  pub none_passed : HasPassed net at (length old) old old
  none_passed = record { front = []; given = subst (λ l. GivesOvertakenUp net at l []) (sym (drop_all old)) tt; entries = sym (take_all old) }

  -- one more, by what a turn does of any entries
  pub one_passed : (j : ℕ) (now new : List Stored) → j < length old → HasPassed net at (suc j) old now
      → ((front : List Stored) (last : Stored) → now ≡ front ++ last ∷ [] → PassesOver net at front last new) → HasPassed net at j old new
  one_passed j now new l h turn =
      let s = split_at j old l in
      let t = turn (h.front ++ take j old) s.0 (h.entries ∙ ap (λ r. h.front ++ r) s.1 ∙ sym (append_assoc h.front (take j old) (s.0 ∷ []))) in
      record {
        front = t.entry ∷ h.front;
        given = subst (λ r. GivesOvertakenUp net at r (t.entry ∷ h.front)) (sym s.2) (t.place, h.given);
        entries = t.entries;
      }

  pub all_passed : (new : List Stored) → HasPassed net at 0 old new → GivesOvertakenUp net at old new
  all_passed new h = subst (GivesOvertakenUp net at old) (sym (h.entries ∙ append-nil h.front)) h.given

-- ---- what is left is true

lost_is : (net : Network) (key : Key) → is_lost net key ≡ true → HasStamp net key → ⊥
lost_is net key lost has = false≢true (sym (ap (λ o. not (option_map_or (nat_eq key.stamp) o false)) has ∙ ap not (eq-eqb key.stamp key.stamp refl)) ∙ lost)

module _ (edits : List Edit) where
  abbrev net : Network
  net = net_of edits

  place_true : (b : Bool) (old new : Stored) → is_overtaken net (length edits) old.key ≡ b → KeepsPlace net (length edits) old new → IsTrueOf edits old → IsTrueOf edits new
  place_true false old new is k t = subst (IsTrueOf edits) (sym (k.kept is)) t
  place_true true old new is k t =
      let both = and_parts (is_lost net old.key) _ is in
      overtaken_true edits new (subst (λ (key : Key). key.stamp ≤ length edits) (sym k.key) (leb-true old.key.stamp (length edits) both.1))
      (λ has. lost_is net old.key both.0 (subst (HasStamp net) k.key has))

  pub given_up_true : (old new : List Stored) → GivesOvertakenUp net (length edits) old new → All (IsTrueOf edits) old → All (IsTrueOf edits) new
  given_up_true [] [] g h = h
  given_up_true [] (d ∷ new) g h = absurd g
  given_up_true (e ∷ old) [] g h = absurd g
  given_up_true (e ∷ old) (d ∷ new) g h =
      All-cons (IsTrueOf edits) d new (place_true (is_overtaken net (length edits) e.key) e d refl g.0 (All-head (IsTrueOf edits) e old h))
      (given_up_true old new g.1 (All-tail (IsTrueOf edits) e old h))
