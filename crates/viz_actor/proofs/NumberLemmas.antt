-- The journal of a history whose passes belong to actors.
use Rattle.std.proofs.Common.{◌≡◌, ℕ, suc, ◌+◌, ◌≤◌, Bool, true, false, not, cond, nat_eq, List, [], ◌∷◌, ◌++◌, length, refl, sym, ap, ap₂, ◌∙◌, ◌||◌, ◌==◌, ⊎_elim, true≢false, eqb-true, arith}
use Rattle.std.specs.Prelude.{if◌then◌else◌, flat_map}
use Rattle.std.proofs.lemmas.Bool.{or_cases, or_left, or_right, and_parts, not-true, eq-eqb, ne_eqb}
use Rattle.std.proofs.lemmas.List.{map-append}
use Rattle.viz_turn.specs.Tales.{has, once, entries_of}
use Rattle.viz_entries.specs.declared.entry.Entry.{Entry}
use Rattle.viz_entries.specs.History.{by_of}
use Rattle.viz_journal.specs.declared.entry.JournalEntry.{JournalEntry}
use Rattle.viz_account.specs.Laws.{times}
use Rattle.viz_actor.specs.Journals.{actor_with, passes_with, numbered}
use Rattle.viz_actor.specs.Numbering.{actors_of, running, with_numbers}

-- each entry is of one of these passes
abbrev pub Each : List ℕ → List Entry → Type 0
Each ns [] = Unit {0}
Each ns (e ∷ es) = (has e.pass ns ≡ true) × Each ns es

-- ---- entries of passes

module _ (ns : List ℕ) where
  shorter_by : (b : Bool) (e : Entry) (es : List Entry) → length (entries_of by_of ns es) ≤ length es → length (cond b (e ∷ entries_of by_of ns es) (entries_of by_of ns es)) ≤ suc (length es)
  shorter_by true e es le = omega (arith, le)
  shorter_by false e es le = omega (arith, le)

  shorter : (es : List Entry) → length (entries_of by_of ns es) ≤ length es
  shorter [] = omega arith
  shorter (e ∷ es) = shorter_by (has e.pass ns) e es (shorter es)

  abbrev behind : List Entry → List Entry
  behind [] = []
  behind (e ∷ es) = es

  each_by : (b : Bool) (e : Entry) (es : List Entry) → has e.pass ns ≡ b → cond b (e ∷ entries_of by_of ns es) (entries_of by_of ns es) ≡ e ∷ es → (has e.pass ns ≡ true) × (entries_of by_of ns es ≡ es)
  each_by true e es h all = (h, ap behind all)
  each_by false e es h all =
      let le = shorter es in
      let long : length (entries_of by_of ns es) ≡ suc (length es) = ap length all in
      absurd (omega (arith, le, long))

  pub each_of : (es : List Entry) → entries_of by_of ns es ≡ es → Each ns es
  each_of [] all = tt
  each_of (e ∷ es) all = let first = each_by (has e.pass ns) e es refl all in (first.0, each_of es first.1)

  each_more : (before : List Entry) (e : Entry) → Each ns before → has e.pass ns ≡ true → Each ns (before ++ e ∷ [])
  each_more [] e each own = (own, tt)
  each_more (d ∷ before) e each own = (each.0, each_more before e each.1 own)

-- ---- passes of several actors

has_both : (x : ℕ) (a b : List ℕ) → has x (a ++ b) ≡ (has x a || has x b)
has_both x [] b = refl
has_both x (y ∷ a) b = by (x == y) (has_both x a b)
  where
    by : (t : Bool) → has x (a ++ b) ≡ (has x a || has x b) → (t || has x (a ++ b)) ≡ ((t || has x a) || has x b)
    by true r = refl
    by false r = r

pub once_behind : (a b : List ℕ) → once (a ++ b) ≡ true → once b ≡ true
once_behind [] b h = h
once_behind (y ∷ a) b h = once_behind a b (and_parts (not (has y (a ++ b))) (once (a ++ b)) h).1

pub once_apart : (x : ℕ) (a b : List ℕ) → once (a ++ b) ≡ true → has x a ≡ true → has x b ≡ true → ⊥
once_apart x [] b h in_a in_b = true≢false (sym in_a)
once_apart x (y ∷ a) b h in_a in_b =
    let p = and_parts (not (has y (a ++ b))) (once (a ++ b)) h in
    ⊎_elim
    (λ here.
    let same : x ≡ y = eqb-true x y here in
    let both : has x (a ++ b) ≡ true = has_both x a b ∙ or_right (has x a) (has x b) in_b in
    true≢false (sym (ap (λ z. has z (a ++ b)) (sym same) ∙ both) ∙ not-true (has y (a ++ b)) p.0))
    (λ more. once_apart x a b p.1 more in_b)
    (or_cases (x == y) (has x a) in_a)

abbrev pub all_of : List (List ℕ) → List ℕ
all_of passes = flat_map (λ ps. ps) passes

-- a number that isn't the first actor's is another's
pub other_has : (p : ℕ) (ps : List ℕ) (passes : List (List ℕ)) → has p (all_of (ps ∷ passes)) ≡ true → has p ps ≡ false → has p (all_of passes) ≡ true
other_has p ps passes h none = ⊎_elim (λ here. absurd (true≢false (sym here ∙ none))) (λ there. there) (or_cases (has p ps) (has p (all_of passes)) (sym (has_both p ps (all_of passes)) ∙ h))

pub first_has : (p : ℕ) (ps : List ℕ) (passes : List (List ℕ)) → has p ps ≡ true → has p (all_of (ps ∷ passes)) ≡ true
first_has p ps passes h = has_both p ps (all_of passes) ∙ or_left (has p ps) (has p (all_of passes)) h

pub behind_has : (p : ℕ) (ps : List ℕ) (passes : List (List ℕ)) → has p (all_of passes) ≡ true → has p (all_of (ps ∷ passes)) ≡ true
behind_has p ps passes h = has_both p ps (all_of passes) ∙ or_right (has p ps) (has p (all_of passes)) h

-- an actor's number is the first one's or greater
above : (n : ℕ) (passes : List (List ℕ)) (p : ℕ) → n ≤ actor_with n passes p
above n [] p = omega arith
above n (ps ∷ passes) p = by (has p ps) (above (n + 1) passes p)
  where
    by : (b : Bool) → n + 1 ≤ actor_with (n + 1) passes p → n ≤ (if b then n else actor_with (n + 1) passes p)
    by true le = omega arith
    by false le = omega (arith, le)

-- the passes of an actor are among all
within : (p q : ℕ) (passes : List (List ℕ)) → has q (passes_with passes p) ≡ true → has q (all_of passes) ≡ true
within p q [] h = h
within p q (ps ∷ passes) h = by (has p ps) (within p q passes) h
  where
    by : (b : Bool) → (has q (passes_with passes p) ≡ true → has q (all_of passes) ≡ true) → has q (if b then ps else passes_with passes p) ≡ true → has q (all_of (ps ∷ passes)) ≡ true
    by true more here = first_has q ps passes here
    by false more there = behind_has q ps passes (more there)

-- two numbers are of one actor where one has them both
same_actor : (n : ℕ) (passes : List (List ℕ)) (p q : ℕ) → once (all_of passes) ≡ true → has p (all_of passes) ≡ true → has q (all_of passes) ≡ true
    → has q (passes_with passes p) ≡ nat_eq (actor_with n passes p) (actor_with n passes q)
same_actor n [] p q apart in_p in_q = absurd (true≢false (sym in_p))
same_actor n (ps ∷ passes) p q apart in_p in_q =
    by (has p ps) refl (has q ps) refl (λ not_p not_q. same_actor (n + 1) passes p q (once_behind ps (all_of passes) apart) (other_has p ps passes in_p not_p) (other_has q ps passes in_q not_q))
  where
    by : (b : Bool) → has p ps ≡ b → (c : Bool) → has q ps ≡ c
        → (has p ps ≡ false → has q ps ≡ false → has q (passes_with passes p) ≡ nat_eq (actor_with (n + 1) passes p) (actor_with (n + 1) passes q))
        → has q (if b then ps else passes_with passes p) ≡ nat_eq (if b then n else actor_with (n + 1) passes p) (if c then n else actor_with (n + 1) passes q)
    by true hp true hq more = hq ∙ sym (eq-eqb n n refl)
    by true hp false hq more = hq ∙ sym (ne_eqb n (actor_with (n + 1) passes q) (λ same. let le = above (n + 1) passes q in omega (arith, le, same)))
    by false hp true hq more =
        not_other (has q (passes_with passes p)) refl ∙ sym (ne_eqb (actor_with (n + 1) passes p) n (λ same. let le = above (n + 1) passes p in omega (arith, le, same)))
      where
        not_other : (t : Bool) → has q (passes_with passes p) ≡ t → t ≡ false
        not_other true e = absurd (once_apart q ps (all_of passes) apart hq (within p q passes e))
        not_other false e = refl
    by false hp false hq more = more hp hq

-- ---- numbers

module _ (passes : List (List ℕ)) (apart : once (all_of passes) ≡ true) where
  -- there are as many entries of an actor as it stands among the actors
  counted : (p : ℕ) (before : List Entry) → has p (all_of passes) ≡ true → Each (all_of passes) before
      → length (entries_of by_of (passes_with passes p) before) ≡ times (actor_with 1 passes p) (actors_of passes before)
  counted p [] own each = refl
  counted p (e ∷ before) own each =
      ap (λ b. length (cond b (e ∷ entries_of by_of (passes_with passes p) before) (entries_of by_of (passes_with passes p) before))) (same_actor 1 passes p e.pass apart own each.0)
      ∙ by (nat_eq (actor_with 1 passes p) (actor_with 1 passes e.pass)) (counted p before own each.1)
    where
      by : (b : Bool) → length (entries_of by_of (passes_with passes p) before) ≡ times (actor_with 1 passes p) (actors_of passes before)
          → length (cond b (e ∷ entries_of by_of (passes_with passes p) before) (entries_of by_of (passes_with passes p) before))
          ≡ (if b then times (actor_with 1 passes p) (actors_of passes before) + 1 else times (actor_with 1 passes p) (actors_of passes before))
      by true r = omega (arith, r)
      by false r = r

  pub as_numbered : (before es : List Entry) → Each (all_of passes) before → Each (all_of passes) es
      → with_numbers es (actors_of passes es) (running (actors_of passes before) (actors_of passes es)) ≡ numbered passes before es
  as_numbered before [] each all = refl
  as_numbered before (e ∷ es) each all =
      ap₂ (λ (x : JournalEntry) (xs : List JournalEntry). x ∷ xs)
      (ap (λ (n : ℕ). let x : JournalEntry = record { actor = actor_with 1 passes e.pass; count = n + 1; batch = e.batch } in x) (sym (counted e.pass before all.0 each)))
      (ap (λ (actors : List ℕ). with_numbers es (actors_of passes es) (running actors (actors_of passes es))) (sym (map-append (λ (x : Entry). actor_with 1 passes x.pass) before (e ∷ [])))
      ∙ as_numbered (before ++ e ∷ []) es (each_more (all_of passes) before e each all.0) all.1)
