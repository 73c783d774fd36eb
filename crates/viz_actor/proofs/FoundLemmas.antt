-- The actors and the numbers of entries, one more at a time.
use Rattle.std.proofs.Common.{true≢false, append-nil, take, get_or, ◌≡◌, ◌≢◌, ℕ, zero, suc, ◌+◌, ◌-◌, ◌<◌, ◌≤◌, Bool, true, false, List, [], ◌∷◌, ◌++◌, length, map, replicate, append_assoc, nat_eq, slice_get, slice_index_or, slice_set, Option, Some, None, refl, sym, ap, ap₂, subst, ◌∙◌, eqb-true, arith}
use Rattle.std.specs.Prelude.{if◌then◌else◌}
use Rattle.std.specs.List.{All}
use Rattle.std.proofs.lemmas.Bool.{eq-eqb}
use Rattle.std.proofs.lemmas.List.{take_more, length-set, get_or-set_same, get_or-set_other}
use Rattle.viz_report.specs.declared.line.Line.{Line}
use Rattle.viz_report.specs.declared.line.Line.TheVariants as line
use Rattle.viz_report.specs.declared.line.Row.{Row}
use Rattle.viz_account.specs.Account.{edited}
use Rattle.viz_account.specs.Laws.{times}
use Rattle.viz_actor.specs.Numbering.{TellsActor, Agree, IsCounted, running}

-- ---- the places of actors

pub found_length : (found : List (Option ℕ)) (actors : List ℕ) → Agree found actors → length found ≡ length actors
found_length [] [] h = refl
found_length [] (a ∷ actors) h = absurd h
found_length (None ∷ found) [] h = absurd h
found_length (Some b ∷ found) [] h = absurd h
found_length (None ∷ found) (a ∷ actors) h = ap suc (found_length found actors h)
found_length (Some b ∷ found) (a ∷ actors) h = ap suc (found_length found actors h.1)

found_set : (found : List (Option ℕ)) (actors : List ℕ) (k a : ℕ) → Agree found actors → slice_get actors k ≡ Some a → Agree (slice_set found k (Some a)) actors
found_set [] [] k a h at = h
found_set [] (b ∷ actors) k a h at = absurd h
found_set (None ∷ found) [] k a h at = absurd h
found_set (Some c ∷ found) [] k a h at = absurd h
found_set (None ∷ found) (b ∷ actors) zero a h at = (let same : a ≡ b = cc in same, h)
found_set (Some c ∷ found) (b ∷ actors) zero a h at = (let same : a ≡ b = cc in same, h.1)
found_set (None ∷ found) (b ∷ actors) (suc k) a h at = found_set found actors k a h at
found_set (Some c ∷ found) (b ∷ actors) (suc k) a h at = (h.0, found_set found actors k a h.1 at)

pub found_told : (found : List (Option ℕ)) (actors : List ℕ) (row : Row) (at : ℕ) → row.line ≡ line.Edit at → at ≢ 0 → at ≤ length found → TellsActor actors row → Agree found actors
    → Agree (slice_set found (at - 1) (Some row.actor)) actors
found_told found actors row at is some within tells h =
    let long = found_length found actors h in
    let told = subst (λ (l : Line). All (λ (n : ℕ). (k : ℕ) → n ≡ k + 1 → k < length actors → slice_get actors k ≡ Some row.actor) (edited l)) is tells in
    found_set found actors (at - 1) row.actor h (told 0 0 (omega arith) (at - 1) (omega (arith, some)) (omega (arith, some, within, long)))

pub found_none : (n : ℕ) (actors : List ℕ) → length actors ≡ n → Agree (replicate n None) actors
found_none zero [] e = tt
found_none zero (a ∷ actors) e = absurd (omega (arith, e))
found_none (suc n) [] e = absurd (omega (arith, e))
found_none (suc n) (a ∷ actors) e = found_none n actors (omega (arith, e))

pub found_all : (xs actors : List ℕ) → Agree (map Some xs) actors → xs ≡ actors
found_all [] [] h = refl
found_all [] (a ∷ actors) h = absurd h
found_all (x ∷ xs) [] h = absurd h
found_all (x ∷ xs) (a ∷ actors) h = ap₂ (λ (y : ℕ) (ys : List ℕ). y ∷ ys) h.0 (found_all xs actors h.1)

-- ---- numbers

pub running_more : (before xs : List ℕ) (a : ℕ) → running before (xs ++ a ∷ []) ≡ running before xs ++ (times a (before ++ xs) + 1) ∷ []
running_more before [] a = ap (λ (l : List ℕ). (times a l + 1) ∷ []) (sym (append-nil before))
running_more before (x ∷ xs) a =
    ap (λ (l : List ℕ). (times x before + 1) ∷ l) (running_more (before ++ x ∷ []) xs a ∙ ap (λ (l : List ℕ). running (before ++ x ∷ []) xs ++ (times a l + 1) ∷ []) (append_assoc before (x ∷ []) xs))

times_more : (n : ℕ) (xs : List ℕ) (a : ℕ) → times n (xs ++ a ∷ []) ≡ (if nat_eq n a then times n xs + 1 else times n xs)
times_more n [] a = refl
times_more n (x ∷ xs) a = ap (λ (t : ℕ). if nat_eq n x then t + 1 else t) (times_more n xs a) ∙ by (nat_eq n x) (nat_eq n a)
  where
    by : (b c : Bool) → (if b then (if c then times n xs + 1 else times n xs) + 1 else (if c then times n xs + 1 else times n xs)) ≡ (if c then (if b then times n xs + 1 else times n xs) + 1 else (if b then times n xs + 1 else times n xs))
    by true true = refl
    by true false = refl
    by false true = refl
    by false false = refl

-- the counts are those of these actors
pub record AreCounts (counts actors : List ℕ) : Type 0 where
  pub each : (j : ℕ) → j < length counts → slice_index_or counts j 0 ≡ times j actors

pub counts_none : (counts : List ℕ) → ((j : ℕ) → j < length counts → slice_index_or counts j 0 ≡ 0) → AreCounts counts []
counts_none counts zeros = record { each = zeros }

pub counts_more : (a n : ℕ) (old new actors : List ℕ) → IsCounted a n old new → AreCounts old actors → AreCounts new (actors ++ a ∷ [])
counts_more a n old new actors c h = record { each = λ j lt. by j lt (nat_eq j a) refl }
  where
    by : (j : ℕ) → j < length new → (b : Bool) → nat_eq j a ≡ b → slice_index_or new j 0 ≡ times j (actors ++ a ∷ [])
    by j lt true e =
        let same : j ≡ a = eqb-true j a e in
        ap (λ (l : List ℕ). slice_index_or l j 0) c.kept
        ∙ ap (λ (i : ℕ). slice_index_or (slice_set old a n) i 0) same
        ∙ get_or-set_same old a n 0 c.within
        ∙ c.more
        ∙ ap (λ (m : ℕ). m + 1) (h.each a c.within ∙ ap (λ (i : ℕ). times i actors) (sym same))
        ∙ sym (times_more j actors a ∙ ap (λ (b : Bool). if b then times j actors + 1 else times j actors) e)
    by j lt false e =
        let apart : j ≢ a = λ same. true≢false (sym (eq-eqb j a same) ∙ e) in
        ap (λ (l : List ℕ). slice_index_or l j 0) c.kept
        ∙ get_or-set_other old a j n 0 apart
        ∙ h.each j (subst (λ (m : ℕ). j < m) (ap length c.kept ∙ length-set old a n) lt)
        ∙ sym (times_more j actors a ∙ ap (λ (b : Bool). if b then times j actors + 1 else times j actors) e)

pub count_is : (a n : ℕ) (old new actors : List ℕ) → IsCounted a n old new → AreCounts old actors → n ≡ times a actors + 1
count_is a n old new actors c h = c.more ∙ ap (λ (m : ℕ). m + 1) (h.each a c.within)

-- one more actor_by
pub record Counted (actors : List ℕ) (i : ℕ) (counts numbers : List ℕ) : Type 0 where
  pub as_far : numbers ≡ running [] (take i actors)
  pub counted : AreCounts counts (take i actors)

pub counted_more : (actors : List ℕ) (i n : ℕ) (old new numbers : List ℕ) → i < length actors → IsCounted (get_or actors i 0) n old new → Counted actors i old numbers
    → Counted actors (i + 1) new (numbers ++ n ∷ [])
counted_more actors i n old new numbers lt c h =
    let a = get_or actors i 0 in
    let more = take_more actors i 0 lt in
    record {
      as_far = ap₂ (λ (l : List ℕ) (m : ℕ). l ++ m ∷ []) h.as_far (count_is a n old new (take i actors) c h.counted)
          ∙ sym (running_more [] (take i actors) a)
          ∙ ap (running []) (sym more);
      counted = subst (AreCounts new) (sym more) (counts_more a n old new (take i actors) c h.counted);
    }
