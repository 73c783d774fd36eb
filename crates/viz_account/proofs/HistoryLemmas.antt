-- A history and the places of a pass's entries, with more entries.
use Rattle.std.proofs.Common.{◌≡◌, ℕ, ◌+◌, Bool, true, false, cond, List, [], ◌∷◌, ◌++◌, length, take, slice_get, Some, refl, ap, ◌∙◌, arith}
use Rattle.viz_turn.specs.Tales.{has}
use Rattle.viz_entries.specs.declared.entry.Entry.{Entry}
use Rattle.viz_account.specs.Account.{places_from, places}

pub take-all : (h : List Entry) → take (length h) h ≡ h
take-all [] = refl
take-all (e ∷ h) = ap (λ t. e ∷ t) (take-all h)

-- the entry behind a history
pub slice_get-end : (h : List Entry) (e : Entry) → slice_get (h ++ e ∷ []) (length h) ≡ Some e
slice_get-end [] e = refl
slice_get-end (d ∷ h) e = slice_get-end h e

-- ---- places

pub places_append_from : (ps : List ℕ) (n : ℕ) (h more : List Entry) → places_from ps n (h ++ more) ≡ places_from ps n h ++ places_from ps (n + length h) more
places_append_from ps n [] more = ap (λ m. places_from ps m more) (let e : n ≡ n + 0 = omega arith in e)
places_append_from ps n (e ∷ h) more = by (has e.pass ps) (places_append_from ps (n + 1) h more ∙ ap (λ m. places_from ps (n + 1) h ++ places_from ps m more) (let s : (n + 1) + length h ≡ n + length (e ∷ h) = omega arith in s))
  where
    by : (b : Bool) → places_from ps (n + 1) (h ++ more) ≡ places_from ps (n + 1) h ++ places_from ps (n + length (e ∷ h)) more
        → cond b (n ∷ places_from ps (n + 1) (h ++ more)) (places_from ps (n + 1) (h ++ more)) ≡ cond b (n ∷ places_from ps (n + 1) h) (places_from ps (n + 1) h) ++ places_from ps (n + length (e ∷ h)) more
    by true r = ap (λ t. n ∷ t) r
    by false r = r

-- the places of a pass's entries, with one of its own at the end
pub places_grow : (pass : ℕ) (h : List Entry) (e : Entry) → has e.pass (pass ∷ []) ≡ true → places (pass ∷ []) (h ++ e ∷ []) ≡ places (pass ∷ []) h ++ (length h + 1) ∷ []
places_grow pass h e own =
    places_append_from (pass ∷ []) 1 h (e ∷ [])
    ∙ ap (λ t. places (pass ∷ []) h ++ cond t ((1 + length h) ∷ []) []) own
    ∙ ap (λ n. places (pass ∷ []) h ++ n ∷ []) (let s : 1 + length h ≡ length h + 1 = omega arith in s)
