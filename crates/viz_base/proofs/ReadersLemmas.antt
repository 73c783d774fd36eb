-- What one real read, and one real write, do to the bytes so far.
use Rattle.std.proofs.Common.{◌≡◌, ℕ, ◌+◌, ◌-◌, ◌≤◌, List, ◌++◌, length, take, drop, take-add, sym, ap, ◌∙◌, append_assoc, take-append-drop, arith, Option, Some, None}
use Rattle.std.specs.Prelude.{replicate}
use Rattle.std.proofs.lemmas.List.{take_all, take_at, take_rest}
use Rattle.std.specs.Io.KnownBytes.{Appends, Keeps}

-- the bytes so far stay in front of those that were read
pub read_appends : (old made new : List ℕ) (start end n : ℕ) → length old ≡ start → start ≤ end → made ≡ take end old ++ replicate (end - start) 0 → take start new ≡ take start made → take (start + n) new ≡ old ++ take n (drop start new)
read_appends old made new start end n long fits filled front =
    let whole : made ≡ old ++ replicate (end - start) 0 = filled ∙ ap (λ (l : List ℕ). l ++ replicate (end - start) 0) (take_all end old (omega arith)) in
    let same : take start new ≡ old = front ∙ ap (λ (l : List ℕ). take start l) whole ∙ take_at old (replicate (end - start) 0) start long in
    take-add start n new ∙ ap (λ (l : List ℕ). l ++ take n (drop start new)) same

-- one write after the others
pub Appends-more : (a b c : Option (List ℕ)) (xs ys : List ℕ) → Appends a b xs → Appends b c ys → Appends a c (xs ++ ys)
Appends-more None b c xs ys first then' = tt
Appends-more (Some x) None c xs ys first then' = absurd first
Appends-more (Some x) (Some y) None xs ys first then' = absurd then'
Appends-more (Some x) (Some y) (Some z) xs ys first then' = then' ∙ ap (λ (l : List ℕ). l ++ ys) first ∙ append_assoc x xs ys

-- a write that failed, after the others
pub Appends-kept : (a b c : Option (List ℕ)) (xs : List ℕ) → Appends a b xs → Keeps b c → Appends a c xs
Appends-kept None b c xs first then' = tt
Appends-kept (Some x) None c xs first then' = absurd first
Appends-kept (Some x) (Some y) None xs first then' = absurd then'
Appends-kept (Some x) (Some y) (Some z) xs first then' = then' ∙ first

-- n bytes more are done, and the others are left
pub split_more : (all done rest : List ℕ) (n : ℕ) → all ≡ done ++ rest → all ≡ (done ++ take n rest) ++ take (length rest - n) (drop n rest)
split_more all done rest n split =
    split
    ∙ ap (λ (l : List ℕ). done ++ l) (sym (take-append-drop n rest))
    ∙ sym (append_assoc done (take n rest) (drop n rest))
    ∙ ap (λ (l : List ℕ). (done ++ take n rest) ++ l) (sym (take_rest rest n))
