-- Tasks put to the lists of their levels.
use Rattle.std.proofs.Common.{◌≡◌, ℕ, zero, suc, ◌+◌, ◌<◌, ◌≤◌, Bool, true, false, cond, nat_eq, ◌⊎◌, inl, inr, List, [], ◌∷◌, ◌++◌, append-nil, length, map, take, slice_get, slice_set, get_or, Some, refl, sym, ap, subst, ◌∙◌, arith}
use Rattle.std.specs.List.{All, range_with_len}
use Rattle.std.proofs.lemmas.Bool.{eqb-true, eq-eqb}
use Rattle.std.proofs.lemmas.List.{map-append, take_more}
use Rattle.std.proofs.lemmas.List.Elements.{filter-append}
use Rattle.viz_buckets.proofs.BucketLemmas.{all_at, set_get}
use Rattle.viz_parts.specs.declared.request.Request.{Request}
use Rattle.viz_plan_meaning.specs.Levels.{Tasks, at_level, needs_of}
use Rattle.viz_plan_walk.specs.Leveling.{AreAtLevels, IsPushed, PutsTask, levelled, task_of}
use Rattle.viz_plan_walk.specs.Walk.{named}
use Rattle.viz_plan_walk.specs.declared.levels.Levelled.{Levelled}
use Rattle.viz_plan_walk.specs.declared.walk.Need.{Need}

-- a task more, by the test of its level
one_more : (t : Tasks Request) (x : (ℕ × Request) × ℕ) (j : ℕ) (b : Bool) → nat_eq x.1 j ≡ b → needs_of (at_level j (t ++ x ∷ [])) ≡ needs_of (at_level j t) ++ cond b (x.0 ∷ []) []
one_more t x j b e =
    ap needs_of (filter-append (λ x. nat_eq x.1 j) t (x ∷ []) ∙ ap (λ c. at_level j t ++ cond c (x ∷ []) []) e)
    ∙ map-append (λ x. x.0) (at_level j t) (cond b (x ∷ []) []) ∙ last b
  where
    last : (b : Bool) → needs_of (at_level j t) ++ needs_of (cond b (x ∷ []) []) ≡ needs_of (at_level j t) ++ cond b (x.0 ∷ []) []
    last true = refl
    last false = refl

other : (a j : ℕ) (b : Bool) → (j ≡ a → ⊥) → nat_eq a j ≡ b → b ≡ false
other a j true ne e = absurd (ne (sym (eqb-true a j e)))
other a j false ne e = refl

module _ {V : Type 0} (needs : V → List (ℕ × Request)) where
  pub put_at : (lists : List V) (x : (ℕ × Request) × ℕ) (old new : V) → slice_get lists x.1 ≡ Some old → needs new ≡ needs old ++ x.0 ∷ [] → PutsTask needs x lists (slice_set lists x.1 new)
  put_at lists x old new there grown = λ t are. record { each = λ j v e. by t are j v (set_get lists x.1 j new v e) }
    where
      by : (t : Tasks Request) → AreAtLevels needs t lists → (j : ℕ) (v : V) → ((j ≡ x.1) × (v ≡ new)) ⊎ ((j ≡ x.1 → ⊥) × (slice_get lists j ≡ Some v)) → needs v ≡ needs_of (at_level j (t ++ x ∷ []))
      by t are j v (inl h) =
          ap needs h.1 ∙ grown ∙ ap (λ l. l ++ x.0 ∷ []) (are.each x.1 old there)
          ∙ ap (λ i. needs_of (at_level i t) ++ x.0 ∷ []) (sym h.0)
          ∙ sym (one_more t x j true (eq-eqb x.1 j (sym h.0)))
      by t are j v (inr h) =
          are.each j v h.1 ∙ sym (append-nil (needs_of (at_level j t)))
          ∙ sym (one_more t x j false (other x.1 j (nat_eq x.1 j) h.0 refl))

  pub lists_are : (lists : List V) (t : Tasks Request) → AreAtLevels needs t lists → map needs lists ≡ map (λ k. needs_of (at_level k t)) (range_with_len 0 (length lists))
  lists_are lists t are = by_places lists 0 (λ j v e. (let same : j ≡ 0 + j = omega arith in are.each j v e ∙ ap (λ i. needs_of (at_level i t)) same))
    where
      by_places : (vs : List V) (n : ℕ) → ((j : ℕ) (v : V) → slice_get vs j ≡ Some v → needs v ≡ needs_of (at_level (n + j) t)) → map needs vs ≡ map (λ k. needs_of (at_level k t)) (range_with_len n (length vs))
      by_places [] n h = refl
      by_places (v ∷ vs) n h =
          let here : n + 0 ≡ n = omega arith in
          let rest = by_places vs (n + 1) (λ j w e. (let next : n + suc j ≡ n + 1 + j = omega arith in h (suc j) w e ∙ ap (λ i. needs_of (at_level i t)) next)) in
          ap (λ l. l ∷ map needs vs) (h 0 v refl ∙ ap (λ i. needs_of (at_level i t)) here)
          ∙ ap (λ l. needs_of (at_level n t) ∷ l) rest

none_taken : (table : List Levelled) → take 0 table ≡ []
none_taken [] = refl
none_taken (x ∷ table) = refl

-- empty lists, for no tasks
pub begun : {V : Type 0} (items : V → List Need) (table : List Levelled) (lists : List V) → All (λ v. items v ≡ []) lists → AreAtLevels (λ v. named (items v)) (levelled (take 0 table)) lists
begun items table lists empty = record { each = λ j v e. ap named (all_at (λ v. items v ≡ []) lists empty j v e) ∙ sym (ap (λ l. needs_of (at_level j (levelled l))) (none_taken table)) }

-- a task that is pushed to the list of its level
pub puts : {V : Type 0} (items : V → List Need) (x : Levelled) (old new : List V) → IsPushed items x.level x.need old new → PutsTask (λ v. named (items v)) (task_of x) old new
puts items x old new p =
    subst (PutsTask (λ v. named (items v)) (task_of x) old) (sym p.is)
    (put_at (λ v. named (items v)) old (task_of x) p.before p.after p.there
    (ap named p.longer ∙ map-append (λ (n : Need). (n.node.0, n.request)) (items p.before) (x.need ∷ [])))

take_all : {X : Type 0} (xs : List X) (i : ℕ) → length xs ≤ i → take i xs ≡ xs
take_all [] zero l = refl
take_all [] (suc i) l = refl
take_all (x ∷ xs) zero l = absurd (omega (arith, l))
take_all (x ∷ xs) (suc i) l = ap (λ t. x ∷ t) (take_all xs i (omega (arith, l)))

-- behind the last task
pub lists_end : {V : Type 0} (needs : V → List (ℕ × Request)) (table : List Levelled) (i : ℕ) (lists : List V) → length table ≤ i → AreAtLevels needs (levelled (take i table)) lists
    → map needs lists ≡ map (λ k. needs_of (at_level k (levelled table))) (range_with_len 0 (length lists))
lists_end needs table i lists past are = lists_are needs lists (levelled table) (subst (λ t. AreAtLevels needs (levelled t) lists) (take_all table i past) are)

-- one task of a table more
pub task_more : {V : Type 0} (needs : V → List (ℕ × Request)) (table : List Levelled) (i : ℕ) (x : Levelled) (old new : List V) → i < length table → x ≡ get_or table i x
    → AreAtLevels needs (levelled (take i table)) old → PutsTask needs (task_of x) old new → AreAtLevels needs (levelled (take (i + 1) table)) new
task_more needs table i x old new within is are puts =
    let more : take (i + 1) table ≡ take i table ++ x ∷ [] = take_more table i x within ∙ ap (λ z. take i table ++ z ∷ []) (sym is) in
    let all : levelled (take (i + 1) table) ≡ levelled (take i table) ++ task_of x ∷ [] = ap levelled more ∙ map-append task_of (take i table) (x ∷ []) in
    subst (λ t. AreAtLevels needs t new) (sym all) (puts (levelled (take i table)) are)
