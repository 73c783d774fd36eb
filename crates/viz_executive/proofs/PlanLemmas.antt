-- Levels of a plan have its tasks, each once.
use Rattle.std.proofs.Common.{◌≡◌, ℕ, zero, suc, ◌+◌, arith, List, [], ◌∷◌, ◌++◌, append_assoc, append-nil, map, length, refl, sym, subst, ◌∙◌, ap}
use Rattle.std.proofs.lemmas.List.{map-append}
use Rattle.std.proofs.lemmas.List.Elements.{All-cons, All-contains_itself, All-head, All-nil}
use Rattle.std.proofs.lemmas.List.Elements.{All-tail}
use Rattle.std.proofs.lemmas.List.FromFn.{map-range_with_len_more}
use Rattle.std.proofs.lemmas.List.Sorted.{
  All-permutation,
  IsPermutation-map,
  IsPermutation-sym,
  length_permutation,
}
use Rattle.std.specs.Global.{Vec}
use Rattle.std.specs.List.{All, Contains, flat_map, range_with_len}
use Rattle.std.specs.List.Sorted.{IsPermutation}
use Rattle.viz_kept.specs.True.{HasStamp}
use Rattle.viz_parts.specs.declared.request.Request.{Request}
use Rattle.viz_parts.specs.declared.stored.Key.{Key}
use Rattle.viz_plan.specs.Told.{AreLevelsOf, needs_in}
use Rattle.viz_plan_meaning.specs.Known.{Known, asked_at, kept_at, widened_at}
use Rattle.viz_plan_meaning.specs.Laws.{inputs_of, plan_of, tasks_of}
use Rattle.viz_plan_meaning.specs.Levels.{Tasks, at_level, by_level, needs_of}
use Rattle.viz_plan_meaning.proofs.LevelLemmas.{levels_lose_none, levels_of}
use Rattle.viz_requests.specs.Serving.{serves}
use Rattle.viz_plan.specs.Published.{level_by_level}
use Rattle.viz_executive.specs.Steps.Carrying.{ArePlannedLevels}
use Rattle.viz_executive.specs.Steps.Tasks.{all_needs}

-- ---- lists of lists

abbrev joined : {X : Type 0} → List (List X) → List X
joined [] = []
joined (xs ∷ all) = xs ++ joined all

joined_append : {X : Type 0} (xs ys : List (List X)) → joined (xs ++ ys) ≡ joined xs ++ joined ys
joined_append [] ys = refl
joined_append (x ∷ xs) ys =
    ap (λ l. x ++ l) (joined_append xs ys) ∙ sym (append_assoc x (joined xs) (joined ys))

flat_joined : {X Y : Type 0} (f : X → List Y) (xs : List X) → flat_map f xs ≡ joined (map f xs)
flat_joined f [] = refl
flat_joined f (x ∷ xs) = ap (λ l. f x ++ l) (flat_joined f xs)

pub front : {X : Type 0} (P : X → Type 0) (xs ys : List X) → All P (xs ++ ys) → All P xs
front P [] ys h = All-nil P
front P (x ∷ xs) ys h =
    All-cons P x xs (All-head P x (xs ++ ys) h) (front P xs ys (All-tail P x (xs ++ ys) h))

pub back : {X : Type 0} (P : X → Type 0) (xs ys : List X) → All P (xs ++ ys) → All P ys
back P [] ys h = h
back P (x ∷ xs) ys h = back P xs ys (All-tail P x (xs ++ ys) h)

-- what holds of all items of lists holds of those of each list
each_of : {X Y : Type 0} (P : X → Type 0) (f : Y → List X) (ys : List Y) → All P (flat_map f ys)
    → All (λ y. All P (f y)) ys
each_of P f [] h = All-nil (λ y. All P (f y))
each_of P f (y ∷ ys) h =
    All-cons (λ y. All P (f y)) y ys (front P (f y) (flat_map f ys) h)
    (each_of P f ys (back P (f y) (flat_map f ys) h))

-- ---- levels

module _ (t : Tasks Request) where
  abbrev level : ℕ → List (ℕ × Request)
  level l = needs_of (at_level l t)

  levels_joined : (n : ℕ) → joined (map level (range_with_len 0 n)) ≡ needs_of (by_level n t)
  levels_joined zero = refl
  levels_joined (suc n) =
      let at : 0 + n ≡ n = omega arith in
      let next : suc n ≡ n + 1 = omega arith in
      ap (λ m. joined (map level (range_with_len 0 m))) next
      ∙ ap joined (map-range_with_len_more level 0 n n at)
      ∙ joined_append (map level (range_with_len 0 n)) (level n ∷ [])
      ∙ ap (λ l. joined (map level (range_with_len 0 n)) ++ l) (append-nil (level n))
      ∙ ap (λ l. l ++ level n) (levels_joined n)
      ∙ sym (map-append (λ (x : (ℕ × Request) × ℕ). x.0) (by_level n t) (at_level n t))

-- ---- the levels of a plan

abbrev pub needs_at : Vec Key → List (ℕ × Request)
needs_at keys = needs_in keys.items

module _ (k : Known) (sink : ℕ) (rs : List Request) (levels : List (Vec Key))
    (are : AreLevelsOf k sink rs (map needs_at levels)) where
  abbrev tasks : Tasks Request
  tasks = tasks_of k sink rs

  abbrev pub count : ℕ
  count = length (map needs_at levels)

  needs_joined : all_needs levels ≡ joined (map (level tasks) (range_with_len 0 count))
  needs_joined = flat_joined needs_at levels ∙ ap joined are.each

  pub needs_by_level : all_needs levels ≡ level_by_level k sink rs count
  needs_by_level =
      needs_joined ∙ sym (flat_joined (level tasks) (range_with_len 0 count))

  plan_is : needs_of tasks ≡ plan_of k sink rs
  plan_is =
      levels_of serves (kept_at k) (widened_at k) (asked_at k) (inputs_of k.net) []
      (plan_of k sink rs)

  same_tasks : IsPermutation (plan_of k sink rs) (all_needs levels)
  same_tasks =
      subst (λ p. IsPermutation p (all_needs levels)) plan_is
      (subst (IsPermutation (needs_of tasks)) (sym (needs_joined ∙ levels_joined tasks count))
      (IsPermutation-map (λ (x : (ℕ × Request) × ℕ). x.0) tasks (by_level count tasks)
      (levels_lose_none count tasks are.under)))

  pub as_many : length (all_needs levels) ≡ length (plan_of k sink rs)
  as_many = length_permutation (plan_of k sink rs) (all_needs levels) same_tasks

  pub all_of_plan : (P : ℕ × Request → Type 0) → All P (all_needs levels) → All P (plan_of k sink rs)
  all_of_plan P h =
      All-permutation P (all_needs levels) (plan_of k sink rs)
      (IsPermutation-sym (plan_of k sink rs) (all_needs levels) same_tasks) h

  pub in_plan : All (Contains (plan_of k sink rs)) (all_needs levels)
  in_plan =
      All-permutation (Contains (plan_of k sink rs)) (plan_of k sink rs) (all_needs levels)
      same_tasks (All-contains_itself (plan_of k sink rs))

  pub levels_planned : All (λ (keys : Vec Key). All (HasStamp k.net) keys.items) levels
      → ArePlannedLevels k sink rs levels
  levels_planned stamps =
      let plan = plan_of k sink rs in
      let tasks = each_of (Contains plan) needs_at levels in_plan in
      record { each = λ i d l. record { tasks = tasks i d l; stamps = stamps i d l } }
