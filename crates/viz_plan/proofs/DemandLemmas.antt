-- The plan by a table of sites is that by what the table is made of.
use Rattle.std.proofs.Common.{◌≡◌, ℕ, List, [], length, map, sym, ap, subst, ◌∙◌}
use Rattle.std.specs.List.{range_with_len}
use Rattle.viz_cache.specs.Keys.{same_request}
use Rattle.viz_network.specs.Network.{Network}
use Rattle.viz_parts.specs.declared.request.Request.{Request}
use Rattle.viz_parts.specs.declared.stored.Stored.{Stored}
use Rattle.viz_requests.specs.Serving.{serves}
use Rattle.viz_plan_meaning.specs.Plan.{plan, used}
use Rattle.viz_plan_meaning.specs.Networks.{ways_to}
use Rattle.viz_plan_meaning.specs.Known.{Known, asked_at, kept_at, widened_at}
use Rattle.viz_plan_meaning.specs.Laws.{inputs_of, tasks_of, used_of}
use Rattle.viz_plan_meaning.specs.Levels.{AllUnder, Tasks, at_level, needs_of, with_levels}
use Rattle.viz_plan.specs.Sites.{SitesData, known_in}
use Rattle.viz_plan.specs.Told.{AreLevelsOf, known_with}
use Rattle.viz_inform.specs.declared.told.Told.{Told}

module _ (s : SitesData) (net : Network) (told : List Told) (entries : List Stored) (a : s.net ≡ net) (b : s.told ≡ told) (c : s.entries ≡ entries) where
  known_is : known_in s ≡ known_with net told entries
  known_is = λ j. known_with (a j) (b j) (c j)

  pub levels_are : (sink : ℕ) (rs : List Request) (walked : List (ℕ × Request)) (table : Tasks Request) (levels : List (List (ℕ × Request))) (n : ℕ)
      → walked ≡ plan serves (kept_at (known_in s)) (widened_at (known_in s)) (asked_at (known_in s)) (ways_to net sink) rs
      → table ≡ with_levels serves (kept_at (known_in s)) (widened_at (known_in s)) (asked_at (known_in s)) (inputs_of net) [] walked
      → length levels ≡ n → levels ≡ map (λ k. needs_of (at_level k table)) (range_with_len 0 n) → AllUnder n table
      → AreLevelsOf (known_with net told entries) sink rs levels
  levels_are sink rs walked table levels n is t len each under =
      let tasks : table ≡ tasks_of (known_with net told entries) sink rs =
      t
      ∙ ap (with_levels serves (kept_at (known_in s)) (widened_at (known_in s)) (asked_at (known_in s)) (inputs_of net) []) is
      ∙ ap (λ (q : Known). with_levels serves (kept_at q) (widened_at q) (asked_at q) (inputs_of net) [] (plan serves (kept_at q) (widened_at q) (asked_at q) (ways_to net sink) rs)) known_is in
      record {
        each = each ∙ ap (λ t. map (λ k. needs_of (at_level k t)) (range_with_len 0 n)) tasks
            ∙ ap (λ m. map (λ k. needs_of (at_level k (tasks_of (known_with net told entries) sink rs))) (range_with_len 0 m)) (sym len);
        under = subst (λ t. AllUnder (length levels) t) tasks (subst (λ m. AllUnder m table) (sym len) under);
      }

  pub used_are : (sink : ℕ) (rs : List Request) (found : List (ℕ × Request)) → found ≡ used same_request (kept_at (known_in s)) (widened_at (known_in s)) (asked_at (known_in s)) (ways_to net sink) rs
      → found ≡ used_of (known_with net told entries) sink rs
  used_are sink rs found is = is ∙ ap (λ (q : Known). used same_request (kept_at q) (widened_at q) (asked_at q) (ways_to net sink) rs) known_is
