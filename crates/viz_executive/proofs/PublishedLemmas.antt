-- What an update may publish of what its plan made.
use Rattle.std.proofs.Common.{◌≡◌, ℕ, ◌⊎◌, inl, inr, List, [], ap, ◌∙◌}
use Rattle.viz_kept.specs.True.{AreMadeIn}
use Rattle.viz_network.specs.Network.{Network}
use Rattle.viz_parts.specs.declared.request.Request.{Request}
use Rattle.viz_parts.specs.declared.stored.Stored.{Stored}
use Rattle.viz_plan.specs.Told.{extent_told, known_with, needs_in}
use Rattle.viz_plan_meaning.specs.Known.{Known}
use Rattle.viz_requests.specs.Shapes.{requests_of}
use Rattle.viz_executive.specs.declared.produced.Produced.{Produced}
use Rattle.viz_executive.specs.Produced.{IsByPlan, IsByPlanOf, all_keys}
use Rattle.viz_plan.specs.Published.{AreOfPlan, AreOfTasks, keys_of}

-- all parts that the tasks made are of the tasks, and none may stand for them
of_tasks : (k : Known) (sink : ℕ) (requests : List Request) (p : Produced) (made : List Stored)
    → IsByPlanOf k sink requests p
    → (made ≡ []) ⊎ (keys_of made ≡ all_keys p.made.items p.only)
    → (made ≡ []) ⊎ AreOfTasks k sink requests made
of_tasks k sink requests p made by (inl none) = inl none
of_tasks k sink requests p made by (inr all) =
    inr (record {
      levels = by.levels;
      under = by.under;
      each = ap needs_in all ∙ by.made_are;
    })

-- so they may be published, with the keys that were used
pub of_plan : (net : Network) (entries : List Stored) (sink pieces : ℕ) (p : Produced)
    (made : List Stored) → IsByPlan net entries sink pieces p
    → (made ≡ []) ⊎ (keys_of made ≡ all_keys p.made.items p.only)
    → AreMadeIn net made → AreOfPlan net entries sink pieces p.used.items made
of_plan net entries sink pieces p made plan all parts =
    record {
      told = plan.told;
      are = plan.are;
      by = record {
        used_are = plan.by.used_are;
        stamps = plan.by.stamps;
        made_are = of_tasks (known_with net plan.told entries) sink
            (requests_of (extent_told plan.told sink) pieces) p made plan.by all;
        parts = parts;
      };
    }
