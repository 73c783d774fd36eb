use Rattle.std.proofs.Common.{sym, subst, List, Option, ℕ, rules}
use Rattle.viz_actor.specs.Numbering.{Agree}
use Rattle.viz_actor.proofs.FoundLemmas.{found_none}
use Rattle.viz_actor.proofs.journal.actors_found.Goals as goal

pub loop-row-init : goal.loop-row-init
loop-row-init c = λ actors long tells. subst (λ (s : List (Option ℕ)). Agree s actors) (sym (c.in_ok-found.ensures.items_if_clones_equal (λ y e. search rules))) (found_none c.args.entries actors long)
