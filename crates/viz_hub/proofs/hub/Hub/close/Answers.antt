use Rattle.std.proofs.Common.{◌∙◌, sym, subst}
use Rattle.viz_hub.specs.Passes.{PassKnown, GoesFurther}
use Rattle.viz_hub.specs.Steps.Places.{shown}
use Rattle.viz_hub.proofs.hub.Hub.close.Goals as goal

pub returns-clause-further : goal.returns-clause-further
returns-clause-further g c =
    subst (λ (p : PassKnown). GoesFurther p c.new.result) c.place_of-pass.ensures
    (subst (GoesFurther (shown c.place_of-pass.result)) (sym (c.new.ensures.value ∙ c.history.ensures.value))
    c.close-core.ensures.further)
