use Rattle.std.proofs.Common.{[], ◌∷◌}
use Rattle.viz_boundary.specs.Steps.Keys.{keyed}
use Rattle.viz_boundary.specs.Steps.Slots.{held}
use Rattle.viz_boundary.proofs.SlotLemmas.{none-yet, put-more}
use Rattle.viz_boundary.proofs.keys.put_two.Goals as goal

pub returns : goal.returns
returns c =
    let h = held c.args.slots.now in
    let b = keyed c.args.at (c.args.b ∷ []) in
    record {
      value =
          put-more h (held c.put.new.self) (held c.put-2.new.self) (b ∷ []) _ _
          (put-more h h (held c.put.new.self) [] _ b (none-yet h) c.in_ok-put.ensures c.key_of_one.ensures.value)
          c.in_ok-put-2.ensures c.key_of_one-2.ensures.value;
    }
