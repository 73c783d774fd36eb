use Rattle.std.proofs.Common.{◌≡◌, ◌+◌, [], ◌∷◌, arith}
use Rattle.viz_boundary.specs.Steps.Keys.{keyed}
use Rattle.viz_boundary.specs.Steps.Slots.{held}
use Rattle.viz_boundary.proofs.SlotLemmas.{none-yet, put-more}
use Rattle.viz_boundary.proofs.keys.put_four.Goals as goal

pub returns : goal.returns
returns c =
    let h = held c.args.slots.now in
    let k0 = keyed c.args.at (c.args.b ∷ c.args.c ∷ c.args.d ∷ []) in
    let k1 = keyed (c.args.at + 1) (c.args.c ∷ c.args.a ∷ c.args.d ∷ []) in
    let k2 = keyed (c.args.at + 1 + 1) (c.args.a ∷ c.args.b ∷ c.args.d ∷ []) in
    let k3 = keyed (c.args.at + 1 + 1 + 1) (c.args.b ∷ c.args.a ∷ c.args.c ∷ []) in
    let e2 : c.key_of_three-3.result ≡ k2 = omega (arith, c.key_of_three-3.ensures.value) in
    let e3 : c.key_of_three-4.result ≡ k3 = omega (arith, c.key_of_three-4.ensures.value) in
    record {
      value =
          put-more h (held c.put-3.new.self) (held c.put-4.new.self) (k0 ∷ k1 ∷ k2 ∷ []) _ k3
          (put-more h (held c.put-2.new.self) (held c.put-3.new.self) (k0 ∷ k1 ∷ []) _ k2
          (put-more h (held c.put.new.self) (held c.put-2.new.self) (k0 ∷ []) _ k1
          (put-more h h (held c.put.new.self) [] _ k0 (none-yet h) c.in_ok-put.ensures c.key_of_three.ensures.value)
          c.in_ok-put-2.ensures c.key_of_three-2.ensures.value)
          c.in_ok-put-3.ensures e2)
          c.in_ok-put-4.ensures e3;
    }
