use Rattle.std.proofs.Common.{◌≡◌, ℕ, ◌<◌, get_or, slice_index, arith}
use Rattle.viz_grid_section.specs.GridSection.{bit_of}
use Rattle.viz_grid_section.specs.Steps.Rows.{eight_from}
use Rattle.viz_flags.proofs.CubeLemmas.{six}
use Rattle.viz_flags.proofs.MixedLemmas.{corner-bit, mask-of}
use Rattle.viz_flags.proofs.cubes.push_six.Goals as goal

pub returns : goal.returns
returns g c inside are =
    let bit : (k : ℕ) → k < 8 → get_or c.args.corners.now k 0 ≡ bit_of inside (slice_index (eight_from c.args.lowest c.args.row c.args.plane) k) =
    λ k l. corner-bit inside c.args.corners.now c.args.lowest c.args.row c.args.plane k are c.requires.bits c.told-corners l in
    let ba = bit 0 (omega arith) in
    let bb = bit 1 (omega arith) in
    let bc = bit 2 (omega arith) in
    let bd = bit 3 (omega arith) in
    let be = bit 4 (omega arith) in
    let bf = bit 5 (omega arith) in
    let bg = bit 6 (omega arith) in
    let bh = bit 7 (omega arith) in
    six c.args.row c.args.plane inside c.args.lowest _ _ _ _ _ _ _ _ _ _ _ _ _
    (mask-of inside _ _ _ _ _ _ _ _ _ c.mask.ensures.value ba be bg bh)
    (mask-of inside _ _ _ _ _ _ _ _ _ c.mask-2.ensures.value ba bf be bh)
    (mask-of inside _ _ _ _ _ _ _ _ _ c.mask-3.ensures.value ba bg bc bh)
    (mask-of inside _ _ _ _ _ _ _ _ _ c.mask-4.ensures.value ba bc bd bh)
    (mask-of inside _ _ _ _ _ _ _ _ _ c.mask-5.ensures.value ba bb bf bh)
    (mask-of inside _ _ _ _ _ _ _ _ _ c.mask-6.ensures.value ba bd bb bh)
    c.mask.ensures.below c.mask-2.ensures.below c.mask-3.ensures.below c.mask-4.ensures.below c.mask-5.ensures.below c.mask-6.ensures.below
    c.in_ok-push_tetrahedron.ensures c.in_ok-push_tetrahedron-2.ensures c.in_ok-push_tetrahedron-3.ensures
    c.in_ok-push_tetrahedron-4.ensures c.in_ok-push_tetrahedron-5.ensures c.in_ok-push_tetrahedron-6.ensures
