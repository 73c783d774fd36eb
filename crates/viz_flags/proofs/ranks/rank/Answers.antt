use Rattle.std.proofs.Common.{◌≡◌, ◌*◌, ◌/◌, length, get_or, arith, ap, ◌∙◌}
use Rattle.viz_flags.specs.Flags.{flags}
use Rattle.viz_sheet.specs.Kept.{kept_rank}
use Rattle.viz_flags.proofs.ByteLemmas.{start-is, starts-length, rank-parts, rank-within}
use Rattle.viz_flags.proofs.ranks.rank.Goals as goal

pub bounds-before-byte : goal.bounds-before-byte
bounds-before-byte c = omega (arith, starts-length c.args.flags.now, ap length c.requires.before, c.requires.within)

pub overflow_add-result : goal.overflow_add-result
overflow_add-result c =
    let masks = c.args.flags.now in
    let n = c.args.number in
    let start : get_or c.args.before.now (n / 8) 0 ≡ kept_rank (flags masks) (8 * (n / 8)) = ap (λ l. get_or l (n / 8) 0) c.requires.before ∙ start-is masks (n / 8) (omega arith) in
    let sum = rank-parts masks n c.requires.within in
    let most = rank-within masks n c.requires.within in
    omega (arith, start, sum, most, c.set_before.ensures.value, c.requires.few)

pub returns : goal.returns
returns c =
    let masks = c.args.flags.now in
    let n = c.args.number in
    let start : get_or c.args.before.now (n / 8) 0 ≡ kept_rank (flags masks) (8 * (n / 8)) = ap (λ l. get_or l (n / 8) 0) c.requires.before ∙ start-is masks (n / 8) (omega arith) in
    let sum = rank-parts masks n c.requires.within in
    rw (c.set_before.ensures.value, start) sum
