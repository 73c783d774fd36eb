use Rattle.std.proofs.Common.{◌≡◌, ◌<◌, ◌*◌, ℕ, List, length, get_or, subst, arith, rules}
use Rattle.std.proofs.lemmas.List.Elements.{All-get_or}
use Rattle.viz_flags.specs.Flags.{flags as bits_of}
use Rattle.viz_sheet.specs.Steps.Marking.{IsMarkedBy}
use Rattle.viz_flags.proofs.ByteLemmas.{flags-length}
use Rattle.viz_flags.proofs.BitLemmas.{three_marked, eta_three}
use Rattle.viz_flags.proofs.flags.set_three.Goals as goal

pub returns-clause-bits : goal.returns-clause-bits
returns-clause-bits c =
    let t = c.args.numbers in
    let masks = c.args.flags.now in
    let size : length t ≡ 3 = search rules in
    let at : (k : ℕ) → k < length t → get_or t k 0 < 8 * length masks = λ k l. All-get_or (λ n. n < 8 * length masks) t k 0 l c.requires in
    let b0 = bits_of masks in
    let b1 = bits_of c.set_flag.new.flags in
    let b2 = bits_of c.set_flag-2.new.flags in
    let b3 = bits_of c.set_flag-3.new.flags in
    let l0 : length b0 ≡ 8 * length masks = flags-length masks in
    let l1 : length b1 ≡ 8 * length c.set_flag.new.flags = flags-length c.set_flag.new.flags in
    let l2 : length b2 ≡ 8 * length c.set_flag-2.new.flags = flags-length c.set_flag-2.new.flags in
    let s1 : length c.set_flag.new.flags ≡ length masks = c.set_flag.ensures.size in
    let s2 : length c.set_flag-2.new.flags ≡ length c.set_flag.new.flags = c.set_flag-2.ensures.size in
    subst (λ (cell : List ℕ). IsMarkedBy b0 cell b3) (eta_three t size)
    (three_marked b0 b1 b2 b3 (get_or t 0 0) (get_or t 1 0) (get_or t 2 0)
    (omega (arith, l0, at 0 (omega (arith, size))))
    (omega (arith, l1, s1, at 1 (omega (arith, size))))
    (omega (arith, l2, s1, s2, at 2 (omega (arith, size))))
    c.set_flag.ensures.bits c.set_flag-2.ensures.bits c.set_flag-3.ensures.bits)
