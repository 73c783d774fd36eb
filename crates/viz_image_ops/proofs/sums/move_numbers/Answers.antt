use Rattle.std.proofs.Common.{◌≡◌, ◌<◌, ◌≤◌, ◌*◌, ◌^◌, ◌+◌, ◌-◌, ℕ, ℤ, take, drop, ◌+ℤ◌, ◌-ℤ◌, map, length, get_or, pos, ap, ◌∙◌, sym, subst, arith}
use Rattle.std.proofs.lemmas.List.{length-map}
use Rattle.viz_image_ops.specs.Sums.{IsWithin}
use Rattle.viz_image_ops.proofs.SumLemmas.{length-list, value_in_list, place_within, sums_within, place_sums_more, place_sums_less}
use Rattle.viz_image_ops.proofs.sums.move_numbers.Goals as goal

pub add_numbers-requires-clause-terms : goal.add_numbers-requires-clause-terms
add_numbers-requires-clause-terms g c =
    let value = g.T.Number.value in
    let ns = c.args.numbers.now in
    let long = length c.args.sums.now in
    let count = c.args.next_behind in
    let enough : count * long ≤ length (map value ns) = omega (arith, c.requires.long, length-map ns value) in
    let before : c.loop-c.c < count = c.loop-c-test.true in
    λ p below.
    let here : p < long = omega (arith, below, length-map (take (((c.loop-c.c) + 1) * long - c.loop-c.c * long) (drop (c.loop-c.c * long) ns)) value, length-list ns c.loop-c.c count long before c.requires.long) in
    subst (λ (z : ℤ). IsWithin (2 ^ 96) (2 ^ 96) z) (sym (value_in_list value ns c.loop-c.c long p here)) (place_within (map value ns) c.loop-c.c long p count c.requires.room here before enough)

pub add_numbers-requires-clause-room : goal.add_numbers-requires-clause-room
add_numbers-requires-clause-room g c =
    let value = g.T.Number.value in
    let ns = c.args.numbers.now in
    let long = length c.args.sums.now in
    let count = c.args.next_behind in
    let enough : count * long ≤ length (map value ns) = omega (arith, c.requires.long, length-map ns value) in
    let same : length c.loop-c.sums ≡ long = c.loop-c.auto.sums in
    let all : count * length c.loop-c.sums ≤ length (map value ns) = rw same enough in
    sums_within (map value ns) c.loop-c.sums c.args.first c.loop-c.c count c.requires.room (omega (arith, c.requires.order, c.loop-c.auto.c)) (omega arith) all c.loop-c.invariant

pub loop-c-preserved : goal.loop-c-preserved
loop-c-preserved g c =
    let value = g.T.Number.value in
    let ns = c.args.numbers.now in
    let long = length c.args.sums.now in
    let count = c.args.next_behind in
    let enough : count * long ≤ length (map value ns) = omega (arith, c.requires.long, length-map ns value) in
    let before : c.loop-c.c < count = c.loop-c-test.true in
    let sums = c.loop-c.sums in
    let new = c.add_numbers.new.sums in
    let same : length sums ≡ long = c.loop-c.auto.sums in
    place_sums_more (map value ns) sums new c.args.first c.loop-c.c c.add_numbers.auto.sums (omega (arith, c.requires.order, c.loop-c.auto.c)) c.loop-c.invariant (λ p below.
    let here : p < long = omega (arith, below, same) in
    c.add_numbers.ensures p below ∙ ap (◌+ℤ◌ (get_or sums p (pos 0))) (value_in_list value ns c.loop-c.c long p here)
    ∙ ap (λ (n : ℕ). ◌+ℤ◌ (get_or sums p (pos 0)) (get_or (map value ns) (c.loop-c.c * n + p) (pos 0))) (sym same))

pub take_numbers-requires-clause-terms : goal.take_numbers-requires-clause-terms
take_numbers-requires-clause-terms g c =
    let value = g.T.Number.value in
    let ns = c.args.numbers.now in
    let long = length c.args.sums.now in
    let count = c.args.next_behind in
    let enough : count * long ≤ length (map value ns) = omega (arith, c.requires.long, length-map ns value) in
    let before : c.loop-c-2.c < count = omega (arith, c.loop-c-2-test.true, c.requires.some) in
    λ p below.
    let here : p < long = omega (arith, below, length-map (take (((c.loop-c-2.c) + 1) * long - c.loop-c-2.c * long) (drop (c.loop-c-2.c * long) ns)) value, length-list ns c.loop-c-2.c count long before c.requires.long) in
    subst (λ (z : ℤ). IsWithin (2 ^ 96) (2 ^ 96) z) (sym (value_in_list value ns c.loop-c-2.c long p here)) (place_within (map value ns) c.loop-c-2.c long p count c.requires.room here before enough)

pub take_numbers-requires-clause-room : goal.take_numbers-requires-clause-room
take_numbers-requires-clause-room g c =
    let value = g.T.Number.value in
    let ns = c.args.numbers.now in
    let long = length c.args.sums.now in
    let count = c.args.next_behind in
    let enough : count * long ≤ length (map value ns) = omega (arith, c.requires.long, length-map ns value) in
    let same : length c.loop-c-2.sums ≡ long = c.loop-c-2.auto.sums ∙ c.loop-c.auto.sums in
    let all : count * length c.loop-c-2.sums ≤ length (map value ns) = rw same enough in
    sums_within (map value ns) c.loop-c-2.sums c.loop-c-2.c count count c.requires.room (omega (arith, c.loop-c-2-test.true, c.requires.some)) (omega arith) all c.loop-c-2.invariant

pub loop-c-2-preserved : goal.loop-c-2-preserved
loop-c-2-preserved g c =
    let value = g.T.Number.value in
    let ns = c.args.numbers.now in
    let long = length c.args.sums.now in
    let count = c.args.next_behind in
    let enough : count * long ≤ length (map value ns) = omega (arith, c.requires.long, length-map ns value) in
    let before : c.loop-c-2.c < count = omega (arith, c.loop-c-2-test.true, c.requires.some) in
    let sums = c.loop-c-2.sums in
    let new = c.take_numbers.new.sums in
    let same : length sums ≡ long = c.loop-c-2.auto.sums ∙ c.loop-c.auto.sums in
    place_sums_less (map value ns) sums new c.loop-c-2.c count c.take_numbers.auto.sums before c.loop-c-2.invariant (λ p below.
    let here : p < long = omega (arith, below, same) in
    c.take_numbers.ensures p below ∙ ap (◌-ℤ◌ (get_or sums p (pos 0))) (value_in_list value ns c.loop-c-2.c long p here)
    ∙ ap (λ (n : ℕ). ◌-ℤ◌ (get_or sums p (pos 0)) (get_or (map value ns) (c.loop-c-2.c * n + p) (pos 0))) (sym same))
