use Rattle.std.proofs.Common.{◌≡◌, ℕ, ◌*◌, ◌/◌, ◌^◌, ℤ, pos, ap, sym, ◌∙◌, subst, rules}
use Rattle.std.specs.Prelude.{◌+ℤ◌, ◌-ℤ◌, ◌*ℤ◌, ◌<ℤ◌, unsigned_abs, FitsSigned}
use Rattle.std.specs.Int.{w64, w128}
use Rattle.std.proofs.lemmas.Int.{to_z-of_z}
use mir.Val.{to_z, of_z}
use Rattle.viz_fraction.specs.Decimals.{fixed_of}
use Rattle.viz_fraction.proofs.FieldsLemmas.{kept}
use Rattle.viz_fraction.proofs.DecimalsLemmas.{joined-fixed, whole_fits}
use Rattle.viz_fraction.proofs.decimals.long_fixed.Goals as goal

-- the whole and the places that the code has are the floor
floor_at : (n w q : ℤ) (rest places divisor k : ℕ) → pos 0 <ℤ w → kept q ≡ q → pos rest ≡ n -ℤ kept q *ℤ w
    → places ≡ rest * 10 ^ k / divisor → divisor ≡ unsigned_abs w → q *ℤ pos (10 ^ k) +ℤ pos places ≡ fixed_of n w k
floor_at n w q rest places divisor k positive here is_rest is_places is_divisor =
    joined-fixed n w q rest places k positive (is_rest ∙ ap (λ z. n -ℤ z *ℤ w) here) (is_places ∙ ap (λ d. rest * 10 ^ k / d) is_divisor)

pub returns-in_err-whole-clause-succeeds : goal.returns-in_err-whole-clause-succeeds
returns-in_err-whole-clause-succeeds c =
    let q = c.floor-whole.result in
    let f = c.fraction-places.result in
    let here = to_z-of_z w128 q (search rules) in
    let same = floor_at c.args.n.now c.args.w.now q c.rest_of-rest.result f c.magnitude.result c.args.k c.requires.positive here c.rest_of-rest.ensures.value c.fraction-places.ensures.value c.magnitude.ensures in
    let no : FitsSigned w64 (fixed_of c.args.n.now c.args.w.now c.args.k) → FitsSigned w64 (kept q) =
    λ fits. subst (FitsSigned w64) (sym here) (whole_fits q (10 ^ c.args.k) f c.fraction-places.ensures.below (subst (FitsSigned w64) (sym same) fits)) in
    search rules

pub returns-clause-value : goal.returns-clause-value
returns-clause-value c =
    let q = c.floor-whole.result in
    let f = c.fraction-places.result in
    let here = to_z-of_z w128 q (search rules) in
    let same = floor_at c.args.n.now c.args.w.now q c.rest_of-rest.result f c.magnitude.result c.args.k c.requires.positive here c.rest_of-rest.ensures.value c.fraction-places.ensures.value c.magnitude.ensures in
    let whole : to_z w64 (of_z w64 c.in_ok-whole.whole) ≡ q = to_z-of_z w64 c.in_ok-whole.whole (search rules) ∙ c.in_ok-whole.ensures.value ∙ here in
    let all : kept c.joined.result ≡ fixed_of c.args.n.now c.args.w.now c.args.k =
    to_z-of_z w128 c.joined.result (search rules) ∙ c.joined.ensures ∙ ap (λ z. z *ℤ pos (10 ^ c.args.k) +ℤ pos f) whole ∙ same in
    rw all at c.word-2.ensures.value

pub returns-clause-succeeds : goal.returns-clause-succeeds
returns-clause-succeeds c =
    let q = c.floor-whole.result in
    let f = c.fraction-places.result in
    let here = to_z-of_z w128 q (search rules) in
    let same = floor_at c.args.n.now c.args.w.now q c.rest_of-rest.result f c.magnitude.result c.args.k c.requires.positive here c.rest_of-rest.ensures.value c.fraction-places.ensures.value c.magnitude.ensures in
    let whole : to_z w64 (of_z w64 c.in_ok-whole.whole) ≡ q = to_z-of_z w64 c.in_ok-whole.whole (search rules) ∙ c.in_ok-whole.ensures.value ∙ here in
    let all : kept c.joined.result ≡ fixed_of c.args.n.now c.args.w.now c.args.k =
    to_z-of_z w128 c.joined.result (search rules) ∙ c.joined.ensures ∙ ap (λ z. z *ℤ pos (10 ^ c.args.k) +ℤ pos f) whole ∙ same in
    rw all at c.word-2.ensures.succeeds
