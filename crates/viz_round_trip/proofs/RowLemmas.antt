-- The rows of a written image are its numbers as words.
use Rattle.std.proofs.Common.{◌≡◌, ℕ, zero, suc, ℤ, ◌+◌, ◌*◌, List, [], ◌∷◌, ◌++◌, length, take, drop, refl, sym, subst, ◌∙◌, append_assoc, length-drop, arith}
use Rattle.std.specs.List.{flat_map}
use Rattle.std.specs.Fmt.{signed_decimal}
use Rattle.std.proofs.lemmas.List.{take-append-drop}
use Rattle.viz_lex.specs.Words.{EndsWord}
use Rattle.viz_image_write.specs.ImageText.{spaced_number, row_text, rows_text}
use Rattle.viz_round_trip.proofs.WordStanding.{blank-nil, blank-one}
use Rattle.viz_round_trip.proofs.ValueStanding.{AreWritten, written-behind}

ends-spaced : (ns : List ℤ) (more : List ℕ) → EndsWord (flat_map spaced_number ns ++ 10 ∷ more)
ends-spaced [] more = refl
ends-spaced (n ∷ ns) more = refl

-- numbers behind a space each, and what is behind them
written-spaced : (ns ms : List ℤ) (more : List ℕ) → AreWritten ms (10 ∷ more) → AreWritten (ns ++ ms) (flat_map spaced_number ns ++ 10 ∷ more)
written-spaced [] ms more h = h
written-spaced (n ∷ ns) ms more h =
    let later = flat_map spaced_number ns ++ 10 ∷ more in
    let parts : flat_map spaced_number (n ∷ ns) ++ 10 ∷ more ≡ (32 ∷ []) ++ (signed_decimal n ++ later) = append_assoc (32 ∷ signed_decimal n) (flat_map spaced_number ns) (10 ∷ more) in
    (32 ∷ [], later, blank-one 32 refl, ends-spaced ns more, parts, written-spaced ns ms more h)

-- a row, and what is behind it
written-row : (ns ms : List ℤ) (more : List ℕ) → AreWritten ms more → AreWritten (ns ++ ms) (row_text ns ++ more)
written-row [] ms more h = written-behind (10 ∷ []) ms more (blank-one 10 refl) h
written-row (n ∷ ns) ms more h =
    let spaces = flat_map spaced_number ns in
    let later = spaces ++ 10 ∷ more in
    let parts : row_text (n ∷ ns) ++ more ≡ [] ++ (signed_decimal n ++ later) = append_assoc (signed_decimal n ++ spaces) (10 ∷ []) more ∙ append_assoc (signed_decimal n) spaces (10 ∷ more) in
    ([], later, blank-nil, ends-spaced ns more, parts, written-spaced ns ms more (written-behind (10 ∷ []) ms more (blank-one 10 refl) h))

no_numbers : (values : List ℤ) → length values ≡ 0 → values ≡ []
no_numbers [] e = refl
no_numbers (n ∷ ns) e = absurd (omega arith)

-- so many rows
pub written-rows : (rows width : ℕ) (values : List ℤ) → length values ≡ rows * width → AreWritten values (rows_text rows width values)
written-rows zero width values e =
    let none : length values ≡ 0 = omega arith in
    subst (λ (ns : List ℤ). AreWritten ns []) (sym (no_numbers values none)) blank-nil
written-rows (suc rows) width values e =
    let more : suc rows * width ≡ width + rows * width = omega arith in
    let left : length (drop width values) ≡ rows * width = omega (arith, length-drop width values) in
    let all = written-row (take width values) (drop width values) _ (written-rows rows width (drop width values) left) in
    subst (λ (ns : List ℤ). AreWritten ns (rows_text (suc rows) width values)) (take-append-drop width values) all
