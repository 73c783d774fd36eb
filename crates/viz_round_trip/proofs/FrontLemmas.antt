-- Numbers that stand one behind the other in front of a text, as words or as bytes.
use Rattle.std.proofs.Common.{◌≡◌, ℕ, ℤ, ◌==◌, ◌<◌, ◌≤◌, Bool, true, false, List, [], ◌∷◌, ◌++◌, length, map, refl, sym, ap, subst, ◌∙◌, append_assoc, append-nil, arith}
use Rattle.std.specs.Prelude.{cond}
use Rattle.std.specs.List.{All, flat_map}
use Rattle.std.specs.Fmt.{signed_decimal}
use Rattle.std.proofs.lemmas.Bool.{ne_eqb}
use Rattle.std.proofs.lemmas.List.Elements.{All-nil, All-cons, All-head, All-tail}
use Rattle.viz_column.specs.declared.kind.Kind8.{Kind8}
use Rattle.viz_column.specs.Bytes.{bytes_of}
use Rattle.viz_lex.specs.Words.{EndsWord, IsBlank}
use Rattle.viz_image_write.specs.ImageText.{spaced_number, row_text}
use Rattle.viz_mesh_write.specs.Rows.{row_of, block_end, block_text}
use Rattle.viz_round_trip.proofs.WordStanding.{blank-nil, blank-one}

-- one number in front of a text: a word behind blanks, or the bytes of a kind
abbrev pub IsInFront : Bool → Kind8 → ℤ → List ℕ → List ℕ → Type 0
IsInFront true kind n text later = text ≡ bytes_of kind n ++ later
IsInFront false kind n text later =
    (gap : List ℕ) × IsBlank gap × EndsWord later × (text ≡ gap ++ (signed_decimal n ++ later))

-- these numbers in front of a text, one behind the other
abbrev pub AreInFront : Bool → Kind8 → List ℤ → List ℕ → List ℕ → Type 0
AreInFront binary kind [] text behind = text ≡ behind
AreInFront binary kind (n ∷ ns) text behind =
    (later : List ℕ) × IsInFront binary kind n text later × AreInFront binary kind ns later behind

-- of two lists the second stands behind the first
pub front-split : (binary : Bool) (kind : Kind8) (ns ms : List ℤ) (text behind : List ℕ) → AreInFront binary kind (ns ++ ms) text behind → (mid : List ℕ) × AreInFront binary kind ns text mid × AreInFront binary kind ms mid behind
front-split binary kind [] ms text behind h = (text, refl, h)
front-split binary kind (n ∷ ns) ms text behind h =
    let others = front-split binary kind ns ms h.0 behind h.2 in
    (others.0, (h.0, h.1, others.1), others.2)

pub front-both : (binary : Bool) (kind : Kind8) (ns ms : List ℤ) (text mid behind : List ℕ) → AreInFront binary kind ns text mid → AreInFront binary kind ms mid behind → AreInFront binary kind (ns ++ ms) text behind
front-both binary kind [] ms text mid behind h k = subst (λ (t : List ℕ). AreInFront binary kind ms t behind) (sym h) k
front-both binary kind (n ∷ ns) ms text mid behind h k = (h.0, h.1, front-both binary kind ns ms h.0 mid behind h.2 k)

-- ---- rows in bytes

bytes-front : (kind : Kind8) (ns : List ℤ) (behind : List ℕ) → AreInFront true kind ns (flat_map (bytes_of kind) ns ++ behind) behind
bytes-front kind [] behind = refl
bytes-front kind (n ∷ ns) behind =
    let later = flat_map (bytes_of kind) ns ++ behind in
    (later, append_assoc (bytes_of kind n) (flat_map (bytes_of kind) ns) behind, bytes-front kind ns behind)

bytes-rows : {X : Type 0} (kind : Kind8) (numbers : X → List ℤ) (xs : List X) (behind : List ℕ) → AreInFront true kind (flat_map numbers xs) (flat_map (row_of true kind) (map numbers xs) ++ behind) behind
bytes-rows kind numbers [] behind = refl
bytes-rows kind numbers (x ∷ xs) behind =
    let here = flat_map (bytes_of kind) (numbers x) in
    let others = flat_map (row_of true kind) (map numbers xs) in
    front-both true kind (numbers x) (flat_map numbers xs) ((here ++ others) ++ behind) (others ++ behind) behind
    (subst (λ (t : List ℕ). AreInFront true kind (numbers x) t (others ++ behind)) (sym (append_assoc here others behind)) (bytes-front kind (numbers x) (others ++ behind)))
    (bytes-rows kind numbers xs behind)

-- ---- rows in words

ends-spaced : (ns : List ℤ) (more : List ℕ) → EndsWord (flat_map spaced_number ns ++ 10 ∷ more)
ends-spaced [] more = refl
ends-spaced (n ∷ ns) more = refl

spaced-front : (kind : Kind8) (ns : List ℤ) (more : List ℕ) → AreInFront false kind ns (flat_map spaced_number ns ++ 10 ∷ more) (10 ∷ more)
spaced-front kind [] more = refl
spaced-front kind (n ∷ ns) more =
    let later = flat_map spaced_number ns ++ 10 ∷ more in
    (later, (32 ∷ [], blank-one 32 refl, ends-spaced ns more, append_assoc (32 ∷ signed_decimal n) (flat_map spaced_number ns) (10 ∷ more)), spaced-front kind ns more)

-- a row behind a newline
row-front : (kind : Kind8) (ns : List ℤ) (more : List ℕ) → 1 ≤ length ns → AreInFront false kind ns (10 ∷ (row_text ns ++ more)) (10 ∷ more)
row-front kind [] more some = absurd (omega arith)
row-front kind (n ∷ ns) more some =
    let spaces = flat_map spaced_number ns in
    let later = spaces ++ 10 ∷ more in
    let parts : row_text (n ∷ ns) ++ more ≡ signed_decimal n ++ later = append_assoc (signed_decimal n ++ spaces) (10 ∷ []) more ∙ append_assoc (signed_decimal n) spaces (10 ∷ more) in
    (later, (10 ∷ [], blank-one 10 refl, ends-spaced ns more, ap (λ (t : List ℕ). 10 ∷ t) parts), spaced-front kind ns more)

-- no row is empty
abbrev pub AreFilled : {X : Type 0} → (X → List ℤ) → List X → Type 0
AreFilled numbers xs = All (λ x. 1 ≤ length (numbers x)) xs

pub filled : {X : Type 0} (first : X → ℤ) (others : X → List ℤ) (xs : List X) → AreFilled (λ x. first x ∷ others x) xs
filled first others [] = All-nil (λ x. 1 ≤ length (first x ∷ others x))
filled first others (x ∷ xs) = All-cons (λ x. 1 ≤ length (first x ∷ others x)) x xs (omega arith) (filled first others xs)

pub words-rows : {X : Type 0} (kind : Kind8) (numbers : X → List ℤ) (xs : List X) (behind : List ℕ) → AreFilled numbers xs
    → AreInFront false kind (flat_map numbers xs) (10 ∷ (flat_map (row_of false kind) (map numbers xs) ++ behind)) (10 ∷ behind)
words-rows kind numbers [] behind some = refl
words-rows kind numbers (x ∷ xs) behind some =
    let here = row_text (numbers x) in
    let rest = flat_map (row_of false kind) (map numbers xs) in
    front-both false kind (numbers x) (flat_map numbers xs) (10 ∷ ((here ++ rest) ++ behind)) (10 ∷ (rest ++ behind)) (10 ∷ behind)
    (subst (λ (t : List ℕ). AreInFront false kind (numbers x) (10 ∷ t) (10 ∷ (rest ++ behind))) (sym (append_assoc here rest behind)) (row-front kind (numbers x) (rest ++ behind) (All-head (λ y. 1 ≤ length (numbers y)) x xs some)))
    (words-rows kind numbers xs behind (All-tail (λ y. 1 ≤ length (numbers y)) x xs some))

-- ---- blocks

-- what is left in front behind so many rows
abbrev pub gap_of : Bool → ℕ → List ℕ
gap_of true n = block_end true n
gap_of false n = 10 ∷ []

end-blank : (none : Bool) → IsBlank (cond none [] (10 ∷ []))
end-blank true = blank-nil
end-blank false = blank-one 10 refl

pub gap-blank : (binary : Bool) (n : ℕ) → IsBlank (gap_of binary n)
gap-blank true n = end-blank (n == 0)
gap-blank false n = blank-one 10 refl

pub gap-some : (binary : Bool) (n : ℕ) → 0 < n → gap_of binary n ≡ 10 ∷ []
gap-some true n some = ap (λ (b : Bool). cond b [] (10 ∷ [])) (ne_eqb n 0 (λ e. omega arith))
gap-some false n some = refl

-- what is left behind the line in front of the numbers
abbrev pub start_of : Bool → List ℕ → List ℕ
start_of true text = text
start_of false text = 10 ∷ text

-- the numbers of a block stand behind the line in front of it
pub block-front : {X : Type 0} (binary : Bool) (kind : Kind8) (numbers : X → List ℤ) (xs : List X) (behind : List ℕ) → AreFilled numbers xs
    → AreInFront binary kind (flat_map numbers xs) (start_of binary (block_text binary kind (map numbers xs) ++ behind)) (gap_of binary (length (map numbers xs)) ++ behind)
block-front true kind numbers xs behind some =
    let rows = flat_map (row_of true kind) (map numbers xs) in
    let gap = block_end true (length (map numbers xs)) in
    subst (λ (t : List ℕ). AreInFront true kind (flat_map numbers xs) t (gap ++ behind)) (sym (append_assoc rows gap behind)) (bytes-rows kind numbers xs (gap ++ behind))
block-front false kind numbers xs behind some =
    let rows = flat_map (row_of false kind) (map numbers xs) in
    subst (λ (t : List ℕ). AreInFront false kind (flat_map numbers xs) (10 ∷ (t ++ behind)) (10 ∷ behind)) (sym (append-nil rows)) (words-rows kind numbers xs behind some)
