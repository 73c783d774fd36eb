-- Values as text and as bytes, one more at a time.
use Rattle.std.proofs.Common.{◌≡◌, ℕ, ℤ, suc, ◌-◌, ◌+◌, ◌<◌, ◌≤◌, List, [], ◌∷◌, ◌++◌, length, min, take, drop, map, refl, sym, ap, ap₂, ◌∙◌, append_assoc, arith}
use Rattle.std.specs.List.{flat_map}
use Rattle.std.specs.Fmt.{signed_decimal}
use Rattle.std.proofs.lemmas.List.{take_min, drop_min, length-map, map-append, take-map, drop-map, take-append-drop, drop-drop, length-drop}
use Rattle.std.proofs.lemmas.Grind.{flat_map-append}
use Rattle.viz_image_write.specs.ImageText.{spaced_number, row_text, rows_text}
use Rattle.viz_image_write.proofs.PassLemmas.{appended}

-- a row is its numbers, each behind a space, without the first space, and a newline
pub row_is : (xs : List ℤ) → row_text xs ≡ drop 1 (flat_map spaced_number xs) ++ 10 ∷ []
row_is [] = refl
row_is (n ∷ ns) = refl

-- a row is written
pub row_written : (xs : List ℤ) (old mid new : List ℕ)
    → mid ≡ old ++ drop 1 (flat_map spaced_number xs) → new ≡ mid ++ 10 ∷ []
    → new ≡ old ++ row_text xs
row_written xs old mid new e f =
    appended old mid new (drop 1 (flat_map spaced_number xs)) (10 ∷ []) e f
    ∙ ap (λ (t : List ℕ). old ++ t) (sym (row_is xs))

-- the first number of some stands in the block
pub starts_within : (start : ℕ) (block : List ℕ) (xs : List ℤ) → 0 < length xs
    → drop start block ≡ flat_map spaced_number xs → start + 1 ≤ length block
starts_within start block [] some is = absurd (omega (arith, some))
starts_within start block (x ∷ xs) some is =
    let long : length (drop start block) ≡ length (flat_map spaced_number (x ∷ xs)) =
    ap length is in
    let more : 0 < length (drop start block) = omega (arith, long) in
    omega (arith, more, length-drop start block)

-- without its space it stands behind that
pub behind_space : (start : ℕ) (block written : List ℕ) → drop start block ≡ written
    → drop (start + 1) block ≡ drop 1 written
behind_space start block written is = sym (drop-drop 1 start block) ∙ ap (drop 1) is

-- some numbers, and further ones
numbers_are : (xs ys : List ℤ) → 0 < length xs
    → drop 1 (flat_map spaced_number (xs ++ ys))
    ≡ drop 1 (flat_map spaced_number xs) ++ flat_map spaced_number ys
numbers_are [] ys some = absurd (omega (arith, some))
numbers_are (x ∷ xs) ys some =
    ap (λ (t : List ℕ). signed_decimal x ++ t) (flat_map-append spaced_number xs ys)
    ∙ sym (append_assoc (signed_decimal x) (flat_map spaced_number xs) (flat_map spaced_number ys))

-- the first numbers of a row are written, and the others
pub numbers_written : {X : Type 0} (value : X → ℤ) (n : ℕ) (row front behind : List X)
    (old mid new : List ℕ) → 0 < length front → front ≡ take n row → behind ≡ drop n row
    → mid ≡ old ++ drop 1 (flat_map spaced_number (map value front))
    → new ≡ mid ++ flat_map spaced_number (map value behind)
    → new ≡ old ++ drop 1 (flat_map spaced_number (map value row))
numbers_written {X} value n row front behind old mid new some front-is behind-is e f =
    let xs = map value front in
    let ys = map value behind in
    let whole : xs ++ ys ≡ map value row =
    sym (map-append value front behind)
    ∙ ap (map value) (ap₂ (λ (s t : List X). s ++ t) front-is behind-is ∙ take-append-drop n row) in
    let long : 0 < length xs = omega (arith, some, length-map front value) in
    appended old mid new (drop 1 (flat_map spaced_number xs)) (flat_map spaced_number ys) e f
    ∙ ap (λ (t : List ℕ). old ++ t) (sym (numbers_are xs ys long)
    ∙ ap (λ (l : List ℤ). drop 1 (flat_map spaced_number l)) whole)

-- the rows behind the first one
rows_text-suc : (rows i width : ℕ) (left : List ℤ) → i < rows
    → rows_text (rows - i) width left ≡ row_text (take (min width (length left)) left) ++ rows_text (rows - (i + 1)) width (drop (min width (length left)) left)
rows_text-suc rows i width left lt =
    let n : rows - i ≡ suc (rows - (i + 1)) = omega arith in
    ap (λ (m : ℕ). rows_text m width left) n
    ∙ sym (ap (λ (row : List ℤ). row_text row ++ rows_text (rows - (i + 1)) width (drop (min width (length left)) left)) (take_min width left) ∙ ap (λ (rest : List ℤ). row_text (take width left) ++ rows_text (rows - (i + 1)) width rest) (drop_min width left))

-- one row more is written
pub rows_step : {X : Type 0} (value : X → ℤ) (rows i width n : ℕ) (left row behind : List X) (text new all : List ℕ) → i < rows → n ≡ min width (length left)
    → row ≡ take n left → behind ≡ drop n left → new ≡ text ++ row_text (map value row) → text ++ rows_text (rows - i) width (map value left) ≡ all
    → new ++ rows_text (rows - (i + 1)) width (map value behind) ≡ all
rows_step {X} value rows i width n left row behind text new all lt n-is row-is behind-is put so_far =
    let xs = map value left in
    let m = min width (length xs) in
    let rest : List ℤ → List ℕ = λ (l : List ℤ). rows_text (rows - (i + 1)) width l in
    let n-m : n ≡ m = n-is ∙ ap (λ (k : ℕ). min width k) (sym (length-map left value)) in
    let row-m : map value row ≡ take m xs = ap (map value) row-is ∙ sym (take-map value n left) ∙ ap (λ (k : ℕ). take k xs) n-m in
    let behind-m : map value behind ≡ drop m xs = ap (map value) behind-is ∙ sym (drop-map value n left) ∙ ap (λ (k : ℕ). drop k xs) n-m in
    let grown : new ++ rest (map value behind) ≡ text ++ (row_text (map value row) ++ rest (map value behind)) =
    ap (λ (t : List ℕ). t ++ rest (map value behind)) put ∙ append_assoc text (row_text (map value row)) (rest (map value behind)) in
    let same : row_text (map value row) ++ rest (map value behind) ≡ row_text (take m xs) ++ rest (drop m xs) =
    ap (λ (r : List ℤ). row_text r ++ rest (map value behind)) row-m ∙ ap (λ (l : List ℤ). row_text (take m xs) ++ rest l) behind-m in
    grown ∙ ap (λ (t : List ℕ). text ++ t) (same ∙ sym (rows_text-suc rows i width xs lt)) ∙ so_far

-- the bytes of some numbers more are written
pub block_step : {X : Type 0} (value : X → ℤ) (bytes : ℤ → List ℕ) (n : ℕ) (left front behind : List X) (text block new all : List ℕ) → front ≡ take n left
    → behind ≡ drop n left → block ≡ flat_map bytes (map value front) → new ≡ text ++ block → text ++ flat_map bytes (map value left) ≡ all
    → new ++ flat_map bytes (map value behind) ≡ all
block_step {X} value bytes n left front behind text block new all front-is behind-is block-is put so_far =
    let f : List X → List ℕ = λ (l : List X). flat_map bytes (map value l) in
    let whole : front ++ behind ≡ left = ap (λ (l : List X). l ++ behind) front-is ∙ ap (λ (l : List X). take n left ++ l) behind-is ∙ take-append-drop n left in
    let both : f front ++ f behind ≡ f left =
    sym (ap (flat_map bytes) (map-append value front behind) ∙ flat_map-append bytes (map value front) (map value behind)) ∙ ap f whole in
    ap (λ (t : List ℕ). t ++ f behind) (put ∙ ap (λ (t : List ℕ). text ++ t) block-is) ∙ append_assoc text (f front) (f behind) ∙ ap (λ (t : List ℕ). text ++ t) both ∙ so_far
