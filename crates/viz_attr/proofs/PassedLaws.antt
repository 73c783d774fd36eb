-- A FIELD that is passed over: its loop, and that its reader decides its rule.
use Rattle.std.proofs.Common.{◌≡◌, ℕ, zero, suc, ◌+◌, ◌-◌, ◌*◌, ◌<◌, ◌≤◌, Bool, true, false, not, ◌||◌, List, [], ◌∷◌, ◌++◌, Option, Some, None, Result, Ok, Err, refl, sym, ap, ◌∙◌, arith}
use Rattle.std.specs.Prelude.{codes, if◌then◌else◌}
use Rattle.viz_column.specs.Numbers.{Numbers}
use Rattle.viz_lex.specs.declared.fault.FileFault.{FileFault}
use Rattle.viz_lex.specs.declared.fault.FileKind.TheVariants.{Keyword}
use Rattle.viz_lex.specs.Reading.{Reading, ◌>>=◌}
use Rattle.viz_lex.specs.Passing.{words_at}
use Rattle.viz_lex.specs.Steps.{same_word, due_word}
use Rattle.viz_lex.specs.Rules.{Rule, follow, gives, Decides}
use Rattle.viz_lex.specs.Repeats.{times_knowing}
use Rattle.viz_lex.specs.Items.{word, metadata}
use Rattle.viz_lex.specs.Readers.{known_at, any_metadata_at}
use Rattle.viz_lex.proofs.RuleLemmas.{decides-gives, decides-follow, decides-demand}
use Rattle.viz_lex.proofs.KnownLemmas.{decides-times_knowing}
use Rattle.viz_lex.proofs.ItemLemmas.{decides-word}
use Rattle.viz_lex.proofs.PassRules.{decides-same, decides-metadata}
use Rattle.viz_attr.specs.declared.types.Stored.{Stored}
use Rattle.viz_attr.specs.Types.{bytes_of, type_word}
use Rattle.viz_attr.specs.Counts.{count_from}
use Rattle.viz_attr.specs.Values.{block_numbers, values}
use Rattle.viz_attr.specs.Passed.{passed_values, passed_array, is_start, passed_field}
use Rattle.viz_attr.specs.Steps.{type_at, count_from_at, text_values_at, line_bytes_at, block_values_at, values_at}
use Rattle.viz_attr.specs.PassedSteps.{line_passed_at, values_passed_at, passed_values_at, passed_array_at, passed_arrays_at, passed_field_at}
use Rattle.viz_attr.proofs.PartLaws.{decides-type_word, decides-count_from, decides-values}

-- what was passed over
abbrev pub Passed : Type 0
Passed = Result (Unit {0} × Reading) FileFault

-- ---- the loop

pub passed-on : (binary first : Bool) (count i : ℕ) (r after : Reading) (total : Passed) → i < count → passed_array_at binary first r ≡ Ok (tt, after)
    → passed_arrays_at binary first (count - i) r ≡ total → passed_arrays_at binary false (count - (i + 1)) after ≡ total
unfolding passed_arrays_at
passed-on binary first count i r after total lt h so_far =
    let n : count - i ≡ suc (count - (i + 1)) = omega arith in
    let one : passed_arrays_at binary first (count - i) r ≡ passed_arrays_at binary false (count - (i + 1)) after = rw (n, h) refl in
    sym one ∙ so_far

pub passed-fault : (binary first : Bool) (count i : ℕ) (r : Reading) (fault : FileFault) (total : Passed) → i < count → passed_array_at binary first r ≡ Err fault
    → passed_arrays_at binary first (count - i) r ≡ total → total ≡ Err fault
unfolding passed_arrays_at
passed-fault binary first count i r fault total lt h so_far =
    let n : count - i ≡ suc (count - (i + 1)) = omega arith in
    let one : passed_arrays_at binary first (count - i) r ≡ Err fault = rw (n, h) refl in
    sym so_far ∙ one

pub passed-done : (binary first : Bool) (count i : ℕ) (r : Reading) (total : Passed) → count ≤ i → passed_arrays_at binary first (count - i) r ≡ total → total ≡ Ok (tt, r)
unfolding passed_arrays_at
passed-done binary first count i r total le so_far =
    let n : count - i ≡ 0 = omega arith in
    let one : passed_arrays_at binary first (count - i) r ≡ Ok (tt, r) = rw n refl in
    sym so_far ∙ one

-- ---- the rule

-- METADATA behind what was read
abbrev behind_values : Option Numbers × Reading → Passed
behind_values x = any_metadata_at x.1

abbrev behind_passed : Unit {0} × Reading → Passed
behind_passed x = any_metadata_at x.1

words_same : (read : Passed) → ((read >>= λ x. Ok (None, x.1)) >>= behind_values) ≡ (read >>= behind_passed)
words_same (Ok x) = refl
words_same (Err f) = refl

bytes_same : (stored : Stored) (tuples components : ℕ) (read : Result (List ℕ × Reading) FileFault)
    → ((read >>= λ bytes. Ok (block_numbers false stored tuples components bytes.0, bytes.1)) >>= behind_values) ≡ ((read >>= λ bytes. Ok (tt, bytes.1)) >>= behind_passed)
bytes_same stored tuples components (Ok x) = refl
bytes_same stored tuples components (Err f) = refl

values_same : (binary : Bool) (stored : Stored) (tuples components : ℕ) (r : Reading)
    → (values_passed_at binary stored tuples components r >>= behind_passed) ≡ (values_at binary false stored tuples components r >>= behind_values)
unfolding values_passed_at line_passed_at values_at text_values_at block_values_at
values_same true stored tuples components r = sym (bytes_same stored tuples components (line_bytes_at (tuples * components * bytes_of stored) r))
values_same false stored tuples components r = sym (words_same (words_at (tuples * components) r))

decides-passed : (binary : Bool) (stored : Stored) (tuples components : ℕ) → Decides (follow (values binary false stored tuples components) (λ none. metadata)) (λ r. values_passed_at binary stored tuples components r >>= behind_passed)
decides-passed binary stored tuples components =
    decides-same (follow (values binary false stored tuples components) (λ none. metadata)) (λ r. values_at binary false stored tuples components r >>= behind_values) (λ r. values_passed_at binary stored tuples components r >>= behind_passed) (values_same binary stored tuples components)
    (decides-follow (values binary false stored tuples components) (λ none. metadata) (values_at binary false stored tuples components) (λ none. any_metadata_at) (decides-values binary false stored tuples components) (λ none. decides-metadata))

decides-passed_values : (binary : Bool) → Decides (passed_values binary) (passed_values_at binary)
unfolding passed_values_at
decides-passed_values binary =
    decides-follow (count_from 1) _ (count_from_at 1) _ (decides-count_from 1) (λ c.
    decides-follow (count_from 0) _ (count_from_at 0) _ (decides-count_from 0) (λ t.
    decides-follow (type_word false) _ (type_at false) _ (decides-type_word false) (λ stored. decides-passed binary stored t c)))

decides-passed_array : (binary first : Bool) → Decides (passed_array binary first) (passed_array_at binary first)
unfolding passed_array_at
decides-passed_array binary first =
    decides-follow word _ due_word _ decides-word (λ name.
    decides-demand (first || not (same_word name.1 (codes "METADATA"))) Keyword name.0 _ _ (decides-passed_values binary))

-- behind all of them
abbrev over : List (Unit {0}) × Reading → Passed
over xs = Ok (tt, xs.1)

is_start-more : (before : List (Unit {0})) (x : Unit {0}) → is_start (before ++ x ∷ []) ≡ false
is_start-more [] x = refl
is_start-more (y ∷ ys) x = refl

arrays_step : (binary : Bool) (n : ℕ) (before : List (Unit {0})) (read : Passed)
    → ((before : List (Unit {0})) (r : Reading) → passed_arrays_at binary (is_start before) n r ≡ (known_at (λ b. passed_array_at binary (is_start b)) n before r >>= over))
    → (read >>= λ x. passed_arrays_at binary false n x.1) ≡ ((read >>= λ x. known_at (λ b. passed_array_at binary (is_start b)) n (before ++ x.0 ∷ []) x.1) >>= over)
arrays_step binary n before (Ok x) later = rw (← is_start-more before x.0) (later (before ++ x.0 ∷ []) x.1)
arrays_step binary n before (Err f) later = refl

arrays-known : (binary : Bool) (n : ℕ) (before : List (Unit {0})) (r : Reading) → passed_arrays_at binary (is_start before) n r ≡ (known_at (λ b. passed_array_at binary (is_start b)) n before r >>= over)
unfolding passed_arrays_at
arrays-known binary zero before r = refl
arrays-known binary (suc n) before r = arrays_step binary n before (passed_array_at binary (is_start before) r) (arrays-known binary n)

decides-passed_arrays : (binary : Bool) (n : ℕ) → Decides (follow (times_knowing n (λ before. passed_array binary (is_start before))) (λ arrays. gives tt)) (passed_arrays_at binary true n)
decides-passed_arrays binary n =
    decides-same (follow (times_knowing n (λ before. passed_array binary (is_start before))) (λ arrays. gives tt)) (λ r. known_at (λ b. passed_array_at binary (is_start b)) n [] r >>= over) (passed_arrays_at binary true n) (arrays-known binary n [])
    (decides-follow (times_knowing n (λ before. passed_array binary (is_start before))) (λ arrays. gives tt) (known_at (λ b. passed_array_at binary (is_start b)) n []) (λ arrays r. Ok (tt, r))
    (decides-times_knowing (λ before. passed_array binary (is_start before)) (λ b. passed_array_at binary (is_start b)) (λ before. decides-passed_array binary (is_start before)) n) (λ arrays. decides-gives tt))

-- a FIELD that is passed over
pub decides-passed_field : (binary : Bool) → Decides (passed_field binary) (passed_field_at binary)
unfolding passed_field_at
decides-passed_field binary =
    decides-follow word _ due_word _ decides-word (λ name.
    decides-follow (count_from 0) _ (count_from_at 0) _ (decides-count_from 0) (λ k. decides-passed_arrays binary k))
