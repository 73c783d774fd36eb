-- Counts of more than 64 bits are more than there are bytes.
use Rattle.std.proofs.Common.{◌≡◌, ℕ, zero, suc, ◌+◌, ◌*◌, ◌-◌, ◌^◌, ◌<◌, ◌≤◌, min, List, [], ◌∷◌, ◌++◌, length, length-append, length-drop, Result, Ok, Err, refl, sym, ap, ◌∙◌, inl, inr, arith, true, false}
use Rattle.std.specs.Prelude.{nat_le}
use Rattle.std.proofs.lemmas.Bool.{cases_Bool, leb-true, leb-false}
use Rattle.viz_lex.specs.declared.fault.FileFault.{FileFault}
use Rattle.viz_lex.specs.declared.fault.FileKind.TheVariants.{Truncated}
use Rattle.viz_lex.specs.Reading.{Reading, rest_of, fault_at}
use Rattle.viz_lex.specs.Passing.{words_at, IsNextWords}
use Rattle.viz_lex.specs.Readers.{bytes_at}
use Rattle.viz_lex.specs.Items.{block}
use Rattle.viz_lex.specs.Rules.{Decides}
use Rattle.viz_lex.proofs.PassLemmas.{words_at-Truncated}
use Rattle.viz_lex.proofs.PassRules.{decides-block}

solid_length : (word : List ℕ) → (word ≡ [] → ⊥) → 0 < length word
solid_length [] some = absurd (some refl)
solid_length (b ∷ bs) some = omega arith

-- so many words have so many bytes
IsNextWords-few : (n : ℕ) (text behind : List ℕ) → IsNextWords n text behind → n ≤ length text
IsNextWords-few zero text behind h = omega arith
IsNextWords-few (suc n) text behind h =
    let parts : length text ≡ length h.0 + (length h.1 + length h.2) = ap length h.3.parts ∙ length-append h.0 (h.1 ++ h.2) ∙ ap (λ k. length h.0 + k) (length-append h.1 h.2) in
    let some = solid_length h.1 h.3.is_word.some in
    let more = IsNextWords-few n h.2 behind h.4 in
    omega arith

words_at-many : (n : ℕ) (r : Reading) → length (rest_of r) < n → words_at n r ≡ Err (fault_at Truncated (length r.bytes))
words_at-many n r many = (words_at-Truncated n r).1 (λ behind h. absurd (omega (arith, IsNextWords-few n (rest_of r) behind h)))

-- a count that stops at the greatest of 64 bits passes over the same words
pub words_at-most : (n most : ℕ) (r : Reading) → length r.bytes + 1 ≤ most → words_at (min n most) r ≡ words_at n r
words_at-most n most r few =
    let left : length (rest_of r) ≡ length r.bytes - r.place = length-drop r.place r.bytes in
    elim (cases_Bool (nat_le n most)) [
      | inl test ↦ (let le = leb-true n most test in let e : min n most ≡ n = omega arith in rw e refl)
      | inr test ↦ (
          let lt = leb-false n most test in
          let e : min n most ≡ most = omega arith in
          let many : length (rest_of r) < most = omega arith in
          let more : length (rest_of r) < n = omega arith in
          rw e (words_at-many most r many ∙ sym (words_at-many n r more)))
    ]

bytes_at-many : (n : ℕ) (r : Reading) → length (rest_of r) < n → bytes_at n r ≡ Err (fault_at Truncated (length r.bytes))
bytes_at-many n r many = (decides-block n).only_stops r (fault_at Truncated (length r.bytes)) (many, refl)

-- likewise for a block
pub bytes_at-most : (n most : ℕ) (r : Reading) → length r.bytes + 1 ≤ most → bytes_at (min n most) r ≡ bytes_at n r
bytes_at-most n most r few =
    let left : length (rest_of r) ≡ length r.bytes - r.place = length-drop r.place r.bytes in
    elim (cases_Bool (nat_le n most)) [
      | inl test ↦ (let le = leb-true n most test in let e : min n most ≡ n = omega arith in rw e refl)
      | inr test ↦ (
          let lt = leb-false n most test in
          let e : min n most ≡ most = omega arith in
          let many : length (rest_of r) < most = omega arith in
          let more : length (rest_of r) < n = omega arith in
          rw e (bytes_at-many most r many ∙ sym (bytes_at-many n r more)))
    ]
