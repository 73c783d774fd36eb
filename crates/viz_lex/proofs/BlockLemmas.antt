-- Blocks of bytes: what `block_at` finds is the next bytes by their number.
use Rattle.std.proofs.Common.{◌≡◌, ◌↔◌, ℕ, ◌+◌, ◌-◌, ◌<◌, ◌≤◌, leb, List, ◌++◌, length, take, drop, Ok, Err, refl, sym, ap, subst, ◌∙◌, inl, inr, arith}
use Rattle.std.proofs.lemmas.Bool.{cases_Bool, leb-true, leb-false, le-leb, lt-leb}
use Rattle.std.proofs.lemmas.List.{take-append-drop, take_at, drop_at, drop-drop, length-take, length-append}
use Rattle.viz_lex.specs.declared.fault.FileKind.TheVariants.{Truncated}
use Rattle.viz_lex.specs.declared.span.Span.{Span}
use Rattle.viz_lex.specs.Reading.{Reading, rest_of, advanced, fault_at}
use Rattle.viz_lex.specs.Words.{span_from, text_of}
use Rattle.viz_lex.specs.Blocks.{block_at, IsBlockAt}
use Rattle.viz_lex.proofs.ReadingLemmas.{done, failed, done_is}

block_at-some : (count : ℕ) (r : Reading) → count ≤ length (rest_of r) → block_at count r ≡ Ok (span_from r.place count, advanced r count)
unfolding block_at
block_at-some count r h = rw (le-leb count (length (rest_of r)) h) refl

block_at-none : (count : ℕ) (r : Reading) → length (rest_of r) < count → block_at count r ≡ Err (fault_at Truncated (length r.bytes))
unfolding block_at
block_at-none count r h = rw (lt-leb count (length (rest_of r)) h) refl

-- the bytes of the span, and what is left
text_of-from : (count : ℕ) (r : Reading) → text_of r (span_from r.place count) ≡ take count (rest_of r)
text_of-from count r =
    let same : r.place + count - r.place ≡ count = omega arith in
    ap (λ n. take n (rest_of r)) same

rest_of-from : (count : ℕ) (r : Reading) → rest_of (advanced r count) ≡ drop count (rest_of r)
rest_of-from count r = sym (drop-drop count r.place r.bytes)

pub block_at-found : (r : Reading) (block behind : List ℕ) → rest_of r ≡ block ++ behind → block_at (length block) r ≡ Ok (span_from r.place (length block), advanced r (length block))
block_at-found r block behind parts =
    block_at-some (length block) r (omega (arith, ap length parts, length-append block behind))

pub text_of-block : (r : Reading) (block behind : List ℕ) → rest_of r ≡ block ++ behind → text_of r (span_from r.place (length block)) ≡ block
text_of-block r block behind parts =
    text_of-from (length block) r ∙ ap (take (length block)) parts ∙ take_at block behind (length block) refl

pub rest_of-block : (r : Reading) (block behind : List ℕ) → rest_of r ≡ block ++ behind → rest_of (advanced r (length block)) ≡ behind
rest_of-block r block behind parts =
    rest_of-from (length block) r ∙ ap (drop (length block)) parts ∙ drop_at block behind (length block) refl

IsBlockAt-from : (count : ℕ) (r : Reading) → count ≤ length (rest_of r) → IsBlockAt count r (advanced r count) (span_from r.place count)
IsBlockAt-from count r h = record {
  starts = refl;
  long = ap length (text_of-from count r) ∙ omega (arith, length-take count (rest_of r));
  parts = sym (take-append-drop count (rest_of r)) ∙ ap (λ t. t ++ drop count (rest_of r)) (sym (text_of-from count r)) ∙ ap (λ t. text_of r (span_from r.place count) ++ t) (sym (rest_of-from count r));
}

pub block_at-Ok : (count : ℕ) (r next : Reading) (span : Span) → block_at count r ≡ Ok (span, next) → IsBlockAt count r next span
block_at-Ok count r next span e =
    elim (cases_Bool (leb count (length (rest_of r)))) [
      | inl enough ↦
          let within = leb-true count (length (rest_of r)) enough in
          let same = done_is _ _ (sym (block_at-some count r within) ∙ e) in
          let P : Span × Reading → Type 0 = λ p. IsBlockAt count r p.1 p.0 in
          subst P same (IsBlockAt-from count r within)
      | inr fewer ↦
          absurd (let none : failed (fault_at Truncated (length r.bytes)) ≡ Ok (span, next) = sym (block_at-none count r (leb-false count (length (rest_of r)) fewer)) ∙ e in cc)
    ]

pub block_at-Truncated : (count : ℕ) (r : Reading) → (block_at count r ≡ Err (fault_at Truncated (length r.bytes))) ↔ (length (rest_of r) < count)
block_at-Truncated count r = (
  λ e. elim (cases_Bool (leb count (length (rest_of r)))) [
    | inl enough ↦
        absurd (let some : done (span_from r.place count, advanced r count) ≡ Err (fault_at Truncated (length r.bytes)) = sym (block_at-some count r (leb-true count (length (rest_of r)) enough)) ∙ e in cc)
    | inr fewer ↦ leb-false count (length (rest_of r)) fewer
  ],
  block_at-none count r,
)
