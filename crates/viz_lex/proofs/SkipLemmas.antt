-- As many as there are where a test holds.
use Rattle.std.proofs.Common.{◌≡◌, ◌⊎◌, ℕ, zero, suc, ◌+◌, ◌<◌, ◌≤◌, Bool, true, false, length, Result, Ok, Err, refl, sym, ap, subst, ◌∙◌, inl, inr, arith}
use Rattle.std.specs.Prelude.{if◌then◌else◌}
use Rattle.std.proofs.lemmas.Bool.{cases_Bool, true≢false}
use Rattle.viz_lex.specs.declared.fault.FileFault.{FileFault}
use Rattle.viz_lex.specs.Reading.{Reading, ◌>>=◌}
use Rattle.viz_lex.specs.Rules.{Rule, IsAlong, IsOnward, Decides}
use Rattle.viz_lex.specs.Repeats.{AreSkipped, skip, Skips}
use Rattle.viz_lex.specs.Readers.{skip_at}
use Rattle.viz_lex.proofs.RuleLemmas.{along-to, along-both}
use Rattle.viz_lex.proofs.PassRules.{decides-total}
use Rattle.std.proofs.Common.{List}
use Rattle.std.proofs.lemmas.List.{drop_all}
use Rattle.std.proofs.lemmas.List.Elements.{All-nil}
use Rattle.viz_lex.specs.Reading.{rest_of}
use Rattle.viz_lex.specs.Words.{is_blank, IsBlank}
use Rattle.viz_lex.specs.Steps.{is_next}
use Rattle.viz_lex.proofs.WordLemmas.{word_at-blank}

-- enough steps for the bytes that are left
abbrev Enough : ℕ → Reading → Type 0
Enough n r = length r.bytes < n + r.place

enough_later : (n : ℕ) (r mid : Reading) → Enough (suc n) r → IsOnward r mid → Enough n mid
enough_later n r mid h on =
    let same : length mid.bytes ≡ length r.bytes = ap length on.same in
    let b = on.further in
    omega arith

skip_only : {V : Type 0} (test : Reading → Bool) (rule : Rule V) (read : Reading → Result (V × Reading) FileFault) → Skips test rule read
    → (steps n : ℕ) (r next : Reading) → Enough steps r → AreSkipped test rule r next n → test next ≡ false → skip_at test read steps r ≡ Ok (tt, next)
unfolding skip_at
skip_only test rule read s zero zero r next enough h none = rw h refl
skip_only test rule read s zero (suc n) r next enough h none = absurd (true≢false (sym h.2 ∙ s.ends r (omega (arith, enough))))
skip_only test rule read s (suc steps) zero r next enough h none =
    let here : test r ≡ false = subst (λ (x : Reading). test x ≡ false) h none in
    rw (here, h) refl
skip_only test rule read s (suc steps) (suc n) r next enough h none =
    let first = s.decides.only r h.1 h.0 h.3 in
    let on = s.onward r h.1 h.0 h.3 in
    let more = skip_only test rule read s steps n h.1 next (enough_later steps r h.1 enough on) h.4 none in
    let here : test r ≡ true = h.2 in
    rw (here, first) more

skip_only_stops : {V : Type 0} (test : Reading → Bool) (rule : Rule V) (read : Reading → Result (V × Reading) FileFault) → Skips test rule read
    → (steps n : ℕ) (r mid : Reading) (f : FileFault) → Enough steps r → AreSkipped test rule r mid n → test mid ≡ true → rule.isnt mid f → skip_at test read steps r ≡ Err f
unfolding skip_at
skip_only_stops test rule read s zero zero r mid f enough h some isnt =
    absurd (true≢false (sym (subst (λ (x : Reading). test x ≡ true) h some) ∙ s.ends r (omega (arith, enough))))
skip_only_stops test rule read s zero (suc n) r mid f enough h some isnt = absurd (true≢false (sym h.2 ∙ s.ends r (omega (arith, enough))))
skip_only_stops test rule read s (suc steps) zero r mid f enough h some isnt =
    let here : test r ≡ true = subst (λ (x : Reading). test x ≡ true) h some in
    let stop = s.decides.only_stops r f (subst (λ (x : Reading). rule.isnt x f) h isnt) in
    rw (here, stop) refl
skip_only_stops test rule read s (suc steps) (suc n) r mid f enough h some isnt =
    let first = s.decides.only r h.1 h.0 h.3 in
    let on = s.onward r h.1 h.0 h.3 in
    let more = skip_only_stops test rule read s steps n h.1 mid f (enough_later steps r h.1 enough on) h.4 some isnt in
    let here : test r ≡ true = h.2 in
    rw (here, first) more

skipped-along : {V : Type 0} (test : Reading → Bool) (rule : Rule V) (read : Reading → Result (V × Reading) FileFault) → Skips test rule read
    → (n : ℕ) (r next : Reading) → AreSkipped test rule r next n → IsAlong r next
skipped-along test rule read s zero r next h = along-to r next h
skipped-along test rule read s (suc n) r next h = along-both r h.1 next (s.decides.along r h.1 h.0 h.3) (skipped-along test rule read s n h.1 next h.4)

-- some are skipped, or a fault is met behind some
abbrev Either : {V : Type 0} → (Reading → Bool) → Rule V → Reading → Type 0
Either test rule r = ((x : Unit {0}) × (next : Reading) × (skip test rule).is r next x) ⊎ ((f : FileFault) × (skip test rule).isnt r f)

skip_more : {V : Type 0} (test : Reading → Bool) (rule : Rule V) (read : Reading → Result (V × Reading) FileFault) → Skips test rule read
    → (steps : ℕ) (r : Reading) → Enough (suc steps) r → test r ≡ true → ((mid : Reading) → Enough steps mid → Either test rule mid)
    → (o : Result (V × Reading) FileFault) → read r ≡ o → Either test rule r
skip_more test rule read s steps r enough some later (Ok x) e =
    let is = s.decides.found r x e in
    let on = s.onward r x.1 x.0 is in
    elim (later x.1 (enough_later steps r x.1 enough on)) [
      | inl h ↦ inl (tt, h.1, (suc h.2.0, (x.0, x.1, some, is, h.2.1), h.2.2))
      | inr h ↦ inr (h.0, (suc h.1.0, h.1.1, (x.0, x.1, some, is, h.1.2), h.1.3, h.1.4))
    ]
skip_more test rule read s steps r enough some later (Err f) e = inr (f, (zero, r, refl, some, s.decides.stops r f e))

skip_total : {V : Type 0} (test : Reading → Bool) (rule : Rule V) (read : Reading → Result (V × Reading) FileFault) → Skips test rule read
    → (steps : ℕ) (r : Reading) → Enough steps r → Either test rule r
skip_total test rule read s zero r enough = inl (tt, r, (zero, refl, s.ends r (omega (arith, enough))))
skip_total test rule read s (suc steps) r enough =
    elim (cases_Bool (test r)) [
      | inl some ↦ skip_more test rule read s steps r enough some (skip_total test rule read s steps) (read r) refl
      | inr none ↦ inl (tt, r, (zero, refl, none))
    ]

pub decides-skip : {V : Type 0} (test : Reading → Bool) (rule : Rule V) (read : Reading → Result (V × Reading) FileFault) → Skips test rule read
    → Decides (skip test rule) (λ r. skip_at test read (suc (length r.bytes)) r)
decides-skip test rule read s =
    decides-total (skip test rule) (λ r. skip_at test read (suc (length r.bytes)) r)
    (λ r next x h. skip_only test rule read s (suc (length r.bytes)) h.0 r next (omega arith) h.1 h.2)
    (λ r f h. skip_only_stops test rule read s (suc (length r.bytes)) h.0 r h.1 f (omega arith) h.2 h.3 h.4)
    (λ r next x h. skipped-along test rule read s h.0 r next h.1)
    (λ r. skip_total test rule read s (suc (length r.bytes)) r (omega arith))

-- no word stands behind the end
pub is_next-ends : (keyword : List ℕ) (r : Reading) → length r.bytes < r.place → is_next keyword r ≡ false
is_next-ends keyword r past =
    let blank : IsBlank (rest_of r) = subst IsBlank (sym (drop_all r.place r.bytes (omega arith))) (record { each = All-nil (λ b. is_blank b ≡ true) }) in
    rw (word_at-blank r blank) refl
