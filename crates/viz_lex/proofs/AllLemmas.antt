-- What stands one behind the other up to the end.
use Rattle.std.proofs.Common.{◌≡◌, ℕ, zero, suc, ◌+◌, ◌<◌, true, false, List, [], ◌∷◌, ◌++◌, length, Option, Some, None, Result, Ok, Err, refl, sym, ap, subst, ◌∙◌, inl, inr, append_assoc, arith}
use Rattle.std.proofs.lemmas.Bool.{cases_Bool, cond-true, cond-false, true≢false}
use Rattle.std.proofs.lemmas.List.{append-nil, drop_all}
use Rattle.std.proofs.lemmas.List.Elements.{All-nil}
use Rattle.viz_lex.specs.declared.fault.FileFault.{FileFault}
use Rattle.viz_lex.specs.Reading.{Reading, rest_of}
use Rattle.viz_lex.specs.Words.{is_blank, IsBlank, word_at}
use Rattle.viz_lex.specs.Steps.{has}
use Rattle.viz_lex.specs.Readers.{all_at}
use Rattle.viz_lex.specs.Rules.{Rule, IsAlong, IsOnward, Decides}
use Rattle.viz_lex.specs.Repeats.{AreSome, ArentSome, to_the_end, Moves}
use Rattle.viz_lex.proofs.ReadingLemmas.{done, done_is, bind_ok, bind_err}
use Rattle.viz_lex.proofs.WordLemmas.{word_at-None, word_at-blank}
use Rattle.viz_lex.proofs.RuleLemmas.{along-to, along-both}

has-false : {A : Type 0} (o : Option A) → has o ≡ false → o ≡ None
has-false None e = refl
has-false (Some x) e = absurd (true≢false e)

blank-has : (r : Reading) → IsBlank (rest_of r) → has (word_at r) ≡ false
blank-has r h = rw (word_at-blank r h) refl

has-blank : (r : Reading) → has (word_at r) ≡ false → IsBlank (rest_of r)
has-blank r e = word_at-None r (has-false (word_at r) e)

solid-has : (r : Reading) → (¬ IsBlank (rest_of r)) → has (word_at r) ≡ true
solid-has r solid =
    elim (cases_Bool (has (word_at r))) [
      | inl word ↦ word
      | inr none ↦ absurd (solid (has-blank r none))
    ]

has-solid : (r : Reading) → has (word_at r) ≡ true → ¬ IsBlank (rest_of r)
has-solid r e blank = true≢false (sym e ∙ blank-has r blank)

-- enough steps for the bytes that are left
abbrev Enough : ℕ → Reading → Type 0
Enough n r = length r.bytes < n + r.place

enough_later : (n : ℕ) (r mid : Reading) → Enough (suc n) r → IsOnward r mid → Enough n mid
enough_later n r mid h on =
    let same : length mid.bytes ≡ length r.bytes = ap length on.same in
    let b = on.further in
    omega arith

past_end : (r : Reading) → length r.bytes < r.place → IsBlank (rest_of r)
past_end r h = subst IsBlank (sym (drop_all r.place r.bytes (omega arith))) (record { each = All-nil (λ b. is_blank b ≡ true) })

pub record Found {V : Type 0} (rule : List V → Rule V) (before : List V) (r : Reading) (y : List V × Reading) : Type 0 where
  pub later : List V
  pub all : y.0 ≡ before ++ later
  pub are : AreSome rule before r y.1 later
  pub blank : IsBlank (rest_of y.1)

all-found : {V : Type 0} (rule : List V → Rule V) (read : List V → Reading → Result (V × Reading) FileFault) → Moves rule read → (n : ℕ) (before : List V) (r : Reading) (y : List V × Reading) → Enough n r → all_at read n before r ≡ Ok y → Found rule before r y
unfolding all_at
all-found {V = V} rule read m zero before r y enough e =
    let same : (before, r) ≡ y = done_is (before, r) y e in
    let here : Found rule before r (before, r) = record { later = []; all = sym (append-nil before); are = refl; blank = past_end r (omega (arith, enough)) } in
    subst (Found rule before r) same here
all-found {V = V} rule read m (suc n) before r y enough e =
    elim (cases_Bool (has (word_at r))) [
      | inl word ↦
          let one = bind_ok (read before r) (λ x. all_at read n (before ++ x.0 ∷ []) x.1) y (sym (cond-true _ _ _ word) ∙ e) in
          let is = (m.decides before).found r one.0 one.1 in
          let on = m.onward before r one.0.1 one.0.0 is in
          let more = all-found rule read m n (before ++ one.0.0 ∷ []) one.0.1 y (enough_later n r one.0.1 enough on) one.2 in
          record { later = one.0.0 ∷ more.later; all = more.all ∙ append_assoc before (one.0.0 ∷ []) more.later; are = (one.0.1, has-solid r word, is, more.are); blank = more.blank }
      | inr none ↦
          let same : (before, r) ≡ y = done_is (before, r) y (sym (cond-false _ _ _ none) ∙ e) in
          let here : Found rule before r (before, r) = record { later = []; all = sym (append-nil before); are = refl; blank = has-blank r none } in
          subst (Found rule before r) same here
    ]

all-only : {V : Type 0} (rule : List V → Rule V) (read : List V → Reading → Result (V × Reading) FileFault) → Moves rule read → (n : ℕ) (before : List V) (r next : Reading) (xs : List V) → Enough n r → AreSome rule before r next xs → IsBlank (rest_of next) → all_at read n before r ≡ Ok (before ++ xs, next)
unfolding all_at
all-only rule read m zero before r next [] enough h blank = rw (h, append-nil before) refl
all-only rule read m zero before r next (x ∷ xs) enough h blank = absurd (let on = m.onward before r h.0 x h.2 in let a = on.further in let b = on.within in omega arith)
all-only rule read m (suc n) before r next [] enough h blank =
    let here : has (word_at r) ≡ false = blank-has r (subst (λ (s : Reading). IsBlank (rest_of s)) h blank) in
    rw (here, h, append-nil before) refl
all-only rule read m (suc n) before r next (x ∷ xs) enough h blank =
    let word = solid-has r h.1 in
    let on = m.onward before r h.0 x h.2 in
    let first = (m.decides before).only r h.0 x h.2 in
    let more = all-only rule read m n (before ++ x ∷ []) h.0 next xs (enough_later n r h.0 enough on) h.3 blank in
    rw (word, first, more, append_assoc) refl

all-stops : {V : Type 0} (rule : List V → Rule V) (read : List V → Reading → Result (V × Reading) FileFault) → Moves rule read → (n : ℕ) (before : List V) (r : Reading) (f : FileFault) → Enough n r → all_at read n before r ≡ Err f → ArentSome rule before r f
unfolding all_at
all-stops rule read m zero before r f enough e = absurd (let no : done (before, r) ≡ Err f = e in cc)
all-stops {V = V} rule read m (suc n) before r f enough e =
    elim (cases_Bool (has (word_at r))) [
      | inl word ↦
          elim (bind_err (read before r) (λ x. all_at read n (before ++ x.0 ∷ []) x.1) f (sym (cond-true _ _ _ word) ∙ e)) [
            | inl first ↦
                let here : (rule (before ++ [])).isnt r f = rw (append-nil before) ((m.decides before).stops r f first) in
                ([], r, refl, has-solid r word, here)
            | inr one ↦
                let is = (m.decides before).found r one.0 one.1 in
                let on = m.onward before r one.0.1 one.0.0 is in
                let more = all-stops rule read m n (before ++ one.0.0 ∷ []) one.0.1 f (enough_later n r one.0.1 enough on) one.2 in
                let there : (rule (before ++ (one.0.0 ∷ more.0))).isnt more.1 f = subst (λ (ys : List V). (rule ys).isnt more.1 f) (append_assoc before (one.0.0 ∷ []) more.0) more.4 in
                (one.0.0 ∷ more.0, more.1, (one.0.1, has-solid r word, is, more.2), more.3, there)
          ]
      | inr none ↦ absurd (let no : done (before, r) ≡ Err f = sym (cond-false _ _ _ none) ∙ e in cc)
    ]

all-only_stops : {V : Type 0} (rule : List V → Rule V) (read : List V → Reading → Result (V × Reading) FileFault) → Moves rule read → (n : ℕ) (before : List V) (r mid : Reading) (f : FileFault) (xs : List V) → Enough n r → AreSome rule before r mid xs → (¬ IsBlank (rest_of mid)) → (rule (before ++ xs)).isnt mid f → all_at read n before r ≡ Err f
unfolding all_at
all-only_stops rule read m zero before r mid f [] enough h solid isnt = absurd (solid (subst (λ (s : Reading). IsBlank (rest_of s)) (sym h) (past_end r (omega (arith, enough)))))
all-only_stops rule read m zero before r mid f (x ∷ xs) enough h solid isnt = absurd (let on = m.onward before r h.0 x h.2 in let a = on.further in let b = on.within in omega arith)
all-only_stops {V = V} rule read m (suc n) before r mid f [] enough h solid isnt =
    let word : has (word_at r) ≡ true = solid-has r (subst (λ (s : Reading). ¬ IsBlank (rest_of s)) h solid) in
    let here : (rule before).isnt r f = subst (λ (s : Reading). (rule before).isnt s f) h (subst (λ (ys : List V). (rule ys).isnt mid f) (append-nil before) isnt) in
    let e = (m.decides before).only_stops r f here in
    rw (word, e) refl
all-only_stops {V = V} rule read m (suc n) before r mid f (x ∷ xs) enough h solid isnt =
    let word = solid-has r h.1 in
    let on = m.onward before r h.0 x h.2 in
    let first = (m.decides before).only r h.0 x h.2 in
    let there : (rule ((before ++ x ∷ []) ++ xs)).isnt mid f = subst (λ (ys : List V). (rule ys).isnt mid f) (sym (append_assoc before (x ∷ []) xs)) isnt in
    let more = all-only_stops rule read m n (before ++ x ∷ []) h.0 mid f xs (enough_later n r h.0 enough on) h.3 solid there in
    rw (word, first, more) refl

some-along : {V : Type 0} (rule : List V → Rule V) (read : List V → Reading → Result (V × Reading) FileFault) → Moves rule read → (before : List V) (r next : Reading) (xs : List V) → AreSome rule before r next xs → IsAlong r next
some-along rule read m before r next [] h = along-to r next h
some-along rule read m before r next (x ∷ xs) h = along-both r h.0 next ((m.decides before).along r h.0 x h.2) (some-along rule read m (before ++ x ∷ []) h.0 next xs h.3)

-- parts up to the end are decided
pub decides-to_the_end : {V : Type 0} (rule : List V → Rule V) (read : List V → Reading → Result (V × Reading) FileFault) → Moves rule read → Decides (to_the_end rule) (λ r. all_at read (suc (length r.bytes)) [] r)
decides-to_the_end {V = V} rule read m = record {
  found = λ r x e.
      let f = all-found rule read m (suc (length r.bytes)) [] r x (omega arith) e in
      (subst (AreSome rule [] r x.1) (sym f.all) f.are, f.blank);
  only = λ r next xs h. all-only rule read m (suc (length r.bytes)) [] r next xs (omega arith) h.0 h.1;
  stops = λ r f e. all-stops rule read m (suc (length r.bytes)) [] r f (omega arith) e;
  only_stops = λ r f h. all-only_stops rule read m (suc (length r.bytes)) [] r h.1 f h.0 (omega arith) h.2 h.3 h.4;
  along = λ r next xs h. some-along rule read m [] r next xs h.0;
}
