-- Rules that are made of rules are decided by readers that are made of their readers.
use Rattle.std.proofs.Common.{◌≡◌, ℕ, zero, suc, ◌≤◌, length, arith, Bool, true, false, List, [], ◌∷◌, Result, Ok, Err, refl, sym, ap, subst, ◌∙◌, inl, inr}
use Rattle.std.specs.Prelude.{if◌then◌else◌}
use Rattle.std.proofs.lemmas.Bool.{cases_Bool, cond-true, cond-false, true≢false}
use Rattle.viz_lex.specs.declared.fault.FileFault.{FileFault}
use Rattle.viz_lex.specs.declared.fault.FileKind.{FileKind}
use Rattle.viz_lex.specs.Reading.{Reading, fault_at, ◌>>=◌}
use Rattle.viz_lex.proofs.ReadingLemmas.{done, failed, done_is, fault_is, bind_ok, bind_err}
use Rattle.viz_lex.specs.Steps.{guard}
use Rattle.viz_lex.specs.Readers.{times_at}
use Rattle.viz_lex.specs.Rules.{Rule, IsAlong, gives, demand, refuses, follow, choose, beside, Decides}
use Rattle.viz_lex.specs.Repeats.{AreTimes, ArentTimes, times}

along-here : (r : Reading) → IsAlong r r
along-here r = record { same = refl; further = omega arith; within = λ h. h }

pub along-both : (a b c : Reading) → IsAlong a b → IsAlong b c → IsAlong a c
along-both a b c x y =
    let same : length b.bytes ≡ length a.bytes = ap length x.same in
    record { same = y.same ∙ x.same; further = (let p = x.further in let q = y.further in omega arith); within = λ h. (let p : b.place ≤ length b.bytes = (let w = x.within h in omega arith) in let q = y.within p in omega arith) }

pub along-to : (old new : Reading) → new ≡ old → IsAlong old new
along-to old new e = subst (IsAlong old) (sym e) (along-here old)

-- nothing
pub decides-gives : {V : Type 0} (v : V) → Decides (gives v) (λ r. Ok (v, r))
decides-gives {V = V} v = record {
  found = λ r x e. let is : (v, r) ≡ x = done_is (v, r) x e in (sym (ap (λ (p : V × Reading). p.1) is), sym (ap (λ (p : V × Reading). p.0) is));
  only = λ r next x h. rw (h.0, h.1) refl;
  stops = λ r f e. absurd (let no : done (v, r) ≡ Err f = e in cc);
  only_stops = λ r f h. absurd h;
  along = λ r next x h. along-to r next h.0;
}

-- a fault in any case
pub decides-refuses : {V : Type 0} (fault : FileFault) → Decides {V = V} (refuses fault) (λ r. Err fault)
decides-refuses {V = V} fault = record {
  found = λ r x e. absurd (let no : failed {A = V × Reading} fault ≡ Ok x = e in cc);
  only = λ r next x h. absurd h;
  stops = λ r f e. sym (fault_is {A = V × Reading} fault f e);
  only_stops = λ r f h. rw h refl;
  along = λ r next x h. absurd h;
}

-- one behind the other
pub decides-follow : {A B : Type 0} (a : Rule A) (f : A → Rule B) (read : Reading → Result (A × Reading) FileFault) (later : A → Reading → Result (B × Reading) FileFault)
    → Decides a read → ((x : A) → Decides (f x) (later x)) → Decides (follow a f) (λ r. read r >>= λ x. later x.0 x.1)
decides-follow {A = A} {B = B} a f read later da df = record {
  found = λ r y e.
      let one = bind_ok (read r) (λ x. later x.0 x.1) y e in
      (one.0.0, one.0.1, da.found r one.0 one.1, (df one.0.0).found one.0.1 y one.2);
  only = λ r next y h.
      let first = da.only r h.1 h.0 h.2 in
      let second = (df h.0).only h.1 next y h.3 in
      rw (first, second) refl;
  stops = λ r d e.
      elim (bind_err (read r) (λ x. later x.0 x.1) d e) [
        | inl first ↦ inl (da.stops r d first)
        | inr one ↦ inr (one.0.0, one.0.1, da.found r one.0 one.1, (df one.0.0).stops one.0.1 d one.2)
      ];
  only_stops = λ r d h.
      elim h [
        | inl first ↦ (let e = da.only_stops r d first in rw e refl)
        | inr one ↦ (
            let first = da.only r one.1 one.0 one.2 in
            let second = (df one.0).only_stops one.1 d one.3 in
            rw (first, second) refl)
      ];
  along = λ r next y h. along-both r h.1 next (da.along r h.1 h.0 h.2) ((df h.0).along h.1 next y h.3);
}

-- a test, and then the rule
pub decides-demand : {V : Type 0} (test : Bool) (kind : FileKind) (place : ℕ) (next : Rule V) (read : Reading → Result (V × Reading) FileFault)
    → Decides next read → Decides (demand test (fault_at kind place) next) (λ r. guard test kind place >>= λ _. read r)
decides-demand {V = V} true kind place next read d = record {
  found = λ r x e. (refl, d.found r x e);
  only = λ r after x h. d.only r after x h.1;
  stops = λ r f e. inr (refl, d.stops r f e);
  only_stops = λ r f h.
      elim h [
        | inl hit ↦ absurd (true≢false hit.0)
        | inr later ↦ d.only_stops r f later.1
      ];
  along = λ r after x h. d.along r after x h.1;
}
decides-demand {V = V} false kind place next read d = record {
  found = λ r x e. absurd (let no : failed {A = V × Reading} (fault_at kind place) ≡ Ok x = e in cc);
  only = λ r after x h. absurd (true≢false (sym h.0));
  stops = λ r f e. inl (refl, sym (fault_is {A = V × Reading} (fault_at kind place) f e));
  only_stops = λ r f h.
      elim h [
        | inl hit ↦ (let e : f ≡ fault_at kind place = hit.1 in rw e refl)
        | inr later ↦ absurd (true≢false (sym later.0))
      ];
  along = λ r after x h. absurd (true≢false (sym h.0));
}

-- ---- so many, one behind the other

times-found : {V : Type 0} (rule : Rule V) (read : Reading → Result (V × Reading) FileFault) → Decides rule read → (n : ℕ) (r : Reading) (x : List V × Reading) → times_at read n r ≡ Ok x → AreTimes rule r x.1 x.0 n
times-found {V = V} rule read d zero r x e = subst (λ (y : List V × Reading). AreTimes rule r y.1 y.0 zero) (done_is ([], r) x e) refl
times-found {V = V} rule read d (suc n) r x e =
    let first = bind_ok (read r) (λ x. times_at read n x.1 >>= λ xs. Ok (x.0 ∷ xs.0, xs.1)) x e in
    let others = bind_ok (times_at read n first.0.1) (λ xs. Ok (first.0.0 ∷ xs.0, xs.1)) x first.2 in
    let later = times-found rule read d n first.0.1 others.0 others.1 in
    subst (λ (y : List V × Reading). AreTimes rule r y.1 y.0 (suc n)) (done_is (first.0.0 ∷ others.0.0, others.0.1) x others.2) (first.0.1, d.found r first.0 first.1, later)

times-only : {V : Type 0} (rule : Rule V) (read : Reading → Result (V × Reading) FileFault) → Decides rule read → (n : ℕ) (r next : Reading) (xs : List V) → AreTimes rule r next xs n → times_at read n r ≡ Ok (xs, next)
times-only rule read d zero r next [] h = rw h refl
times-only rule read d zero r next (x ∷ xs) h = absurd h
times-only rule read d (suc n) r next [] h = absurd h
times-only rule read d (suc n) r next (x ∷ xs) h =
    let first = d.only r h.0 x h.1 in
    let later = times-only rule read d n h.0 next xs h.2 in
    rw (first, later) refl

times-stops : {V : Type 0} (rule : Rule V) (read : Reading → Result (V × Reading) FileFault) → Decides rule read → (n : ℕ) (r : Reading) (f : FileFault) → times_at read n r ≡ Err f → ArentTimes rule r f n
times-stops {V = V} rule read d zero r f e = absurd (let none : done ([], r) ≡ Err f = e in cc)
times-stops {V = V} rule read d (suc n) r f e =
    elim (bind_err (read r) (λ x. times_at read n x.1 >>= λ xs. Ok (x.0 ∷ xs.0, xs.1)) f e) [
      | inl first ↦ inl (d.stops r f first)
      | inr one ↦
          inr (
            one.0.0,
            one.0.1,
            d.found r one.0 one.1,
            elim (bind_err (times_at read n one.0.1) (λ xs. Ok (one.0.0 ∷ xs.0, xs.1)) f one.2) [
              | inl later ↦ times-stops rule read d n one.0.1 f later
              | inr all ↦ absurd (let none : done (one.0.0 ∷ all.0.0, all.0.1) ≡ Err f = all.2 in cc)
            ],
          )
    ]

times-only_stops : {V : Type 0} (rule : Rule V) (read : Reading → Result (V × Reading) FileFault) → Decides rule read → (n : ℕ) (r : Reading) (f : FileFault) → ArentTimes rule r f n → times_at read n r ≡ Err f
times-only_stops rule read d zero r f h = absurd h
times-only_stops rule read d (suc n) r f h =
    elim h [
      | inl first ↦ (let e = d.only_stops r f first in rw e refl)
      | inr one ↦ (
          let first = d.only r one.1 one.0 one.2 in
          let later = times-only_stops rule read d n one.1 f one.3 in
          rw (first, later) refl)
    ]

times-along : {V : Type 0} (rule : Rule V) (read : Reading → Result (V × Reading) FileFault) → Decides rule read → (n : ℕ) (r next : Reading) (xs : List V) → AreTimes rule r next xs n → IsAlong r next
times-along rule read d zero r next [] h = along-to r next h
times-along rule read d zero r next (x ∷ xs) h = absurd h
times-along rule read d (suc n) r next [] h = absurd h
times-along rule read d (suc n) r next (x ∷ xs) h = along-both r h.0 next (d.along r h.0 x h.1) (times-along rule read d n h.0 next xs h.2)

pub decides-times : {V : Type 0} (rule : Rule V) (read : Reading → Result (V × Reading) FileFault) → Decides rule read → (n : ℕ) → Decides (times n rule) (times_at read n)
decides-times rule read d n = record { found = times-found rule read d n; only = times-only rule read d n; stops = times-stops rule read d n; only_stops = times-only_stops rule read d n; along = times-along rule read d n }

-- one rule or another
pub decides-choose : {V : Type 0} (test : Bool) (a b : Rule V) (read_a read_b : Reading → Result (V × Reading) FileFault) → Decides a read_a → Decides b read_b → Decides (choose test a b) (λ r. if test then read_a r else read_b r)
decides-choose true a b read_a read_b da db = record { found = da.found; only = da.only; stops = da.stops; only_stops = da.only_stops; along = da.along }
decides-choose false a b read_a read_b da db = record { found = db.found; only = db.only; stops = db.stops; only_stops = db.only_stops; along = db.along }

-- one rule or the other, by what is left
pub decides-beside : {V : Type 0} (test : Reading → Bool) (a b : Rule V) (read_a read_b : Reading → Result (V × Reading) FileFault) → Decides a read_a → Decides b read_b → Decides (beside test a b) (λ r. if test r then read_a r else read_b r)
decides-beside test a b read_a read_b da db = record {
  found = λ r x e.
      elim (cases_Bool (test r)) [
        | inl t ↦ inl (t, da.found r x (sym (cond-true _ _ _ t) ∙ e))
        | inr f ↦ inr (f, db.found r x (sym (cond-false _ _ _ f) ∙ e))
      ];
  only = λ r next x h.
      elim h [
        | inl t ↦ (let here : test r ≡ true = t.0 in let e = da.only r next x t.1 in rw (here, e) refl)
        | inr f ↦ (let here : test r ≡ false = f.0 in let e = db.only r next x f.1 in rw (here, e) refl)
      ];
  stops = λ r d e.
      elim (cases_Bool (test r)) [
        | inl t ↦ inl (t, da.stops r d (sym (cond-true _ _ _ t) ∙ e))
        | inr f ↦ inr (f, db.stops r d (sym (cond-false _ _ _ f) ∙ e))
      ];
  only_stops = λ r d h.
      elim h [
        | inl t ↦ (let here : test r ≡ true = t.0 in let e = da.only_stops r d t.1 in rw (here, e) refl)
        | inr f ↦ (let here : test r ≡ false = f.0 in let e = db.only_stops r d f.1 in rw (here, e) refl)
      ];
  along = λ r next x h.
      elim h [
        | inl t ↦ da.along r next x t.1
        | inr f ↦ db.along r next x f.1
      ];
}
