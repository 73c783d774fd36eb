-- Readers that are repeated: so many and so many more, and behind others.
use Rattle.std.proofs.Common.{◌≡◌, ℕ, zero, suc, ◌+◌, List, [], ◌∷◌, ◌++◌, length, Result, Ok, Err, refl, sym, ap, ◌∙◌, arith}
use Rattle.std.proofs.lemmas.List.{append-nil}
use Rattle.viz_lex.specs.declared.fault.FileFault.{FileFault}
use Rattle.viz_lex.specs.Reading.{Reading, ◌>>=◌}
use Rattle.viz_lex.specs.Readers.{times_at, known_at}
use Rattle.viz_lex.proofs.ReadingLemmas.{done_is, bind_ok}
use Rattle.viz_counted_cells.proofs.Loops.{with_front, regroup}

-- ---- as many as were asked for

pub times_at-length : {V : Type 0} (read : Reading → Result (V × Reading) FileFault) (n : ℕ) (r : Reading) (x : List V × Reading) → times_at read n r ≡ Ok x → length x.0 ≡ n
times_at-length {V = V} read zero r x e = ap (λ (p : List V × Reading). length p.0) (sym (done_is ([], r) x e))
times_at-length {V = V} read (suc n) r x e =
    let one = bind_ok (read r) _ x e in
    let more = bind_ok (times_at read n one.0.1) _ x one.2 in
    let is : (one.0.0 ∷ more.0.0, more.0.1) ≡ x = done_is (one.0.0 ∷ more.0.0, more.0.1) x more.2 in
    ap (λ (p : List V × Reading). length p.0) (sym is) ∙ ap suc (times_at-length read n one.0.1 more.0 more.1)

-- ---- so many and so many more

-- one in front of what was read
abbrev put_front : {V : Type 0} → V → List V × Reading → Result (List V × Reading) FileFault
put_front a x = Ok (a ∷ x.0, x.1)

-- what was read behind others
abbrev pub put_behind : {V : Type 0} → List V → List V × Reading → Result (List V × Reading) FileFault
put_behind xs y = Ok (xs ++ y.0, y.1)

-- so many more
abbrev pub and_more : {V : Type 0} → (Reading → Result (V × Reading) FileFault) → ℕ → List V × Reading → Result (List V × Reading) FileFault
and_more read n xs = times_at read n xs.1 >>= put_behind xs.0

more_last : {V : Type 0} (a : V) (xs : List V) (o : Result (List V × Reading) FileFault) → ((o >>= put_behind xs) >>= put_front a) ≡ (o >>= put_behind (a ∷ xs))
more_last a xs (Ok y) = refl
more_last a xs (Err f) = refl

more_first : {V : Type 0} (read : Reading → Result (V × Reading) FileFault) (n : ℕ) (a : V) (o : Result (List V × Reading) FileFault)
    → ((o >>= and_more read n) >>= put_front a) ≡ ((o >>= put_front a) >>= and_more read n)
more_first read n a (Ok x) = more_last a x.0 (times_at read n x.1)
more_first read n a (Err f) = refl

-- one, and so many behind it
abbrev one_and : {V : Type 0} → (Reading → Result (V × Reading) FileFault) → ℕ → V × Reading → Result (List V × Reading) FileFault
one_and read n x = times_at read n x.1 >>= put_front x.0

more_step : {V : Type 0} (read : Reading → Result (V × Reading) FileFault) (m n : ℕ) (o : Result (V × Reading) FileFault)
    → ((r : Reading) → times_at read (m + n) r ≡ (times_at read m r >>= and_more read n))
    → (o >>= one_and read (m + n)) ≡ ((o >>= one_and read m) >>= and_more read n)
more_step {V = V} read m n (Ok x) later = ap (λ (o : Result (List V × Reading) FileFault). o >>= put_front x.0) (later x.1) ∙ more_first read n x.0 (times_at read m x.1)
more_step read m n (Err f) later = refl

none_more : {V : Type 0} (o : Result (List V × Reading) FileFault) → o ≡ (o >>= put_behind [])
none_more (Ok x) = refl
none_more (Err f) = refl

pub times_at-add : {V : Type 0} (read : Reading → Result (V × Reading) FileFault) (m n : ℕ) (r : Reading) → times_at read (m + n) r ≡ (times_at read m r >>= and_more read n)
times_at-add {V = V} read zero n r =
    let all : 0 + n ≡ n = omega arith in
    ap (λ (k : ℕ). times_at read k r) all ∙ none_more (times_at read n r)
times_at-add {V = V} read (suc m) n r =
    let all : suc m + n ≡ suc (m + n) = omega arith in
    ap (λ (k : ℕ). times_at read k r) all ∙ more_step read m n (read r) (times_at-add read m n)

-- ---- behind others

known_step : {V : Type 0} (read : Reading → Result (V × Reading) FileFault) (n : ℕ) (front : List V) (o : Result (V × Reading) FileFault)
    → ((front : List V) (r : Reading) → known_at (λ before. read) n front r ≡ with_front front (times_at read n r))
    → (o >>= λ x. known_at (λ before. read) n (front ++ x.0 ∷ []) x.1) ≡ with_front front (o >>= one_and read n)
known_step read n front (Ok x) later = later (front ++ x.0 ∷ []) x.1 ∙ sym (regroup front x.0 (times_at read n x.1))
known_step read n front (Err f) later = refl

pub known_at-times : {V : Type 0} (read : Reading → Result (V × Reading) FileFault) (n : ℕ) (front : List V) (r : Reading) → known_at (λ before. read) n front r ≡ with_front front (times_at read n r)
known_at-times {V = V} read zero front r = ap (λ (xs : List V). Ok (xs, r)) (sym (append-nil front))
known_at-times read (suc n) front r = known_step read n front (read r) (known_at-times read n)
