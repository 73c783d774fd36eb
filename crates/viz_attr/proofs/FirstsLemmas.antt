-- The first number of each tuple.
use Rattle.std.proofs.Common.{◌≡◌, ℕ, ℤ, pos, zero, suc, ◌+◌, ◌*◌, ◌-◌, ◌<◌, ◌≤◌, List, [], ◌∷◌, ◌++◌, length, take, drop, get_or, map, refl, sym, ap, ◌∙◌, arith}
use Rattle.std.proofs.lemmas.List.{get_or-drop}
use Rattle.std.proofs.Common.{◌/◌, Bor, Result, Ok, Err, IfOk, min}
use Rattle.viz_column.specs.declared.kind.Kind8.{Kind8}
use Rattle.viz_column.specs.declared.kind.Kind8.TheVariants.{I8, U8, I16, U16, I32, U32, I64, U64}
use Rattle.viz_column.specs.Kinds.{size_of}
use Rattle.viz_column.specs.Bytes.{first_numbers, numbers_in}
use Rattle.viz_lex.specs.declared.fault.FileFault.{FileFault}
use Rattle.viz_attr.specs.Values.{firsts}

-- with one tuple more at the end
pub firsts-more : (c n : ℕ) (xs : List ℤ) → firsts c (n + 1) xs ≡ firsts c n xs ++ get_or xs (n * c) (pos 0) ∷ []
firsts-more c zero xs = let z : 0 * c ≡ 0 = omega arith in rw z refl
firsts-more c (suc n) xs =
    let k : suc n + 1 ≡ suc (n + 1) = omega arith in
    let at : suc n * c ≡ c + n * c = omega arith in
    let rest = firsts-more c n (drop c xs) in
    let here : get_or (drop c xs) (n * c) (pos 0) ≡ get_or xs (c + n * c) (pos 0) = get_or-drop c xs (n * c) (pos 0) in
    rw (k, at) (ap (λ (ys : List ℤ). get_or xs 0 (pos 0) ∷ ys) (rest ∙ ap (λ (x : ℤ). firsts c n (drop c xs) ++ x ∷ []) here))

-- of tuples of one number each, all are first
pub firsts-one : (n : ℕ) (xs : List ℤ) → length xs ≡ n → firsts 1 n xs ≡ xs
firsts-one zero [] e = refl
firsts-one zero (x ∷ xs) e = absurd (omega arith)
firsts-one (suc n) [] e = absurd (omega arith)
firsts-one (suc n) (x ∷ xs) e = ap (λ (ys : List ℤ). x ∷ ys) (firsts-one n xs (omega arith))

length-first_numbers : (n : ℕ) (kind : Kind8) (bytes : List ℕ) → length (first_numbers n kind bytes) ≡ n
length-first_numbers zero kind bytes = refl
length-first_numbers (suc n) kind bytes = ap suc (length-first_numbers n kind (drop (size_of kind) bytes))

quotient : (kind : Kind8) (n x : ℕ) → n ≡ x * size_of kind → n / size_of kind ≡ x
quotient I8 n x e = omega arith
quotient U8 n x e = omega arith
quotient I16 n x e = omega arith
quotient U16 n x e = omega arith
quotient I32 n x e = omega arith
quotient U32 n x e = omega arith
quotient I64 n x e = omega arith
quotient U64 n x e = omega arith

-- a block of so many tuples has so many numbers
pub length-numbers_in : (kind : Kind8) (bytes : List ℕ) (tuples components : ℕ) → length bytes ≡ tuples * (components * size_of kind) → length (numbers_in kind bytes) ≡ tuples * components
length-numbers_in kind bytes tuples components e =
    let all : length bytes ≡ tuples * components * size_of kind = omega (arith, e) in
    length-first_numbers (length bytes / size_of kind) kind bytes ∙ quotient kind (length bytes) (tuples * components) all

-- a block that was found is as long as was asked, where it is no longer than all bytes
pub long_of : (result : Result (Bor (List ℕ)) FileFault) (count asked most all : ℕ) → IfOk result (λ bytes. length bytes.now ≡ count) → IfOk result (λ bytes. length bytes.now ≤ all)
    → count ≡ min asked most → all + 1 ≤ most → IfOk result (λ bytes. length bytes.now ≡ asked)
long_of (Ok bytes) count asked most all long few is more = omega (arith, long, few, is, more)
long_of (Err fault) count asked most all long few is more = tt
