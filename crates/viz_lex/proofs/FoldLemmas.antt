-- A state that is kept, beside the list of all that stood before.
use Rattle.std.proofs.Common.{◌≡◌, ℕ, zero, suc, Bool, true, false, List, [], ◌∷◌, ◌++◌, Result, Ok, Err, refl}
use Rattle.std.specs.Prelude.{if◌then◌else◌}
use Rattle.viz_lex.specs.declared.fault.FileFault.{FileFault}
use Rattle.viz_lex.specs.Reading.{Reading, ◌>>=◌}
use Rattle.viz_lex.specs.Words.{word_at}
use Rattle.viz_lex.specs.Steps.{has}
use Rattle.viz_lex.specs.Readers.{known_at, all_at, folded_at, all_folded_at}

-- what was read of the list, as a state
abbrev pub as_state : {S V : Type 0} → (List V → S) → Result (List V × Reading) FileFault → Result (S × Reading) FileFault
as_state state read = read >>= λ xs. Ok (state xs.0, xs.1)

-- a step, and then the others
step : {S V : Type 0} (state : List V → S) (add : S → V → S) (read : S → Reading → Result (V × Reading) FileFault) (n : ℕ) (before : List V)
    → ((before : List V) (x : V) → state (before ++ x ∷ []) ≡ add (state before) x)
    → ((before : List V) (r : Reading) → all_folded_at add read n (state before) r ≡ as_state state (all_at (λ b. read (state b)) n before r))
    → (o : Result (V × Reading) FileFault)
    → (o >>= λ x. all_folded_at add read n (add (state before) x.0) x.1) ≡ as_state state (o >>= λ x. all_at (λ b. read (state b)) n (before ++ x.0 ∷ []) x.1)
step state add read n before snoc later (Ok x) = rw (← snoc before x.0) (later (before ++ x.0 ∷ []) x.1)
step state add read n before snoc later (Err f) = refl

choice : {S V : Type 0} (state : List V → S) (b : Bool) (p : Result (S × Reading) FileFault) (q : Result (List V × Reading) FileFault) (before : List V) (r : Reading)
    → p ≡ as_state state q → (if b then p else Ok (state before, r)) ≡ as_state state (if b then q else Ok (before, r))
choice state true p q before r e = e
choice state false p q before r e = refl

-- the state that is kept is that of the list
pub fold-all : {S V : Type 0} (state : List V → S) (add : S → V → S) (read : S → Reading → Result (V × Reading) FileFault)
    → ((before : List V) (x : V) → state (before ++ x ∷ []) ≡ add (state before) x)
    → (n : ℕ) (before : List V) (r : Reading) → all_folded_at add read n (state before) r ≡ as_state state (all_at (λ b. read (state b)) n before r)
unfolding all_folded_at all_at
fold-all state add read snoc zero before r = refl
fold-all state add read snoc (suc n) before r =
    choice state (has (word_at r)) _ _ before r (step state add read n before snoc (λ b s. fold-all state add read snoc n b s) (read (state before) r))

known_step : {S V : Type 0} (state : List V → S) (add : S → V → S) (read : S → Reading → Result (V × Reading) FileFault) (n : ℕ) (before : List V)
    → ((before : List V) (x : V) → state (before ++ x ∷ []) ≡ add (state before) x)
    → ((before : List V) (r : Reading) → folded_at add read n (state before) r ≡ as_state state (known_at (λ b. read (state b)) n before r))
    → (o : Result (V × Reading) FileFault)
    → (o >>= λ x. folded_at add read n (add (state before) x.0) x.1) ≡ as_state state (o >>= λ x. known_at (λ b. read (state b)) n (before ++ x.0 ∷ []) x.1)
known_step state add read n before snoc later (Ok x) = rw (← snoc before x.0) (later (before ++ x.0 ∷ []) x.1)
known_step state add read n before snoc later (Err f) = refl

-- the same of so many
pub fold-known : {S V : Type 0} (state : List V → S) (add : S → V → S) (read : S → Reading → Result (V × Reading) FileFault)
    → ((before : List V) (x : V) → state (before ++ x ∷ []) ≡ add (state before) x)
    → (n : ℕ) (before : List V) (r : Reading) → folded_at add read n (state before) r ≡ as_state state (known_at (λ b. read (state b)) n before r)
fold-known state add read snoc zero before r = refl
fold-known state add read snoc (suc n) before r =
    known_step state add read n before snoc (λ b s. fold-known state add read snoc n b s) (read (state before) r)
