-- The readers of what stands one behind the other, which proofs compare with the rules
-- (docs/FORMATS-OF-FILES.md, "Reading").
use Rattle.std.specs.Prelude.{Bool, ℕ, zero, suc, List, [], ◌∷◌, ◌++◌, codes, Result, Ok}
use Rattle.std.specs.Prelude.{if◌then◌else◌}
use Rattle.viz_lex.specs.declared.fault.FileFault.{FileFault}
use Rattle.viz_lex.specs.Reading.{Reading, ◌>>=◌}
use Rattle.viz_lex.specs.Words.{word_at, text_of}
use Rattle.viz_lex.specs.Blocks.{block_at}
use Rattle.viz_lex.specs.Passing.{metadata_at}
use Rattle.viz_lex.specs.Steps.{has, due_word, is_next}

-- so many are read
abbrev pub times_at : {V : Type 0} → (Reading → Result (V × Reading) FileFault) → ℕ → Reading
    → Result (List V × Reading) FileFault
times_at read zero r = Ok ([], r)
times_at read (suc n) r = read r >>= λ x. times_at read n x.1 >>= λ xs. Ok (x.0 ∷ xs.0, xs.1)

-- so many are read, each knowing those before it
abbrev pub known_at : {V : Type 0} → (List V → Reading → Result (V × Reading) FileFault) → ℕ
    → List V → Reading → Result (List V × Reading) FileFault
known_at read zero before r = Ok (before, r)
known_at read (suc n) before r = read before r >>= λ x. known_at read n (before ++ x.0 ∷ []) x.1

-- all to the end are read, in at most so many steps, each knowing those before it
unfoldable pub all_at : {V : Type 0} → (List V → Reading → Result (V × Reading) FileFault) → ℕ
    → List V → Reading → Result (List V × Reading) FileFault
all_at read zero before r = Ok (before, r)
all_at read (suc n) before r = if has (word_at r)
    then (read before r >>= λ x. all_at read n (before ++ x.0 ∷ []) x.1) else Ok (before, r)

-- so many are read, where a state is kept of those before
abbrev pub folded_at : {S V : Type 0} → (S → V → S)
    → (S → Reading → Result (V × Reading) FileFault) → ℕ → S → Reading
    → Result (S × Reading) FileFault
folded_at add read zero s r = Ok (s, r)
folded_at add read (suc n) s r = read s r >>= λ x. folded_at add read n (add s x.0) x.1

-- all to the end are read, where a state is kept of those before
unfoldable pub all_folded_at : {S V : Type 0} → (S → V → S)
    → (S → Reading → Result (V × Reading) FileFault) → ℕ → S → Reading
    → Result (S × Reading) FileFault
all_folded_at add read zero s r = Ok (s, r)
all_folded_at add read (suc n) s r = if has (word_at r)
    then (read s r >>= λ x. all_folded_at add read n (add s x.0) x.1) else Ok (s, r)

-- as many as there are where the test holds, in at most so many steps
unfoldable pub skip_at : {V : Type 0} → (Reading → Bool)
    → (Reading → Result (V × Reading) FileFault) → ℕ → Reading
    → Result (Unit {0} × Reading) FileFault
skip_at test read zero r = Ok (tt, r)
skip_at test read (suc n) r = if test r then (read r >>= λ x. skip_at test read n x.1)
    else Ok (tt, r)

-- the bytes of a block
unfoldable pub bytes_at : ℕ → Reading → Result (List ℕ × Reading) FileFault
bytes_at n r = block_at n r >>= λ b. Ok (text_of r b.0, b.1)

-- METADATA is passed over where it stands next
unfoldable pub any_metadata_at : Reading → Result (Unit {0} × Reading) FileFault
any_metadata_at r = if is_next (codes "METADATA") r then (due_word r >>= λ w. metadata_at w.1)
    else Ok (tt, r)
