-- Calls of a port, one after the other.
use Rattle.std.proofs.Common.{◌≡◌, ℕ, ◌≤◌, List, [], ◌∷◌, ◌++◌, Some, ap, subst, sym, ◌∙◌, append_assoc, inl, inr, arith}
use Rattle.std.specs.Prelude.{IsTrue}
use Rattle.viz_base.specs.Faults.{Rose}
use Rattle.viz_base.specs.Files.{Files, SameFiles}
use Rattle.viz_base.specs.declared.port.Port as port
use Rattle.viz_base.specs.declared.call.Call.{Call}
use Rattle.viz_base.specs.declared.call.Call.TheVariants.{Read, Write}
use Rattle.viz_base.specs.declared.call.ReadAnswer.{ReadAnswer}
use Rattle.viz_base.specs.declared.call.ReadAnswer.TheVariants as read
use Rattle.viz_told.specs.Calls.{TellsFile, FilesAround, IsCalled}

-- a count that rose after it was no lower rose
rose_after : (a b c : ℕ) → a ≤ b → Rose b c → Rose a c
rose_after a b c le (inl lt) = inl (omega (arith, le, lt))
rose_after a b c le (inr most) = inr most

-- what holds of files holds of the same files
module _ (old mid : Files) (same : SameFiles old mid) (limit : ℕ) where
  tells_before : (name : List ℕ) (answer : ReadAnswer) → TellsFile mid limit name answer → TellsFile old limit name answer
  tells_before name (read.Given bytes) tells = sym (same name) ∙ tells
  tells_before name (read.TooLong taken) tells = (tells.0, sym (same name) ∙ tells.1, tells.2)
  tells_before name read.Failed tells = tt

  around_before : (calls : List Call) (new : Files) → FilesAround calls limit mid new → FilesAround calls limit old new
  around_before [] new around = λ name. around name ∙ same name
  around_before (Read name answer ∷ calls) new around = (tells_before name answer around.0, around_before calls new around.1)
  around_before (Write name text answer ∷ []) new around = (around.0, λ other apart. around.1 other apart ∙ same other)
  around_before (Write name text answer ∷ call ∷ calls) new around =
      (around.0, (around.1.0, λ other apart. around.1.1 other apart ∙ same other), around.2)

-- at a port p, which a read left as r, the calls made since stand behind that read
module _ {P : Type 0} (m : port.Ghosts P) (p r q : P) (name bytes : List ℕ)
    (asked : IsTrue m.tells_calls → m.calls r ≡ m.calls p ++ Read name (read.Given bytes) ∷ [])
    (given : IsTrue m.tells_files → m.files p name ≡ Some bytes)
    (kept : IsTrue m.tells_files → SameFiles (m.files p) (m.files r))
    (later : m.faults p ≤ m.faults r)
    (same : m.limit r ≡ m.limit p) where
  pub behind_read : (made : List Call) → IsCalled m made r q → IsCalled m (Read name (read.Given bytes) ∷ made) p q
  behind_read made next = record {
    calls = λ t.
        next.calls t
        ∙ ap (λ (calls : List Call). calls ++ made) (asked t)
        ∙ append_assoc (m.calls p) (Read name (read.Given bytes) ∷ []) made;
    files = λ t.
        (given t, around_before (m.files p) (m.files r) (kept t) (m.limit p) made (m.files q) (subst (λ (limit : ℕ). FilesAround made limit (m.files r) (m.files q)) same (next.files t)));
    cause = λ f. rose_after (m.faults p) (m.faults r) (m.faults q) later (next.cause f);
    later = let after = next.later in omega (arith, later, after);
    limit = next.limit ∙ same;
  }
