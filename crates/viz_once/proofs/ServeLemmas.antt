-- What a read and a write at a port come to together.
use Rattle.std.proofs.Common.{◌≡◌, ℕ, ◌≤◌, List, [], ◌∷◌, ◌++◌, Some}
use Rattle.std.specs.Prelude.{IsTrue}
use Rattle.viz_base.specs.Faults.{Rose}
use Rattle.viz_base.specs.Files.{SameFiles, SameOthers}
use Rattle.viz_base.specs.declared.port.Port as port
use Rattle.viz_base.specs.declared.call.Call.TheVariants.{Read, Write}
use Rattle.viz_base.specs.declared.call.ReadAnswer.TheVariants as read
use Rattle.viz_base.specs.declared.call.WriteAnswer.{WriteAnswer}
use Rattle.viz_once.specs.Account.{Asked, Answered, calls_of}
use Rattle.viz_once.specs.Command.{Command}
use Rattle.viz_told.specs.Calls.{LeavesText, HasFailed, IsCalled}
use Rattle.viz_told.proofs.CallLemmas.{behind_read}

-- at a port p, which a read left as r, and what came then left as q
module _ {P : Type 0} (m : port.Ghosts P) (c : Command) (p r q : P) (bytes : List ℕ)
    (asked : IsTrue m.tells_calls → m.calls r ≡ m.calls p ++ Read c.input (read.Given bytes) ∷ [])
    (given : IsTrue m.tells_files → m.files p c.input ≡ Some bytes)
    (kept : IsTrue m.tells_files → SameFiles (m.files p) (m.files r))
    (later : m.faults p ≤ m.faults r)
    (same : m.limit r ≡ m.limit p)
    (after : m.faults r ≤ m.faults q)
    (same_after : m.limit q ≡ m.limit r) where
  -- a write that was answered
  pub written : (text : List ℕ) (answer : WriteAnswer)
      → (IsTrue m.tells_calls → m.calls q ≡ m.calls r ++ Write c.output text answer ∷ [])
      → (IsTrue m.tells_files → LeavesText c.output text answer (m.files q))
      → (IsTrue m.tells_files → SameOthers c.output (m.files r) (m.files q))
      → (HasFailed (Write c.output text answer ∷ []) → Rose (m.faults r) (m.faults q))
      → IsCalled m (calls_of c (Answered bytes text answer)) p q
  written text answer told left others failed =
      behind_read m p r q c.input bytes asked given kept later same (Write c.output text answer ∷ []) (record {
        calls = told;
        files = λ t. (left t, others t);
        cause = failed;
        later = after;
        limit = same_after;
      })

  -- a write for which memory ran out
  pub unwritten : (IsTrue m.tells_calls → m.calls q ≡ m.calls r ++ [])
      → (IsTrue m.tells_files → SameFiles (m.files r) (m.files q))
      → IsCalled m (calls_of c (Asked (read.Given bytes))) p q
  unwritten told left = behind_read m p r q c.input bytes asked given kept later same [] (record {
    calls = told;
    files = left;
    cause = λ f. absurd f;
    later = after;
    limit = same_after;
  })
