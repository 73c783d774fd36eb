-- What a read and a write at the desk come to together.
use Rattle.std.proofs.Common.{◌≡◌, ℕ, ◌≤◌, List, [], ◌∷◌, ◌++◌, Some, inl, inr}
use Rattle.std.specs.Prelude.{IsTrue}
use Rattle.viz_base.specs.Files.{SameFiles}
use Rattle.viz_base.specs.declared.port.Port as port
use Rattle.viz_base.specs.declared.call.Call.TheVariants.{Read, Write}
use Rattle.viz_base.specs.declared.call.ReadAnswer.TheVariants as read
use Rattle.viz_actor.specs.declared.ran.Ran.{Ran}
use Rattle.viz_actor.specs.Deeds.{Asked, Kept, IsScriptRun}
use Rattle.viz_actor.specs.DeskServing.{IsRanBehind}
use Rattle.viz_told.proofs.CallLemmas.{behind_read}

-- at a desk p, which the read of the script left as r, and what came then left as q
module _ {P : Type 0} (m : port.Ghosts P) (script journal : List ℕ) (p r q : P) (bytes : List ℕ)
    (asked : IsTrue m.tells_calls → m.calls r ≡ m.calls p ++ Read script (read.Given bytes) ∷ [])
    (given : IsTrue m.tells_files → m.files p script ≡ Some bytes)
    (kept : IsTrue m.tells_files → SameFiles (m.files p) (m.files r))
    (later : m.faults p ≤ m.faults r)
    (same : m.limit r ≡ m.limit p) where
  pub ran_after : (old new : List P) (came : Ran) → IsRanBehind m bytes journal came r q old new → IsScriptRun m script journal came p q old new
  ran_after old new came (inl left) = (Asked (read.Given bytes), left.0, behind_read m p r q script bytes asked given kept later same [] left.1)
  ran_after old new came (inr w) =
      (Kept bytes w.0 w.1, w.2, behind_read m p r q script bytes asked given kept later same (Write journal w.0 w.1 ∷ []) w.3)
