-- What a run did at a port: its calls, what the files held and hold, and its count of faults
-- (docs/DEFINITIONS.md, "How a run is told").
use Rattle.std.specs.Prelude.{◌≡◌, ℕ, ◌≤◌, List, [], ◌∷◌, ◌++◌, Some, IsTrue}
use Rattle.viz_base.specs.Faults.{Rose}
use Rattle.viz_base.specs.Files.{Files, SameFiles, SameOthers, IsLonger, KeepsPrefix}
use Rattle.viz_base.specs.declared.port.Port as port
use Rattle.viz_base.specs.declared.call.Call.{Call}
use Rattle.viz_base.specs.declared.call.Call.TheVariants.{Read, Write}
use Rattle.viz_base.specs.declared.call.ReadAnswer.{ReadAnswer}
use Rattle.viz_base.specs.declared.call.ReadAnswer.TheVariants as read
use Rattle.viz_base.specs.declared.call.WriteAnswer.{WriteAnswer}
use Rattle.viz_base.specs.declared.call.WriteAnswer.TheVariants as write

-- what the answer of a read says of the file: its bytes, or that it is longer than the limit
abbrev pub TellsFile : Files → ℕ → List ℕ → ReadAnswer → Type 0
TellsFile files limit name (read.Given bytes) = files name ≡ Some bytes
TellsFile files limit name (read.TooLong taken) = IsLonger files name limit
TellsFile files limit name read.Failed = Unit {0}

-- what a write leaves in its file: the text, or first bytes of it
abbrev pub LeavesText : List ℕ → List ℕ → WriteAnswer → Files → Type 0
LeavesText name text write.Written new = new name ≡ Some text
LeavesText name text write.Failed new = KeepsPrefix name text new

-- the files around one write: the file has what the write left in it, and all others are as before
abbrev pub FilesAroundWrite : List ℕ → List ℕ → WriteAnswer → Files → Files → Type 0
FilesAroundWrite name text answer old new = LeavesText name text answer new
    × SameOthers name old new

-- the files around calls, one after the other: what was read stood there, what was written stands
-- there, and all else is as before
abbrev pub FilesAround : List Call → ℕ → Files → Files → Type 0
FilesAround [] limit old new = SameFiles old new
FilesAround (Read name answer ∷ calls) limit old new = TellsFile old limit name answer
    × FilesAround calls limit old new
FilesAround (Write name text answer ∷ []) limit old new = FilesAroundWrite name text answer old new
FilesAround (Write name text answer ∷ call ∷ calls) limit old new =
    (mid : Files) × FilesAroundWrite name text answer old mid
    × FilesAround (call ∷ calls) limit mid new

-- a call of these failed
abbrev pub HasFailed : List Call → Type 0
HasFailed [] = ⊥
HasFailed (Read name read.Failed ∷ calls) = Unit {0}
HasFailed (Write name text write.Failed ∷ calls) = Unit {0}
HasFailed (call ∷ calls) = HasFailed calls

-- a port answered these calls, and no others: what it tells of its calls and of its files, and its
-- count of faults
pub record IsCalled {P : Type 0} (m : port.Ghosts P) (made : List Call) (old new : P) : Type 0 where
  pub calls : IsTrue m.tells_calls → m.calls new ≡ m.calls old ++ made
  pub files : IsTrue m.tells_files → FilesAround made (m.limit old) (m.files old) (m.files new)
  pub cause : HasFailed made → Rose (m.faults old) (m.faults new)
  pub later : m.faults old ≤ m.faults new
  pub limit : m.limit new ≡ m.limit old

-- a port was asked for this file alone, and answered so
abbrev pub HasAnswered : {P : Type 0} → port.Ghosts P → List ℕ → ReadAnswer → P → P → Type 0
HasAnswered m name answer old new = m.calls new ≡ m.calls old ++ Read name answer ∷ []
