-- What is promised of the text that was put (docs/FORMATS.md, "Report").
use Rattle.std.specs.Prelude.{◌≡◌, ℕ, List, ◌++◌, ◌⊎◌, IsTrue}
use Rattle.viz_base.specs.Faults.{Rose}
use Rattle.viz_base.specs.Texts.{AppendsPrefix}
use Rattle.viz_base.specs.declared.out.Out as out
use Rattle.viz_told.specs.declared.status.Status.{Status}
use Rattle.viz_told.specs.declared.status.Status.TheVariants as status

-- the text gained this line, where it is told
abbrev pub GainsLine : {O : Type 0} → out.Ghosts O → List ℕ → O → O → Type 0
GainsLine m line old new = IsTrue m.tells_text → m.text new ≡ m.text old ++ line

-- first bytes of the line were put, and the count of faults rose
abbrev pub IsBroken : {O : Type 0} → out.Ghosts O → List ℕ → O → O → Type 0
IsBroken m line old new = Rose (m.faults old) (m.faults new)
    × AppendsPrefix (m.text old) line (m.text new)

-- nothing was put, since the put wasn't answered for want of memory
abbrev pub IsUnanswered : {O : Type 0} → out.Ghosts O → O → O → Type 0
IsUnanswered m old new = (m.text new ≡ m.text old) × (m.answered new ≡ m.answered old)

-- the line was put, where the text is told, unless the put failed or memory ran out at it
abbrev pub PutsLine : {O : Type 0} → out.Ghosts O → List ℕ → O → O → Type 0
PutsLine m line old new = IsTrue m.tells_text → (m.text new ≡ m.text old ++ line)
    ⊎ (IsBroken m line old new ⊎ IsUnanswered m old new)

-- the line was put, where the text is told, unless the put failed
abbrev pub PutsOrBreaks : {O : Type 0} → out.Ghosts O → List ℕ → O → O → Type 0
PutsOrBreaks m line old new = IsTrue m.tells_text → (m.text new ≡ m.text old ++ line)
    ⊎ IsBroken m line old new

-- the status where there is nothing to serve: Script, with this line, or Memory
abbrev pub EndsInScript : {O : Type 0} → out.Ghosts O → List ℕ → O → O → Status → Type 0
EndsInScript m line old new ended = ((ended ≡ status.Script) × PutsOrBreaks m line old new)
    ⊎ (ended ≡ status.Memory)
