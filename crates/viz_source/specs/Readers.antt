-- What contracts see of a reader of lines, and what its answers say (docs/DEFINITIONS.md,
-- "Streams").
use Rattle.std.specs.Prelude.{◌≡◌, ℕ, ◌+◌, ◌⊎◌, Bool, true, false, IsTrue, List, [], ◌∷◌, ◌++◌}
use Rattle.std.specs.Prelude.{length, take, drop, Contains, Some, None, Result, Ok, Err}
use Rattle.std.specs.Prelude.{if◌then◌else◌}
use Rattle.viz_source.specs.declared.next_line.NextLine.{NextLine}
use Rattle.viz_source.specs.declared.next_line.NextLine.TheVariants.{Line, LongLine, End}
use Rattle.viz_source.specs.declared.next_line.StreamStop.{StreamStop}
use Rattle.viz_source.specs.declared.next_line.StreamStop.TheVariants.{TooLong, Failed}
use Rattle.viz_source.specs.Streams.{Stream, lines_left, IsFrontLine, IsPastLimit, IsOpenLine}

-- the piece that was pulled last, how many of its bytes were answered, how many bytes of the stream
-- stand before those that weren't, whether the input has ended, and the line that was answered last
pub record Reader : Type 0 where
  pub piece : List ℕ
  pub place : ℕ
  pub passed : ℕ
  pub ended : Bool
  pub line : List ℕ

-- the bytes that were taken and not answered yet
abbrev pub held : Reader → List ℕ
held r = drop r.place r.piece

-- how many bytes were taken
abbrev pub taken : Reader → ℕ
taken r = r.passed + length (held r)

-- the bytes that are to come, where the source has these left
abbrev pub bytes_of : Reader → List ℕ → List ℕ
bytes_of r left = if r.ended then [] else held r ++ left

-- the stream that is to come, where the source has these bytes left
abbrev pub stream_of : Reader → List ℕ → Stream
stream_of r left = record { passed = r.passed; bytes = bytes_of r left; ended = r.ended }

-- a reader that hasn't taken a byte
abbrev pub fresh : Reader
fresh = record { piece = []; place = 0; passed = 0; ended = false; line = [] }

-- nothing has to be pulled for the next answer: a newline was taken, or the input has ended
abbrev pub NeedsNoPull : Reader → Type 0
NeedsNoPull r = IsTrue r.ended ⊎ Contains (held r) 10

-- nothing was pulled behind what was answered: it ends with a newline of the piece that was pulled
-- last, or the input has ended
abbrev pub IsPrompt : Reader → Type 0
IsPrompt r = IsTrue r.ended
    ⊎ ((front : List ℕ) × (take r.place r.piece ≡ front ++ 10 ∷ []))

-- what an answer says of the stream before it and of the stream behind it, with the line that was
-- answered and the bytes that the source has left
abbrev pub Answers : Result NextLine StreamStop → List ℕ → Stream → Stream → List ℕ → Type 0
Answers (Ok Line) line old new left = IsFrontLine old new (Some line)
Answers (Ok LongLine) line old new left = IsFrontLine old new None
Answers (Ok End) line old new left = (old.bytes ≡ []) × (new ≡ record old { ended = true })
Answers (Err TooLong) line old new left = IsPastLimit old
Answers (Err Failed) line old new left = (old.ended ≡ false) × IsOpenLine old.bytes left

-- what an answer says of the lines that are to come before it and behind it
abbrev pub Tells : Result NextLine StreamStop → List ℕ → Stream → Stream → Type 0
Tells (Ok Line) line old new = lines_left old ≡ Some line ∷ lines_left new
Tells (Ok LongLine) line old new = lines_left old ≡ None ∷ lines_left new
Tells (Ok End) line old new = lines_left old ≡ []
Tells (Err TooLong) line old new = lines_left old ≡ []
Tells (Err Failed) line old new = Unit {0}
