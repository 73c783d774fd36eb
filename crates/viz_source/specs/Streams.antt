-- The lines of a stream of bytes (docs/DEFINITIONS.md, "Streams").
use Rattle.std.specs.Prelude.{◌≡◌, ◌≢◌, ℕ, ◌+◌, ◌-◌, ◌<◌, ◌≤◌, ◌==◌, nat_le, nat_lt, ◌⊎◌}
use Rattle.std.specs.Prelude.{Bool, true, false}
use Rattle.std.specs.Prelude.{List, [], ◌∷◌, ◌++◌, length, take, map, Option, Some, None}
use Rattle.std.specs.Prelude.{if◌then◌else◌}
use Rattle.viz_lex.specs.Words.{HasNoNewline}
use Rattle.viz_words.specs.Lines.{lines_of}
use Rattle.viz_source.specs.declared.limits.TheConstants.{LINE_LIMIT, STREAM_LIMIT}

-- the bytes of a stream that are to come, how many stand before them, and whether its end was taken
pub record Stream : Type 0 where
  pub passed : ℕ
  pub bytes : List ℕ
  pub ended : Bool

-- a line, or None where it has more than 4,096 bytes
abbrev pub told_line : List ℕ → Option (List ℕ)
told_line line = if nat_le (length line) LINE_LIMIT then Some line else None

-- the lines of bytes, None for each that is too long
abbrev pub told_lines : List ℕ → List (Option (List ℕ))
told_lines bytes = map told_line (lines_of bytes)

-- a byte in front of bytes that end with a newline, or of none
abbrev pub before_newline : ℕ → List ℕ → List ℕ
before_newline b [] = if b == 10 then b ∷ [] else []
before_newline b (c ∷ cs) = b ∷ c ∷ cs

-- the bytes up to the last newline, with it
abbrev pub up_to_newline : List ℕ → List ℕ
up_to_newline [] = []
up_to_newline (b ∷ bs) = before_newline b (up_to_newline bs)

-- the whole lines of bytes: those that a newline ends
abbrev pub whole_lines : List ℕ → List (Option (List ℕ))
whole_lines bytes = told_lines (up_to_newline bytes)

-- the stream has more than 1,073,741,824 bytes
abbrev pub IsTooLong : Stream → Type 0
IsTooLong s = STREAM_LIMIT < s.passed + length s.bytes

-- the lines that are to come; of a stream that is too long those that end within its first
-- 1,073,741,824 bytes
unfoldable pub lines_left : Stream → List (Option (List ℕ))
lines_left s = if nat_lt STREAM_LIMIT (s.passed + length s.bytes)
    then whole_lines (take (STREAM_LIMIT - s.passed) s.bytes) else told_lines s.bytes

-- a whole line: bytes that end with their only newline
pub record IsWholeLine (text : List ℕ) : Type 0 where
  pub line : List ℕ
  pub parts : text ≡ line ++ 10 ∷ []
  pub one : HasNoNewline line

-- a last line: bytes that no newline ends, with nothing behind them
pub record IsLastLine (text : List ℕ) (behind : Stream) : Type 0 where
  pub some : text ≢ []
  pub none : HasNoNewline text
  pub last : behind.bytes ≡ []
  pub ended : behind.ended ≡ true

-- this line stands in front: it ends within the first 1,073,741,824 bytes, and the new stream is
-- what stands behind it
pub record IsFrontLine (old new : Stream) (line : Option (List ℕ)) : Type 0 where
  pub text : List ℕ
  pub parts : old.bytes ≡ text ++ new.bytes
  pub passed : new.passed ≡ old.passed + length text
  pub within : new.passed ≤ STREAM_LIMIT
  pub ends : IsWholeLine text ⊎ IsLastLine text new
  pub told : told_lines text ≡ line ∷ []

-- no further line ends within the first 1,073,741,824 bytes, and the stream has more
pub record IsPastLimit (s : Stream) : Type 0 where
  pub none : HasNoNewline (take (STREAM_LIMIT - s.passed) s.bytes)
  pub longer : IsTooLong s

-- the bytes of a line whose newline hasn't come, and those behind them
pub record IsOpenLine (bytes behind : List ℕ) : Type 0 where
  pub line : List ℕ
  pub parts : bytes ≡ line ++ behind
  pub none : HasNoNewline line

-- these lines are answered one after the other, and this stream is to come behind them
abbrev pub AreFrontLines : Stream → List (Option (List ℕ)) → Stream → Type 0
AreFrontLines old [] new = new ≡ old
AreFrontLines old (line ∷ lines) new = (next : Stream) × IsFrontLine old next line
    × AreFrontLines next lines new

-- no further line is answered
abbrev pub IsOver : Stream → Type 0
IsOver s = (s.bytes ≡ []) ⊎ IsPastLimit s

-- a stream of which nothing was taken
abbrev pub untaken : List ℕ → Stream
untaken bytes = record { passed = 0; bytes = bytes; ended = false }
