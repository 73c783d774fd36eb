-- The steps of a reader of lines: words of private contracts alone.
use Rattle.std.specs.Prelude.{◌≡◌, ℕ, ◌+◌, ◌-◌, ◌<◌, ◌≤◌, nat_le, Bool, IsTrue}
use Rattle.std.specs.Prelude.{List, [], ◌∷◌, ◌++◌, length, take, Option, Some, None}
use Rattle.std.specs.Prelude.{Result, Ok, Err, if◌then◌else◌}
use Rattle.viz_lex.specs.Words.{HasNoNewline, IsNextLine}
use Rattle.viz_words.specs.Steps.Scans.{trimmed}
use Rattle.viz_source.specs.declared.limits.TheConstants.{PIECE, LINE_LIMIT}
use Rattle.viz_source.specs.declared.limits.TheConstants.{STREAM_LIMIT, KEPT}
use Rattle.viz_source.specs.declared.next_line.NextLine.{NextLine}
use Rattle.viz_source.specs.declared.next_line.NextLine.TheVariants.{Line, LongLine, End}
use Rattle.viz_source.specs.declared.next_line.StreamStop.{StreamStop}
use Rattle.viz_source.specs.declared.next_line.StreamStop.TheVariants.{TooLong, Failed}
use Rattle.viz_source.specs.Readers.{Reader, held, taken, bytes_of}

-- what a reader keeps true of its numbers: the size of its piece, the bytes in it and those of them
-- that were answered, the bytes before the others, those kept of a line, and the room for them
pub record IsSound (size count place passed len room : ℕ) (ended : Bool) : Type 0 where
  pub size_is : size ≡ PIECE
  pub count_fits : count ≤ PIECE
  pub place_fits : place ≤ count
  pub passed_fits : passed + (count - place) ≤ STREAM_LIMIT + PIECE
  pub over : IsTrue ended → passed + (count - place) ≤ STREAM_LIMIT
  pub line_fits : len ≤ KEPT
  pub has_room : KEPT ≤ room

-- what a search for a newline answers: the length of the line in front, if one ends
abbrev pub FindsNewline : List ℕ → Option ℕ → Type 0
FindsNewline text None = HasNoNewline text
FindsNewline text (Some n) = (behind : List ℕ) × IsNextLine text (take n text) behind
    × (length (take n text) ≡ n)

-- whether a line is too long
abbrev pub measured : List ℕ → NextLine
measured line = if nat_le (length line) LINE_LIMIT then Line else LongLine

-- what is behind the last newline: a line, or the end
abbrev pub last_measured : List ℕ → NextLine
last_measured [] = End
last_measured (b ∷ bs) = measured (b ∷ bs)

-- so many of the bytes that are held go behind those that are kept of the line
abbrev pub kept_on : Reader → ℕ → Reader
kept_on r n = record r {
  line = take KEPT (r.line ++ take n (held r));
  place = r.place + n;
  passed = r.passed + n;
}

-- behind the newline that follows so many bytes, with the line
abbrev pub ended_at : Reader → ℕ → Reader
ended_at r n = record r {
  line = trimmed (take KEPT (r.line ++ take n (held r)));
  place = r.place + (n + 1);
  passed = r.passed + (n + 1);
}

-- a line ends among the bytes that are held, and the new reader stands behind it
pub record EndsLine (old new : Reader) (next : NextLine) : Type 0 where
  pub line : List ℕ
  pub behind : List ℕ
  pub parts : IsNextLine (held old) line behind
  pub after : new ≡ ended_at old (length line)
  pub within : new.passed ≤ STREAM_LIMIT
  pub next_is : next ≡ measured new.line

-- no line ends among the bytes that are held, and all of them are kept of the line
pub record GoesOn (old new : Reader) : Type 0 where
  pub none : HasNoNewline (held old)
  pub after : new ≡ kept_on old (length (held old))
  pub within : new.passed ≤ STREAM_LIMIT

-- more than 1,073,741,824 bytes were taken, and no line ends within the first so many
pub record IsPast (old new : Reader) : Type 0 where
  pub none : HasNoNewline (take (STREAM_LIMIT - old.passed) (held old))
  pub longer : STREAM_LIMIT < taken old
  pub same : taken new ≡ taken old

-- what a look at the bytes that are held comes to
abbrev pub Looks : Reader → Reader → Result (Option NextLine) StreamStop → Type 0
Looks old new (Ok None) = GoesOn old new
Looks old new (Ok (Some next)) = EndsLine old new next
Looks old new (Err TooLong) = IsPast old new
Looks old new (Err Failed) = ⊥

-- what was kept of a line since a reader stood at its start
pub record IsOpen (tells : Bool) (start now : Reader) (before left : List ℕ) : Type 0 where
  pub line : List ℕ
  pub none : HasNoNewline line
  pub kept : now.line ≡ take KEPT line
  pub passed : now.passed ≡ start.passed + length line
  pub bytes : IsTrue tells → bytes_of start before ≡ line ++ bytes_of now left
