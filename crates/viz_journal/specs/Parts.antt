-- A line of a journal, and the bytes behind it (docs/FORMATS-OF-SCRIPTS.md, "Journals").
use Rattle.std.specs.Prelude.{ℕ, pos, int_le, ◌+◌, Bool, true, false, not, ◌==◌, List, [], ◌∷◌}
use Rattle.std.specs.Prelude.{take, drop, length, if◌then◌else◌}
use Rattle.viz_network.specs.declared.edit.Edit.{Edit}
use Rattle.viz_network.specs.declared.edit.Edit.TheVariants as edit
use Rattle.viz_words.specs.Lines.{begins_newline}
use Rattle.viz_journal.specs.declared.draft.Draft.{Draft}
use Rattle.viz_journal.specs.declared.draft.Draft.TheVariants as draft
use Rattle.viz_journal.specs.Lines.{size}

-- the first line, whether a newline ends it, and what is behind it
pub record Part : Type 0 where
  pub line : List ℕ
  pub ended : Bool
  pub rest : List ℕ

abbrev pub in_line : ℕ → Part → Part
in_line b part = record { line = b ∷ part.line; ended = part.ended; rest = part.rest }

abbrev pub part_of : List ℕ → Part
part_of [] = record { line = []; ended = false; rest = [] }
part_of (b ∷ bs) = if b == 10 then record { line = []; ended = true; rest = bs }
    else in_line b (part_of bs)

-- the bytes of a load are there
abbrev pub is_there : Draft → List ℕ → Bool
is_there (draft.Edit e) rest = true
is_there (draft.Load node len) rest = int_le len (pos (length rest))

-- the edit is a load, which has bytes
abbrev pub has_bytes : Edit → Bool
has_bytes (edit.Load node file) = true
has_bytes _ = false

-- an edit without bytes, or a newline is behind the bytes of a load
abbrev pub is_closed : Draft → List ℕ → Bool
is_closed (draft.Edit e) rest = not (has_bytes e)
is_closed (draft.Load node len) rest = begins_newline (drop (size len) rest)

-- what is behind the bytes of a load and their newline
abbrev pub rest_of : Draft → List ℕ → List ℕ
rest_of (draft.Edit e) rest = rest
rest_of (draft.Load node len) rest = drop (size len + 1) rest

-- the edit, with the bytes of a load
abbrev pub edit_of : Draft → List ℕ → Edit
edit_of (draft.Edit e) rest = e
edit_of (draft.Load node len) rest = edit.Load node (take (size len) rest)
