-- The edits of a batch as the lines of a journal say them, or the first refusal of the first line
-- that has one (docs/FORMATS-OF-SCRIPTS.md, "Journals").
use Rattle.std.specs.Prelude.{ℕ, zero, suc, ◌+◌, Bool, ◌&&◌, List, [], ◌∷◌, ◌++◌, Result}
use Rattle.std.specs.Prelude.{Ok, Err}
use Rattle.viz_kinds.specs.Values.{is_text}
use Rattle.viz_network.specs.declared.edit.Edit.{Edit}
use Rattle.viz_words.specs.declared.refusal.ScriptRefusal.{ScriptRefusal}
use Rattle.viz_words.specs.declared.refusal.ScriptRefusal.TheVariants as refusal
use Rattle.viz_words.specs.Gives.{◌>>=◌, guard}
use Rattle.viz_journal.specs.declared.draft.Draft.{Draft}
use Rattle.viz_journal.specs.Journal.{edit_line}
use Rattle.viz_journal.specs.Lines.{draft_of}
use Rattle.viz_journal.specs.Parts.{Part, part_of, is_there, is_closed, rest_of, edit_of}
use Rattle.viz_journal.specs.Entries.{is_accepted}

-- the line is spelled so, and a newline ends it
abbrev pub is_spelled : Part → List ℕ → Bool
is_spelled part line = part.ended && is_text part.line line

-- the edit that was told behind these, where this stands in front of it on its line; or its first
-- refusal
unfoldable pub edit_at : List Edit → List ℕ → Part → Draft → Result Edit ScriptRefusal
edit_at before front part draft = do
  there ← guard (is_there draft part.rest) refusal.Number
  closed ← guard (is_closed draft part.rest) refusal.Word
  spelled ← guard (is_spelled part (front ++ edit_line (edit_of draft part.rest))) refusal.Word
  accepted ← guard (is_accepted before (edit_of draft part.rest)) refusal.Edit
  Ok (edit_of draft part.rest)

-- a line and what is wrong with it
abbrev pub Stop : Type 0
Stop = ℕ × ScriptRefusal

-- the edits of a batch, and what is behind them
abbrev pub Batched : Type 0
Batched = List Edit × List ℕ

-- the edits with one more and those behind it, where the line of this number has it
abbrev pub edited : ℕ → (List Edit → List ℕ → Result Batched Stop) → List Edit
    → Result Edit ScriptRefusal → List ℕ → Result Batched Stop
edited n next batch (Err r) rest = Err (n, r)
edited n next batch (Ok e) rest = next (batch ++ e ∷ []) rest

-- the same, where the line says this, behind the edits of the entries before
abbrev pub drafted : ℕ → (List Edit → List ℕ → Result Batched Stop) → List Edit → List Edit → Part
    → Result Draft ScriptRefusal → Result Batched Stop
drafted n next before batch part (Err r) = Err (n, r)
drafted n next before batch part (Ok draft) =
    edited n next batch (edit_at (before ++ batch) [] part draft) (rest_of draft part.rest)

-- the edits of a batch and so many more, the line of the first of which has this number, behind the
-- edits of the entries before
unfoldable pub batch_from : ℕ → ℕ → List Edit → List Edit → List ℕ → Result Batched Stop
batch_from zero n before batch bytes = Ok (batch, bytes)
batch_from (suc k) n before batch bytes = drafted n (batch_from k (n + 1) before) before batch
    (part_of bytes) (draft_of (part_of bytes).line)
