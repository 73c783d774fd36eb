-- Where a line of a script may stand: how many phases it may begin, and what batches take
-- (docs/FORMATS-OF-SCRIPTS.md, "Scripts"). The lines in front of it are told with the nearest
-- first.
use Rattle.std.specs.Prelude.{ℕ, ◌+◌, Bool, true, false, ◌==◌, List, [], ◌∷◌, ◌++◌, length}
use Rattle.std.specs.Prelude.{Option, None, Some, option_map, is_some, Result, Ok, Err}
use Rattle.std.specs.Prelude.{if◌then◌else◌}
use Rattle.std.specs.List.{list_any, range_with_len}
use Rattle.viz_network.specs.declared.edit.Edit.{Edit}
use Rattle.viz_batches.specs.Batches.{batch_limit}
use Rattle.viz_words.specs.declared.refusal.ScriptRefusal.{ScriptRefusal}
use Rattle.viz_words.specs.declared.refusal.ScriptRefusal.TheVariants as refusal
use Rattle.viz_script.specs.Orders.{Asked, edit}
use Rattle.viz_script.specs.Lines.{Line, silent, begins_phase, begins_batch, ends_batch, asks}
use Rattle.viz_script.specs.Lines.{actor_limit}

-- the greatest number of phases
abbrev pub phase_limit : ℕ
phase_limit = 64

-- the phase behind these lines: the first one, and one more for each that begins one
abbrev pub phase_behind : List Line → ℕ
phase_behind [] = 1
phase_behind (begins_phase ∷ earlier) = phase_behind earlier + 1
phase_behind (line ∷ earlier) = phase_behind earlier

-- what a line makes of the batch that an actor has open, if it has one: the batch is the edits of
-- the actor so far
abbrev pub batch_after : ℕ → Line → Option (List Edit) → Option (List Edit)
batch_after actor (begins_batch a) batch = if a == actor then Some [] else batch
batch_after actor (ends_batch a) batch = if a == actor then None else batch
batch_after actor (asks a (edit e)) batch = if a == actor
    then option_map (λ edits. edits ++ e ∷ []) batch else batch
batch_after actor line batch = batch

-- the batch that an actor has open behind these lines, if it has one
abbrev pub open_behind : ℕ → List Line → Option (List Edit)
open_behind actor [] = None
open_behind actor (line ∷ earlier) = batch_after actor line (open_behind actor earlier)

-- whether an actor has one
abbrev pub is_open : ℕ → List Line → Bool
is_open actor earlier = is_some (open_behind actor earlier)

-- whether some actor has one
abbrev pub some_open : List Line → Bool
some_open earlier = list_any (λ actor. is_open actor earlier) (range_with_len 1 actor_limit)

-- whether there is no batch to be ended: none is open, or it has no edit
abbrev pub is_endless : Option (List Edit) → Bool
is_endless None = true
is_endless (Some edits) = length edits == 0

-- whether there is a batch that takes no more edits
abbrev pub is_full : Option (List Edit) → Bool
is_full None = false
is_full (Some edits) = length edits == batch_limit

-- whether the line begins a phase past the last
abbrev pub breaks_phases : List Line → Line → Bool
breaks_phases earlier begins_phase = phase_behind earlier == phase_limit
breaks_phases earlier line = false

-- whether the line may not stand behind these for the sake of a batch
abbrev pub breaks_batch : List Line → Line → Bool
breaks_batch earlier silent = false
breaks_batch earlier begins_phase = some_open earlier
breaks_batch earlier (begins_batch actor) = is_open actor earlier
breaks_batch earlier (ends_batch actor) = is_endless (open_behind actor earlier)
breaks_batch earlier (asks actor (edit e)) = is_full (open_behind actor earlier)
breaks_batch earlier (asks actor asked) = is_open actor earlier

-- a line that may stand behind these, or why it may not
abbrev pub standing : List Line → Line → Result Line ScriptRefusal
standing earlier line = if breaks_phases earlier line then Err refusal.Phase
    else (if breaks_batch earlier line then Err refusal.Batch else Ok line)
