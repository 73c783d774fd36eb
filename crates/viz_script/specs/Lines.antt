-- What a line of a script says, or its own first refusal (docs/FORMATS-OF-SCRIPTS.md, "Scripts").
use Rattle.std.specs.Prelude.{ℕ, ℤ, pos, Bool, ◌&&◌, int_le, unsigned_abs, List, [], ◌∷◌, codes}
use Rattle.std.specs.Prelude.{Option, None, Some, Result, Ok, Err, if◌then◌else◌}
use Rattle.viz_kinds.specs.Values.{is_text}
use Rattle.viz_words.specs.declared.refusal.ScriptRefusal.{ScriptRefusal}
use Rattle.viz_words.specs.declared.refusal.ScriptRefusal.TheVariants as refusal
use Rattle.viz_words.specs.declared.command.Verb.{Verb}
use Rattle.viz_words.specs.declared.command.Verb.TheVariants as verb
use Rattle.viz_words.specs.Gives.{◌>>=◌, guard}
use Rattle.viz_words.specs.Lines.{is_plain}
use Rattle.viz_words.specs.Words.{words_of, is_skipped}
use Rattle.viz_words.specs.Numbers.{number_of}
use Rattle.viz_words.specs.Commands.{verb_of, due}
use Rattle.viz_script.specs.Orders.{Asked, order_in}

-- what a line says: nothing, that a phase begins, or what an actor does: it begins a batch, ends it,
-- or asks for a command
pub data Line : Type 0 where
  silent : Line
  begins_phase : Line
  begins_batch : ℕ → Line
  ends_batch : ℕ → Line
  asks : ℕ → Asked → Line

-- the greatest number of an actor
abbrev pub actor_limit : ℕ
actor_limit = 8

-- the actor has a number from 1 to 8, and there are so many
abbrev pub is_actor : ℤ → ℕ → Bool
is_actor actor actors = int_le (pos 1) actor && int_le actor
    (pos actor_limit) && int_le actor (pos actors)

-- a line that has no further words
abbrev pub alone : Line → List (List ℕ) → Result Line ScriptRefusal
alone line [] = Ok line
alone line (word ∷ words) = Err refusal.Arity

-- what a line says behind the word of an actor's command
abbrev pub command_in : ℕ → Verb → List (List ℕ) → Result Line ScriptRefusal
command_in actor verb.Begin words = alone (begins_batch actor) words
command_in actor verb.End words = alone (ends_batch actor) words
command_in actor v words = order_in v words >>= λ order. Ok (asks actor order)

-- what a line says behind the number of an actor
abbrev pub actor_in : ℤ → ℕ → List (List ℕ) → Result Line ScriptRefusal
actor_in actor actors words = verb_of words >>= λ verb. guard
    (is_actor actor actors) refusal.ActorRange >>= λ in_range.
    due words >>= λ rest. command_in (unsigned_abs actor) verb rest.1

-- the same, where the word is a number
abbrev pub number_in_front : Option ℤ → ℕ → List (List ℕ) → Result Line ScriptRefusal
number_in_front None actors words = Err refusal.Word
number_in_front (Some actor) actors words = actor_in actor actors words

-- what the words of a line say
abbrev pub words_in : ℕ → List (List ℕ) → Result Line ScriptRefusal
words_in actors [] = Ok silent
words_in actors (word ∷ words) = if is_text word (codes "phase") then alone begins_phase words
    else number_in_front (number_of word) actors words

-- what a line says, or its first refusal
abbrev pub line_in : ℕ → List ℕ → Result Line ScriptRefusal
line_in actors line = if is_skipped line then Ok silent
    else (guard (is_plain line) refusal.Word >>= λ plain. words_in actors (words_of line))
