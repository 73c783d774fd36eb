-- The words of a command (docs/FORMATS.md, "Words of a command").
use Rattle.std.specs.Prelude.{ℕ, List, [], ◌∷◌, codes, Option, None, Some, Result, Ok, Err}
use Rattle.std.specs.Prelude.{option_map, option_and_then, if◌then◌else◌}
use Rattle.std.specs.Str.{bytes_eq}
use Rattle.viz_once.specs.Command.{Command as OneFile, file_name_of, once_of, strip_of, clip_of}
use Rattle.viz_words.specs.declared.refusal.ScriptRefusal.{ScriptRefusal}
use Rattle.viz_words.specs.Names.{named_in, is_node_name, is_file_name}
use Rattle.viz_words.specs.Numbers.{natural_in}
use Rattle.viz_make.specs.Make.{Make as Making}
use Rattle.viz_make.specs.Size.{volume_extent}
use Rattle.viz_migrate.specs.Migrate.{Migrate as Migration}
use Rattle.viz_replay.specs.Replay.{Replay}

-- a command: one file to be read, filtered and written; a script with the name of its journal; the
-- prefix of a journal; a journal to be written anew; or a volume to be made
pub data Command : Type 0 where
  Once : OneFile → Command
  Script : List ℕ → List ℕ → Command
  Scratch : Replay → Command
  Migrate : Migration → Command
  Make : Making → Command

-- what was read, where it was
abbrev pub given : {X : Type 0} → Result X ScriptRefusal → Option X
given (Ok x) = Some x
given (Err refusal) = None

-- SCRIPT JOURNAL
unfoldable pub script_of : List (List ℕ) → Option Command
script_of (script ∷ journal ∷ []) = option_and_then
    (λ s. option_map (λ j. Script s j) (file_name_of journal)) (file_name_of script)
script_of words = None

-- JOURNAL N SINK OUT, where N is at most 65,536
unfoldable pub scratch_of : List (List ℕ) → Option Command
scratch_of (journal ∷ count ∷ sink ∷ output ∷ []) =
    option_and_then (λ j. option_and_then (λ n. option_and_then (λ s. option_map (λ o.
    Scratch (record { journal = j; count = n; sink = s; output = o }))
    (given (named_in is_file_name output)))
    (given (named_in is_node_name sink)))
    (given (natural_in 0 65536 count)))
    (file_name_of journal)
scratch_of words = None

-- JOURNAL OUT
unfoldable pub migrate_of : List (List ℕ) → Option Command
migrate_of (journal ∷ output ∷ []) = option_and_then
    (λ j. option_map (λ o. Migrate (record { journal = j; output = o })) (file_name_of output))
    (file_name_of journal)
migrate_of words = None

-- a size of a volume along an axis, before the product of all three is known
abbrev pub size_in : List ℕ → Option ℕ
size_in word = given (natural_in 1 262144 word)

-- NUMBER NX NY NZ OUT
unfoldable pub make_of : List (List ℕ) → Option Command
make_of (number ∷ x ∷ y ∷ z ∷ output ∷ []) = option_and_then
    (λ n. option_and_then (λ a. option_and_then (λ b. option_and_then (λ c.
    option_and_then (λ e. option_map (λ o. Make (record { number = n; extent = e; output = o }))
    (file_name_of output)) (volume_extent a b c)) (size_in z)) (size_in y)) (size_in x))
    (given (natural_in 0 2147483647 number))
make_of words = None

-- the command that all words are
unfoldable pub command_of : List (List ℕ) → Option Command
command_of [] = None
command_of (verb ∷ words) =
    if bytes_eq verb (codes "once") then option_map (λ c. Once c) (once_of words)
    else if bytes_eq verb (codes "strip") then option_map (λ c. Once c) (strip_of words)
    else if bytes_eq verb (codes "clip") then option_map (λ c. Once c) (clip_of words)
    else if bytes_eq verb (codes "run") then script_of words
    else if bytes_eq verb (codes "scratch") then scratch_of words
    else if bytes_eq verb (codes "migrate") then migrate_of words
    else if bytes_eq verb (codes "make") then make_of words else None
