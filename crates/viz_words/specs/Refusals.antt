-- The line that tells why a script or a journal isn't read (docs/FORMATS.md, "Report").
use Rattle.std.specs.Prelude.{ℕ, List, ◌++◌, codes}
use Rattle.std.specs.Fmt.{decimal}
use Rattle.viz_words.specs.declared.refusal.ScriptRefusal.{ScriptRefusal}
use Rattle.viz_words.specs.declared.refusal.ScriptRefusal.TheVariants as refusal

-- the word of a refusal
abbrev pub refusal_word : ScriptRefusal → List ℕ
refusal_word refusal.Word = codes "Word"
refusal_word refusal.Arity = codes "Arity"
refusal_word refusal.Number = codes "Number"
refusal_word refusal.Name = codes "Name"
refusal_word refusal.ActorRange = codes "ActorRange"
refusal_word refusal.Phase = codes "Phase"
refusal_word refusal.TooLong = codes "TooLong"
refusal_word refusal.Edit = codes "Edit"
refusal_word refusal.Batch = codes "Batch"

-- the line of a script or journal that is refused
unfoldable pub refused_script : ℕ → ScriptRefusal → List ℕ
refused_script line r = codes "script line " ++ decimal line ++ codes " " ++ refusal_word r
    ++ codes "\n"
