-- What a reader answers: what its definition gives, or the refusal that it gives
-- (docs/FORMATS-OF-SCRIPTS.md, "Scripts").
use Rattle.std.specs.Prelude.{◌≡◌, Bool, Result, Ok, Err, if◌then◌else◌}
use Rattle.viz_words.specs.declared.refusal.ScriptRefusal.{ScriptRefusal}

-- one step, and behind it the next
infixl 10 ◌>>=◌
abbrev pub ◌>>=◌ : {A B : Type 0} → Result A ScriptRefusal → (A → Result B ScriptRefusal)
    → Result B ScriptRefusal
(Ok x) >>= f = f x
(Err e) >>= f = Err e

-- a step that goes on where the test holds
abbrev pub guard : Bool → ScriptRefusal → Result (Unit {0}) ScriptRefusal
guard test refusal = if test then Ok tt else Err refusal

-- what was answered, seen by view, is what the definition gives
abbrev pub Gives : {X Y : Type 0} → (X → Y) → Result X ScriptRefusal → Result Y ScriptRefusal
    → Type 0
Gives view (Ok x) read = read ≡ Ok (view x)
Gives view (Err e) read = read ≡ Err e
