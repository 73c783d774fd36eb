-- What lines that were read have met.
use Rattle.std.proofs.Common.{◌≡◌, ℕ, Bool, true, false, cond, List, [], ◌∷◌, length, Result, Ok, Err, refl, sym, ap, ◌∙◌}
use Rattle.viz_words.specs.declared.refusal.ScriptRefusal.{ScriptRefusal}
use Rattle.viz_words.specs.declared.refusal.ScriptRefusal.TheVariants as refusal
use Rattle.viz_words.specs.Gives.{◌>>=◌}
use Rattle.viz_words.specs.Lines.{lines_of}
use Rattle.viz_script.specs.Lines.{Line, line_in}
use Rattle.viz_script.specs.Batches.{breaks_phases, breaks_batch, some_open, standing}
use Rattle.viz_script.specs.Script.{Stepped, Stop, number_behind, with_line, then_lines, lines_behind, steps_of, is_too_long, told, script_of}

-- a line that stands is the one that was told, and breaks no rule
pub record Stands (earlier : List Line) (line told : Line) : Type 0 where
  pub phases : breaks_phases earlier line ≡ false
  pub batch : breaks_batch earlier line ≡ false
  pub same : line ≡ told

pub standing-is : (earlier : List Line) (line told : Line) → standing earlier line ≡ Ok told → Stands earlier line told
standing-is earlier line told h = by (breaks_phases earlier line) refl (breaks_batch earlier line) refl h
  where
    by : (p : Bool) → breaks_phases earlier line ≡ p → (b : Bool) → breaks_batch earlier line ≡ b → cond p (Err refusal.Phase) (cond b (Err refusal.Batch) (Ok line)) ≡ Ok told
        → Stands earlier line told
    by true e b f g = let bad : ⊥ = cc g in absurd bad
    by false e true f g = let bad : ⊥ = cc g in absurd bad
    by false e false f g = let same : line ≡ told = cc g in record { phases = e; batch = f; same = same }

-- a line that breaks no rule stands
pub standing-ok : (earlier : List Line) (line : Line) → breaks_phases earlier line ≡ false → breaks_batch earlier line ≡ false → standing earlier line ≡ Ok line
standing-ok earlier line p b =
    ap (λ x. cond x (Err refusal.Phase) (cond (breaks_batch earlier line) (Err refusal.Batch) (Ok line))) p ∙ ap (λ x. cond x (Err refusal.Batch) (Ok line)) b

-- the first of lines that were read, and those behind it
pub record IsFirst (actors : ℕ) (earlier : List Line) (text : List ℕ) (texts : List (List ℕ)) (lines : List Line) : Type 0 where
  pub line : Line
  pub later : List Line
  pub are : lines ≡ line ∷ later
  pub first : line_in actors text ≡ Ok line
  pub stands : Stands earlier line line
  pub rest : lines_behind actors (line ∷ earlier) texts ≡ Ok later

pub lines-are : (actors : ℕ) (earlier : List Line) (text : List ℕ) (texts : List (List ℕ)) (lines : List Line) → lines_behind actors earlier (text ∷ texts) ≡ Ok lines
    → IsFirst actors earlier text texts lines
lines-are actors earlier text texts lines h = by (line_in actors text) refl h
  where
    next : Line → Result (List Line) Stop
    next line = lines_behind actors (line ∷ earlier) texts

    behind : (line : Line) (r : Result (List Line) Stop) → next line ≡ r → line_in actors text ≡ Ok line → Stands earlier line line → with_line line r ≡ Ok lines
        → IsFirst actors earlier text texts lines
    behind line (Err stop) e f s g = let bad : ⊥ = cc g in absurd bad
    behind line (Ok later) e f s g =
        let same : lines ≡ line ∷ later = cc g in
        record { line = line; later = later; are = same; first = f; stands = s; rest = e }

    here : (line : Line) (r : Result Line ScriptRefusal) → standing earlier line ≡ r → line_in actors text ≡ Ok line
        → then_lines (number_behind earlier) next r ≡ Ok lines → IsFirst actors earlier text texts lines
    here line (Err e) s f g = let bad : ⊥ = cc g in absurd bad
    here line (Ok x) s f g =
        let stands = standing-is earlier line x s in
        let its : line ≡ x = stands.same in
        behind line (next line) refl f (record { phases = stands.phases; batch = stands.batch; same = refl }) (ap (λ y. with_line y (next y)) its ∙ g)

    by : (r : Result Line ScriptRefusal) → line_in actors text ≡ r → then_lines (number_behind earlier) next (r >>= standing earlier) ≡ Ok lines
        → IsFirst actors earlier text texts lines
    by (Err e) f g = let bad : ⊥ = cc g in absurd bad
    by (Ok line) f g = here line (standing earlier line) refl f g

-- lines that were read, with none behind them
pub none-left : (actors : ℕ) (earlier lines : List Line) → lines_behind actors earlier [] ≡ Ok lines → (some_open earlier ≡ false) × (lines ≡ [])
none-left actors earlier lines h = by (some_open earlier) refl h
  where
    by : (t : Bool) → some_open earlier ≡ t → cond {A = Result (List Line) Stop} t (Err (length earlier, refusal.Batch)) (Ok []) ≡ Ok lines → (some_open earlier ≡ false) × (lines ≡ [])
    by true e g = let bad : ⊥ = cc g in absurd bad
    by false e g = let same : lines ≡ [] = cc g in (e, same)

-- the lines of a script
pub record IsTold (actors : ℕ) (bytes : List ℕ) (steps : List Stepped) : Type 0 where
  pub lines : List Line
  pub short : is_too_long bytes ≡ false
  pub read : lines_behind actors [] (lines_of bytes) ≡ Ok lines
  pub same : steps ≡ steps_of lines

pub script-is : (actors : ℕ) (bytes : List ℕ) (steps : List Stepped) → script_of actors bytes ≡ Ok steps → IsTold actors bytes steps
script-is actors bytes steps h = by (is_too_long bytes) refl (lines_behind actors [] (lines_of bytes)) refl h
  where
    by : (t : Bool) → is_too_long bytes ≡ t → (r : Result (List Line) Stop) → lines_behind actors [] (lines_of bytes) ≡ r
        → cond {A = Result (List Stepped) Stop} t (Err (0, refusal.TooLong)) (told r) ≡ Ok steps → IsTold actors bytes steps
    by true e r f g = let bad : ⊥ = cc g in absurd bad
    by false e (Err stop) f g = let bad : ⊥ = cc g in absurd bad
    by false e (Ok lines) f g = let same : steps ≡ steps_of lines = cc g in record { lines = lines; short = e; read = f; same = same }
