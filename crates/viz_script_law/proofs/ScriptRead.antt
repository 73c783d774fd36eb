-- A script is read as the steps that its lines say.
use Rattle.std.proofs.Common.{◌≡◌, ℕ, ◌+◌, ◌≤◌, Bool, false, cond, ◌||◌, ◌&&◌, eq-eqb, List, [], ◌∷◌, map, length, Result, Ok, Err, refl, sym, ap, ◌∙◌, subst, arith}
use Rattle.std.specs.Prelude.{nat_lt, count_by, ◌==◌, is_some}
use Rattle.std.specs.List.{AllZip, AllByRecursion}
use Rattle.std.proofs.lemmas.Bool.{ne_eqb, le-ltb}
use Rattle.std.proofs.lemmas.List.Sums.{sum_by-cons}
use Rattle.viz_words.specs.declared.refusal.ScriptRefusal.{ScriptRefusal}
use Rattle.viz_words.specs.declared.refusal.ScriptRefusal.TheVariants as refusal
use Rattle.viz_words.specs.Lines.{lines_of}
use Rattle.viz_words.specs.Gives.{◌>>=◌}
use Rattle.viz_script.specs.Orders.{Asked, edit, edits, load, update, audit}
use Rattle.viz_script.specs.Lines.{Line, silent, begins_phase, begins_batch, ends_batch, asks, line_in}
use Rattle.viz_script.specs.Batches.{phase_limit, phase_behind, open_behind, is_open, some_open, is_endless, is_full, breaks_phases, breaks_batch, standing}
use Rattle.viz_script.specs.Script.{Stop, byte_limit, line_limit, number_behind, with_line, then_lines, lines_behind, steps_of, told, is_too_long, script_of}
use Rattle.viz_script.specs.Steps.Heard.{IsActor}
use Rattle.viz_script.proofs.LineLemmas.{standing-ok}
use Rattle.viz_script_law.specs.Tokens.{plain_line, plain_script}
use Rattle.viz_script_law.specs.Spelling.{SpellsLine, AreLines}
use Rattle.viz_script_law.specs.Fits.{FitsLine, is_phase, FitsScript}
use Rattle.viz_script_law.specs.Script.{SpellsScript}
use Rattle.viz_script_law.proofs.Words.{HasLine, zip-length}
use Rattle.viz_script_law.proofs.SpellingLemmas.{line-found}
use Rattle.viz_script_law.proofs.LinesLemmas.{lines-found, lines-there}
use Rattle.viz_script_law.proofs.LineRead.{line-read}
use Rattle.viz_script_law.proofs.PartLemmas.{breaks, Runs, parts-are}
use Rattle.viz_script_law.proofs.PlainLemmas.{lines-again, lines-spelled}

pub count-more : (line : Line) (lines : List Line) → count_by is_phase (line ∷ lines) ≡ cond (is_phase line) 1 0 + count_by is_phase lines
count-more line lines = sum_by-cons (λ l. cond (is_phase l) 1 0) line lines

-- ---- what stands in front of a line

-- none breaks a batch, where none breaks that of an actor
some-none : (earlier : List Line) → ((actor : ℕ) → IsActor actor → is_open actor earlier ≡ false) → some_open earlier ≡ false
some-none earlier h =
    let at = λ (n : ℕ) (low : 1 ≤ n) (high : n ≤ 8). h n (record { least = low; most = high }) in
    rw (
      at 1 (omega arith) (omega arith),
      at 2 (omega arith) (omega arith),
      at 3 (omega arith) (omega arith),
      at 4 (omega arith) (omega arith),
      at 5 (omega arith) (omega arith),
      at 6 (omega arith) (omega arith),
      at 7 (omega arith) (omega arith),
      at 8 (omega arith) (omega arith),
    ) refl

-- the actor of a line breaks its own batch
own-breaks : (actor : ℕ) (t : Bool) → ((actor == actor) && t) ≡ false → t ≡ false
own-breaks actor t h = sym (ap (λ x. x && t) (eq-eqb actor actor refl)) ∙ h

asked-breaks : (actor : ℕ) (asked : Asked) (earlier : List Line) → breaks actor (open_behind actor earlier) (asks actor asked) ≡ false → breaks_batch earlier (asks actor asked) ≡ false
asked-breaks actor (edit e) earlier h = own-breaks actor (is_full (open_behind actor earlier)) h
asked-breaks actor (edits es) earlier h = own-breaks actor (is_some (open_behind actor earlier)) h
asked-breaks actor (load node file) earlier h = own-breaks actor (is_some (open_behind actor earlier)) h
asked-breaks actor (update node file pieces workers) earlier h = own-breaks actor (is_some (open_behind actor earlier)) h
asked-breaks actor (audit node pieces workers) earlier h = own-breaks actor (is_some (open_behind actor earlier)) h

none-breaks : (actors : ℕ) (earlier : List Line) (line : Line) → FitsLine actors line
    → ((actor : ℕ) → IsActor actor → breaks actor (open_behind actor earlier) line ≡ false) → breaks_batch earlier line ≡ false
none-breaks actors earlier silent f h = refl
none-breaks actors earlier begins_phase f h = some-none earlier h
none-breaks actors earlier (begins_batch actor) f h = own-breaks actor (is_some (open_behind actor earlier)) (h actor (record { least = f.0; most = f.1 }))
none-breaks actors earlier (ends_batch actor) f h = own-breaks actor (is_endless (open_behind actor earlier)) (h actor (record { least = f.0; most = f.1 }))
none-breaks actors earlier (asks actor asked) f h = asked-breaks actor asked earlier (h actor (record { least = f.0.0; most = f.0.1 }))

phases-left : (earlier : List Line) (line : Line) (lines : List Line) → phase_behind earlier + count_by is_phase (line ∷ lines) ≤ phase_limit
    → (breaks_phases earlier line ≡ false) × (phase_behind (line ∷ earlier) + count_by is_phase lines ≤ phase_limit)
phases-left earlier silent lines few =
    let same : count_by is_phase (silent ∷ lines) ≡ 0 + count_by is_phase lines = count-more silent lines in
    (refl, omega (arith, few, same))
phases-left earlier begins_phase lines few =
    let more : count_by is_phase (begins_phase ∷ lines) ≡ 1 + count_by is_phase lines = count-more begins_phase lines in
    (ne_eqb (phase_behind earlier) 64 (λ e. omega (arith, few, more, e)), omega (arith, few, more))
phases-left earlier (begins_batch actor) lines few =
    let same : count_by is_phase (begins_batch actor ∷ lines) ≡ 0 + count_by is_phase lines = count-more (begins_batch actor) lines in
    (refl, omega (arith, few, same))
phases-left earlier (ends_batch actor) lines few =
    let same : count_by is_phase (ends_batch actor ∷ lines) ≡ 0 + count_by is_phase lines = count-more (ends_batch actor) lines in
    (refl, omega (arith, few, same))
phases-left earlier (asks actor asked) lines few =
    let same : count_by is_phase (asks actor asked ∷ lines) ≡ 0 + count_by is_phase lines = count-more (asks actor asked) lines in
    (refl, omega (arith, few, same))

-- lines that fit, with these in front, are read
lines-read : (actors : ℕ) (earlier lines : List Line) (texts : List (List ℕ)) → AllByRecursion (FitsLine actors) lines → AllZip HasLine lines texts
    → phase_behind earlier + count_by is_phase lines ≤ phase_limit → ((actor : ℕ) → IsActor actor → Runs actor (open_behind actor earlier) lines)
    → lines_behind actors earlier texts ≡ Ok lines
lines-read actors earlier [] [] f h few runs =
    ap (λ b. cond {A = Result (List Line) Stop} b (Err (length earlier, refusal.Batch)) (Ok [])) (some-none earlier (λ actor a. ap is_some (runs actor a)))
lines-read actors earlier [] (text ∷ texts) f h few runs = absurd h
lines-read actors earlier (line ∷ lines) [] f h few runs = absurd h
lines-read actors earlier (line ∷ lines) (text ∷ texts) f h few runs =
    let left = phases-left earlier line lines few in
    let stands = standing-ok earlier line left.0 (none-breaks actors earlier line f.0 (λ actor a. (runs actor a).0)) in
    let next : Line → Result (List Line) Stop = λ l. lines_behind actors (l ∷ earlier) texts in
    ap (λ (r : Result Line ScriptRefusal). then_lines (number_behind earlier) next (r >>= standing earlier)) (line-read actors line text f.0 h.0)
    ∙ ap (then_lines (number_behind earlier) next) stands
    ∙ ap (with_line line) (lines-read actors (line ∷ earlier) lines texts f.1 h.1 left.1 (λ actor a. (runs actor a).1))

-- lines that are spelled have their words
lines-words : (actors : ℕ) (lines : List Line) (texts : List (List ℕ)) → AllByRecursion (FitsLine actors) lines → AllZip SpellsLine lines texts → AllZip HasLine lines texts
lines-words actors [] [] f h = tt
lines-words actors [] (text ∷ texts) f h = absurd h
lines-words actors (line ∷ lines) [] f h = absurd h
lines-words actors (line ∷ lines) (text ∷ texts) f h = (line-found actors line text f.0 h.0, lines-words actors lines texts f.1 h.1)

pub every : (actors : ℕ) (lines : List Line) (bytes : List ℕ) → SpellsScript actors lines bytes → script_of actors bytes ≡ Ok (steps_of lines)
every actors lines bytes s =
    let found : lines_of bytes ≡ s.texts = lines-found s.texts bytes s.parts in
    let spelled : AllZip HasLine lines (lines_of bytes) = subst (AllZip HasLine lines) (sym found) (lines-words actors lines s.texts s.fits.each s.spelled) in
    let long = zip-length HasLine lines (lines_of bytes) spelled in
    let short : is_too_long bytes ≡ false =
    ap (λ b. b || nat_lt line_limit (length (lines_of bytes))) (le-ltb byte_limit (length bytes) s.short)
    ∙ le-ltb line_limit (length (lines_of bytes)) (omega (arith, long, s.fits.few)) in
    ap (λ b. cond b (Err (0, refusal.TooLong)) (told (lines_behind actors [] (lines_of bytes)))) short
    ∙ ap told (lines-read actors [] lines (lines_of bytes) s.fits.each spelled (omega (arith, s.fits.phases)) (λ actor a. parts-are actor lines (s.fits.batches actor a.least a.most)))

-- the plain spelling of lines is a script of them
pub plain-script : (actors : ℕ) (lines : List Line) → FitsScript actors lines → length (plain_script lines) ≤ byte_limit → SpellsScript actors lines (plain_script lines)
plain-script actors lines f short = record {
  texts = map plain_line lines;
  parts = subst (λ ts. AreLines ts (plain_script lines)) (lines-again actors lines f.each) (lines-there (plain_script lines));
  spelled = lines-spelled actors lines f.each;
  fits = f;
  short = short;
}

pub plain : (actors : ℕ) (lines : List Line) → FitsScript actors lines → length (plain_script lines) ≤ byte_limit → script_of actors (plain_script lines) ≡ Ok (steps_of lines)
plain actors lines f short = every actors lines (plain_script lines) (plain-script actors lines f short)

-- texts are spelled as one list of lines alone
same-lines : (actors : ℕ) (lines others : List Line) (texts : List (List ℕ)) → AllByRecursion (FitsLine actors) lines → AllByRecursion (FitsLine actors) others
    → AllZip SpellsLine lines texts → AllZip SpellsLine others texts → lines ≡ others
same-lines actors [] [] texts f g h k = refl
same-lines actors [] (other ∷ others) [] f g h k = absurd k
same-lines actors [] (other ∷ others) (text ∷ texts) f g h k = absurd h
same-lines actors (line ∷ lines) [] [] f g h k = absurd h
same-lines actors (line ∷ lines) [] (text ∷ texts) f g h k = absurd k
same-lines actors (line ∷ lines) (other ∷ others) [] f g h k = absurd h
same-lines actors (line ∷ lines) (other ∷ others) (text ∷ texts) f g h k =
    let a : line_in actors text ≡ Ok line = line-read actors line text f.0 (line-found actors line text f.0 h.0) in
    let b : line_in actors text ≡ Ok other = line-read actors other text g.0 (line-found actors other text g.0 k.0) in
    let both : ◌≡◌ {A = Result Line ScriptRefusal} (Ok line) (Ok other) = sym a ∙ b in
    let same : line ≡ other = cc both in
    ap (λ l. l ∷ lines) same ∙ ap (λ ls. other ∷ ls) (same-lines actors lines others texts f.1 g.1 h.1 k.1)

pub one : (actors : ℕ) (lines others : List Line) (bytes : List ℕ) → SpellsScript actors lines bytes → SpellsScript actors others bytes → lines ≡ others
one actors lines others bytes s r =
    let same : r.texts ≡ s.texts = sym (lines-found r.texts bytes r.parts) ∙ lines-found s.texts bytes s.parts in
    same-lines actors lines others s.texts s.fits.each r.fits.each s.spelled (subst (AllZip SpellsLine others) same r.spelled)
