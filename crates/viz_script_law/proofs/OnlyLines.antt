-- What is read as the steps of a script is a script of lines that say these steps.
use Rattle.std.proofs.Common.{◌≡◌, ℕ, ℤ, pos, negsuc, ◌+◌, ◌≤◌, Bool, true, false, cond, ◌&&◌, ◌||◌, nat_le, true≢false, List, [], ◌∷◌, length, Option, Some, None, Result, Ok, Err, refl, sym, ap, ◌∙◌, subst, eqb-true, arith}
use Rattle.std.specs.Prelude.{IsErr, ◌==◌, is_some, codes, nat_lt, unsigned_abs, count_by}
use Rattle.std.specs.List.{AllZip, AllByRecursion}
use Rattle.std.proofs.lemmas.Bool.{leb-true, ltb-false, eqb-false}
use Rattle.viz_kinds.specs.Values.{is_text}
use Rattle.viz_network.specs.declared.edit.Edit.{Edit}
use Rattle.viz_words.specs.declared.refusal.ScriptRefusal.TheVariants as refusal
use Rattle.viz_words.specs.declared.command.Command.{Command}
use Rattle.viz_words.specs.declared.command.Command.TheVariants as command
use Rattle.viz_words.specs.declared.command.Verb.{Verb}
use Rattle.viz_words.specs.declared.command.Verb.TheVariants as verb
use Rattle.viz_words.specs.Tables.{command_word}
use Rattle.viz_words.specs.Gives.{◌>>=◌, guard}
use Rattle.viz_words.specs.Lines.{lines_of, is_plain}
use Rattle.viz_words.specs.Words.{words_of, begins_hash, is_empty, is_skipped}
use Rattle.viz_words.specs.Numbers.{number_of}
use Rattle.viz_words.specs.Commands.{verb_of, due}
use Rattle.viz_words.proofs.NumberLemmas.{due-is}
use Rattle.viz_script.specs.Orders.{Asked, edit, edits, load, update, audit, order_in}
use Rattle.viz_script.specs.Lines.{Line, silent, begins_phase, begins_batch, ends_batch, asks, is_actor, alone, command_in, actor_in, number_in_front, words_in, line_in}
use Rattle.viz_script.specs.Batches.{phase_limit, phase_behind, open_behind, is_open, is_endless, is_full, breaks_phases, breaks_batch}
use Rattle.viz_script.specs.Script.{Stepped, Stop, byte_limit, line_limit, lines_behind, steps_of, script_of}
use Rattle.viz_script.specs.Steps.Heard.{IsActor}
use Rattle.viz_script.proofs.LineLemmas.{lines-are, none-left, script-is}
use Rattle.viz_script.proofs.BatchLemmas.{none-open}
use Rattle.viz_journal.proofs.OnlyLemmas.{same-text}
use Rattle.viz_journal.proofs.SolidLemmas.{and-parts}
use Rattle.viz_script_law.specs.Tokens.{Token, exact, number, first_token, command_tokens}
use Rattle.viz_script_law.specs.Spelling.{SpellsLine}
use Rattle.viz_script_law.specs.Fits.{IsActorOf, FitsLine, is_phase, FitsScript}
use Rattle.viz_script_law.specs.Script.{SpellsScript}
use Rattle.viz_script_law.proofs.Words.{Spelled, HasWords, HasLine, zip-length}
use Rattle.viz_script_law.proofs.SpellingLemmas.{line-spells}
use Rattle.viz_script_law.proofs.LinesLemmas.{lines-there}
use Rattle.viz_script_law.proofs.ScriptRead.{count-more}
use Rattle.viz_script_law.proofs.OnlyParts.{bind-ok, guarded}
use Rattle.viz_script_law.proofs.OnlyCommands.{IsVerb, verb-is, order-is}
use Rattle.viz_script_law.proofs.PartLemmas.{breaks, Runs, run-is}

-- ---- one line

-- the line is spelled, and so many actors may serve it
abbrev pub IsLine : ℕ → Line → List ℕ → Type 0
IsLine actors line text = HasLine line text × FitsLine actors line

actor-is : (z : ℤ) (actors : ℕ) → is_actor z actors ≡ true → (z ≡ pos (unsigned_abs z)) × (1 ≤ unsigned_abs z) × (unsigned_abs z ≤ 8) × (unsigned_abs z ≤ actors)
actor-is (pos n) actors h =
    let two = and-parts (nat_le 1 n && nat_le n 8) (nat_le n actors) h in
    let one = and-parts (nat_le 1 n) (nat_le n 8) two.0 in
    (refl, leb-true 1 n one.0, leb-true n 8 one.1, leb-true n actors two.1)
actor-is (negsuc n) actors h = absurd (true≢false (sym h))

-- a line of an actor, whose words behind the number are these
record IsBehind (actors actor : ℕ) (words : List (List ℕ)) (line : Line) : Type 0 where
  pub tokens : List Token
  pub has : (text : List ℕ) → HasWords (number (pos actor) ∷ tokens) text → HasLine line text
  pub spelled : Spelled tokens words
  pub fits : IsActorOf actors actor → FitsLine actors line

-- the one word behind an actor
mark-line : (actors actor : ℕ) (mark : Line) (c : Command) (word : List ℕ) (tail : List (List ℕ)) (line : Line) → word ≡ command_word c
    → alone mark tail ≡ Ok line → ((text : List ℕ) → HasWords (number (pos actor) ∷ first_token c ∷ []) text → HasLine mark text)
    → (IsActorOf actors actor → FitsLine actors mark) → IsBehind actors actor (word ∷ tail) line
mark-line actors actor mark c word [] line is h has fits =
    let same : mark ≡ line = cc h in
    subst (IsBehind actors actor (word ∷ [])) same (record { tokens = first_token c ∷ []; has = has; spelled = (is, tt); fits = fits })
mark-line actors actor mark c word (w ∷ tail) line is h has fits = let bad : ⊥ = cc h in absurd bad

-- a command behind an actor
asked-line : (actors actor : ℕ) (v : Verb) (word : List ℕ) (tail : List (List ℕ)) (line : Line) → IsVerb v word tail
    → (order_in v tail >>= λ order. Ok (asks actor order)) ≡ Ok line → IsBehind actors actor (word ∷ tail) line
asked-line actors actor v word tail line is h =
    let o = bind-ok (order_in v tail) (λ order. Ok (asks actor order)) line h in
    let tells = order-is v word tail o.0 is o.1 in
    let same : asks actor o.0 ≡ line = cc o.2 in
    subst (IsBehind actors actor (word ∷ tail)) same (record { tokens = command_tokens o.0; has = λ text w. w; spelled = tells.0; fits = λ a. (a, tells.1) })

command-line : (actors actor : ℕ) (v : Verb) (word : List ℕ) (tail : List (List ℕ)) (line : Line) → IsVerb v word tail → command_in actor v tail ≡ Ok line
    → IsBehind actors actor (word ∷ tail) line
command-line actors actor verb.Begin word tail line is h = mark-line actors actor (begins_batch actor) command.Begin word tail line is h (λ text w. w) (λ a. a)
command-line actors actor verb.End word tail line is h = mark-line actors actor (ends_batch actor) command.End word tail line is h (λ text w. w) (λ a. a)
command-line actors actor v word tail line is h = asked-line actors actor v word tail line is h

-- the words behind an actor
actor-line : (actors : ℕ) (z : ℤ) (words : List (List ℕ)) (line : Line) → actor_in z actors words ≡ Ok line
    → (is_actor z actors ≡ true) × IsBehind actors (unsigned_abs z) words line
actor-line actors z words line h =
    let a = bind-ok (verb_of words) (λ verb. guard (is_actor z actors) refusal.ActorRange >>= λ in_range.
    due words >>= λ rest. command_in (unsigned_abs z) verb rest.1) line h in
    let g = guarded (is_actor z actors) refusal.ActorRange (due words >>= λ rest. command_in (unsigned_abs z) a.0 rest.1) line a.2 in
    let d = bind-ok (due words) (λ rest. command_in (unsigned_abs z) a.0 rest.1) line g.1 in
    let are : words ≡ d.0.0 ∷ d.0.1 = due-is words d.0 d.1 in
    let known : verb_of (d.0.0 ∷ d.0.1) ≡ Ok a.0 = sym (ap verb_of are) ∙ a.1 in
    (g.0, subst (λ ws. IsBehind actors (unsigned_abs z) ws line) (sym are) (command-line actors (unsigned_abs z) a.0 d.0.0 d.0.1 line (verb-is d.0.0 d.0.1 a.0 known) d.2))

-- a line with a word
words-line : (actors : ℕ) (text word : List ℕ) (words : List (List ℕ)) (line : Line) → is_plain text ≡ true → words_of text ≡ word ∷ words
    → words_in actors (word ∷ words) ≡ Ok line → IsLine actors line text
words-line actors text word words line plain are h = by (is_text word (codes "phase")) refl h
  where
    phase : (ws : List (List ℕ)) → words ≡ ws → word ≡ codes "phase" → alone begins_phase ws ≡ Ok line → IsLine actors line text
    phase [] none is g =
        let same : begins_phase ≡ line = cc g in
        let whole : words_of text ≡ codes "phase" ∷ [] = are ∙ ap (λ w. w ∷ words) is ∙ ap (λ l. codes "phase" ∷ l) none in
        let spelled : Spelled (exact (codes "phase") ∷ []) (words_of text) = subst (Spelled (exact (codes "phase") ∷ [])) (sym whole) (refl, tt) in
        subst (λ l. IsLine actors l text) same ((plain, spelled), tt)
    phase (w ∷ ws) none is g = let bad : ⊥ = cc g in absurd bad

    actor : (o : Option ℤ) → number_of word ≡ o → number_in_front o actors words ≡ Ok line → IsLine actors line text
    actor None e g = let bad : ⊥ = cc g in absurd bad
    actor (Some z) e g =
        let a = actor-line actors z words line g in
        let is = actor-is z actors a.0 in
        let read : number_of word ≡ Some (pos (unsigned_abs z)) = e ∙ ap (λ (n : ℤ). Some n) is.0 in
        let all = number (pos (unsigned_abs z)) ∷ a.1.tokens in
        let spelled : Spelled all (words_of text) = subst (Spelled all) (sym are) (read, a.1.spelled) in
        (a.1.has text (plain, spelled), a.1.fits (is.1, is.2, is.3))

    by : (t : Bool) → is_text word (codes "phase") ≡ t → cond t (alone begins_phase words) (number_in_front (number_of word) actors words) ≡ Ok line → IsLine actors line text
    by true e g = phase words refl (same-text word (codes "phase") e) g
    by false e g = actor (number_of word) refl g

hash-or : (t : Bool) → (t || true) ≡ true
hash-or true = refl
hash-or false = refl

pub line-is : (actors : ℕ) (text : List ℕ) (line : Line) → line_in actors text ≡ Ok line → IsLine actors line text
line-is actors text line h = by (is_skipped text) refl h
  where
    words : (ws : List (List ℕ)) → words_of text ≡ ws → is_skipped text ≡ false → is_plain text ≡ true → words_in actors ws ≡ Ok line → IsLine actors line text
    words [] e stands plain g =
        let skipped : is_skipped text ≡ true = ap (λ l. begins_hash text || is_empty l) e ∙ hash-or (begins_hash text) in
        absurd (true≢false (sym skipped ∙ stands))
    words (word ∷ ws) e stands plain g = words-line actors text word ws line plain e g

    by : (t : Bool) → is_skipped text ≡ t → cond t (Ok silent) (guard (is_plain text) refusal.Word >>= λ plain. words_in actors (words_of text)) ≡ Ok line → IsLine actors line text
    by true e g = let same : silent ≡ line = cc g in subst (λ l. IsLine actors l text) same (e, tt)
    by false e g =
        let p = guarded (is_plain text) refusal.Word (words_in actors (words_of text)) line g in
        words (words_of text) refl e p.0 p.1

-- ---- all lines

or-false : (t u : Bool) → (t || u) ≡ false → (t ≡ false) × (u ≡ false)
or-false true u h = absurd (true≢false h)
or-false false u h = (refl, h)

-- a line that was read breaks no actor's batch
rests : (actor : ℕ) (t u : Bool) → (t ≡ true → u ≡ false) → (t && u) ≡ false
rests actor true u h = h refl
rests actor false u h = refl

asked-rests : (actor a : ℕ) (asked : Asked) (earlier : List Line) → breaks_batch earlier (asks a asked) ≡ false → breaks actor (open_behind actor earlier) (asks a asked) ≡ false
asked-rests actor a (edit e) earlier h = rests actor (a == actor) (is_full (open_behind actor earlier)) (λ s. ap (λ n. is_full (open_behind n earlier)) (sym (eqb-true a actor s)) ∙ h)
asked-rests actor a (edits es) earlier h = rests actor (a == actor) (is_open actor earlier) (λ s. ap (λ n. is_open n earlier) (sym (eqb-true a actor s)) ∙ h)
asked-rests actor a (load node file) earlier h = rests actor (a == actor) (is_open actor earlier) (λ s. ap (λ n. is_open n earlier) (sym (eqb-true a actor s)) ∙ h)
asked-rests actor a (update node file pieces workers) earlier h =
    rests actor (a == actor) (is_open actor earlier) (λ s. ap (λ n. is_open n earlier) (sym (eqb-true a actor s)) ∙ h)
asked-rests actor a (audit node pieces workers) earlier h = rests actor (a == actor) (is_open actor earlier) (λ s. ap (λ n. is_open n earlier) (sym (eqb-true a actor s)) ∙ h)

line-rests : (actor : ℕ) (line : Line) (earlier : List Line) → IsActor actor → breaks_batch earlier line ≡ false → breaks actor (open_behind actor earlier) line ≡ false
line-rests actor silent earlier a h = refl
line-rests actor begins_phase earlier a h = none-open earlier actor a h
line-rests actor (begins_batch b) earlier a h = rests actor (b == actor) (is_open actor earlier) (λ s. ap (λ n. is_open n earlier) (sym (eqb-true b actor s)) ∙ h)
line-rests actor (ends_batch b) earlier a h =
    rests actor (b == actor) (is_endless (open_behind actor earlier)) (λ s. ap (λ n. is_endless (open_behind n earlier)) (sym (eqb-true b actor s)) ∙ h)
line-rests actor (asks b asked) earlier a h = asked-rests actor b asked earlier h

closed : (now : Option (List Edit)) → is_some now ≡ false → now ≡ None
closed None h = refl
closed (Some es) h = absurd (true≢false h)

-- a phase more, where the line begins one
phases-more : (earlier : List Line) (line : Line) (lines : List Line) → phase_behind earlier ≤ phase_limit → breaks_phases earlier line ≡ false
    → (phase_behind (line ∷ earlier) + count_by is_phase lines ≤ phase_limit → phase_behind earlier + count_by is_phase (line ∷ lines) ≤ phase_limit)
    × (phase_behind (line ∷ earlier) ≤ phase_limit)
phases-more earlier silent lines few h =
    let same : count_by is_phase (silent ∷ lines) ≡ 0 + count_by is_phase lines = count-more silent lines in
    (λ l. omega (arith, l, same), few)
phases-more earlier begins_phase lines few h =
    let more : count_by is_phase (begins_phase ∷ lines) ≡ 1 + count_by is_phase lines = count-more begins_phase lines in
    let apart = eqb-false (phase_behind earlier) 64 h in
    (λ l. omega (arith, l, more), omega (arith, few, apart))
phases-more earlier (begins_batch actor) lines few h =
    let same : count_by is_phase (begins_batch actor ∷ lines) ≡ 0 + count_by is_phase lines = count-more (begins_batch actor) lines in
    (λ l. omega (arith, l, same), few)
phases-more earlier (ends_batch actor) lines few h =
    let same : count_by is_phase (ends_batch actor ∷ lines) ≡ 0 + count_by is_phase lines = count-more (ends_batch actor) lines in
    (λ l. omega (arith, l, same), few)
phases-more earlier (asks actor asked) lines few h =
    let same : count_by is_phase (asks actor asked ∷ lines) ≡ 0 + count_by is_phase lines = count-more (asks actor asked) lines in
    (λ l. omega (arith, l, same), few)

-- lines that were read, with these in front, are spelled, and fit
record AreLinesOf (actors : ℕ) (earlier : List Line) (texts : List (List ℕ)) (lines : List Line) : Type 0 where
  pub spelled : AllZip HasLine lines texts
  pub fits : AllByRecursion (FitsLine actors) lines
  pub phases : phase_behind earlier + count_by is_phase lines ≤ phase_limit
  pub runs : (actor : ℕ) → IsActor actor → Runs actor (open_behind actor earlier) lines

all-lines : (actors : ℕ) (earlier : List Line) (texts : List (List ℕ)) (lines : List Line) → phase_behind earlier ≤ phase_limit → lines_behind actors earlier texts ≡ Ok lines
    → AreLinesOf actors earlier texts lines
all-lines actors earlier [] lines few h =
    let none = none-left actors earlier lines h in
    subst (AreLinesOf actors earlier []) (sym none.1) (record {
      spelled = tt;
      fits = tt;
      phases = omega (arith, few);
      runs = λ actor a. closed (open_behind actor earlier) (none-open earlier actor a none.0);
    })
all-lines actors earlier (text ∷ texts) lines few h =
    let r = lines-are actors earlier text texts lines h in
    let is = line-is actors text r.line r.first in
    let more = phases-more earlier r.line r.later few r.stands.phases in
    let rest = all-lines actors (r.line ∷ earlier) texts r.later more.1 r.rest in
    subst (AreLinesOf actors earlier (text ∷ texts)) (sym r.are) (record {
      spelled = (is.0, rest.spelled);
      fits = (is.1, rest.fits);
      phases = more.0 rest.phases;
      runs = λ actor a. (line-rests actor r.line earlier a r.stands.batch, rest.runs actor a);
    })

-- lines with their words are spelled
lines-spell : (lines : List Line) (texts : List (List ℕ)) → AllZip HasLine lines texts → AllZip SpellsLine lines texts
lines-spell [] [] h = tt
lines-spell [] (text ∷ texts) h = absurd h
lines-spell (line ∷ lines) [] h = absurd h
lines-spell (line ∷ lines) (text ∷ texts) h = (line-spells line text h.0, lines-spell lines texts h.1)

pub only : (actors : ℕ) (bytes : List ℕ) (steps : List Stepped) → script_of actors bytes ≡ Ok steps
    → (lines : List Line) × SpellsScript actors lines bytes × (steps ≡ steps_of lines)
only actors bytes steps h =
    let told = script-is actors bytes steps h in
    let lines = told.lines in
    let r = all-lines actors [] (lines_of bytes) lines (omega arith) told.read in
    let long = zip-length HasLine lines (lines_of bytes) r.spelled in
    let bounds = or-false (nat_lt byte_limit (length bytes)) (nat_lt line_limit (length (lines_of bytes))) told.short in
    let few = ltb-false line_limit (length (lines_of bytes)) bounds.1 in
    let fits : FitsScript actors lines = record {
      few = omega (arith, long, few);
      phases = omega (arith, r.phases);
      each = r.fits;
      batches = λ actor low high. run-is actor lines (r.runs actor (record { least = low; most = high }));
    } in
    let script : SpellsScript actors lines bytes = record {
      texts = lines_of bytes;
      parts = lines-there bytes;
      spelled = lines-spell lines (lines_of bytes) r.spelled;
      fits = fits;
      short = ltb-false byte_limit (length bytes) bounds.0;
    } in
    (lines, script, told.same)

pub refused : (actors : ℕ) (bytes : List ℕ) → ((lines : List Line) → ¬ SpellsScript actors lines bytes) → IsErr (script_of actors bytes)
refused actors bytes none = by (script_of actors bytes) refl
  where
    by : (r : Result (List Stepped) Stop) → script_of actors bytes ≡ r → IsErr r
    by (Err stop) e = refl
    by (Ok steps) e = let o = only actors bytes steps e in absurd (none o.0 o.1)
