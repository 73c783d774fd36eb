-- The plain spelling of a line spells it, and the lines of a text of plain lines are found again.
use Rattle.std.proofs.Common.{◌≡◌, ℕ, ℤ, pos, Bool, true, false, cond, ◌&&◌, true≢false, List, [], ◌∷◌, ◌++◌, map, take, append_assoc, refl, sym, ap, ◌∙◌, eqb-true, arith}
use Rattle.std.specs.Prelude.{◌==◌}
use Rattle.std.specs.List.{AllZip, AllByRecursion}
use Rattle.std.specs.Fmt.{signed_decimal}
use Rattle.viz_kinds.specs.declared.param.Value.{Value}
use Rattle.viz_kinds.specs.declared.param.Value.TheVariants.{Numbers, Text}
use Rattle.viz_network.specs.declared.edit.Edit.{Edit}
use Rattle.viz_network.specs.declared.edit.Edit.TheVariants as change
use Rattle.viz_words.specs.declared.command.Command.TheVariants as command
use Rattle.viz_words.specs.Lines.{begins_newline, in_front, lines_of, is_plain_byte, is_plain}
use Rattle.viz_words.specs.Words.{words_of, spaced}
use Rattle.viz_words.specs.Tables.{command_word, param_word}
use Rattle.viz_script.specs.Lines.{Line, silent, begins_phase, begins_batch, ends_batch, asks}
use Rattle.viz_journal.specs.Journal.{value_words, edit_words}
use Rattle.viz_journal.proofs.SolidLemmas.{and-parts, Solid, solid-number, number-signed, words-again, plain-again}
use Rattle.viz_script_law.specs.Tokens.{Token, exact, number, value_tokens, edit_tokens, first_token, command_tokens, plain_word, plain_line, plain_script}
use Rattle.viz_script_law.specs.Spelling.{SpellsToken, SpellsLine}
use Rattle.viz_script_law.specs.Fits.{FitsLineEdit, FitsLine}
use Rattle.viz_script_law.proofs.Words.{Spelled, HasWords, HasLine}
use Rattle.viz_script_law.proofs.SpellingLemmas.{line-spells}
use Rattle.viz_script_law.proofs.FitLemmas.{Fit, natural-fit, command-fit, asked-fit}

word-solid : (w : Token) → Fit w → Solid (plain_word w)
word-solid (exact word) f = f
word-solid (number n) f = solid-number n f

words-solid : (ws : List Token) → AllByRecursion Fit ws → AllByRecursion Solid (map plain_word ws)
words-solid [] f = tt
words-solid (w ∷ ws) f = (word-solid w f.0, words-solid ws f.1)

word-spelled : (w : Token) → Fit w → SpellsToken w (plain_word w)
word-spelled (exact word) f = refl
word-spelled (number n) f = number-signed n f

words-spelled : (ws : List Token) → AllByRecursion Fit ws → Spelled ws (map plain_word ws)
words-spelled [] f = tt
words-spelled (w ∷ ws) f = (word-spelled w f.0, words-spelled ws f.1)

-- ---- lines

-- the plain spelling of an actor and words behind it
tokens-spelled : (actor : ℕ) (tokens : List Token) → Fit (number (pos actor)) → AllByRecursion Fit tokens
    → HasWords (number (pos actor) ∷ tokens) (spaced (map plain_word (number (pos actor) ∷ tokens)))
    × (is_plain (spaced (map plain_word (number (pos actor) ∷ tokens))) ≡ true)
tokens-spelled actor tokens fit fits =
    let solid = word-solid (number (pos actor)) fit in
    let solids = words-solid tokens fits in
    let plain = plain-again (signed_decimal (pos actor)) (map plain_word tokens) solid solids in
    let are : words_of (spaced (map plain_word (number (pos actor) ∷ tokens))) ≡ signed_decimal (pos actor) ∷ map plain_word tokens =
    words-again (signed_decimal (pos actor)) (map plain_word tokens) solid solids in
    ((plain, rw are (word-spelled (number (pos actor)) fit, words-spelled tokens fits)), plain)

-- the plain spelling of a line spells it, with bytes that may stand in a script
line-spelled : (actors : ℕ) (line : Line) → FitsLine actors line → HasLine line (plain_line line) × (is_plain (plain_line line) ≡ true)
line-spelled actors silent f = (refl, refl)
line-spelled actors begins_phase f = ((refl, (refl, tt)), refl)
line-spelled actors (begins_batch actor) f = tokens-spelled actor (first_token command.Begin ∷ []) (natural-fit actor (omega (arith, f.1))) (command-fit command.Begin, tt)
line-spelled actors (ends_batch actor) f = tokens-spelled actor (first_token command.End ∷ []) (natural-fit actor (omega (arith, f.1))) (command-fit command.End, tt)
line-spelled actors (asks actor asked) f = tokens-spelled actor (command_tokens asked) (natural-fit actor (omega (arith, f.0.1))) (asked-fit asked f.1)

pub plain-spells : (actors : ℕ) (line : Line) → FitsLine actors line → SpellsLine line (plain_line line)
plain-spells actors line f = line-spells line (plain_line line) (line-spelled actors line f).0

plain-byte : (b c : ℕ) → is_plain_byte b ≡ true → is_plain_byte c ≡ false → (b == c) ≡ false
plain-byte b c h bad = by (b == c) refl
  where
    by : (t : Bool) → (b == c) ≡ t → t ≡ false
    by false e = refl
    by true e = absurd (true≢false (sym h ∙ ap is_plain_byte (eqb-true b c e) ∙ bad))

-- a line of such bytes is found in front
line-front : (text rest : List ℕ) → is_plain text ≡ true → lines_of (text ++ 10 ∷ rest) ≡ text ∷ lines_of rest
line-front [] rest h = refl
line-front (b ∷ bs) rest h =
    let parts = and-parts (is_plain_byte b) (is_plain bs) h in
    let more = bs ++ 10 ∷ rest in
    ap (λ x. cond x ([] ∷ lines_of more) (cond (b == 13 && begins_newline more) (lines_of more) (in_front b (lines_of more)))) (plain-byte b 10 parts.0 refl)
    ∙ ap (λ x. cond (x && begins_newline more) (lines_of more) (in_front b (lines_of more))) (plain-byte b 13 parts.0 refl) ∙ ap (in_front b) (line-front bs rest parts.1)

-- the lines of a text of plain lines
pub lines-again : (actors : ℕ) (lines : List Line) → AllByRecursion (FitsLine actors) lines → lines_of (plain_script lines) ≡ map plain_line lines
lines-again actors [] f = refl
lines-again actors (line ∷ lines) f =
    let rest = plain_script lines in
    ap lines_of (append_assoc (plain_line line) (10 ∷ []) rest) ∙ line-front (plain_line line) rest (line-spelled actors line f.0).1
    ∙ ap (λ l. plain_line line ∷ l) (lines-again actors lines f.1)

pub lines-spelled : (actors : ℕ) (lines : List Line) → AllByRecursion (FitsLine actors) lines → AllZip SpellsLine lines (map plain_line lines)
lines-spelled actors [] f = tt
lines-spelled actors (line ∷ lines) f = (plain-spells actors line f.0, lines-spelled actors lines f.1)

-- ---- edits

numbers-plain : (ns : List ℤ) → map plain_word (map number ns) ≡ map signed_decimal ns
numbers-plain [] = refl
numbers-plain (n ∷ ns) = ap (λ l. signed_decimal n ∷ l) (numbers-plain ns)

value-plain : (value : Value) → map plain_word (value_tokens value) ≡ value_words value
value-plain (Numbers count items) = numbers-plain (take count items)
value-plain (Text text) = refl

-- an edit is spelled as in a journal
pub edit-plain : (e : Edit) → FitsLineEdit e → map plain_word (edit_tokens e) ≡ edit_words e
edit-plain (change.Add kind node) f = refl
edit-plain (change.Remove node) f = refl
edit-plain (change.Connect from to port) f = refl
edit-plain (change.Disconnect to port) f = refl
edit-plain (change.Set node param value) f = ap (λ l. command_word command.Set ∷ node ∷ param_word param ∷ l) (value-plain value)
edit-plain (change.Load node file) f = absurd f
