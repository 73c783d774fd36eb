-- A line that is spelled says what it spells.
use Rattle.std.proofs.Common.{◌≡◌, ℕ, ℤ, pos, ◌≤◌, Bool, true, false, cond, ◌||◌, true≢false, List, [], ◌∷◌, length, Option, Some, None, Result, Ok, refl, sym, ap, ◌∙◌, eqb-true}
use Rattle.std.specs.Prelude.{◌==◌, codes, option_map}
use Rattle.std.proofs.lemmas.Bool.{le-leb}
use Rattle.viz_kinds.specs.Values.{is_text}
use Rattle.viz_words.specs.declared.refusal.ScriptRefusal.{ScriptRefusal}
use Rattle.viz_words.specs.declared.refusal.ScriptRefusal.TheVariants as refusal
use Rattle.viz_words.specs.declared.command.Command.{Command}
use Rattle.viz_words.specs.declared.command.Command.TheVariants as command
use Rattle.viz_words.specs.declared.command.Verb.{Verb}
use Rattle.viz_words.specs.declared.command.Verb.TheVariants as verb
use Rattle.viz_words.specs.Tables.{command_word}
use Rattle.viz_words.specs.Gives.{◌>>=◌, guard}
use Rattle.viz_words.specs.Lines.{in_front, is_plain}
use Rattle.viz_words.specs.Words.{is_gap, begins_word, words_of, begins_hash, is_empty, is_skipped}
use Rattle.viz_words.specs.Numbers.{within, number_of}
use Rattle.viz_words.specs.Commands.{verb_of, due}
use Rattle.viz_script.specs.Orders.{Asked}
use Rattle.viz_script.specs.Lines.{Line, silent, begins_phase, begins_batch, ends_batch, asks, is_actor, alone, command_in, actor_in, number_in_front, words_in, line_in}
use Rattle.viz_journal.proofs.OnlyLemmas.{same-text}
use Rattle.viz_script_law.specs.Tokens.{Token, number, first_token, command_tokens}
use Rattle.viz_script_law.specs.Fits.{IsActorOf, FitsLine}
use Rattle.viz_script_law.proofs.Words.{Spelled, HasWords, HasLine, first-exact, first-number, no-more}
use Rattle.viz_script_law.proofs.CommandRead.{command-says}

-- the first word begins with the first byte of a line that begins with a word
first-byte : (b : ℕ) (t : Bool) (parts : List (List ℕ)) (word : List ℕ) (words : List (List ℕ)) → cond t (in_front b parts) ((b ∷ []) ∷ parts) ≡ word ∷ words
    → begins_hash word ≡ (b == 35)
first-byte b true [] word words h = let e : b ∷ [] ≡ word = cc h in ap begins_hash (sym e)
first-byte b true (part ∷ parts) word words h = let e : b ∷ part ≡ word = cc h in ap begins_hash (sym e)
first-byte b false parts word words h = let e : b ∷ [] ≡ word = cc h in ap begins_hash (sym e)

-- a comment has a first word that begins with #
hash-word : (text word : List ℕ) (words : List (List ℕ)) → begins_hash text ≡ true → words_of text ≡ word ∷ words → begins_hash word ≡ true
hash-word [] word words h e = absurd (true≢false (sym h))
hash-word (b ∷ bs) word words h e =
    let gap : is_gap b ≡ false = ap is_gap (eqb-true b 35 h) in
    let found : cond (begins_word bs) (in_front b (words_of bs)) ((b ∷ []) ∷ words_of bs) ≡ word ∷ words =
    ap (λ x. cond x (words_of bs) (cond (begins_word bs) (in_front b (words_of bs)) ((b ∷ []) ∷ words_of bs))) (sym gap) ∙ e in
    first-byte b (begins_word bs) (words_of bs) word words found ∙ h

either-none : {A : Type 0} (t : Bool) → cond {A = Option A} t None None ≡ None
either-none true = refl
either-none false = refl

-- a number doesn't begin with #
pub number-hash : (word : List ℕ) (n : ℤ) → number_of word ≡ Some n → begins_hash word ≡ false
number-hash [] n h = refl
number-hash (b ∷ bs) n h = by (b == 35) refl
  where
    none : number_of (35 ∷ bs) ≡ None
    none = ap (λ o. within (option_map (λ n. pos n) o)) (either-none {A = ℕ} (length (35 ∷ bs) == 0))

    by : (t : Bool) → (b == 35) ≡ t → t ≡ false
    by false e = refl
    by true e =
        let same : b ≡ 35 = eqb-true b 35 e in
        let bad : Some n ≡ None = sym h ∙ ap (λ c. number_of (c ∷ bs)) same ∙ none in
        let worse : ⊥ = cc bad in absurd worse

-- a line whose first word doesn't begin with # isn't skipped
stands : (text word : List ℕ) (words : List (List ℕ)) → words_of text ≡ word ∷ words → begins_hash word ≡ false → is_skipped text ≡ false
stands text word words e h = by (begins_hash text) refl
  where
    by : (t : Bool) → begins_hash text ≡ t → is_skipped text ≡ false
    by true f = absurd (true≢false (sym (hash-word text word words f e) ∙ h))
    by false f = ap (λ x. x || is_empty (words_of text)) f ∙ ap is_empty e

-- a line with a word says what its words say
words-read : (actors : ℕ) (text word : List ℕ) (words : List (List ℕ)) → is_plain text ≡ true → words_of text ≡ word ∷ words → begins_hash word ≡ false
    → line_in actors text ≡ words_in actors (word ∷ words)
words-read actors text word words plain e h =
    ap (λ b. cond b (Ok silent) (guard (is_plain text) refusal.Word >>= λ p. words_in actors (words_of text))) (stands text word words e h)
    ∙ ap (λ b. guard b refusal.Word >>= λ p. words_in actors (words_of text)) plain ∙ ap (words_in actors) e

-- a number isn't the word phase
not-phase : (word : List ℕ) (n : ℤ) → number_of word ≡ Some n → is_text word (codes "phase") ≡ false
not-phase word n h = by (is_text word (codes "phase")) refl
  where
    by : (t : Bool) → is_text word (codes "phase") ≡ t → t ≡ false
    by false e = refl
    by true e =
        let bad : Some n ≡ None = sym h ∙ ap number_of (same-text word (codes "phase") e) in
        let worse : ⊥ = cc bad in absurd worse

actor-known : (actor actors : ℕ) → 1 ≤ actor → actor ≤ 8 → actor ≤ actors → is_actor (pos actor) actors ≡ true
actor-known actor actors low high there = rw (le-leb 1 actor low, le-leb actor 8 high, le-leb actor actors there) refl

-- the words behind an actor are read
actor-read : (actor actors : ℕ) (words : List (List ℕ)) (line : Line) (which : Verb) (word : List ℕ) (tail : List (List ℕ)) → IsActorOf actors actor
    → words ≡ word ∷ tail → verb_of words ≡ Ok which → command_in actor which tail ≡ Ok line → actor_in (pos actor) actors words ≡ Ok line
actor-read actor actors words line which word tail a are known told =
    let behind : Verb → List (List ℕ) → Result Line ScriptRefusal = λ v ws. due ws >>= λ rest. command_in actor v rest.1 in
    ap (λ (r : Result Verb ScriptRefusal). r >>= λ v. guard (is_actor (pos actor) actors) refusal.ActorRange >>= λ in_range. behind v words) known
    ∙ ap (λ b. guard b refusal.ActorRange >>= λ in_range. behind which words) (actor-known actor actors a.0 a.1 a.2) ∙ ap (behind which) are ∙ told

-- a line of an actor says what the words behind it do
behind-read : (actor actors : ℕ) (line : Line) (tokens : List Token) (text : List ℕ) → HasWords (number (pos actor) ∷ tokens) text
    → ((words : List (List ℕ)) → Spelled tokens words → actor_in (pos actor) actors words ≡ Ok line) → line_in actors text ≡ Ok line
behind-read actor actors line tokens text h read =
    let first = first-number (pos actor) tokens (words_of text) h.1 in
    let word = first.0 in
    let words = first.1 in
    words-read actors text word words h.0 first.2 (number-hash word (pos actor) first.3)
    ∙ ap (λ b. cond b (alone begins_phase words) (number_in_front (number_of word) actors words)) (not-phase word (pos actor) first.3)
    ∙ ap (λ o. number_in_front o actors words) first.3 ∙ read words first.4

-- the one word behind an actor
mark-read : (actor actors : ℕ) (line : Line) (c : Command) (which : Verb) → IsActorOf actors actor → verb_of (command_word c ∷ []) ≡ Ok which → command_in actor which [] ≡ Ok line
    → (words : List (List ℕ)) → Spelled (first_token c ∷ []) words → actor_in (pos actor) actors words ≡ Ok line
mark-read actor actors line c which a known told words h =
    let first = first-exact (command_word c) [] words h in
    let are : words ≡ command_word c ∷ [] = first.1 ∙ ap (λ l. command_word c ∷ l) (no-more first.0 first.2) in
    actor-read actor actors words line which (command_word c) [] a are (ap verb_of are ∙ known) told

-- a line that is spelled says what it spells
pub line-read : (actors : ℕ) (line : Line) (text : List ℕ) → FitsLine actors line → HasLine line text → line_in actors text ≡ Ok line
line-read actors silent text f h = ap (λ b. cond b (Ok silent) (guard (is_plain text) refusal.Word >>= λ p. words_in actors (words_of text))) h
line-read actors begins_phase text f h =
    let first = first-exact (codes "phase") [] (words_of text) h.1 in
    let are : words_of text ≡ codes "phase" ∷ [] = first.1 ∙ ap (λ l. codes "phase" ∷ l) (no-more first.0 first.2) in
    words-read actors text (codes "phase") [] h.0 are refl
line-read actors (begins_batch actor) text f h =
    behind-read actor actors (begins_batch actor) (first_token command.Begin ∷ []) text h (mark-read actor actors (begins_batch actor) command.Begin verb.Begin f refl refl)
line-read actors (ends_batch actor) text f h =
    behind-read actor actors (ends_batch actor) (first_token command.End ∷ []) text h (mark-read actor actors (ends_batch actor) command.End verb.End f refl refl)
line-read actors (asks actor asked) text f h =
    behind-read actor actors (asks actor asked) (command_tokens asked) text h (λ words spelled.
    let s = command-says asked words f.1 spelled in
    actor-read actor actors words (asks actor asked) s.which s.word s.tail f.0 s.are s.known
    (s.plain actor ∙ ap (λ (r : Result Asked ScriptRefusal). r >>= λ order. Ok (asks actor order)) s.told))
