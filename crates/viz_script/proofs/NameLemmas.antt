-- What a script names as a file is the name of one.
use Rattle.std.proofs.Common.{◌≡◌, ℕ, ℤ, Bool, true, false, cond, List, [], ◌∷◌, ◌++◌, map, length, codes, refl}
use Rattle.std.specs.Prelude.{Option, None, Some, Result, Ok, Err, IfOk, if◌then◌else◌, unsigned_abs}
use Rattle.std.specs.List.{AllByRecursion}
use Rattle.std.proofs.lemmas.Result.{IfOk-at_ok}
use Rattle.viz_kinds.specs.Values.{is_text}
use Rattle.viz_words.specs.declared.command.Verb.{Verb}
use Rattle.viz_words.specs.declared.command.Verb.TheVariants as verb
use Rattle.viz_words.specs.declared.refusal.ScriptRefusal.{ScriptRefusal}
use Rattle.viz_words.specs.declared.refusal.ScriptRefusal.TheVariants as refusal
use Rattle.viz_words.specs.Commands.{two, three, four, verb_of, due}
use Rattle.viz_words.specs.Edits.{edit_in}
use Rattle.viz_words.specs.Gives.{◌>>=◌, guard}
use Rattle.viz_words.specs.Lines.{is_plain}
use Rattle.viz_words.specs.Names.{is_node_name, is_file_name, named_in}
use Rattle.viz_words.specs.Numbers.{number_of, natural_in}
use Rattle.viz_words.specs.Words.{words_of, is_skipped}
use Rattle.viz_script.specs.declared.order.Step.{Step}
use Rattle.viz_script.specs.Orders.{Asked, edit, edits, load, update, audit, seen, load_in, update_in, audit_in, order_in, NamesFile}
use Rattle.viz_script.specs.Lines.{Line, silent, begins_phase, begins_batch, ends_batch, asks, is_actor, alone, command_in, actor_in, number_in_front, words_in, line_in}
use Rattle.viz_script.specs.Batches.{phase_behind, breaks_phases, breaks_batch, is_open, some_open, standing}
use Rattle.viz_script.specs.Script.{Stepped, stepped, Stop, with_line, then_lines, number_behind, lines_behind, batch_in, step_of, steps_behind, steps_of, told}

-- ---- steps one behind the other

pick-has : {A E : Type 0} (test : Bool) (P : A → Type 0) (a b : Result A E) → IfOk a P → IfOk b P → IfOk (if test then a else b) P
pick-has true P a b x y = x
pick-has false P a b x y = y

then-has : {A B : Type 0} (Q : A → Type 0) (P : B → Type 0) (r : Result A ScriptRefusal) (f : A → Result B ScriptRefusal)
    → IfOk r Q → ((x : A) → Q x → IfOk (f x) P) → IfOk (r >>= f) P
then-has Q P (Ok x) f q h = h x q
then-has Q P (Err e) f q h = tt

bind-has : {A B : Type 0} (P : B → Type 0) (r : Result A ScriptRefusal) (f : A → Result B ScriptRefusal)
    → ((x : A) → IfOk (f x) P) → IfOk (r >>= f) P
bind-has P (Ok x) f h = h x
bind-has P (Err e) f h = tt

named-has : (test : List ℕ → Bool) (word : List ℕ) → IfOk (named_in test word) (λ name. test name ≡ true)
named-has test word = by (test word) refl
  where
    by : (t : Bool) → test word ≡ t → IfOk (if t then Ok word else Err refusal.Name) (λ name. test name ≡ true)
    by true e = e
    by false e = tt

-- ---- a command

load-names : (words : List (List ℕ)) → IfOk (load_in words) NamesFile
unfolding load_in
load-names words = bind-has NamesFile (two words) _ (λ w. bind-has NamesFile (named_in is_node_name w.0) _ (λ node.
    then-has (λ name. is_file_name name ≡ true) NamesFile (named_in is_file_name w.1) _ (named-has is_file_name w.1) (λ file h. h)))

update-names : (words : List (List ℕ)) → IfOk (update_in words) NamesFile
unfolding update_in
update-names words = bind-has NamesFile (four words) _ (λ w. bind-has NamesFile (named_in is_node_name w.0) _ (λ node.
    then-has (λ name. is_file_name name ≡ true) NamesFile (named_in is_file_name w.1) _ (named-has is_file_name w.1) (λ file h.
    bind-has NamesFile (natural_in 1 64 w.2) _ (λ pieces. bind-has NamesFile (natural_in 1 64 w.3) _ (λ workers. h)))))

audit-names : (words : List (List ℕ)) → IfOk (audit_in words) NamesFile
unfolding audit_in
audit-names words = bind-has NamesFile (three words) _ (λ w. bind-has NamesFile (named_in is_node_name w.0) _ (λ node.
    bind-has NamesFile (natural_in 1 64 w.1) _ (λ pieces. bind-has NamesFile (natural_in 1 64 w.2) _ (λ workers. tt))))

order-names : (v : Verb) (words : List (List ℕ)) → IfOk (order_in v words) NamesFile
order-names verb.Load words = load-names words
order-names verb.Update words = update-names words
order-names verb.Audit words = audit-names words
order-names v words = bind-has NamesFile (edit_in v words) (λ e. Ok (edit e)) (λ e. tt)

-- ---- a line

abbrev LineNames : Line → Type 0
LineNames (asks actor asked) = NamesFile asked
LineNames _ = Unit {0}

alone-names : (line : Line) (words : List (List ℕ)) → LineNames line → IfOk (alone line words) LineNames
alone-names line [] h = h
alone-names line (word ∷ words) h = tt

command-names : (actor : ℕ) (v : Verb) (words : List (List ℕ)) → IfOk (command_in actor v words) LineNames
command-names actor verb.Begin words = alone-names (begins_batch actor) words tt
command-names actor verb.End words = alone-names (ends_batch actor) words tt
command-names actor v words = then-has NamesFile LineNames (order_in v words) (λ order. Ok (asks actor order)) (order-names v words) (λ order h. h)

actor-names : (actor : ℤ) (actors : ℕ) (words : List (List ℕ)) → IfOk (actor_in actor actors words) LineNames
actor-names actor actors words = bind-has LineNames (verb_of words) _ (λ verb.
    bind-has LineNames (guard (is_actor actor actors) refusal.ActorRange) _ (λ _. bind-has LineNames (due words) _ (λ rest.
    command-names (unsigned_abs actor) verb rest.1)))

number-names : (number : Option ℤ) (actors : ℕ) (words : List (List ℕ)) → IfOk (number_in_front number actors words) LineNames
number-names None actors words = tt
number-names (Some actor) actors words = actor-names actor actors words

words-names : (actors : ℕ) (words : List (List ℕ)) → IfOk (words_in actors words) LineNames
words-names actors [] = tt
words-names actors (word ∷ words) = pick-has (is_text word (codes "phase")) LineNames _ _ (alone-names begins_phase words tt)
    (number-names (number_of word) actors words)

line-names : (actors : ℕ) (line : List ℕ) → IfOk (line_in actors line) LineNames
line-names actors line = pick-has (is_skipped line) LineNames _ _ tt
    (bind-has LineNames (guard (is_plain line) refusal.Word) _ (λ _. words-names actors (words_of line)))

standing-names : (earlier : List Line) (line : Line) → LineNames line → IfOk (standing earlier line) LineNames
standing-names earlier line h = pick-has (breaks_phases earlier line) LineNames (Err refusal.Phase) _ tt (pick-has (breaks_batch earlier line) LineNames (Err refusal.Batch) (Ok line) tt h)

-- ---- all lines

abbrev AllLines : List Line → Type 0
AllLines = AllByRecursion LineNames

with-names : (line : Line) (r : Result (List Line) Stop) → LineNames line → IfOk r AllLines → IfOk (with_line line r) AllLines
with-names line (Ok lines) h all = (h, all)
with-names line (Err stop) h all = tt

then-names : (number : ℕ) (next : Line → Result (List Line) Stop) (r : Result Line ScriptRefusal) → IfOk r LineNames → ((line : Line) → IfOk (next line) AllLines)
    → IfOk (then_lines number next r) AllLines
then-names number next (Ok line) h all = with-names line (next line) h (all line)
then-names number next (Err e) h all = tt

lines-names : (actors : ℕ) (earlier : List Line) (texts : List (List ℕ)) → IfOk (lines_behind actors earlier texts) AllLines
lines-names actors earlier [] = pick-has (some_open earlier) AllLines (Err (length earlier, refusal.Batch)) (Ok []) tt tt
lines-names actors earlier (text ∷ texts) =
    then-names (number_behind earlier) (λ line. lines_behind actors (line ∷ earlier) texts) (line_in actors text >>= standing earlier)
    (then-has LineNames LineNames (line_in actors text) (standing earlier) (line-names actors text) (standing-names earlier))
    (λ line. lines-names actors (line ∷ earlier) texts)

-- ---- their steps

abbrev AllSteps : List Stepped → Type 0
AllSteps = AllByRecursion (λ step. NamesFile step.asked)

join-names : (front behind : List Stepped) → AllSteps front → AllSteps behind → AllSteps (front ++ behind)
join-names [] behind f b = b
join-names (step ∷ front) behind f b = (f.0, join-names front behind f.1 b)

step-names : (earlier : List Line) (line : Line) (later : List Line) → LineNames line → AllSteps (step_of earlier line later)
step-names earlier silent later h = tt
step-names earlier begins_phase later h = tt
step-names earlier (begins_batch actor) later h = (tt, tt)
step-names earlier (ends_batch actor) later h = tt
step-names earlier (asks actor asked) later h = by (is_open actor earlier)
  where
    by : (t : Bool) → AllSteps (cond t [] (record { phase = phase_behind earlier; actor = actor; line = number_behind earlier; asked = asked } ∷ []))
    by true = tt
    by false = (h, tt)

steps-names : (earlier lines : List Line) → AllLines lines → AllSteps (steps_behind earlier lines)
steps-names earlier [] h = tt
steps-names earlier (line ∷ later) h =
    join-names (step_of earlier line later) (steps_behind (line ∷ earlier) later) (step-names earlier line later h.0) (steps-names (line ∷ earlier) later h.1)

told-names : (r : Result (List Line) Stop) → IfOk r AllLines → IfOk (told r) AllSteps
told-names (Ok lines) h = steps-names [] lines h
told-names (Err stop) h = tt

seen-names : (steps : List Step) → AllSteps (map stepped steps) → AllByRecursion (λ step. NamesFile (seen step.order)) steps
seen-names [] h = tt
seen-names (step ∷ steps) h = (h.0, seen-names steps h.1)

-- each command of what was read names a file by a file's name
pub read_names : (actors : ℕ) (texts : List (List ℕ)) (steps : List Step)
    → told (lines_behind actors [] texts) ≡ Ok (map stepped steps) → AllByRecursion (λ step. NamesFile (seen step.order)) steps
read_names actors texts steps read =
    seen-names steps (IfOk-at_ok AllSteps read (told-names (lines_behind actors [] texts) (lines-names actors [] texts)))
