-- A line that is written says what it was written of.
use Rattle.std.proofs.Common.{◌≡◌, ℕ, ℤ, pos, ◌^◌, ◌<◌, ◌≤◌, true, false, cond, ◌&&◌, nat_le, List, [], ◌∷◌, ◌++◌, length, append_assoc, flat_map, Option, Result, Ok, refl, sym, ap, ◌∙◌, arith}
use Rattle.std.specs.Prelude.{codes, ok_or}
use Rattle.std.specs.List.{list_all, AllByRecursion}
use Rattle.std.specs.Fmt.{decimal}
use Rattle.std.proofs.lemmas.Bool.{leb-true, ne_eqb}
use Rattle.std.proofs.lemmas.List.{append-nil}
use Rattle.viz_lex.specs.Numbers.{is_digit}
use Rattle.viz_lex.proofs.NumberLemmas.{IsWritten-decimal}
use Rattle.viz_kinds.specs.declared.kind.Kind.{Kind}
use Rattle.viz_kinds.specs.declared.param.Param.{Param}
use Rattle.viz_kinds.specs.declared.param.Value.{Value}
use Rattle.viz_kinds.specs.Values.{is_text, is_value, numbers_of}
use Rattle.viz_network.specs.declared.edit.Edit.{Edit}
use Rattle.viz_network.specs.declared.edit.Edit.TheVariants as edit
use Rattle.viz_words.specs.declared.refusal.ScriptRefusal.{ScriptRefusal}
use Rattle.viz_words.specs.declared.refusal.ScriptRefusal.TheVariants as refusal
use Rattle.viz_words.specs.declared.command.Command.TheVariants as command
use Rattle.viz_words.specs.declared.command.Verb.{Verb}
use Rattle.viz_words.specs.declared.command.Verb.TheVariants as verb
use Rattle.viz_words.specs.Gives.{◌>>=◌, guard}
use Rattle.viz_words.specs.Lines.{is_plain}
use Rattle.viz_words.specs.Words.{words_of, behind_space, spaced}
use Rattle.viz_words.specs.Numbers.{number_in, natural_in}
use Rattle.viz_words.specs.Names.{is_node_name, named_in}
use Rattle.viz_words.specs.Tables.{command_word, kind_word, param_word}
use Rattle.viz_words.specs.Commands.{kind_verb, param_verb, verb_of, due, one, two, three, fits_count, value_in, set_in}
use Rattle.viz_words.specs.Edits.{add_in, remove_in, connect_in, disconnect_in, value_set_in}
use Rattle.viz_journal.specs.declared.draft.Draft.{Draft}
use Rattle.viz_journal.specs.declared.draft.Draft.TheVariants as draft
use Rattle.viz_journal.specs.declared.line.Told.{Told}
use Rattle.viz_journal.specs.declared.line.Head.{Head}
use Rattle.viz_journal.specs.declared.line.Line.{Line}
use Rattle.viz_journal.specs.declared.line.Line.TheVariants as line
use Rattle.viz_journal.specs.declared.version.Version.{Version}
use Rattle.viz_journal.specs.declared.version.Version.TheVariants as version
use Rattle.viz_journal.specs.Journal.{value_words, edit_words, edit_line, batch_line, lead, last_line}
use Rattle.viz_journal.specs.Lines.{greatest, journal_verb, load_draft, draft_in, commanded, draft_words, draft_of, told_in, head_in, last_in, entry_in, words_in, line_in}
use Rattle.viz_journal.specs.Fits.{FitsEdit}
use Rattle.viz_journal.proofs.SolidLemmas.{and-parts, Solid, solid-node, solid-array, solid-decimal, words-again, plain-again, number-decimal, natural-again}
use Rattle.viz_journal.proofs.AgainLemmas.{named-again, param-again, kind-solid, param-solid, value-again}

-- the command of an edit, and what a line tells of it
abbrev pub verb_for : Edit → Verb
verb_for (edit.Add kind node) = verb.Add kind
verb_for (edit.Remove node) = verb.Remove
verb_for (edit.Connect from to port) = verb.Connect
verb_for (edit.Disconnect to port) = verb.Disconnect
verb_for (edit.Set node param value) = verb.Set param
verb_for (edit.Load node file) = verb.Load

abbrev pub draft_for : Edit → Draft
draft_for (edit.Add kind node) = draft.Edit (edit.Add kind node)
draft_for (edit.Remove node) = draft.Edit (edit.Remove node)
draft_for (edit.Connect from to port) = draft.Edit (edit.Connect from to port)
draft_for (edit.Disconnect to port) = draft.Edit (edit.Disconnect to port)
draft_for (edit.Set node param value) = draft.Edit (edit.Set node param value)
draft_for (edit.Load node file) = draft.Load node (pos (length file))

abbrev pub told_for : ℕ → ℕ → Edit → Told
told_for actor count e = record { actor = actor; count = count; draft = draft_for e }

-- the words behind the command
abbrev tail_words : Edit → List (List ℕ)
tail_words (edit.Add kind node) = kind_word kind ∷ node ∷ []
tail_words (edit.Remove node) = node ∷ []
tail_words (edit.Connect from to port) = from ∷ to ∷ decimal port ∷ []
tail_words (edit.Disconnect to port) = to ∷ decimal port ∷ []
tail_words (edit.Set node param value) = node ∷ param_word param ∷ value_words value
tail_words (edit.Load node file) = node ∷ decimal (length file) ∷ []

abbrev head_word : Edit → List ℕ
head_word (edit.Add kind node) = command_word command.Add
head_word (edit.Remove node) = command_word command.Remove
head_word (edit.Connect from to port) = command_word command.Connect
head_word (edit.Disconnect to port) = command_word command.Disconnect
head_word (edit.Set node param value) = command_word command.Set
head_word (edit.Load node file) = command_word command.Load

words-are : (e : Edit) → edit_words e ≡ head_word e ∷ tail_words e
words-are (edit.Add kind node) = refl
words-are (edit.Remove node) = refl
words-are (edit.Connect from to port) = refl
words-are (edit.Disconnect to port) = refl
words-are (edit.Set node param value) = refl
words-are (edit.Load node file) = refl

-- the value of a set is one that its parameter may have
abbrev pub HasValue : Edit → Type 0
HasValue (edit.Set node param value) = is_value param value ≡ true
HasValue _ = Unit {0}

head-solid : (e : Edit) → Solid (head_word e)
head-solid (edit.Add kind node) = solid-array _ refl
head-solid (edit.Remove node) = solid-array _ refl
head-solid (edit.Connect from to port) = solid-array _ refl
head-solid (edit.Disconnect to port) = solid-array _ refl
head-solid (edit.Set node param value) = solid-array _ refl
head-solid (edit.Load node file) = solid-array _ refl

tail-solid : (e : Edit) → FitsEdit e → HasValue e → AllByRecursion Solid (tail_words e)
tail-solid (edit.Add kind node) f v = (kind-solid kind, (solid-node node f.1, tt))
tail-solid (edit.Remove node) f v = (solid-node node f, tt)
tail-solid (edit.Connect from to port) f v = (solid-node from f.0, (solid-node to f.1, (solid-decimal port (omega (arith, f.2)), tt)))
tail-solid (edit.Disconnect to port) f v = (solid-node to f.0, (solid-decimal port (omega (arith, f.1)), tt))
tail-solid (edit.Set node param value) f v = (solid-node node f.0, (param-solid param, (value-again param value v f.1).2))
tail-solid (edit.Load node file) f v = (solid-node node f.0, (solid-decimal (length file) (omega (arith, f.1)), tt))

verb-again : (e : Edit) → FitsEdit e → verb_of (edit_words e) ≡ Ok (verb_for e)
verb-again (edit.Add kind node) f = ap kind_verb f.0
verb-again (edit.Remove node) f = refl
verb-again (edit.Connect from to port) f = refl
verb-again (edit.Disconnect to port) f = refl
verb-again (edit.Set node param value) f = ap param_verb (param-again param)
verb-again (edit.Load node file) f = refl

verb-stands : (e : Edit) → journal_verb (verb_for e) ≡ Ok (verb_for e)
verb-stands (edit.Add kind node) = refl
verb-stands (edit.Remove node) = refl
verb-stands (edit.Connect from to port) = refl
verb-stands (edit.Disconnect to port) = refl
verb-stands (edit.Set node param value) = refl
verb-stands (edit.Load node file) = refl

add-again : (kind : Kind) (word node : List ℕ) → is_node_name node ≡ true → add_in kind (word ∷ node ∷ []) ≡ Ok (edit.Add kind node)
unfolding add_in two one
add-again kind word node h = ap (λ (r : Result (List ℕ) ScriptRefusal). r >>= λ n. Ok (edit.Add kind n)) (named-again is_node_name node h)

remove-again : (node : List ℕ) → is_node_name node ≡ true → remove_in (node ∷ []) ≡ Ok (edit.Remove node)
unfolding remove_in one
remove-again node h = ap (λ (r : Result (List ℕ) ScriptRefusal). r >>= λ n. Ok (edit.Remove n)) (named-again is_node_name node h)

connect-again : (from to : List ℕ) (port : ℕ) → is_node_name from ≡ true → is_node_name to ≡ true → port < 256 → connect_in (from ∷ to ∷ decimal port ∷ []) ≡ Ok (edit.Connect from to port)
unfolding connect_in three two one
connect-again from to port f t small =
    ap (λ (r : Result (List ℕ) ScriptRefusal). r >>= λ a. named_in is_node_name to >>= λ b. natural_in 0 255 (decimal port) >>= λ p. Ok (edit.Connect a b p)) (named-again is_node_name from f)
    ∙ ap (λ (r : Result (List ℕ) ScriptRefusal). r >>= λ b. natural_in 0 255 (decimal port) >>= λ p. Ok (edit.Connect from b p)) (named-again is_node_name to t)
    ∙ ap (λ (r : Result ℕ ScriptRefusal). r >>= λ p. Ok (edit.Connect from to p)) (natural-again 0 255 port (omega arith) (omega (arith, small)) (omega arith))

disconnect-again : (to : List ℕ) (port : ℕ) → is_node_name to ≡ true → port < 256 → disconnect_in (to ∷ decimal port ∷ []) ≡ Ok (edit.Disconnect to port)
unfolding disconnect_in two one
disconnect-again to port t small =
    ap (λ (r : Result (List ℕ) ScriptRefusal). r >>= λ b. natural_in 0 255 (decimal port) >>= λ p. Ok (edit.Disconnect b p)) (named-again is_node_name to t)
    ∙ ap (λ (r : Result ℕ ScriptRefusal). r >>= λ p. Ok (edit.Disconnect to p)) (natural-again 0 255 port (omega arith) (omega (arith, small)) (omega arith))

set-again : (param : Param) (node word : List ℕ) (words : List (List ℕ)) (value : Value) → is_node_name node ≡ true → fits_count (numbers_of param) (length words) ≡ true
    → value_in param (numbers_of param) words ≡ Ok value → value_set_in param (node ∷ word ∷ words) ≡ Ok (edit.Set node param value)
unfolding value_set_in set_in
set-again param node word words value h counted read =
    let pair : List ℕ → Value → Result (List ℕ × Value) ScriptRefusal = λ n v. Ok (n, v) in
    let done : List ℕ × Value → Result Edit ScriptRefusal = λ s. Ok (edit.Set s.0 param s.1) in
    let valued : List ℕ → Result (List ℕ × Value) ScriptRefusal = λ n. value_in param (numbers_of param) words >>= pair n in
    let named : Unit {0} → Result (List ℕ × Value) ScriptRefusal = λ c. named_in is_node_name node >>= valued in
    ap (λ b. (guard b refusal.Arity >>= named) >>= done) counted
    ∙ ap (λ (r : Result (List ℕ) ScriptRefusal). (r >>= valued) >>= done) (named-again is_node_name node h)
    ∙ ap (λ (r : Result Value ScriptRefusal). (r >>= pair node) >>= done) read

load-again : (node : List ℕ) (n : ℕ) → is_node_name node ≡ true → n < 2 ^ 63 → load_draft (node ∷ decimal n ∷ []) ≡ Ok (draft.Load node (pos n))
unfolding load_draft two one
load-again node n h small =
    ap (λ (r : Result (List ℕ) ScriptRefusal). r >>= λ a. number_in (decimal n) >>= λ len. Ok (draft.Load a len)) (named-again is_node_name node h)
    ∙ ap (λ (o : Option ℤ). ok_or o refusal.Number >>= λ len. Ok (draft.Load node len)) (number-decimal n small)

draft-again : (e : Edit) → FitsEdit e → HasValue e → draft_in (verb_for e) (tail_words e) ≡ Ok (draft_for e)
draft-again (edit.Add kind node) f v = ap (λ (r : Result Edit ScriptRefusal). r >>= λ e. Ok (draft.Edit e)) (add-again kind (kind_word kind) node f.1)
draft-again (edit.Remove node) f v = ap (λ (r : Result Edit ScriptRefusal). r >>= λ e. Ok (draft.Edit e)) (remove-again node f)
draft-again (edit.Connect from to port) f v = ap (λ (r : Result Edit ScriptRefusal). r >>= λ e. Ok (draft.Edit e)) (connect-again from to port f.0 f.1 f.2)
draft-again (edit.Disconnect to port) f v = ap (λ (r : Result Edit ScriptRefusal). r >>= λ e. Ok (draft.Edit e)) (disconnect-again to port f.0 f.1)
draft-again (edit.Set node param value) f v =
    let a = value-again param value v f.1 in
    ap (λ (r : Result Edit ScriptRefusal). r >>= λ e. Ok (draft.Edit e)) (set-again param node (param_word param) (value_words value) value f.0 a.0 a.1)
draft-again (edit.Load node file) f v = load-again node (length file) f.0 f.1

-- the words of an edit
words-solid : (e : Edit) → FitsEdit e → HasValue e → AllByRecursion Solid (head_word e ∷ tail_words e)
words-solid e f v = (head-solid e, tail-solid e f v)

commanded-again : (e : Edit) → FitsEdit e → HasValue e → commanded (head_word e) (tail_words e) ≡ Ok (draft_for e)
unfolding commanded
commanded-again e f v =
    let next : Verb → Result Draft ScriptRefusal = λ known. draft_in known (tail_words e) in
    ap (λ (r : Result Verb ScriptRefusal). r >>= λ any. journal_verb any >>= next) (ap verb_of (sym (words-are e)) ∙ verb-again e f)
    ∙ ap (λ (r : Result Verb ScriptRefusal). r >>= next) (verb-stands e)
    ∙ draft-again e f v

-- the line of an edit of a batch tells it
pub edit-again : (e : Edit) → FitsEdit e → HasValue e → (is_plain (edit_line e) ≡ true) × (draft_of (edit_line e) ≡ Ok (draft_for e))
edit-again e f v =
    let head = head_word e in
    let tail = tail_words e in
    let same : edit_line e ≡ spaced (head ∷ tail) = ap spaced (words-are e) in
    let plain : is_plain (edit_line e) ≡ true = ap is_plain same ∙ plain-again head tail (head-solid e) (tail-solid e f v) in (
      plain,
      ap (λ t. guard t refusal.Word >>= λ p. draft_words (words_of (edit_line e))) plain
          ∙ ap (λ l. draft_words (words_of l)) same
          ∙ ap draft_words (words-again head tail (head-solid e) (tail-solid e f v))
          ∙ commanded-again e f v,
    )

-- the words of an entry of version 1 tell it
told-words : (a c : ℕ) (words tail : List (List ℕ)) (head : List ℕ) (v : Verb) (d : Draft) → words ≡ head ∷ tail → verb_of words ≡ Ok v → journal_verb v ≡ Ok v
    → draft_in v tail ≡ Ok d → a < 2 ^ 32 → c < 2 ^ 32 → told_in (decimal a) (decimal c ∷ words) ≡ Ok (record { actor = a; count = c; draft = d })
unfolding told_in
told-words a c words tail head v d are verb_ok stands drafted small_a small_c =
    let s7 : Draft → ℕ → Result Told ScriptRefusal = λ drafted count. natural_in 0 greatest (decimal a) >>= λ actor. Ok (record { actor = actor; count = count; draft = drafted }) in
    let s6 : Draft → Result Told ScriptRefusal = λ drafted. natural_in 0 greatest (decimal c) >>= λ count. s7 drafted count in
    let s5 : Verb → List (List ℕ) → Result Told ScriptRefusal = λ known ws. due ws >>= λ command. draft_in known command.1 >>= s6 in
    let s3 : Verb → Result Told ScriptRefusal = λ known. s5 known words in
    let s2 : Verb → Result Told ScriptRefusal = λ any. journal_verb any >>= s3 in
    ap (λ (o : Option ℤ). ok_or o refusal.Word >>= λ number. verb_of words >>= s2) (number-decimal a (omega (arith, small_a)))
    ∙ ap (λ (r : Result Verb ScriptRefusal). r >>= s2) verb_ok
    ∙ ap (λ (r : Result Verb ScriptRefusal). r >>= s3) stands
    ∙ ap (s5 v) are
    ∙ ap (λ (r : Result Draft ScriptRefusal). r >>= s6) drafted
    ∙ ap (λ (r : Result ℕ ScriptRefusal). r >>= s7 d) (natural-again 0 greatest c (omega arith) (omega (arith, small_c)) (omega arith))
    ∙ ap (λ (r : Result ℕ ScriptRefusal). r >>= λ actor. Ok (record { actor = actor; count = c; draft = d })) (natural-again 0 greatest a (omega arith) (omega (arith, small_a)) (omega arith))

-- digits aren't the word of the last line
not-end : (ds : List ℕ) → 0 < length ds → list_all is_digit ds ≡ true → is_text ds (codes "end") ≡ false
not-end [] some digits = absurd (omega arith)
not-end (b ∷ bs) some digits =
    let digit = and-parts (nat_le 48 b) (nat_le b 57) (and-parts (is_digit b) (list_all is_digit bs) digits).0 in
    let high : b ≤ 57 = leb-true b 57 digit.1 in
    ap (λ x. x && is_text bs (codes "nd")) (ne_eqb b 101 (λ e. omega arith))

-- an edit's line behind an actor and a count
lead-spaced : (a c : ℕ) (words tail : List (List ℕ)) (head : List ℕ) → words ≡ head ∷ tail → lead a c ++ spaced words ≡ spaced (decimal a ∷ decimal c ∷ head ∷ tail)
lead-spaced a c words tail head are =
    let x = decimal a in
    let y = decimal c in
    let z = head ++ flat_map behind_space tail in
    ap (λ ws. lead a c ++ spaced ws) are ∙ append_assoc (x ++ 32 ∷ (y ++ [])) (32 ∷ []) z ∙ ap (λ l. (x ++ 32 ∷ l) ++ 32 ∷ z) (append-nil y) ∙ append_assoc x (32 ∷ y) (32 ∷ z)

-- a line of words that begins with a number tells an entry
entry-line : (v : Version) (text : List ℕ) (a : ℕ) (words : List (List ℕ)) (l : Line) → text ≡ spaced (decimal a ∷ words) → a < 2 ^ 32 → AllByRecursion Solid words
    → entry_in v (decimal a) words ≡ Ok l → (is_plain text ≡ true) × (line_in v text ≡ Ok l)
entry-line v text a words l same small solid says =
    let solid_a = solid-decimal a (omega (arith, small)) in
    let written = IsWritten-decimal a (omega (arith, small)) in
    let plain : is_plain text ≡ true = ap is_plain same ∙ plain-again (decimal a) words solid_a solid in (
      plain,
      ap (λ t. guard t refusal.Word >>= λ p. words_in v (words_of text)) plain
          ∙ ap (λ t. words_in v (words_of t)) same
          ∙ ap (words_in v) (words-again (decimal a) words solid_a solid)
          ∙ ap (λ t. cond t (last_in words) (entry_in v (decimal a) words)) (not-end (decimal a) written.some written.digits)
          ∙ says,
    )

-- the line of an entry of version 1 tells it
pub single-again : (a c : ℕ) (e : Edit) → a < 2 ^ 32 → c < 2 ^ 32 → FitsEdit e → HasValue e
    → (is_plain (lead a c ++ edit_line e) ≡ true) × (line_in version.One (lead a c ++ edit_line e) ≡ Ok (line.Single (told_for a c e)))
single-again a c e small_a small_c fits valued =
    let words = head_word e ∷ tail_words e in
    let told = told-words a c words (tail_words e) (head_word e) (verb_for e) (draft_for e) refl (ap verb_of (sym (words-are e)) ∙ verb-again e fits) (verb-stands e)
    (draft-again e fits valued) small_a small_c in
    entry-line version.One (lead a c ++ edit_line e) a (decimal c ∷ words) (line.Single (told_for a c e)) (lead-spaced a c (edit_words e) (tail_words e) (head_word e) (words-are e)) small_a
    (solid-decimal c (omega (arith, small_c)), words-solid e fits valued) (ap (λ (r : Result Told ScriptRefusal). r >>= λ t. Ok (line.Single t)) told)

abbrev pub head_for : ℕ → ℕ → ℕ → Head
head_for actor count edits = record { actor = actor; count = count; edits = edits }

head-words : (a c n : ℕ) → a < 2 ^ 32 → c < 2 ^ 32 → 1 ≤ n → n ≤ 64 → head_in (decimal a) (decimal c ∷ decimal n ∷ []) ≡ Ok (head_for a c n)
unfolding head_in two one
head-words a c n small_a small_c some few =
    let s3 : ℕ → ℕ → Result Head ScriptRefusal = λ count edits. natural_in 0 greatest (decimal a) >>= λ actor. Ok (head_for actor count edits) in
    let s2 : ℕ → Result Head ScriptRefusal = λ count. natural_in 1 64 (decimal n) >>= s3 count in
    let s1 : Result Head ScriptRefusal = natural_in 0 greatest (decimal c) >>= s2 in
    ap (λ (o : Option ℤ). ok_or o refusal.Word >>= λ number. s1) (number-decimal a (omega (arith, small_a)))
    ∙ ap (λ (r : Result ℕ ScriptRefusal). r >>= s2) (natural-again 0 greatest c (omega arith) (omega (arith, small_c)) (omega arith))
    ∙ ap (λ (r : Result ℕ ScriptRefusal). r >>= s3 c) (natural-again 1 64 n some few (omega arith))
    ∙ ap (λ (r : Result ℕ ScriptRefusal). r >>= λ actor. Ok (head_for actor c n)) (natural-again 0 greatest a (omega arith) (omega (arith, small_a)) (omega arith))

-- the line in front of a batch tells it
pub head-again : (a c n : ℕ) → a < 2 ^ 32 → c < 2 ^ 32 → 1 ≤ n → n ≤ 64
    → (is_plain (batch_line a c n) ≡ true) × (line_in version.Two (batch_line a c n) ≡ Ok (line.Batch (head_for a c n)))
head-again a c n small_a small_c some few =
    entry-line version.Two (batch_line a c n) a (decimal c ∷ decimal n ∷ []) (line.Batch (head_for a c n)) refl small_a
    (solid-decimal c (omega (arith, small_c)), (solid-decimal n (omega (arith, few)), tt)) (ap (λ (r : Result Head ScriptRefusal). r >>= λ h. Ok (line.Batch h)) (head-words a c n small_a small_c some few))

-- the last line as words
last-spaced : (m : ℕ) → last_line m ≡ spaced (codes "end" ∷ decimal m ∷ [])
last-spaced m = ap (λ l. codes "end " ++ l) (sym (append-nil (decimal m)))

-- the last line tells how many entries there are
pub last-again : (v : Version) (m : ℕ) → m < 2 ^ 32 → (is_plain (last_line m) ≡ true) × (line_in v (last_line m) ≡ Ok (line.Last m))
unfolding last_in one
last-again v m small =
    let solid_end : Solid (codes "end") = solid-array _ refl in
    let solid_m : AllByRecursion Solid (decimal m ∷ []) = (solid-decimal m (omega (arith, small)), tt) in
    let plain : is_plain (last_line m) ≡ true = ap is_plain (last-spaced m) ∙ plain-again (codes "end") (decimal m ∷ []) solid_end solid_m in
    let words : words_of (last_line m) ≡ codes "end" ∷ decimal m ∷ [] = ap words_of (last-spaced m) ∙ words-again (codes "end") (decimal m ∷ []) solid_end solid_m in (
      plain,
      ap (λ t. guard t refusal.Word >>= λ p. words_in v (words_of (last_line m))) plain ∙ ap (words_in v) words
          ∙ ap (λ (r : Result ℕ ScriptRefusal). r >>= λ count. Ok (line.Last count)) (natural-again 0 greatest m (omega arith) (omega (arith, small)) (omega arith)),
    )
