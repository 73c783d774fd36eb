-- What a reader gave tells what it read.
use Rattle.std.proofs.Common.{◌≡◌, ℕ, ◌+◌, ◌≤◌, Bool, true, false, cond, ◌&&◌, nat_eq, nat_le, true≢false, List, [], ◌∷◌, ◌++◌, length, take, drop, append_assoc, Result, Ok, Err, refl, sym, ap, subst, ◌∙◌, eqb-true}
use Rattle.std.specs.Prelude.{◌==◌}
use Rattle.std.specs.Cmp.Lexicographic.{pointwise}
use Rattle.std.proofs.lemmas.Bool.{leb-true}
use Rattle.std.proofs.lemmas.List.{take-append-drop, drop-drop}
use Rattle.viz_kinds.specs.Values.{is_text}
use Rattle.viz_network.specs.declared.edit.Edit.{Edit}
use Rattle.viz_network.specs.declared.edit.Edit.TheVariants as edit
use Rattle.viz_words.specs.declared.refusal.ScriptRefusal.{ScriptRefusal}
use Rattle.viz_words.specs.declared.refusal.ScriptRefusal.TheVariants as refusal
use Rattle.viz_words.specs.Gives.{◌>>=◌, guard}
use Rattle.viz_words.specs.Lines.{begins_newline}
use Rattle.viz_journal.specs.declared.draft.Draft.{Draft}
use Rattle.viz_journal.specs.declared.draft.Draft.TheVariants as draft
use Rattle.viz_journal.specs.declared.line.Head.{Head}
use Rattle.viz_journal.specs.declared.entry.JournalEntry.{JournalEntry}
use Rattle.viz_journal.specs.Journal.{edit_line, file_text, batch_line}
use Rattle.viz_journal.specs.Lines.{size}
use Rattle.viz_journal.specs.Parts.{Part, part_of, in_line, is_there, is_closed, rest_of, edit_of}
use Rattle.viz_journal.specs.Entries.{edit_limit, edits_of, entries_by, is_counted, is_accepted}
use Rattle.viz_journal.specs.Edits.{is_spelled, edit_at}
use Rattle.viz_journal.specs.Reading.{head_at}

-- texts that compare alike are one
pub same-text : (xs ys : List ℕ) → pointwise nat_eq xs ys ≡ true → xs ≡ ys
same-text [] [] h = refl
same-text [] (y ∷ ys) h = absurd (true≢false (sym h))
same-text (x ∷ xs) [] h = absurd (true≢false (sym h))
same-text (x ∷ xs) (y ∷ ys) h = by (nat_eq x y) refl h (same-text xs ys)
  where
    by : (b : Bool) → nat_eq x y ≡ b → (b && pointwise nat_eq xs ys) ≡ true → (pointwise nat_eq xs ys ≡ true → xs ≡ ys) → x ∷ xs ≡ y ∷ ys
    by true e p rest = let same : x ≡ y = eqb-true x y e in ap (λ z. z ∷ xs) same ∙ ap (λ zs. y ∷ zs) (rest p)
    by false e p rest = absurd (true≢false (sym p))

-- both hold
pub both : (a b : Bool) → (a && b) ≡ true → (a ≡ true) × (b ≡ true)
both true b h = (refl, h)
both false b h = absurd (true≢false (sym h))

-- a step that went on
pub guarded : {A : Type 0} (test : Bool) (r : ScriptRefusal) (next : Result A ScriptRefusal) (x : A) → (guard test r >>= λ t. next) ≡ Ok x → (test ≡ true) × (next ≡ Ok x)
guarded true r next x h = (refl, h)
guarded false r next x h = let bad : ⊥ = cc in absurd bad

-- a step that gave a value, and what the next made of it
pub bind-ok : {A B : Type 0} (r : Result A ScriptRefusal) (next : A → Result B ScriptRefusal) (y : B) → (r >>= next) ≡ Ok y → (x : A) × (r ≡ Ok x) × (next x ≡ Ok y)
bind-ok (Ok x) next y h = (x, refl, h)
bind-ok (Err e) next y h = let bad : ⊥ = cc h in absurd bad

-- the line in front, a newline, and the rest
pub part-is : (bytes : List ℕ) → (part_of bytes).ended ≡ true → bytes ≡ (part_of bytes).line ++ 10 ∷ (part_of bytes).rest
part-is [] h = absurd (true≢false (sym h))
part-is (b ∷ bs) h = by (b == 10) refl h (part-is bs)
  where
    by : (t : Bool) → (b == 10) ≡ t → (cond t (record { line = []; ended = true; rest = bs }) (in_line b (part_of bs))).ended ≡ true
        → ((part_of bs).ended ≡ true → bs ≡ (part_of bs).line ++ 10 ∷ (part_of bs).rest) → b ∷ bs ≡ (part_of (b ∷ bs)).line ++ 10 ∷ (part_of (b ∷ bs)).rest
    by true e f ih =
        let whole : Part → List ℕ = λ p. p.line ++ 10 ∷ p.rest in
        ap (λ c. c ∷ bs) (eqb-true b 10 e) ∙ ap (λ x. whole (cond x (record { line = []; ended = true; rest = bs }) (in_line b (part_of bs)))) (sym e)
    by false e f ih =
        let whole : Part → List ℕ = λ p. p.line ++ 10 ∷ p.rest in
        ap (λ l. b ∷ l) (ih f) ∙ ap (λ x. whole (cond x (record { line = []; ended = true; rest = bs }) (in_line b (part_of bs)))) (sym e)

newline-is : (bs : List ℕ) → begins_newline bs ≡ true → bs ≡ 10 ∷ drop 1 bs
newline-is [] h = absurd (true≢false (sym h))
newline-is (b ∷ bs) h = ap (λ c. c ∷ bs) (eqb-true b 10 h)

-- the bytes of a load and a newline, and what is behind them
file-is : (d : Draft) (rest : List ℕ) → is_closed d rest ≡ true → rest ≡ file_text (edit_of d rest) ++ rest_of d rest
file-is (draft.Edit (edit.Add kind node)) rest h = refl
file-is (draft.Edit (edit.Remove node)) rest h = refl
file-is (draft.Edit (edit.Connect from to port)) rest h = refl
file-is (draft.Edit (edit.Disconnect to port)) rest h = refl
file-is (draft.Edit (edit.Set node param value)) rest h = refl
file-is (draft.Edit (edit.Load node file)) rest h = absurd (true≢false (sym h))
file-is (draft.Load node len) rest h =
    let n = size len in
    sym (take-append-drop n rest) ∙ ap (λ l. take n rest ++ l) (newline-is (drop n rest) h ∙ ap (λ l. 10 ∷ l) (drop-drop 1 n rest))
    ∙ sym (append_assoc (take n rest) (10 ∷ []) (drop (n + 1) rest))

-- a line that is spelled so, with its newline
pub spelled-is : (part : Part) (line : List ℕ) → is_spelled part line ≡ true → (part.ended ≡ true) × (part.line ≡ line)
spelled-is part line h = let parts = both part.ended (is_text part.line line) h in (parts.0, same-text part.line line parts.1)

-- what is known of an edit that was read from a line
pub record IsRead (before : List Edit) (front : List ℕ) (part : Part) (d : Draft) (e : Edit) : Type 0 where
  pub ended : part.ended ≡ true
  pub line : part.line ≡ front ++ edit_line e
  pub rest : part.rest ≡ file_text e ++ rest_of d part.rest
  pub accepted : is_accepted before e ≡ true
  pub edit : edit_of d part.rest ≡ e

-- an edit that was read is written so
pub edit-is : (before : List Edit) (front : List ℕ) (part : Part) (d : Draft) (e : Edit) → edit_at before front part d ≡ Ok e → IsRead before front part d e
unfolding edit_at
edit-is before front part d e h =
    let a = guarded (is_there d part.rest) refusal.Number _ e h in
    let b = guarded (is_closed d part.rest) refusal.Word _ e a.1 in
    let s = guarded (is_spelled part (front ++ edit_line (edit_of d part.rest))) refusal.Word _ e b.1 in
    let f = guarded (is_accepted before (edit_of d part.rest)) refusal.Edit _ e s.1 in
    let same : edit_of d part.rest ≡ e = cc f.1 in
    let spelled = spelled-is part (front ++ edit_line (edit_of d part.rest)) s.0 in
    record {
      ended = spelled.0;
      line = spelled.1 ∙ ap (λ (x : Edit). front ++ edit_line x) same;
      rest = file-is d part.rest b.0 ∙ ap (λ (x : Edit). file_text x ++ rest_of d part.rest) same;
      accepted = ap (λ (x : Edit). is_accepted before x) (sym same) ∙ f.0;
      edit = same;
    }

-- the count is the next one of its actor, and there is room for so many edits
pub counted-is : (actor count many : ℕ) (entries : List JournalEntry) → is_counted actor count many entries ≡ true
    → (count ≡ entries_by actor entries + 1) × (length (edits_of entries) + many ≤ edit_limit)
counted-is actor count many entries h =
    let parts = both (count == entries_by actor entries + 1) (nat_le (length (edits_of entries) + many) edit_limit) h in
    (eqb-true count (entries_by actor entries + 1) parts.0, leb-true (length (edits_of entries) + many) edit_limit parts.1)

-- what is known of the line in front of a batch that was read
pub record IsHead (entries : List JournalEntry) (part : Part) (h : Head) : Type 0 where
  pub count : h.count ≡ entries_by h.actor entries + 1
  pub few : length (edits_of entries) + h.edits ≤ edit_limit
  pub ended : part.ended ≡ true
  pub line : part.line ≡ batch_line h.actor h.count h.edits

pub head-is : (entries : List JournalEntry) (part : Part) (head h : Head) → head_at entries part head ≡ Ok h → (head ≡ h) × IsHead entries part h
unfolding head_at
head-is entries part head h is =
    let a = guarded (is_counted head.actor head.count head.edits entries) refusal.Number _ h is in
    let s = guarded (is_spelled part (batch_line head.actor head.count head.edits)) refusal.Word _ h a.1 in
    let same : head ≡ h = cc s.1 in
    let counted = counted-is head.actor head.count head.edits entries a.0 in
    let spelled = spelled-is part (batch_line head.actor head.count head.edits) s.0 in
    let known : IsHead entries part head = record { count = counted.0; few = counted.1; ended = spelled.0; line = spelled.1 } in
    (same, subst (IsHead entries part) same known)
