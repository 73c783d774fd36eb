-- One line of a journal, and the lines behind it.
use Rattle.std.proofs.Common.{◌≡◌, ℕ, zero, suc, ◌+◌, ◌<◌, ◌≤◌, List, [], ◌∷◌, ◌++◌, length, Result, Ok, Err, refl, sym, ap, ◌∙◌, arith}
use Rattle.viz_network.specs.declared.edit.Edit.{Edit}
use Rattle.viz_words.specs.declared.refusal.ScriptRefusal.{ScriptRefusal}
use Rattle.viz_words.specs.declared.refusal.ScriptRefusal.TheVariants as refusal
use Rattle.viz_words.specs.declared.refusal.ScriptStop.{ScriptStop}
use Rattle.viz_words.specs.declared.refusal.ScriptStop.TheVariants.{Refused, Memory}
use Rattle.viz_journal.specs.declared.draft.Draft.{Draft}
use Rattle.viz_journal.specs.declared.line.Told.{Told}
use Rattle.viz_journal.specs.declared.line.Head.{Head}
use Rattle.viz_journal.specs.declared.line.Line.{Line}
use Rattle.viz_journal.specs.declared.line.Line.TheVariants as line
use Rattle.viz_journal.specs.declared.entry.JournalEntry.{JournalEntry}
use Rattle.viz_journal.specs.declared.ledger.Ledger.{Ledger}
use Rattle.viz_journal.specs.declared.version.Version.{Version}
use Rattle.viz_journal.specs.Lines.{draft_of, line_in}
use Rattle.viz_journal.specs.Parts.{Part, part_of, rest_of}
use Rattle.viz_journal.specs.Edits.{edit_at, edited, drafted, Stop, batch_from}
use Rattle.viz_journal.specs.Reading.{single_at, with_single, judged, journal_from, Reads, Stops}
use Rattle.viz_journal.specs.Steps.Kept.{batch_in, GoesOn, GoesThrough, EntersBatch, Goes}

-- ---- lines of a batch

-- a line of a batch is judged by what it says
pub batch_from-line : (k n : ℕ) (before batch : List Edit) (bytes : List ℕ) (part : Part) (said : Result Draft ScriptRefusal) → part_of bytes ≡ part → draft_of part.line ≡ said
    → batch_from (suc k) n before batch bytes ≡ drafted n (batch_from k (n + 1) before) before batch part said
unfolding batch_from
batch_from-line k n before batch bytes part said is says =
    ap (λ (p : Part). drafted n (batch_from k (n + 1) before) before batch p (draft_of p.line)) is ∙ ap (drafted n (batch_from k (n + 1) before) before batch part) says

-- a line whose edit is added
pub batch_from-edit : (k n : ℕ) (before batch new : List Edit) (bytes left : List ℕ) (part : Part) (draft : Draft) (e : Edit) → part_of bytes ≡ part → draft_of part.line ≡ Ok draft
    → edit_at (before ++ batch) [] part draft ≡ Ok e → new ≡ batch ++ e ∷ [] → left ≡ rest_of draft part.rest
    → batch_from (suc k) n before batch bytes ≡ batch_from k (n + 1) before new left
batch_from-edit k n before batch new bytes left part draft e is says made grown behind =
    batch_from-line k n before batch bytes part (Ok draft) is says
    ∙ ap (λ (r : Result Edit ScriptRefusal). edited n (batch_from k (n + 1) before) batch r (rest_of draft part.rest)) made
    ∙ ap (λ (l : List Edit). batch_from k (n + 1) before l (rest_of draft part.rest)) (sym grown)
    ∙ ap (batch_from k (n + 1) before new) (sym behind)

-- a line whose edit is refused
pub batch_from-refused : (k n : ℕ) (before batch : List Edit) (bytes : List ℕ) (part : Part) (draft : Draft) (r : ScriptRefusal) → part_of bytes ≡ part → draft_of part.line ≡ Ok draft
    → edit_at (before ++ batch) [] part draft ≡ Err r → batch_from (suc k) n before batch bytes ≡ Err (n, r)
batch_from-refused k n before batch bytes part draft r is says refused =
    batch_from-line k n before batch bytes part (Ok draft) is says
    ∙ ap (λ (r : Result Edit ScriptRefusal). edited n (batch_from k (n + 1) before) batch r (rest_of draft part.rest)) refused

-- all lines of a batch are read
pub batch_from-end : (k n : ℕ) (before batch : List Edit) (bytes : List ℕ) → k ≡ 0 → batch_from k n before batch bytes ≡ Ok (batch, bytes)
unfolding batch_from
batch_from-end zero n before batch bytes none = refl
batch_from-end (suc k) n before batch bytes none = absurd (omega (arith, none))

-- there is a line left where not all are read
pub lines-left : (k i count : ℕ) → i + k ≡ count → i < count → (j : ℕ) × (k ≡ suc j)
lines-left zero i count all some = absurd (omega (arith, all, some))
lines-left (suc j) i count all some = (j, refl)

-- a refusal of a line is that of the batch
pub stopped-batch : {S : Type 0} (view : S → List ℕ) (stop : ScriptStop) (k n j m : ℕ) (old mid new last : Ledger) (bytes rest : List ℕ) → batch_in old k n bytes ≡ batch_in mid (suc j) m rest
    → GoesOn view (Err stop) m mid rest new → GoesThrough view (Err stop) k n old bytes last
stopped-batch view (Refused l r) k n j m old mid new last bytes rest same h = same ∙ h j
stopped-batch view Memory k n j m old mid new last bytes rest same h = tt

-- ---- lines of entries

-- a line is judged by what it says
pub journal_from-line : (v : Version) (k n : ℕ) (entries : List JournalEntry) (bytes : List ℕ) (part : Part) (said : Result Line ScriptRefusal) → part_of bytes ≡ part
    → line_in v part.line ≡ said → journal_from v (suc k) n entries bytes ≡ judged n (journal_from v k) entries part said
unfolding journal_from
journal_from-line v k n entries bytes part said is says =
    ap (λ (p : Part). judged n (journal_from v k) entries p (line_in v p.line)) is ∙ ap (judged n (journal_from v k) entries part) says

-- nothing is left in front of the last line
pub journal_from-empty : (v : Version) (k n : ℕ) (entries : List JournalEntry) (bytes : List ℕ) → length bytes ≡ 0 → journal_from v k n entries bytes ≡ Err (n, refusal.Word)
unfolding journal_from
journal_from-empty v zero n entries bytes h = refl
journal_from-empty v (suc k) n entries [] h = refl
journal_from-empty v (suc k) n entries (b ∷ bs) h = absurd (omega (arith, h))

-- a line of an entry of version 1 that is entered
pub journal_from-single : (v : Version) (k n m : ℕ) (entries new : List JournalEntry) (bytes left : List ℕ) (part : Part) (told : Told) (e : JournalEntry) → part_of bytes ≡ part
    → line_in v part.line ≡ Ok (line.Single told) → single_at entries part told ≡ Ok e → new ≡ entries ++ e ∷ [] → m ≡ n + 1 → left ≡ rest_of told.draft part.rest
    → journal_from v (suc k) n entries bytes ≡ journal_from v k m new left
journal_from-single v k n m entries new bytes left part told e is says made grown longer behind =
    journal_from-line v k n entries bytes part (Ok (line.Single told)) is says
    ∙ ap (λ (r : Result JournalEntry ScriptRefusal). with_single n (journal_from v k) entries r (rest_of told.draft part.rest)) made
    ∙ ap (λ j. journal_from v k j (entries ++ e ∷ []) (rest_of told.draft part.rest)) (sym longer)
    ∙ ap (λ (l : List JournalEntry). journal_from v k m l (rest_of told.draft part.rest)) (sym grown)
    ∙ ap (journal_from v k m new) (sym behind)

-- a line of an entry of version 1 that is refused
pub journal_from-refused : (v : Version) (k n : ℕ) (entries : List JournalEntry) (bytes : List ℕ) (part : Part) (told : Told) (r : ScriptRefusal) → part_of bytes ≡ part
    → line_in v part.line ≡ Ok (line.Single told) → single_at entries part told ≡ Err r → journal_from v (suc k) n entries bytes ≡ Err (n, r)
journal_from-refused v k n entries bytes part told r is says refused =
    journal_from-line v k n entries bytes part (Ok (line.Single told)) is says
    ∙ ap (λ (r : Result JournalEntry ScriptRefusal). with_single n (journal_from v k) entries r (rest_of told.draft part.rest)) refused

-- a refusal that stands in place of what is read
pub stopped : {S : Type 0} (view : S → List ℕ) (stop : ScriptStop) (read : Result (List JournalEntry) Stop) (v : Version) (old new : Ledger) (bytes : List ℕ)
    → Reads {E = Unit {0}} (λ done. old.entries.items) (Err stop) read → ((k : ℕ) → journal_from v (suc k) old.line old.entries.items bytes ≡ read) → Goes view (Err stop) v old bytes new
stopped view (Refused n r) read v old new bytes h same = λ k. same k ∙ h
stopped view Memory read v old new bytes h same = tt

-- a refusal of a batch
pub stopped-head : {S : Type 0} (view : S → List ℕ) (stop : ScriptStop) (v : Version) (old mid new : Ledger) (bytes : List ℕ) (part : Part) (head : Head) → EntersBatch view (Err stop) old part head mid
    → part_of bytes ≡ part → line_in v part.line ≡ Ok (line.Batch head) → Goes view (Err stop) v old bytes new
stopped-head view (Refused m r) v old mid new bytes part head h is says = λ k.
    journal_from-line v k old.line old.entries.items bytes part (Ok (line.Batch head)) is says ∙ h (journal_from v k)
stopped-head view Memory v old mid new bytes part head h is says = tt

-- there is a step left where bytes are
pub fuelled : (k : ℕ) (rest : List ℕ) → 0 < length rest → length rest ≤ k → (j : ℕ) × (k ≡ suc j)
fuelled zero rest some enough = absurd (omega (arith, some, enough))
fuelled (suc j) rest some enough = (j, refl)

-- a refusal of a line is that of all
pub stopped-read : {S : Type 0} (view : S → List ℕ) (stop : ScriptStop) (v : Version) (old new : Ledger) (rest : List ℕ) (j : ℕ)
    (read : Result (List JournalEntry) Stop) → Goes view (Err stop) v old rest new → journal_from v (suc j) old.line old.entries.items rest ≡ read → Stops stop read
stopped-read view (Refused n r) v old new rest j read h same = sym same ∙ h j
stopped-read view Memory v old new rest j read h same = tt
