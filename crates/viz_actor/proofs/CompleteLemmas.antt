-- A run of a script without faults answers Done exactly where all its commands came to what they asked for.
use Rattle.std.proofs.Common.{◌≡◌, ℕ, zero, suc, ◌+◌, Bool, true, false, ◌||◌, List, [], ◌∷◌, length, map, refl, sym, ap, subst, ◌∙◌, inl, inr, true≢false, arith}
use Rattle.std.specs.Prelude.{flat_map}
use Rattle.std.specs.List.{All}
use Rattle.std.proofs.lemmas.List.{length-map}
use Rattle.std.proofs.lemmas.List.Elements.{All-nil, All-cons, All-head, All-tail, All-append}
use Rattle.std.proofs.lemmas.List.Folds.{list_any_none}
use Rattle.viz_base.specs.Faults.{Rose}
use Rattle.viz_base.specs.declared.port.Port as port
use Rattle.viz_base.specs.declared.out.Out as out
use Rattle.viz_base.specs.declared.call.Call.{Call}
use Rattle.viz_base.specs.declared.call.ReadAnswer.TheVariants as read
use Rattle.viz_base.specs.declared.call.WriteAnswer.TheVariants as write
use Rattle.viz_entries.specs.declared.entry.Entry.{Entry}
use Rattle.viz_script.specs.Orders.{Asked as Command}
use Rattle.viz_script.specs.Script.{Stepped, phase_limit}
use Rattle.viz_report.specs.declared.line.Line.{Line}
use Rattle.viz_report.specs.declared.line.Line.TheVariants as line
use Rattle.viz_report.specs.declared.line.Row.{Row}
use Rattle.viz_report.specs.Report.{rows_from, phase_rows, next_counts, first_phase, later_phases, phases_rows, rows_text}
use Rattle.viz_account.specs.Account.{ArePhases, AreActors}
use Rattle.viz_account.specs.Complete.{AllCame, TellsCame, AllCameAreTold}
use Rattle.viz_told.specs.declared.status.Status.{Status}
use Rattle.viz_told.specs.declared.status.Status.TheVariants as status
use Rattle.viz_told.specs.Calls.{IsCalled}
use Rattle.viz_told.specs.Puts.{GainsLine}
use Rattle.viz_told.specs.Told.{IsTold}
use Rattle.viz_told.proofs.ToldLemmas.{is_no_done, is_no_refused, gains, ends_in_memory, ends_whole, told_at}
use Rattle.viz_actor.specs.declared.ran.Ran.{Ran}
use Rattle.viz_actor.specs.declared.ran.Ran.TheVariants as ran
use Rattle.viz_actor.specs.Groups.{by_actor, by_phase, commands_in, numbers, actors_over, history_limit}
use Rattle.viz_actor.specs.Deeds.{Deed, Nothing, Asked, Kept, calls_of, IsAccounted, IsEndOfScript, IsScriptRun}
use Rattle.viz_actor.specs.Told.{is_memory, is_fault, is_refused, has_memory, has_fault, has_refused, served_status, telling_of}
use Rattle.viz_actor.specs.Promises.{SomeRose}
use Rattle.viz_actor.specs.Complete.{EndsServed, EndsBy, IsComplete}
use Rattle.viz_actor.proofs.ReportRowLemmas.{front_all, behind_all, AllAt, AllBy, all_lines, none_of, rows_pass}
use Rattle.viz_actor.proofs.ScriptRunLemmas.{ToldBy, told_by, status_is, some_rose}

-- ---- what holds of all rows holds of all lines

-- each list has so many items
abbrev AllLong : {X : Type 0} → ℕ → List (List X) → Type 0
AllLong n [] = Unit {0}
AllLong n (xs ∷ lists) = (length xs ≡ n) × AllLong n lists

first_length : (told : List (List (List Line))) → length (first_phase told) ≡ length told
first_length [] = refl
first_length ([] ∷ told) = ap suc (first_length told)
first_length ((ls ∷ phases) ∷ told) = ap suc (first_length told)

later_length : (told : List (List (List Line))) → length (later_phases told) ≡ length told
later_length [] = refl
later_length ([] ∷ told) = ap suc (later_length told)
later_length ((ls ∷ phases) ∷ told) = ap suc (later_length told)

counts_length : (counts : List ℕ) (lines : List (List Line)) → length counts ≡ length lines → length (next_counts counts lines) ≡ length lines
counts_length [] [] e = refl
counts_length [] (ls ∷ lines) e = absurd (omega (arith, e))
counts_length (count ∷ counts) [] e = absurd (omega (arith, e))
counts_length (count ∷ counts) (ls ∷ lines) e = ap suc (counts_length counts lines (omega (arith, e)))

later_long : (n : ℕ) (told : List (List (List Line))) → AllLong (suc n) told → AllLong n (later_phases told)
later_long n [] h = tt
later_long n ([] ∷ told) h = let e = h.0 in absurd (omega (arith, e))
later_long n ((ls ∷ phases) ∷ told) h = (let e = h.0 in omega (arith, e), later_long n told h.1)

module _ (Q : Line → Type 0) where
  abbrev OfRow : Row → Type 0
  OfRow r = Q r.line

  abbrev At : ℕ → List (List Line) → Type 0
  At actor lines = AllAt (λ (n : ℕ). Q) actor lines

  abbrev By : ℕ → List (List (List Line)) → Type 0
  By actor told = AllBy (λ (n : ℕ). Q) actor told

  lines_from : (actor count : ℕ) (ls : List Line) → All OfRow (rows_from actor count ls) → All Q ls
  lines_from actor count [] h = All-nil Q
  lines_from actor count (l ∷ ls) h =
      let r : Row = record { actor = actor; count = count; line = l } in
      let rows = rows_from actor (count + 1) ls in
      All-cons Q l ls (All-head OfRow r rows h) (lines_from actor (count + 1) ls (All-tail OfRow r rows h))

  lines_at : (actor : ℕ) (counts : List ℕ) (lines : List (List Line)) → length counts ≡ length lines → All OfRow (phase_rows actor counts lines) → At actor lines
  lines_at actor [] [] e h = tt
  lines_at actor (count ∷ counts) [] e h = tt
  lines_at actor [] (ls ∷ lines) e h = absurd (omega (arith, e))
  lines_at actor (count ∷ counts) (ls ∷ lines) e h =
      let front = rows_from actor count ls in
      let rest = phase_rows (actor + 1) counts lines in
      (lines_from actor count ls (front_all OfRow front rest h), lines_at (actor + 1) counts lines (omega (arith, e)) (behind_all OfRow front rest h))

  joined_by : (actor : ℕ) (told : List (List (List Line))) → At actor (first_phase told) → By actor (later_phases told) → By actor told
  joined_by actor [] a b = tt
  joined_by actor ([] ∷ told) a b = (All-nil (All Q), joined_by (actor + 1) told a.1 b.1)
  joined_by actor ((ls ∷ phases) ∷ told) a b = (All-cons (All Q) ls phases a.0 b.0, joined_by (actor + 1) told a.1 b.1)

  no_phases : (actor : ℕ) (told : List (List (List Line))) → AllLong 0 told → By actor told
  no_phases actor [] h = tt
  no_phases actor ([] ∷ told) h = (All-nil (All Q), no_phases (actor + 1) told h.1)
  no_phases actor ((ls ∷ phases) ∷ told) h = let e = h.0 in absurd (omega (arith, e))

  rows_by : (phases : ℕ) (counts : List ℕ) (told : List (List (List Line))) → length counts ≡ length told → AllLong phases told → All OfRow (phases_rows phases counts told) → By 1 told
  rows_by zero counts told e long h = no_phases 1 told long
  rows_by (suc phases) counts told e long h =
      let front = phase_rows 1 counts (first_phase told) in
      let next = next_counts counts (first_phase told) in
      let rest = phases_rows phases next (later_phases told) in
      let first : length counts ≡ length (first_phase told) = e ∙ sym (first_length told) in
      joined_by 1 told
      (lines_at 1 counts (first_phase told) first (front_all OfRow front rest h))
      (rows_by phases next (later_phases told) (counts_length counts (first_phase told) first ∙ first_length told ∙ sym (later_length told)) (later_long phases told long) (behind_all OfRow front rest h))

  flat_all : (phases : List (List Line)) → All (All Q) phases → All Q (flat_map (λ (ls : List Line). ls) phases)
  flat_all [] h = All-nil Q
  flat_all (ls ∷ phases) h =
      All-append Q ls (flat_map (λ (xs : List Line). xs) phases) (All-head (All Q) ls phases h) (flat_all phases (All-tail (All Q) ls phases h))

  all_by : (actor : ℕ) (told : List (List (List Line))) → By actor told → All Q (all_lines told)
  all_by actor [] h = All-nil Q
  all_by actor (phases ∷ told) h = All-append Q (flat_map (λ (ls : List Line). ls) phases) (all_lines told) (flat_all phases h.0) (all_by (actor + 1) told h.1)

  lines_hold : (phases : ℕ) (told : List (List (List Line))) → AllLong phases told → All OfRow (phases_rows phases (map (λ (actor : List (List Line)). 1) told) told) → All Q (all_lines told)
  lines_hold phases told long h = all_by 1 told (rows_by phases (map (λ (actor : List (List Line)). 1) told) told (length-map told (λ (actor : List (List Line)). 1)) long h)

-- ---- there are lines of each phase

numbers_length : (count n : ℕ) → length (numbers count n) ≡ count
numbers_length zero n = refl
numbers_length (suc count) n = ap suc (numbers_length count (n + 1))

script_long : (phases : ℕ) (steps : List Stepped) (actors : List ℕ) → AllLong phases (map (by_phase phases steps) actors)
script_long phases steps [] = tt
script_long phases steps (actor ∷ actors) = (length-map (numbers phases 1) (commands_in steps actor) ∙ numbers_length phases 1, script_long phases steps actors)

phases_length : (limit : ℕ) (h : List Entry) (ps : List ℕ) (low : ℕ) (phases : List (List Command)) (lines : List (List Line)) (ends : List ℕ) (calls : List Call)
    → ArePhases limit h ps low phases lines ends calls → length lines ≡ length phases
phases_length limit h ps low [] [] [] calls t = refl
phases_length limit h ps low [] [] (e ∷ ends) calls t = absurd t
phases_length limit h ps low [] (ls ∷ lines) ends calls t = absurd t
phases_length limit h ps low (os ∷ phases) [] ends calls t = absurd t
phases_length limit h ps low (os ∷ phases) (ls ∷ lines) [] calls t = absurd t
phases_length limit h ps low (os ∷ phases) (ls ∷ lines) (e ∷ ends) calls t = ap suc (phases_length limit h ps e phases lines ends t.2 t.7)

module _ {P : Type 0} (m : port.Ghosts P) (limit : ℕ) (h : List Entry) (ends : List ℕ) where
  told_long : (n : ℕ) (passes : List (List ℕ)) (script : List (List (List Command))) (told : List (List (List Line))) (before after : List P)
      → AreActors m limit h passes script told ends before after → AllLong n script → AllLong n told
  told_long n [] [] [] before after a long = tt
  told_long n [] [] (l ∷ told) before after a long = absurd a
  told_long n [] (s ∷ script) told before after a long = absurd a
  told_long n (p ∷ passes) [] told before after a long = absurd a
  told_long n (p ∷ passes) (s ∷ script) [] before after a long = absurd a
  told_long n (p ∷ passes) (s ∷ script) (l ∷ told) [] after a long = absurd a
  told_long n (p ∷ passes) (s ∷ script) (l ∷ told) (b ∷ before) [] a long = absurd a
  told_long n (p ∷ passes) (s ∷ script) (l ∷ told) (b ∷ before) (c ∷ after) a long =
      (phases_length limit h p 0 s l ends a.0.gained.0 a.0.gained.2 ∙ long.0, told_long n passes script told before after a.1 long.1)

-- ---- tests of lines

came_line : (l : Line) → is_memory l ≡ false → is_fault l ≡ false → is_refused l ≡ false → TellsCame l
came_line (line.Edit at) m f r = tt
came_line (line.File at cells points ran) m f r = tt
came_line (line.Audit at sides two lone border) m f r = tt
came_line (line.Refused reason at) m f r = absurd (true≢false r)
came_line line.ReadFault m f r = absurd (true≢false f)
came_line line.WriteFault m f r = absurd (true≢false f)
came_line line.Memory m f r = absurd (true≢false m)

not_refused : (l : Line) → TellsCame l → is_refused l ≡ false
not_refused (line.Edit at) t = refl
not_refused (line.File at cells points ran) t = refl
not_refused (line.Audit at sides two lone border) t = refl
not_refused (line.Refused reason at) t = absurd t
not_refused line.ReadFault t = refl
not_refused line.WriteFault t = refl
not_refused line.Memory t = refl

rows_came : (rows : List Row) → has_memory rows ≡ false → has_fault rows ≡ false → has_refused rows ≡ false → All (λ (r : Row). TellsCame r.line) rows
rows_came [] m f r = All-nil (λ (x : Row). TellsCame x.line)
rows_came (x ∷ rows) m f r =
    let ms = none_of (λ (y : Row). is_memory y.line) (x ∷ rows) m in
    let fs = none_of (λ (y : Row). is_fault y.line) (x ∷ rows) f in
    let rs = none_of (λ (y : Row). is_refused y.line) (x ∷ rows) r in
    All-cons (λ (y : Row). TellsCame y.line) x rows
    (came_line x.line (All-head (λ (y : Row). is_memory y.line ≡ false) x rows ms) (All-head (λ (y : Row). is_fault y.line ≡ false) x rows fs) (All-head (λ (y : Row). is_refused y.line ≡ false) x rows rs))
    (rows_came rows
    (list_any_none (λ (y : Row). is_memory y.line) rows (All-tail (λ (y : Row). is_memory y.line ≡ false) x rows ms))
    (list_any_none (λ (y : Row). is_fault y.line) rows (All-tail (λ (y : Row). is_fault y.line ≡ false) x rows fs))
    (list_any_none (λ (y : Row). is_refused y.line) rows (All-tail (λ (y : Row). is_refused y.line ≡ false) x rows rs)))

none_refused : (ls : List Line) → All TellsCame ls → All (λ (l : Line). is_refused l ≡ false) ls
none_refused [] h = All-nil (λ (l : Line). is_refused l ≡ false)
none_refused (l ∷ ls) h =
    All-cons (λ (k : Line). is_refused k ≡ false) l ls (not_refused l (All-head TellsCame l ls h)) (none_refused ls (All-tail TellsCame l ls h))

-- ---- the promise

module _ {P O : Type 0} (m : port.Ghosts P) (o : out.Ghosts O) (came_told : AllCameAreTold m) (old new : List P) (before after : O) (ended : Status)
    (quiet_ports : SomeRose m old new → ⊥) (quiet_out : Rose (o.faults before) (o.faults after) → ⊥) where
  module _ (bytes text : List ℕ) (rows : List Row) (a : IsAccounted m bytes rows text old new) where
    abbrev counts : List ℕ
    counts = map (λ (actor : List (List Line)). 1) a.told

    abbrev script : List (List (List Command))
    script = by_actor (actors_over old) phase_limit a.steps

    abbrev AllOfThem : Type 0
    AllOfThem = AllCame a.history a.account.passes script a.told

    law : AllOfThem → All TellsCame (all_lines a.told)
    law = (came_told history_limit script a.history a.told old new a.account).0

    back : All TellsCame (all_lines a.told) → AllOfThem
    back = (came_told history_limit script a.history a.told old new a.account).1

    no_fault : has_fault rows ≡ true → ⊥
    no_fault e =
        quiet_ports (some_rose m _ a.history a.account.ends a.account.passes _ a.told old new a.account.actors (rows_pass is_fault phase_limit counts a.told (sym (ap has_fault a.rows_are) ∙ e)))

    not_all : has_refused rows ≡ true → AllOfThem → ⊥
    not_all e all =
        let some = rows_pass is_refused phase_limit counts a.told (sym (ap has_refused a.rows_are) ∙ e) in
        true≢false (sym some ∙ list_any_none is_refused (all_lines a.told) (none_refused (all_lines a.told) (law all)))

    all_of_them : has_memory rows ≡ false → has_fault rows ≡ false → has_refused rows ≡ false → AllOfThem
    all_of_them e f r =
        let long = told_long m history_limit a.history a.account.ends phase_limit a.account.passes script a.told old new a.account.actors (script_long phase_limit a.steps (numbers (actors_over old) 1)) in
        back (lines_hold TellsCame phase_limit a.told long (subst (All (λ (x : Row). TellsCame x.line)) a.rows_are (rows_came rows e f r)))

    module _ (told : IsTold o (telling_of (ran.Served rows true)) ended before after) where
      gains_done : ended ≡ status.Done → GainsLine o (rows_text rows) before after
      gains_done is =
          let w = told_at o before after ended (telling_of (ran.Served rows true)) (ToldBy (ran.Served rows true)) (told_by (ran.Served rows true)) status.Done told is is_no_done in
          gains o (rows_text rows) before after w.0 w.1.3 w.2

      gains_refused : ended ≡ status.Refused → GainsLine o (rows_text rows) before after
      gains_refused is =
          let w = told_at o before after ended (telling_of (ran.Served rows true)) (ToldBy (ran.Served rows true)) (told_by (ran.Served rows true)) status.Refused told is is_no_refused in
          gains o (rows_text rows) before after w.0 w.1.3 w.2

      in_memory : ended ≡ status.Memory → EndsServed m o old new before after ended bytes text
      in_memory is = (rows, a, inr (inr is), λ no. absurd (no is))

      as_served : (x f r : Bool) → has_memory rows ≡ x → has_fault rows ≡ f → has_refused rows ≡ r → ended ≡ served_status rows true → EndsServed m o old new before after ended bytes text
      as_served true f r em ef er is = in_memory (is ∙ status_is rows true true (has_fault rows || false) (has_refused rows) em refl refl)
      as_served false true r em ef er is = absurd (no_fault ef)
      as_served false false true em ef er is =
          let e : ended ≡ status.Refused = is ∙ status_is rows true false false true em (ap (λ (b : Bool). b || false) ef) er in
          (rows, a, inr (inl (e, not_all er)), λ no. gains_refused e)
      as_served false false false em ef er is =
          let e : ended ≡ status.Done = is ∙ status_is rows true false false false em (ap (λ (b : Bool). b || false) ef) er in
          (rows, a, inl (e, all_of_them em ef er), λ no. gains_done e)

      ends_served : EndsServed m o old new before after ended bytes text
      ends_served = elim (ends_whole o before after ended (telling_of (ran.Served rows true)) told quiet_out) [
        | inl is ↦ as_served (has_memory rows) (has_fault rows) (has_refused rows) refl refl refl is
        | inr memory ↦ in_memory memory
      ]

  module _ (script journal : List ℕ) (desk new_desk : P) (quiet_desk : Rose (m.faults desk) (m.faults new_desk) → ⊥) where
    ends_by : (deed : Deed) (found : Ran) → IsEndOfScript m deed found old new → IsCalled m (calls_of script journal deed) desk new_desk → IsTold o (telling_of found) ended before after
        → EndsBy m o old new before after ended deed
    ends_by Nothing ran.Memory h d told = ends_in_memory o before after ended (telling_of ran.Memory) refl told
    ends_by Nothing ran.Unread h d told = absurd h
    ends_by Nothing (ran.Refused line r) h d told = absurd h
    ends_by Nothing (ran.Served rows kept) h d told = absurd h
    ends_by (Asked read.Failed) found h d told = absurd (quiet_desk (d.cause tt))
    ends_by (Asked (read.TooLong taken)) (ran.Refused line r) h d told = elim (ends_whole o before after ended (telling_of (ran.Refused line r)) told quiet_out) [
      | inl is ↦ inl (is, (line, r, (h.0, h.1)))
      | inr memory ↦ inr memory
    ]
    ends_by (Asked (read.TooLong taken)) ran.Memory h d told = absurd h
    ends_by (Asked (read.TooLong taken)) ran.Unread h d told = absurd h
    ends_by (Asked (read.TooLong taken)) (ran.Served rows kept) h d told = absurd h
    ends_by (Asked (read.Given bytes)) (ran.Refused line r) h d told = elim (ends_whole o before after ended (telling_of (ran.Refused line r)) told quiet_out) [
      | inl is ↦ inl (is, (line, r, h.0))
      | inr memory ↦ inr memory
    ]
    ends_by (Asked (read.Given bytes)) ran.Memory h d told = inr (ends_in_memory o before after ended (telling_of ran.Memory) refl told)
    ends_by (Asked (read.Given bytes)) ran.Unread h d told = absurd h
    ends_by (Asked (read.Given bytes)) (ran.Served rows kept) h d told = absurd h
    ends_by (Kept bytes text write.Failed) found h d told = absurd (quiet_desk (d.cause tt))
    ends_by (Kept bytes text write.Written) (ran.Served rows kept) h d told =
        ends_served bytes text rows h.0 (subst (λ (k : Bool). IsTold o (telling_of (ran.Served rows k)) ended before after) h.1 told)
    ends_by (Kept bytes text write.Written) ran.Memory h d told = absurd h
    ends_by (Kept bytes text write.Written) ran.Unread h d told = absurd h
    ends_by (Kept bytes text write.Written) (ran.Refused line r) h d told = absurd h

pub complete : {P O : Type 0} (m : port.Ghosts P) (o : out.Ghosts O) → AllCameAreTold m → (script journal : List ℕ) (desk new_desk : P) (old new : List P) (before after : O) (ended : Status)
    (found : Ran) → IsScriptRun m script journal found desk new_desk old new → IsTold o (telling_of found) ended before after
    → IsComplete m o script journal desk new_desk old new before after ended
complete m o came_told script journal desk new_desk old new before after ended found came told = λ quiet_desk quiet_ports quiet_out.
    (came.0, came.2, ends_by m o came_told old new before after ended quiet_ports quiet_out script journal desk new_desk quiet_desk came.0 found came.1 came.2 told)
