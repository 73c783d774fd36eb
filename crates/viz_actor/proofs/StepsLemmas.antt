-- The account of a script's bytes, from what serving its commands came to.
use Rattle.std.proofs.Common.{◌≡◌, ℕ, List, [], ◌∷◌, map, Ok, refl, sym, subst, inl, inr}
use Rattle.std.specs.List.{All}
use Rattle.viz_base.specs.declared.port.Port as port
use Rattle.viz_base.specs.declared.call.ReadAnswer.TheVariants as read
use Rattle.viz_base.specs.declared.call.WriteAnswer.{WriteAnswer}
use Rattle.viz_entries.specs.declared.entry.Entry.{Entry}
use Rattle.viz_script.specs.Orders.{Asked as Command}
use Rattle.viz_script.specs.Script.{Stepped, script_of, phase_limit}
use Rattle.viz_report.specs.declared.line.Line.{Line}
use Rattle.viz_report.specs.declared.line.Row.{Row}
use Rattle.viz_report.specs.Report.{report_rows}
use Rattle.viz_account.specs.Account.{AreActors, IsAccountOf}
use Rattle.viz_account.specs.Laws.{IsClosedLine, AuditLinesAreClosed, LinesCountEdits}
use Rattle.viz_actor.specs.declared.ran.Ran.{Ran}
use Rattle.viz_actor.specs.declared.ran.Ran.TheVariants as ran
use Rattle.viz_actor.specs.Groups.{by_actor, actors_over, history_limit}
use Rattle.viz_actor.specs.Journals.{journal_of}
use Rattle.viz_actor.specs.Served.{IsServedScript}
use Rattle.viz_actor.specs.Numbering.{actors_of, TellsActor, AreOwn, IsJournalBy}
use Rattle.viz_actor.specs.Deeds.{Asked, Kept, IsEndOfScript, IsAccounted, IsServed}
use Rattle.viz_actor.specs.DeskServing.{IsServedWith, IsKept, IsRanBehind}
use Rattle.viz_actor.proofs.ReportRowLemmas.{rows_hold}
use Rattle.viz_actor.proofs.SoloLemmas.{rows_count}
use Rattle.viz_actor.proofs.ActorLemmas.{Own, rows_tell}

-- ---- the passes of an account

module _ {P : Type 0} (m : port.Ghosts P) (limit : ℕ) (h : List Entry) (ends : List ℕ) where
  own_of_actors : (passes : List (List ℕ)) (script : List (List (List Command))) (told : List (List (List Line))) (before after : List P)
      → AreActors m limit h passes script told ends before after → Own h passes told
  own_of_actors [] [] [] before after a = tt
  own_of_actors [] [] (l ∷ told) before after a = absurd a
  own_of_actors [] (s ∷ script) told before after a = absurd a
  own_of_actors (p ∷ passes) [] told before after a = absurd a
  own_of_actors (p ∷ passes) (s ∷ script) [] before after a = absurd a
  own_of_actors (p ∷ passes) (s ∷ script) (l ∷ told) [] after a = absurd a
  own_of_actors (p ∷ passes) (s ∷ script) (l ∷ told) (b ∷ before) [] a = absurd a
  own_of_actors (p ∷ passes) (s ∷ script) (l ∷ told) (b ∷ before) (c ∷ after) a = (a.0.own, own_of_actors passes script told before after a.1)

-- the passes belong to the actors of the rows
are_own : {P : Type 0} (m : port.Ghosts P) (limit phases : ℕ) (script : List (List (List Command))) (rows : List Row) (h : List Entry) (told : List (List (List Line))) (before after : List P)
    → (a : IsAccountOf m limit script h told before after) → rows ≡ report_rows phases told → AreOwn a.passes h rows
are_own m limit phases script rows h told before after a rows_are = record {
  apart = a.apart;
  whole = a.whole;
  told = subst (All (TellsActor (actors_of a.passes h))) (sym rows_are)
      (rows_tell h a.passes told phases (map (λ (actor : List (List Line)). 1) told) a.apart (own_of_actors m limit h a.ends a.passes script told before after a.actors));
}

-- the rows of audits are closed
are_closed : {P : Type 0} (m : port.Ghosts P) (limit phases : ℕ) (script : List (List (List Command))) (rows : List Row) (h : List Entry) (told : List (List (List Line))) (before after : List P)
    → AuditLinesAreClosed m → IsAccountOf m limit script h told before after → rows ≡ report_rows phases told → All (λ (r : Row). IsClosedLine r.line) rows
are_closed m limit phases script rows h told before after closed a rows_are =
    subst (All (λ (r : Row). IsClosedLine r.line)) (sym rows_are) (rows_hold IsClosedLine phases (map (λ (actor : List (List Line)). 1) told) told (closed limit script h told before after a))

-- ---- the account of bytes

module _ {P : Type 0} (m : port.Ghosts P) (bytes name : List ℕ) (steps : List Stepped) (rows : List Row) (history : List Entry) (old new : List P) (came : Ran) (desk new_desk : P)
    (reads : script_of (actors_over old) bytes ≡ Ok steps)
    (closed : AuditLinesAreClosed m)
    (counts : LinesCountEdits m)
    (s : IsServedScript m steps rows history old new) where
  abbrev script : List (List (List Command))
  script = by_actor (actors_over old) phase_limit steps

  accounted : (all : List Row) (text : List ℕ) → all ≡ rows → text ≡ journal_of s.account.passes history → IsAccounted m bytes all text old new
  accounted all text is journal = subst (λ (x : List Row). IsAccounted m bytes x text old new) (sym is) (record {
    steps = steps;
    history = history;
    told = s.told;
    reads = reads;
    account = s.account;
    rows_are = s.rows_are;
    closed = are_closed m history_limit phase_limit script rows history s.told old new closed s.account s.rows_are;
    counted = λ actor one. rows_count m history_limit (actors_over old) phase_limit steps rows history s.told old new counts s.account s.rows_are actor one;
    journal = journal;
  })

  served : IsServed m bytes old new
  served = (rows, journal_of s.account.passes history, accounted rows (journal_of s.account.passes history) refl refl)

  by_rows : (text : List ℕ) → IsJournalBy rows history text → text ≡ journal_of s.account.passes history
  by_rows text journal = journal s.account.passes (are_own m history_limit phase_limit script rows history s.told old new s.account s.rows_are)

  served_with : (r : Ran) (text : List ℕ) (answer : WriteAnswer) → IsJournalBy rows history text → IsServedWith rows answer r → IsEndOfScript m (Kept bytes text answer) r old new
  served_with (ran.Served all kept) text answer journal w = (accounted all text w.0 (by_rows text journal), w.1)
  served_with ran.Unread text answer journal w = absurd w
  served_with (ran.Refused line why) text answer journal w = absurd w
  served_with ran.Memory text answer journal w = absurd w

  pub served_behind : IsKept m name rows history came desk new_desk → IsRanBehind m bytes name came desk new_desk old new
  served_behind (inl memory) = inl (subst (λ (r : Ran). IsEndOfScript m (Asked (read.Given bytes)) r old new) (sym memory.0) (inr served), memory.1)
  served_behind (inr kept) = inr (kept.0, kept.1, served_with came kept.0 kept.1 kept.2 kept.3, kept.4)
