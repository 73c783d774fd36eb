-- The entries of a journal are those of its history.
use Rattle.std.proofs.Common.{◌≡◌, ℕ, List, [], length, map, Option, Some, ap, ap₂, subst, ◌∙◌}
use Rattle.std.specs.List.{All}
use Rattle.std.proofs.lemmas.List.{length-map}
use Rattle.viz_entries.specs.declared.entry.Entry.{Entry}
use Rattle.viz_journal.specs.declared.entry.JournalEntry.{JournalEntry}
use Rattle.viz_report.specs.declared.line.Row.{Row}
use Rattle.viz_actor.specs.Journals.{actor_with, numbered}
use Rattle.viz_actor.specs.Numbering.{actors_of, running, with_numbers, Agree, TellsActor, AreOwn}
use Rattle.viz_actor.proofs.NumberLemmas.{all_of, each_of, as_numbered}
use Rattle.viz_actor.proofs.FoundLemmas.{found_all}

pub journal_is : (h : List Entry) (rows : List Row) (found : List (Option ℕ)) (actors numbers : List ℕ) (entries : List JournalEntry)
    → ((actors : List ℕ) → length actors ≡ length h → All (TellsActor actors) rows → Agree found actors) → found ≡ map Some actors → numbers ≡ running [] actors
    → entries ≡ with_numbers h actors numbers → (passes : List (List ℕ)) → AreOwn passes h rows → entries ≡ numbered passes [] h
journal_is h rows found actors numbers entries told all counted is passes own =
    let long = length-map h (λ (e : Entry). actor_with 1 passes e.pass) in
    let same = found_all actors (actors_of passes h) (subst (λ (s : List (Option ℕ)). Agree s (actors_of passes h)) all (told (actors_of passes h) long own.told)) in
    is
    ∙ ap₂ (with_numbers h) same (counted ∙ ap (running []) same)
    ∙ as_numbered passes own.apart [] h tt (each_of (all_of passes) h own.whole)
