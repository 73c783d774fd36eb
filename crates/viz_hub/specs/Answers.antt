-- What a batch by a pass is answered, and what the pass has seen then (docs/DEFINITIONS.md,
-- "Histories").
use Rattle.std.specs.Prelude.{◌≡◌, ◌<◌, List, ◌∷◌, [], ◌++◌, length, Ok, Err}
use Rattle.viz_network.specs.declared.edit.Edit.{Edit}
use Rattle.viz_entries.specs.declared.entry.Entry.{Entry}
use Rattle.viz_history.specs.declared.answer.EditAnswer.{EditAnswer}
use Rattle.viz_history.specs.declared.answer.EditAnswer.TheVariants.{Done, Refused, Full, Memory}
use Rattle.viz_entries.specs.History.{entry, next, network_of, apply_behind}
use Rattle.viz_hub.specs.Passes.{PassKnown, GoesFurther}

-- the entry that the pass makes next, of this batch
abbrev pub next_entry : PassKnown → List Edit → Entry
next_entry p batch = entry p.number (next p.number p.seen) batch

-- others' entries, and behind them, where the batch is accepted, the next entry of the pass; `at`
-- entries in all
abbrev pub Answers : PassKnown → List Edit → EditAnswer → List Entry → Type 0
Answers p batch (Done at) seen =
    (others : List Entry) × GoesFurther p others × (seen ≡ others ++ next_entry p batch ∷ [])
    × (at ≡ length seen) × (length others < p.turn.mark)
    × (apply_behind others batch ≡ Ok (network_of seen))
Answers p batch (Refused index r at) seen =
    GoesFurther p seen × (at ≡ length seen) × (length seen < p.turn.mark)
    × (apply_behind seen batch ≡ Err (index, r))
Answers p batch (Full at) seen = GoesFurther p seen × (at ≡ length seen) × (at ≡ p.turn.mark)
Answers p batch Memory seen = GoesFurther p seen × (length seen < p.turn.mark)

-- the entries that the history has of the batch
abbrev pub gained : PassKnown → List Edit → EditAnswer → List Entry
gained p batch (Done at) = next_entry p batch ∷ []
gained p batch answer = []
