-- Which seats are those of a turn.
use Rattle.std.specs.Prelude.{◌≡◌, ℕ, Option}
use Rattle.atomic_table.specs.declared.shared.Seat.{Seat}
use Rattle.viz_turn.specs.declared.view.View.{View}
use Rattle.viz_turn.specs.declared.turn.Turn.{Turn}
use Rattle.viz_turn.specs.Passes.{identity, shown}

-- the seat is one of this turn, and has its mark
abbrev pub IsSeatOf : {S E : Type 0} → (S → ℕ) → Turn S E → Seat (Option S) (View E) → Type 0
IsSeatOf mark t s = (shown s.table_id s.me.0).turn ≡ identity mark t
