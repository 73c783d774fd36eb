-- What contracts see of a pass of a hub, and of a pin (docs/DEFINITIONS.md, "Histories"). Of the
-- history a pass knows what one of a turn knows of the tale.
use Rattle.std.specs.Prelude.{◌≡◌, ℕ, List, ◌∷◌, Option, None}
use Rattle.viz_parts.specs.declared.stored.Stored.{Stored}
use Rattle.viz_turn.specs.Tales.{IsWholeBy, GoesOn}
use Rattle.viz_turn.specs.Known.{Identity, Known}
use Rattle.viz_turn.specs.Known as turn
use Rattle.viz_entries.specs.declared.entry.Entry.{Entry}
use Rattle.viz_entries.specs.History.{by_of}
use Rattle.viz_hub.specs.declared.sent.Sent.{Sent}

-- the hub that a pass belongs to, its number, its ended and its born numbers, the history as far as
-- it has seen it, how often it published, modulo 2^64, and what it published last
pub record PassKnown : Type 0 where
  pub turn : Identity
  pub number : ℕ
  pub ended : List ℕ
  pub born : List ℕ
  pub seen : List Entry
  pub sent : ℕ
  pub last : Option Sent

-- a pass, and the parts that were kept when it was pinned
pub record PinKnown : Type 0 where
  pub pass : PassKnown
  pub entries : List Stored

-- what it knows of the history, as a pass of a turn
abbrev pub as_known : PassKnown → Known Entry
as_known p =
    record {
      turn = p.turn;
      number = p.number;
      ended = p.ended;
      born = p.born;
      seen = p.seen;
    }

-- a pass of a turn, which published so often and this last
abbrev pub with_sent : ℕ → Option Sent → Known Entry → PassKnown
with_sent sent last p =
    record {
      turn = p.turn;
      number = p.number;
      ended = p.ended;
      born = p.born;
      seen = p.seen;
      sent = sent;
      last = last;
    }

-- its number and its ended ones
abbrev pub numbers : PassKnown → List ℕ
numbers p = p.number ∷ p.ended

-- all passes were joined into it
abbrev pub IsWhole : PassKnown → Type 0
IsWhole p = IsWholeBy (numbers p) p.born

-- the first pass of a hub, which published nothing
abbrev pub first_pass : Identity → PassKnown
first_pass hub = with_sent 0 None (turn.first_pass hub)

-- the same pass, which has seen this history
abbrev pub at_seen : PassKnown → List Entry → PassKnown
at_seen p history = with_sent p.sent p.last (turn.at_seen (as_known p) history)

-- the pass from which the number n was split off
abbrev pub elder : ℕ → PassKnown → PassKnown
elder n p = with_sent p.sent p.last (turn.elder n (as_known p))

-- the pass that was split off with the number n, which published nothing
abbrev pub younger : ℕ → PassKnown → PassKnown
younger n p = with_sent 0 None (turn.younger n (as_known p))

-- the pass of two, which keeps the number of the first, and what the first published
abbrev pub one : PassKnown → PassKnown → PassKnown
one p q = with_sent p.sent p.last (turn.one (as_known p) (as_known q))

-- the history goes further than the pass has seen it, without an entry of its numbers
abbrev pub GoesFurther : PassKnown → List Entry → Type 0
GoesFurther p history = GoesOn by_of (numbers p) p.seen history

-- no number of the pass, none that was split off, and no entry that it has seen is this
abbrev pub IsFresh : ℕ → PassKnown → Type 0
IsFresh n p = turn.IsFresh by_of n (as_known p)

-- the pass has seen more of the history, and has no entry more
pub record Looks (old new : PassKnown) : Type 0 where
  pub same : new ≡ at_seen old new.seen
  pub further : GoesFurther old new.seen
