-- A whole session: its lines, their answers, the history of the accepted batches, and the calls of
-- its port (docs/DEFINITIONS.md, "Sessions").
use Rattle.std.specs.Prelude.{◌≡◌, ℕ, List, [], ◌∷◌, All, Option, map}
use Rattle.viz_base.specs.declared.out.Out as out
use Rattle.viz_base.specs.declared.port.Port as port
use Rattle.viz_entries.specs.declared.entry.Entry.{Entry}
use Rattle.viz_account.specs.Account.{IsAccountOf}
use Rattle.viz_account.specs.Laws.{CountEdits, IsClosedLine}
use Rattle.viz_actor.specs.Groups.{history_limit}
use Rattle.viz_source.specs.declared.source.Source as source
use Rattle.viz_console.specs.declared.ending.End.{End}
use Rattle.viz_console.specs.Lines.{start, dues}
use Rattle.viz_console.specs.Replies.{Reply, due_of, commands, lines_told}
use Rattle.viz_console.specs.Ends.{IsEnd}

-- the answers to lines, with this history: each is what was due, in order. The lines of commands
-- have the account of one actor: the history is legal, its entries are the batches that the lines
-- tell, in order; each line tells what became of its command in the network of the first N entries,
-- N the number that it shows, which counts the entries made up to it; and the calls of the port are
-- those of the commands. What audits counted is closed up to the boundary.
pub record AreAnswered {P : Type 0} (m : port.Ghosts P) (lines : List (Option (List ℕ)))
    (replies : List Reply) (history : List Entry) (before after : P) : Type 0 where
  pub due : map due_of replies ≡ dues start lines
  pub account : IsAccountOf m history_limit ((commands replies ∷ []) ∷ []) history
      ((lines_told replies ∷ []) ∷ []) (before ∷ []) (after ∷ [])
  pub counted : CountEdits 0 (lines_told replies)
  pub closed : All IsClosedLine (lines_told replies)

-- a session: lines were read and answered, up to its end
pub record IsSession {S P O : Type 0} (s : source.Ghosts S) (m : port.Ghosts P) (o : out.Ghosts O)
    (end : End) (old new : S) (port_old port_new : P) (before after : O) : Type 0 where
  pub lines : List (Option (List ℕ))
  pub replies : List Reply
  pub history : List Entry
  pub answered : AreAnswered m lines replies history port_old port_new
  pub ended : IsEnd s o lines replies old new before after end
