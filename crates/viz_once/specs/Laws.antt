-- The fixed history of a command is legal (docs/DEFINITIONS.md, "The fixed history of one file").
use Rattle.std.specs.Prelude.{◌≡◌, ℕ, List, Some}
use Rattle.viz_entries.specs.History.{IsLegal}
use Rattle.viz_once.specs.declared.command.Filter.{Filter}
use Rattle.viz_once.specs.declared.command.Filter.TheVariants.{Node, Reshape}
use Rattle.viz_once.specs.declared.command.NodeFilter.{NodeFilter}
use Rattle.viz_once.specs.Command.{Command, once_of}
use Rattle.viz_once.specs.FixedHistory.{HasNumbers, history_of}

-- the numbers of a filter that is a node are of 64 bits
abbrev pub HaveNumbers : Filter → Type 0
HaveNumbers (Node filter) = HasNumbers filter
HaveNumbers (Reshape reshape) = Unit {0}

-- the numbers of the filter that words tell are of 64 bits
abbrev pub WordsHaveNumbers : Type 0
WordsHaveNumbers = (words : List (List ℕ)) (c : Command) → once_of words ≡ Some c
    → HaveNumbers c.filter

-- each edit of the fixed history is accepted
abbrev pub HistoriesAreLegal : Type 0
HistoriesAreLegal = (filter : NodeFilter) (bytes : List ℕ) → HasNumbers filter
    → IsLegal (history_of filter bytes)
