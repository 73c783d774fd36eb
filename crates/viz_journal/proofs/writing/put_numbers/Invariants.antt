use Rattle.std.proofs.Common.{◌≡◌, ◌++◌, map, take}
use Rattle.std.specs.List.{flat_map}
use Rattle.std.specs.Fmt.{signed_decimal}
use Rattle.viz_words.specs.Words.{behind_space}
use Rattle.viz_journal.proofs.writing.put_numbers.Given as goal

-- the numbers so far are written
abbrev pub invariant-loop-n : goal.invariant-loop-n
invariant-loop-n l = l.text.items ≡ l.fn.text.items ++ flat_map behind_space (map signed_decimal (take l.n-index l.numbers))
