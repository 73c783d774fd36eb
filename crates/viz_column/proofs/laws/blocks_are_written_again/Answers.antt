use Rattle.std.proofs.Common.{◌/◌, length, ap, ◌∙◌, ◌*◌, ℕ}
use Rattle.viz_column.specs.Kinds.{size_of}
use Rattle.viz_column.proofs.ListLemmas.{length-first, size_again, fits-numbers_in, block_again}
use Rattle.viz_column.proofs.laws.blocks_are_written_again.Goals as goal

pub returns-clause-long : goal.returns-clause-long
returns-clause-long c = λ kind bytes whole.
    ap (λ (k : ℕ). size_of kind * k) (length-first (length bytes / size_of kind) kind bytes) ∙ size_again kind bytes whole

pub returns-clause-fit : goal.returns-clause-fit
returns-clause-fit c = λ kind bytes small. fits-numbers_in kind bytes small

pub returns-clause-again : goal.returns-clause-again
returns-clause-again c = λ kind bytes whole small. block_again kind bytes whole small
