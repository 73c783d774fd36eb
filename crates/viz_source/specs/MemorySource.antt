-- What contracts see of a source in memory, and what its pulls give (docs/DEFINITIONS.md,
-- "Streams").
use Rattle.std.specs.Prelude.{ℕ, List, [], ◌∷◌, take, drop, min, max, Result, Ok, Err}
use Rattle.viz_base.specs.declared.refusal.Failed.{Failed}
use Rattle.viz_base.specs.Faults.{one_more}
use Rattle.viz_source.specs.declared.limits.TheConstants.{PIECE}

-- the bytes that are left, the sizes of the next pieces, the pulls that are to fail, how many were
-- made, and how many failed
pub record Pieces : Type 0 where
  pub left : List ℕ
  pub cuts : List ℕ
  pub failing : List ℕ
  pub pulls : ℕ
  pub faults : ℕ

-- the greatest size of the next piece: the first of the sizes, brought within 1 and 4,096; 4,096
-- where no size is left
abbrev pub next_size : List ℕ → ℕ
next_size [] = PIECE
next_size (cut ∷ cuts) = min (max cut 1) PIECE

-- the next piece
abbrev pub next_piece : Pieces → List ℕ
next_piece source = take (next_size source.cuts) source.left

-- what is seen after a pull with this answer
abbrev pub after_pull : Pieces → Result ℕ Failed → Pieces
after_pull source (Ok n) = record source {
  left = drop n source.left;
  cuts = drop 1 source.cuts;
  pulls = one_more source.pulls;
}
after_pull source (Err e) = record source {
  pulls = one_more source.pulls;
  faults = one_more source.faults;
}
