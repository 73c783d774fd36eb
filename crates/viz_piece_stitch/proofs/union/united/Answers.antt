use Rattle.std.proofs.Common.{rules}
use Rattle.std.proofs.lemmas.Cmp.{nat_list_cmp_total, nat_list_eq_equiv}
use Rattle.std.proofs.lemmas.List.Filters.{dedup_is}
use Rattle.std.proofs.lemmas.List.Kept.{Contains-from_dedup, IsStrictlySortedBy-dedup, Contains-dedup}
use Rattle.std.proofs.lemmas.List.Sorted.{Contains-permutation, IsPermutation-sym}
use Rattle.viz_piece_stitch.proofs.UnionLemmas.{points_tie, same_points}
use Rattle.viz_piece_stitch.proofs.union.united.Goals as goal

pub returns : goal.returns
returns g c = record {
  ascending = rw (dedup_is _ _ _ c.dedup.ensures.filtered) (IsStrictlySortedBy-dedup nat_list_cmp_total points_tie _ c.in_ok-sort.ensures.sorted);
  keeps = λ n h. rw (dedup_is _ _ _ c.dedup.ensures.filtered) (Contains-dedup nat_list_eq_equiv same_points _ n (Contains-permutation _ _ n c.in_ok-sort.ensures.permutation h));
  adds_none = λ n h. Contains-permutation _ _ n (IsPermutation-sym _ _ c.in_ok-sort.ensures.permutation) (Contains-from_dedup _ _ n (rw (dedup_is _ _ _ c.dedup.ensures.filtered) at h));
  fewer = search rules;
}
