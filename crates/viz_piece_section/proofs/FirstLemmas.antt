-- Each cell of the section of a tetrahedron has an end at the first corner.
use Rattle.std.proofs.Common.{◌≡◌, ℕ, zero, suc, ◌^◌, ◌<◌, ◌≤◌, ◌==◌, Bool, true, List, [], length, get_or, map, refl, subst, ap, ◌∙◌, arith}
use Rattle.std.specs.List.{All, Contains, list_all, list_any}
use Rattle.std.proofs.lemmas.Bool.{eqb-true}
use Rattle.std.proofs.lemmas.List.Folds.{Any-from_list_any}
use Rattle.std.proofs.lemmas.List.Sums.{AllPass-from_list_all}
use Rattle.viz_fraction.specs.CaseRows.{End}
use Rattle.viz_fraction.specs.Cases.{cells_at}
use Rattle.viz_fraction.proofs.CaseTable.{EachBelow}
use Rattle.viz_meaning.proofs.BitLemmas.{mask_below}
use Rattle.viz_meaning.proofs.ListLemmas.{all-map, contains-map}
use Rattle.viz_meaning.specs.Section.{cells_in, end_name, mask_of}

-- an end is at the first corner
abbrev is_first : End → Bool
is_first e = e.low == 0

below-each : (P : ℕ → Type 0) (n : ℕ) → EachBelow P n → (k : ℕ) → k < n → P k
below-each P zero facts k below = absurd (omega arith)
below-each P (suc n) (here, later) zero below = here
below-each P (suc n) (here, later) (suc k) below = below-each (λ i. P (suc i)) n later k (omega arith)

table : (m : ℕ) → m < 16 → list_all (list_any is_first) (cells_at 4 m) ≡ true
unfolding cells_at
table m below =
    below-each (λ m. list_all (list_any is_first) (cells_at 4 m) ≡ true) 16
    (refl, (refl, (refl, (refl, (refl, (refl, (refl, (refl, (refl, (refl, (refl, (refl, (refl, (refl, (refl, (refl, tt)))))))))))))))) m below

-- a cell by names has the name of such an end
pub record HasFirst (corners : List (List ℕ)) (piece : List (List ℕ)) : Type 0 where
  pub end : End
  pub low : end.low ≡ 0
  pub used : Contains piece (end_name corners end)

pub has-first : (inside : List ℕ → Bool) (corners : List (List ℕ)) → length corners ≡ 4 → All (HasFirst corners) (cells_in inside corners)
has-first inside corners four =
    let m = mask_of inside corners in
    let below : m < 16 = subst (λ k. m < 2 ^ k) four (mask_below inside corners (omega (arith, four))) in
    let ends = cells_at (length corners) m in
    let pass : list_all (list_any is_first) ends ≡ true = ap (λ k. list_all (list_any is_first) (cells_at k m)) four ∙ table m below in
    all-map (HasFirst corners) (map (end_name corners)) ends (λ k d l.
    let cell = get_or ends k d in
    let any = Any-from_list_any is_first cell (AllPass-from_list_all (list_any is_first) ends pass k d l) in
    record {
      end = any.1;
      low = eqb-true any.1.low 0 any.4;
      used = contains-map (end_name corners) cell any.1 (any.0, any.2, any.3);
    })
