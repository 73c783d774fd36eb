-- Tests of equality at ends and sides, with what they decide.
use Rattle.std.proofs.Common.{◌≡◌, ◌==◌, Bool, ◌&&◌, List, sym, ap}
use Rattle.std.specs.Bool.{Decides}
use Rattle.std.specs.Cmp.{IsEquivalence}
use Rattle.std.specs.Set.{distinct_count}
use Rattle.std.specs.Prelude.{◌≢◌, AllPairs, length}
use Rattle.std.proofs.lemmas.Bool.Decides.{Decides-like, Decides-and, Decides-eqb, same_from_decides}
use Rattle.std.proofs.lemmas.Map.Made.{IsDistinct-from_count, AllPairs-from_IsDistinct}
use Rattle.viz_fraction.specs.CaseRows.{End}
use Rattle.viz_fraction.specs.CaseLaws.{Side}

-- a test that decides equality is an equivalence
pub equivalence_from_Decides : {K : Type 0} (same : K → K → Bool)
    → ((x y : K) → Decides (same x y) (x ≡ y)) → IsEquivalence same
equivalence_from_Decides same decides = record {
  refl = λ x. (decides x x).1 (λ _. x);
  symm = λ x y. same_from_decides (same x y) (same y x) (decides x y)
      (Decides-like (same y x) sym sym (decides y x));
  congr = λ x y z equal. ap (λ t. same t z) ((decides x y).0 equal);
}

-- a list in which no element counts twice has different elements
pub different_from_count : {K : Type 0} (same : K → K → Bool)
    → ((x y : K) → Decides (same x y) (x ≡ y)) → (xs : List K)
    → distinct_count same xs ≡ length xs → AllPairs (λ x y. x ≢ y) xs
different_from_count same decides xs once =
    AllPairs-from_IsDistinct decides xs
    (IsDistinct-from_count (equivalence_from_Decides same decides) xs once)

-- whether two ends are the same
abbrev pub same_end : End → End → Bool
same_end e f = (e.low == f.low) && (e.high == f.high)

-- two ends with the same corners are the same
ends_from_corners : (e f : End) → (e.low ≡ f.low) × (e.high ≡ f.high) → e ≡ f
ends_from_corners e f corners = λ i. record { low = corners.0 i; high = corners.1 i }

pub same_end-decides : (e f : End) → Decides (same_end e f) (e ≡ f)
same_end-decides e f =
    Decides-like (same_end e f) (ends_from_corners e f) (λ equal. (ap (λ x. x.low) equal, ap (λ x. x.high) equal))
    (Decides-and (e.low == f.low) (e.high == f.high) (Decides-eqb e.low f.low) (Decides-eqb e.high f.high))

-- whether two sides are the same, in the same direction
abbrev pub same_side : Side → Side → Bool
same_side s t = same_end s.tail t.tail && same_end s.head t.head

-- two sides with the same ends are the same
sides_from_ends : (s t : Side) → (s.tail ≡ t.tail) × (s.head ≡ t.head) → s ≡ t
sides_from_ends s t ends = λ i. record { tail = ends.0 i; head = ends.1 i }

pub same_side-decides : (s t : Side) → Decides (same_side s t) (s ≡ t)
same_side-decides s t =
    Decides-like (same_side s t) (sides_from_ends s t) (λ equal. (ap (λ x. x.tail) equal, ap (λ x. x.head) equal))
    (Decides-and (same_end s.tail t.tail) (same_end s.head t.head)
    (same_end-decides s.tail t.tail) (same_end-decides s.head t.head))
