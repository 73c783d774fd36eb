-- Marks of the ranks of cells of one level, one cell after the other.
use Rattle.std.proofs.Common.{false, inl, inr, ◌≡◌, ℕ, ◌+◌, Bool, true, Some, List, [], get_or, cond, refl, sym, subst, ◌∙◌, ⊎_elim, arith}
use Rattle.std.proofs.lemmas.Bool.{cases_lt}
use Rattle.std.proofs.lemmas.List.Elements.{Contains-get_or}
use Rattle.std.specs.List.{Contains}
use Rattle.viz_sheet.proofs.MemberLemmas.{no_member}
use Rattle.viz_sheet.specs.Steps.Marking.{IsMarkedBy}
use Rattle.viz_piece_restrict.specs.Steps.Levels.{AreMarked, AreMarkedTo, HasRankAt, level_at}

-- no cell yet
pub none-marked_to : {X : Type 0} (ranks : X → List ℕ) (cells : List X) (there : List Bool) (levels : List ℕ) (level : ℕ) (old : List Bool) → AreMarkedTo ranks 0 cells there levels level old old
none-marked_to ranks cells there levels level old = record {
  size = refl;
  kept = λ r o. o;
  added = λ k d l e. absurd (omega (arith, l));
  only = λ d r o. inl o;
}

all_added : (mid new : List Bool) (cell : List ℕ) → IsMarkedBy mid cell new → AreMarked new cell
all_added mid new cell m = λ j z b. m.added (get_or cell j z) (Contains-get_or cell j z b)

-- one cell more
pub marked-more : {X : Type 0} (ranks : X → List ℕ) (i : ℕ) (cells : List X) (there : List Bool) (levels : List ℕ) (level : ℕ) (old mid new : List Bool) (wanted : Bool) (item : X)
    → ((d : X) → get_or cells i d ≡ item) → (level_at there levels i ≡ Some level → wanted ≡ true) → (wanted ≡ true → level_at there levels i ≡ Some level)
    → AreMarkedTo ranks i cells there levels level old mid → IsMarkedBy mid (cond wanted (ranks item) []) new
    → AreMarkedTo ranks (i + 1) cells there levels level old new
marked-more {X} ranks i cells there levels level old mid new wanted item at is back h m = record {
  size = m.size ∙ h.size;
  kept = λ r o. m.kept r (h.kept r o);
  added = λ k d l e. ⊎_elim
      (λ below. λ j z b. m.kept (get_or (ranks (get_or cells k d)) j z) (h.added k d below e j z b))
      (λ from. last k d (omega (arith, l, from)) e)
      (cases_lt k i);
  only = λ d r o. ⊎_elim
      (λ was. ⊎_elim inl (λ has. inr (wider d r has)) (h.only d r was))
      (λ has. inr (new_rank wanted refl d r has))
      (m.only r o);
}
  where
    wider : (d : X) (r : ℕ) → HasRankAt ranks i cells there levels level d r → HasRankAt ranks (i + 1) cells there levels level d r
    wider d r has = record { cell = has.cell; below = omega (arith, has.below); level_is = has.level_is; has = has.has }

    new_rank : (w : Bool) → wanted ≡ w → (d : X) (r : ℕ) → Contains (cond w (ranks item) []) r → HasRankAt ranks (i + 1) cells there levels level d r
    new_rank true e d r c = record { cell = i; below = omega arith; level_is = back e; has = subst (λ x. Contains (ranks x) r) (sym (at d)) c }
    new_rank false e d r c = absurd (no_member r c)

    last : (k : ℕ) (d : X) → i ≡ k → level_at there levels k ≡ Some level → AreMarked new (ranks (get_or cells k d))
    last k d same e =
        let here : level_at there levels i ≡ Some level = subst (λ q. level_at there levels q ≡ Some level) (sym same) e in
        let by : IsMarkedBy mid (ranks item) new = subst (λ y. IsMarkedBy mid (cond y (ranks item) []) new) (is here) m in
        subst (λ q. AreMarked new (ranks (get_or cells q d))) same
        (subst (λ x. AreMarked new (ranks x)) (sym (at d)) (all_added mid new (ranks item) by))
