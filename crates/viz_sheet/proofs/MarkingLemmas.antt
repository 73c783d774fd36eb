-- Marks after one more rank, and after one more cell.
use Rattle.std.proofs.Common.{◌≡◌, ◌≢◌, ℕ, zero, suc, ◌+◌, ◌<◌, Bool, true, false, ◌⊎◌, inl, inr, ⊎_elim, List, [], ◌∷◌, ◌++◌, length, get_or, take, set, replicate, refl, sym, ap, subst, ◌∙◌, true≢false, arith, append-nil, length-set}
use Rattle.std.specs.List.{Contains, flat_map}
use Rattle.std.proofs.lemmas.Bool.{cases_lt}
use Rattle.std.proofs.lemmas.List.{take_more, get_or-set_same, get_or-set_other}
use Rattle.std.proofs.lemmas.Grind.{flat_map-append}
use Rattle.std.proofs.lemmas.List.Elements.{Contains-append_left, Contains-append_right, Contains-append_cases, Contains-push, Contains-push_cases}
use Rattle.viz_sheet.specs.Kept.{AreMarks}
use Rattle.viz_sheet.specs.Steps.Marking.{IsMarkedBy}

-- after a write of true
set_true : (marks : List Bool) (i r : ℕ) → i < length marks → get_or (set marks i true) r false ≡ true → (get_or marks r false ≡ true) ⊎ (i ≡ r)
set_true marks i r l h =
    ⊎_elim
    (λ below. inl (sym (other (λ e. absurd (omega arith))) ∙ h))
    (λ from. ⊎_elim (λ above. inl (sym (other (λ e. absurd (omega arith))) ∙ h)) (λ same. inr (omega arith)) (cases_lt r i))
    (cases_lt i r)
  where
    other : i ≢ r → get_or (set marks i true) r false ≡ get_or marks r false
    other d = get_or-set_other marks i r true false (λ e. d (sym e))

keeps_true : (marks : List Bool) (i r : ℕ) → i < length marks → get_or marks r false ≡ true → get_or (set marks i true) r false ≡ true
keeps_true marks i r l h =
    ⊎_elim
    (λ below. get_or-set_other marks i r true false (λ e. absurd (omega arith)) ∙ h)
    (λ from. ⊎_elim (λ above. get_or-set_other marks i r true false (λ e. absurd (omega arith)) ∙ h) (λ same. subst (λ q. get_or (set marks i true) q false ≡ true) {x = i} {y = r} (omega arith) (get_or-set_same marks i true false l)) (cases_lt r i))
    (cases_lt i r)

pub rank_marked : (old : List Bool) (cell : List ℕ) (new : List Bool) (i : ℕ) → i < length new → IsMarkedBy old cell new → IsMarkedBy old (cell ++ i ∷ []) (set new i true)
rank_marked old cell new i l h = record {
  size = length-set new i true ∙ h.size;
  kept = λ r m. keeps_true new i r l (h.kept r m);
  added = λ r c. ⊎_elim (λ d. keeps_true new i r l (h.added r d)) (λ e. subst (λ q. get_or (set new i true) q false ≡ true) e (get_or-set_same new i true false l)) (Contains-push_cases cell i r c);
  only = λ r m. ⊎_elim (λ n. ⊎_elim inl (λ c. inr (Contains-append_left cell (i ∷ []) r c)) (h.only r n)) (λ e. inr (subst (Contains (cell ++ i ∷ [])) e (Contains-push cell i))) (set_true new i r l m);
}

-- one cell after others
pub cell_marked : (old : List Bool) (cells : List ℕ) (mid : List Bool) (cell : List ℕ) (new : List Bool) → IsMarkedBy old cells mid → IsMarkedBy mid cell new → IsMarkedBy old (cells ++ cell) new
cell_marked old cells mid cell new h k = record {
  size = k.size ∙ h.size;
  kept = λ r m. k.kept r (h.kept r m);
  added = λ r c. ⊎_elim (λ d. k.kept r (h.added r d)) (λ d. k.added r d) (Contains-append_cases cells cell r c);
  only = λ r m. ⊎_elim (λ n. ⊎_elim inl (λ c. inr (Contains-append_left cells cell r c)) (h.only r n)) (λ c. inr (Contains-append_right cells cell r c)) (k.only r m);
}

-- nothing marked yet
pub none_marked : (old : List Bool) → IsMarkedBy old [] old
none_marked old = record {
  size = refl;
  kept = λ r m. m;
  added = λ r c. absurd (omega (arith, c.1));
  only = λ r m. inl m;
}

-- the first cells and one more
pub flat-more : {X : Type 0} (f : X → List ℕ) (xs : List X) (i : ℕ) (d : X) → i < length xs → flat_map f (take (i + 1) xs) ≡ flat_map f (take i xs) ++ f (get_or xs i d)
flat-more f xs i d l =
    ap (flat_map f) (take_more xs i d l) ∙ flat_map-append f (take i xs) (get_or xs i d ∷ [])
    ∙ ap (λ m. flat_map f (take i xs) ++ m) (append-nil (f (get_or xs i d)))

-- where nothing was marked, just the ranks are
none_true : (n r : ℕ) → get_or (replicate n false) r false ≡ false
none_true zero r = refl
none_true (suc n) zero = refl
none_true (suc n) (suc r) = none_true n r

pub just_marked : (n : ℕ) (cells : List (List ℕ)) (new : List Bool) → length new ≡ n → IsMarkedBy (replicate n false) (flat_map (λ cell. cell) cells) new → AreMarks n cells new
just_marked n cells new l h = record {
  size = l;
  each = λ r. (
    λ m. ⊎_elim (λ t. absurd (true≢false (sym t ∙ none_true n r))) (λ c. c) (h.only r m),
    λ c. h.added r c,
  );
}
