-- The line in front is that of the definition.
use Rattle.std.proofs.Common.{◌≡◌, ℕ, suc, Bool, true, false, cond, List, [], ◌∷◌, take, drop, Option, None, Some, refl, ap, ◌∙◌}
use Rattle.std.specs.Prelude.{option_map, ◌==◌}
use Rattle.viz_words.specs.Lines.{line_len}
use Rattle.viz_journal.specs.Parts.{Part, part_of, in_line}

abbrev pub part : List ℕ → Bool → List ℕ → Part
part line ended rest = record { line = line; ended = ended; rest = rest }

pub part-ended : (text : List ℕ) (n : ℕ) → line_len text ≡ Some n → part_of text ≡ part (take n text) true (drop (suc n) text)
part-ended [] n h = let bad : ⊥ = cc in absurd bad
part-ended (b ∷ bs) n h = by (b == 10) refl (line_len bs) refl h (part-ended bs)
  where
    by : (t : Bool) → (b == 10) ≡ t → (o : Option ℕ) → line_len bs ≡ o → cond t (Some 0) (option_map suc o) ≡ Some n
        → ((m : ℕ) → line_len bs ≡ Some m → part_of bs ≡ part (take m bs) true (drop (suc m) bs))
        → part_of (b ∷ bs) ≡ part (take n (b ∷ bs)) true (drop (suc n) (b ∷ bs))
    by true e o f g ih =
        let z : 0 ≡ n = cc in
        ap (λ x. cond x (part [] true bs) (in_line b (part_of bs))) e ∙ ap (λ k. part (take k (b ∷ bs)) true (drop (suc k) (b ∷ bs))) z
    by false e None f g ih = let bad : ⊥ = cc in absurd bad
    by false e (Some m) f g ih =
        let z : suc m ≡ n = cc in
        ap (λ x. cond x (part [] true bs) (in_line b (part_of bs))) e ∙ ap (in_line b) (ih m f) ∙ ap (λ k. part (take k (b ∷ bs)) true (drop (suc k) (b ∷ bs))) z

pub part-last : (text : List ℕ) → line_len text ≡ None → part_of text ≡ part text false []
part-last [] h = refl
part-last (b ∷ bs) h = by (b == 10) refl (line_len bs) refl h (part-last bs)
  where
    by : (t : Bool) → (b == 10) ≡ t → (o : Option ℕ) → line_len bs ≡ o → cond t (Some 0) (option_map suc o) ≡ None
        → (line_len bs ≡ None → part_of bs ≡ part bs false []) → part_of (b ∷ bs) ≡ part (b ∷ bs) false []
    by true e o f g ih = let bad : ⊥ = cc in absurd bad
    by false e (Some m) f g ih = let bad : ⊥ = cc in absurd bad
    by false e None f g ih = ap (λ x. cond x (part [] true bs) (in_line b (part_of bs))) e ∙ ap (in_line b) (ih f)
