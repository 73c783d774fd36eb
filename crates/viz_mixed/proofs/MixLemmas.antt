-- Some of eight bits and not all of them.
use Rattle.std.proofs.Common.{◌≡◌, ℕ, ◌-◌, ◌==◌, ◌&&◌, ◌||◌, Bool, true, false, not, [], ◌∷◌, map, max, min, refl, sym, ap, ap₂, ◌∙◌}
use Rattle.std.specs.Int.{bit_at}
use Rattle.std.specs.List.{list_all, list_any}
use Rattle.std.proofs.lemmas.List.Folds.{list_all-append, list_any-append}
use Rattle.std.proofs.lemmas.Nat.Bits.{bit_at-lt}
use Rattle.viz_mixed.specs.Mixed.{is_mixed}
use Rattle.viz_mixed.specs.Steps.Words.{bit_of}
use Rattle.viz_mixed.proofs.WordLemmas.{bit-is}

or-bits : (p q : Bool) → max (bit_of p) (bit_of q) ≡ bit_of (p || q)
or-bits true true = refl
or-bits true false = refl
or-bits false true = refl
or-bits false false = refl

and-bits : (p q : Bool) → min (bit_of p) (bit_of q) ≡ bit_of (p && q)
and-bits true true = refl
and-bits true false = refl
and-bits false true = refl
and-bits false false = refl

not-bit : (p : Bool) → 1 - bit_of p ≡ bit_of (not p)
not-bit true = refl
not-bit false = refl

some-of : (x y : ℕ) (p q : Bool) → x ≡ bit_of p → y ≡ bit_of q → max x y ≡ bit_of (p || q)
some-of x y p q ex ey = ap₂ max ex ey ∙ or-bits p q

all-of : (x y : ℕ) (p q : Bool) → x ≡ bit_of p → y ≡ bit_of q → min x y ≡ bit_of (p && q)
all-of x y p q ex ey = ap₂ min ex ey ∙ and-bits p q

any-two : (p q : Bool) → list_any (λ f. f) (p ∷ q ∷ []) ≡ (p || q)
any-two true q = refl
any-two false true = refl
any-two false false = refl

all-two : (p q : Bool) → list_all (λ f. f) (p ∷ q ∷ []) ≡ (p && q)
all-two false q = refl
all-two true true = refl
all-two true false = refl

abbrev same : Bool → Bool
same f = f

any-four : (p q r s : Bool) → list_any same (p ∷ q ∷ r ∷ s ∷ []) ≡ ((p || q) || (r || s))
any-four p q r s = list_any-append same (p ∷ q ∷ []) (r ∷ s ∷ []) ∙ ap₂ (λ x y. x || y) (any-two p q) (any-two r s)

all-four : (p q r s : Bool) → list_all same (p ∷ q ∷ r ∷ s ∷ []) ≡ ((p && q) && (r && s))
all-four p q r s = list_all-append same (p ∷ q ∷ []) (r ∷ s ∷ []) ∙ ap₂ (λ x y. x && y) (all-two p q) (all-two r s)

mixed-eight : (a b c d e f g h : Bool)
    → is_mixed (a ∷ b ∷ c ∷ d ∷ e ∷ f ∷ g ∷ h ∷ [])
    ≡ ((((a || b) || (c || d)) || ((e || f) || (g || h))) && not (((a && b) && (c && d)) && ((e && f) && (g && h))))
mixed-eight a b c d e f g h =
    ap₂ (λ x y. x && not y)
    (list_any-append same (a ∷ b ∷ c ∷ d ∷ []) (e ∷ f ∷ g ∷ h ∷ []) ∙ ap₂ (λ x y. x || y) (any-four a b c d) (any-four e f g h))
    (list_all-append same (a ∷ b ∷ c ∷ d ∷ []) (e ∷ f ∷ g ∷ h ∷ []) ∙ ap₂ (λ x y. x && y) (all-four a b c d) (all-four e f g h))

pub mixed-bits : (a b c d e f g h t : ℕ)
    → min (max (max (max (bit_at a t) (bit_at b t)) (max (bit_at c t) (bit_at d t))) (max (max (bit_at e t) (bit_at f t)) (max (bit_at g t) (bit_at h t))))
    (1 - min (min (min (bit_at a t) (bit_at b t)) (min (bit_at c t) (bit_at d t))) (min (min (bit_at e t) (bit_at f t)) (min (bit_at g t) (bit_at h t))))
    ≡ bit_of (is_mixed (map (λ word. bit_at word t == 1) (a ∷ b ∷ c ∷ d ∷ e ∷ f ∷ g ∷ h ∷ [])))
mixed-bits a b c d e f g h t =
    all-of _ _ (((bit a || bit b) || (bit c || bit d)) || ((bit e || bit f) || (bit g || bit h))) (not (((bit a && bit b) && (bit c && bit d)) && ((bit e && bit f) && (bit g && bit h))))
    (some-of _ _ ((bit a || bit b) || (bit c || bit d)) ((bit e || bit f) || (bit g || bit h))
    (some-of _ _ (bit a || bit b) (bit c || bit d) (some-of _ _ (bit a) (bit b) (is a) (is b)) (some-of _ _ (bit c) (bit d) (is c) (is d)))
    (some-of _ _ (bit e || bit f) (bit g || bit h) (some-of _ _ (bit e) (bit f) (is e) (is f)) (some-of _ _ (bit g) (bit h) (is g) (is h))))
    (ap (λ k. 1 - k)
    (all-of _ _ ((bit a && bit b) && (bit c && bit d)) ((bit e && bit f) && (bit g && bit h))
    (all-of _ _ (bit a && bit b) (bit c && bit d) (all-of _ _ (bit a) (bit b) (is a) (is b)) (all-of _ _ (bit c) (bit d) (is c) (is d)))
    (all-of _ _ (bit e && bit f) (bit g && bit h) (all-of _ _ (bit e) (bit f) (is e) (is f)) (all-of _ _ (bit g) (bit h) (is g) (is h))))
    ∙ not-bit (((bit a && bit b) && (bit c && bit d)) && ((bit e && bit f) && (bit g && bit h))))
    ∙ ap bit_of (sym (mixed-eight (bit a) (bit b) (bit c) (bit d) (bit e) (bit f) (bit g) (bit h)))
  where
    bit : ℕ → Bool
    bit n = bit_at n t == 1

    is : (n : ℕ) → bit_at n t ≡ bit_of (bit n)
    is n = bit-is (bit_at n t) (bit_at-lt n t)
