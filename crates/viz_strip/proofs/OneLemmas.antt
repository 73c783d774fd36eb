-- Triangles have one list of strips.
use Rattle.std.proofs.Common.{◌≡◌, ℕ, Bool, true, false, not, List, [], ◌∷◌, ◌++◌, refl, sym, ap, ap₂, subst, ◌∙◌, true≢false}
use Rattle.std.specs.Prelude.{All}
use Rattle.std.proofs.lemmas.List.Elements.{All-head, All-tail}
use Rattle.viz_strip.specs.Strips.{AreStrips, IsFirst, IsGrown, IsStrip, goes_on, third}
use Rattle.viz_strip.proofs.KeptLemmas.{All-middle}

first-of : (test : List ℕ → Bool) (f g : List (List ℕ)) (t u : List ℕ) (p q : List (List ℕ)) → f ++ t ∷ p ≡ g ++ u ∷ q → All (λ s. test s ≡ false) f → All (λ s. test s ≡ false) g → test t ≡ true → test u ≡ true → (t ≡ u) × (f ++ p ≡ g ++ q)
first-of test [] [] t u p q e a b here there = (cc, cc)
first-of test [] (y ∷ g) t u p q e a b here there =
    let same : t ≡ y = cc in
    absurd (true≢false (sym here ∙ (ap test same ∙ All-head (λ s. test s ≡ false) y g b)))
first-of test (x ∷ f) [] t u p q e a b here there =
    let same : x ≡ u = cc in
    absurd (true≢false (sym there ∙ (ap test (sym same) ∙ All-head (λ s. test s ≡ false) x f a)))
first-of test (x ∷ f) (y ∷ g) t u p q e a b here there =
    let same : x ≡ y = cc in
    let rest : f ++ t ∷ p ≡ g ++ u ∷ q = cc in
    let deep = first-of test f g t u p q rest (All-tail (λ s. test s ≡ false) x f a) (All-tail (λ s. test s ≡ false) y g b) here there in
    (deep.0, ap₂ (λ h r. h ∷ r) same deep.1)

first-one : (test : List ℕ → Bool) (left : List (List ℕ)) (t u : List ℕ) (a b : List (List ℕ)) → IsFirst test left t a → IsFirst test left u b → (t ≡ u) × (a ≡ b)
first-one test left t u a b h k =
    let r = first-of test h.front k.front t u h.behind k.behind (sym h.all ∙ k.all) h.first k.first h.passes k.passes in
    (r.0, h.others_are ∙ (r.1 ∙ sym k.others_are))

none-first : (test : List ℕ → Bool) (left : List (List ℕ)) (t : List ℕ) (others : List (List ℕ)) → All (λ s. test s ≡ false) left → IsFirst test left t others → test t ≡ false
none-first test left t others a h = (All-middle (λ s. test s ≡ false) h.front t h.behind (subst (All (λ s. test s ≡ false)) h.all a)).0

grown-one : (odd : Bool) (u v : ℕ) (m n : List ℕ) (left r s : List (List ℕ)) → IsGrown odd u v m left r → IsGrown odd u v n left s → (m ≡ n) × (r ≡ s)
grown-one odd u v [] [] left r s g h = (refl, g.1 ∙ sym h.1)
grown-one odd u v [] (x ∷ n) left r s g h = absurd (true≢false (sym h.2.passes ∙ none-first (goes_on odd u v) left h.0 h.1 g.0 h.2))
grown-one odd u v (w ∷ m) [] left r s g h = absurd (true≢false (sym g.2.passes ∙ none-first (goes_on odd u v) left g.0 g.1 h.0 g.2))
grown-one odd u v (w ∷ m) (x ∷ n) left r s g h =
    let one = first-one (goes_on odd u v) left g.0 h.0 g.1 h.1 g.2 h.2 in
    let name : w ≡ x = g.3 ∙ (ap (third u v) one.0 ∙ sym h.3) in
    let other : IsGrown (not odd) v w n g.1 s = subst (λ y. IsGrown (not odd) v y n g.1 s) (sym name) (subst (λ y. IsGrown (not odd) v x n y s) (sym one.1) h.4) in
    let deep = grown-one (not odd) v w m n g.1 r s g.4 other in
    (ap₂ (λ y ys. y ∷ ys) name deep.0, deep.1)

strip-one : (t : List ℕ) (left : List (List ℕ)) (p q : List ℕ) (r s : List (List ℕ)) → IsStrip t left p r → IsStrip t left q s → (p ≡ q) × (r ≡ s)
strip-one t left p q r s h k =
    let names : h.a ∷ h.b ∷ h.c ∷ [] ≡ k.a ∷ k.b ∷ k.c ∷ [] = sym h.begins ∙ k.begins in
    let a : h.a ≡ k.a = cc in
    let b : h.b ≡ k.b = cc in
    let c : h.c ≡ k.c = cc in
    let other : IsGrown true h.b h.c k.more left s = subst (λ y. IsGrown true h.b y k.more left s) (sym c) (subst (λ y. IsGrown true y k.c k.more left s) (sym b) k.grown) in
    let one = grown-one true h.b h.c h.more k.more left r s h.grown other in
    (h.is ∙ (ap₂ (λ x xs. x ∷ xs) a (ap₂ (λ x xs. x ∷ xs) b (ap₂ (λ x xs. x ∷ xs) c one.0)) ∙ sym k.is), one.1)

pub strips-one : (left p q : List (List ℕ)) → AreStrips left p → AreStrips left q → p ≡ q
strips-one left [] [] h k = refl
strips-one left [] (y ∷ q) h k = let e : [] ≡ k.0 ∷ k.1 = sym h ∙ k.3 in cc
strips-one left (x ∷ p) [] h k = let e : [] ≡ h.0 ∷ h.1 = sym k ∙ h.3 in cc
strips-one left (x ∷ p) (y ∷ q) h k =
    let e : h.0 ∷ h.1 ≡ k.0 ∷ k.1 = sym h.3 ∙ k.3 in
    let t : h.0 ≡ k.0 = cc in
    let others : h.1 ≡ k.1 = cc in
    let other : IsStrip h.0 h.1 y k.2 = subst (λ z. IsStrip z h.1 y k.2) (sym t) (subst (λ z. IsStrip k.0 z y k.2) (sym others) k.4) in
    let one = strip-one h.0 h.1 x y h.2 k.2 h.4 other in
    ap₂ (λ z zs. z ∷ zs) one.0 (strips-one h.2 p q h.5 (subst (λ z. AreStrips z q) (sym one.1) k.5))
