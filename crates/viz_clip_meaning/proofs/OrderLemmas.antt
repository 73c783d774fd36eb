-- Sets in order and split solids, under a function that keeps the order of vertices.
use Rattle.std.proofs.Common.{◌≡◌, Bool, true, false, ◌&&◌, ◌||◌, List, [], ◌∷◌, map, cond, Ordering, is_lt, refl, sym, ap, ap₂, ◌∙◌}
use Rattle.std.specs.Cmp.Lexicographic.{slice_cmp}
use Rattle.std.specs.Ordering.{ordering_then}
use Rattle.viz_meaning.proofs.ListLemmas.{map-twice}
use Rattle.viz_clip_meaning.specs.Order.{with_item, ascending, is_least}
use Rattle.viz_clip_meaning.specs.Solids.{halves, from_least, split_prism, split, in_order}

-- a choice between lists, by a function
choice-map : {A B : Type 0} (g : A → B) (b : Bool) (u v : List A) → cond b (map g u) (map g v) ≡ map g (cond b u v)
choice-map g true u v = refl
choice-map g false u v = refl

-- the same, where the test is another one of the same truth
chosen : {A B : Type 0} (g : A → B) (b c : Bool) (u v : List A) (s t : List B) → b ≡ c → s ≡ map g u → t ≡ map g v → cond b s t ≡ map g (cond c u v)
chosen g b c u v s t e p q = ap (λ x. cond x s t) e ∙ ap₂ (cond c) p q ∙ choice-map g c u v

module _ {A B : Type 0} (R : A → A → Ordering) (S : B → B → Ordering) (f : A → B) (keeps : (x y : A) → S (f x) (f y) ≡ R x y) where
  with_item-map : (x : A) (ys : List A) → with_item S (f x) (map f ys) ≡ map f (with_item R x ys)
  with_item-map x [] = refl
  with_item-map x (y ∷ ys) =
      chosen f (is_lt (S (f x) (f y))) (is_lt (R x y)) (x ∷ y ∷ ys) (cond (is_lt (R y x)) (y ∷ with_item R x ys) (y ∷ ys)) _ _ (ap is_lt (keeps x y)) refl
      (chosen f (is_lt (S (f y) (f x))) (is_lt (R y x)) (y ∷ with_item R x ys) (y ∷ ys) _ _ (ap is_lt (keeps y x)) (ap (λ t. f y ∷ t) (with_item-map x ys)) refl)

  pub ascending-map : (xs : List A) → ascending S (map f xs) ≡ map f (ascending R xs)
  ascending-map [] = refl
  ascending-map (x ∷ xs) = ap (with_item S (f x)) (ascending-map xs) ∙ with_item-map x (ascending R xs)

  is_least-map : (x : A) (ys : List A) → is_least S (f x) (map f ys) ≡ is_least R x ys
  is_least-map x [] = refl
  is_least-map x (y ∷ ys) = ap₂ (λ p q. p && q) (ap is_lt (keeps x y)) (is_least-map x ys)

  halves-map : (p q r s : A) → halves S (f p) (f q) (f r) (f s) ≡ map (map f) (halves R p q r s)
  halves-map p q r s =
      chosen (map f) (is_least S (f p) (map f (q ∷ r ∷ s ∷ [])) || is_least S (f r) (map f (p ∷ q ∷ s ∷ [])))
      (is_least R p (q ∷ r ∷ s ∷ []) || is_least R r (p ∷ q ∷ s ∷ []))
      ((p ∷ q ∷ r ∷ []) ∷ (p ∷ r ∷ s ∷ []) ∷ []) ((p ∷ q ∷ s ∷ []) ∷ (q ∷ r ∷ s ∷ []) ∷ []) _ _
      (ap₂ (λ a b. a || b) (is_least-map p (q ∷ r ∷ s ∷ [])) (is_least-map r (p ∷ q ∷ s ∷ []))) refl refl

  from_least-map : (p q r s t u : A) → from_least S (f p) (f q) (f r) (f s) (f t) (f u) ≡ map (map f) (from_least R p q r s t u)
  from_least-map p q r s t u =
      ap (λ l. (f p ∷ f s ∷ f t ∷ f u ∷ []) ∷ l)
      (ap (map (λ half. f p ∷ half)) (halves-map q r u t)
      ∙ map-twice (λ half. f p ∷ half) (map f) (halves R q r u t)
      ∙ sym (map-twice (map f) (λ half. p ∷ half) (halves R q r u t)))

  split_prism-map : (a b c d e g : A) → split_prism S (f a) (f b) (f c) (f d) (f e) (f g) ≡ map (map f) (split_prism R a b c d e g)
  split_prism-map a b c d e g =
      chosen (map f) (is_least S (f a) (map f (b ∷ c ∷ d ∷ e ∷ g ∷ []))) _ (from_least R a b c d e g) _ _ _ (is_least-map a (b ∷ c ∷ d ∷ e ∷ g ∷ [])) (from_least-map a b c d e g)
      (chosen (map f) (is_least S (f b) (map f (a ∷ c ∷ d ∷ e ∷ g ∷ []))) _ (from_least R b c a e g d) _ _ _ (is_least-map b (a ∷ c ∷ d ∷ e ∷ g ∷ [])) (from_least-map b c a e g d)
      (chosen (map f) (is_least S (f c) (map f (a ∷ b ∷ d ∷ e ∷ g ∷ []))) _ (from_least R c a b g d e) _ _ _ (is_least-map c (a ∷ b ∷ d ∷ e ∷ g ∷ [])) (from_least-map c a b g d e)
      (chosen (map f) (is_least S (f d) (map f (a ∷ b ∷ c ∷ e ∷ g ∷ []))) _ (from_least R d e g a b c) _ _ _ (is_least-map d (a ∷ b ∷ c ∷ e ∷ g ∷ [])) (from_least-map d e g a b c)
      (chosen (map f) (is_least S (f e) (map f (a ∷ b ∷ c ∷ d ∷ g ∷ []))) _ (from_least R e g d b c a) (from_least R g d e c a b) _ _ (is_least-map e (a ∷ b ∷ c ∷ d ∷ g ∷ [])) (from_least-map e g d b c a)
      (from_least-map g d e c a b)))))

  pub split-map : (vs : List A) → split S (map f vs) ≡ map (map f) (split R vs)
  split-map [] = refl
  split-map (a ∷ []) = refl
  split-map (a ∷ b ∷ []) = refl
  split-map (a ∷ b ∷ c ∷ []) = refl
  split-map (a ∷ b ∷ c ∷ d ∷ []) = refl
  split-map (a ∷ b ∷ c ∷ d ∷ e ∷ []) = refl
  split-map (a ∷ b ∷ c ∷ d ∷ e ∷ g ∷ []) = split_prism-map a b c d e g
  split-map (a ∷ b ∷ c ∷ d ∷ e ∷ g ∷ h ∷ vs) = refl

  pub lists-keep : (xs ys : List A) → slice_cmp S (map f xs) (map f ys) ≡ slice_cmp R xs ys
  lists-keep [] [] = refl
  lists-keep [] (y ∷ ys) = refl
  lists-keep (x ∷ xs) [] = refl
  lists-keep (x ∷ xs) (y ∷ ys) = ap₂ ordering_then (keeps x y) (lists-keep xs ys)

  each-ascending : (ts : List (List A)) → map (ascending S) (map (map f) ts) ≡ map (map f) (map (ascending R) ts)
  each-ascending [] = refl
  each-ascending (t ∷ ts) = ap₂ (λ x xs. x ∷ xs) (ascending-map t) (each-ascending ts)

-- tetrahedra in order
pub in_order-map : {A B : Type 0} (R : A → A → Ordering) (S : B → B → Ordering) (f : A → B) → ((x y : A) → S (f x) (f y) ≡ R x y)
    → (ts : List (List A)) → in_order S (map (map f) ts) ≡ map (map f) (in_order R ts)
in_order-map R S f keeps ts =
    ap (ascending (slice_cmp S)) (each-ascending R S f keeps ts)
    ∙ ascending-map (slice_cmp R) (slice_cmp S) (map f) (lists-keep R S f keeps) (map (ascending R) ts)
