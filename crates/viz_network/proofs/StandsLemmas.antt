-- Nodes that lie downstream of one can be moved behind all others.
use Rattle.std.proofs.Common.{◌≡◌, ℕ, zero, suc, ◌+◌, ◌<◌, Bool, true, false, not, cond, filter, inl, inr, List, [], ◌∷◌, ◌++◌, append_assoc, append-nil, length, length-append, slice_get, Option, None, Some, refl, sym, ap, subst, ◌∙◌, arith}
use Rattle.std.specs.List.{AllByRecursion}
use Rattle.viz_base.specs.declared.node.NodeId.{NodeId}
use Rattle.viz_network.specs.declared.node.Node.{Node}
use Rattle.viz_network.specs.Network.{Network, node_of}
use Rattle.viz_network.specs.Steps.Order.{IsBefore, Has, IsFedFrom, Stands}

pub Has-left : (xs ys : List NodeId) (x : NodeId) → Has xs x → Has (xs ++ ys) x
Has-left [] ys x h = absurd h
Has-left (y ∷ xs) ys x (inl e) = inl e
Has-left (y ∷ xs) ys x (inr h) = inr (Has-left xs ys x h)

pub Has-right : (xs ys : List NodeId) (x : NodeId) → Has ys x → Has (xs ++ ys) x
Has-right [] ys x h = h
Has-right (y ∷ xs) ys x h = inr (Has-right xs ys x h)

-- what passes the test is in the filtered list
pub Has-filter : (p : NodeId → Bool) (xs : List NodeId) (x : NodeId) → p x ≡ true → Has xs x → Has (filter p xs) x
Has-filter p [] x t h = absurd h
Has-filter p (y ∷ xs) x t (inl e) = subst (λ b. Has (cond b (y ∷ filter p xs) (filter p xs)) x) (sym (ap p (sym e) ∙ t)) (inl e)
Has-filter p (y ∷ xs) x t (inr h) = by (p y) (Has-filter p xs x t h)
  where
    by : (b : Bool) → Has (filter p xs) x → Has (cond b (y ∷ filter p xs) (filter p xs)) x
    by true k = inr k
    by false k = k

pub filter-snoc : (p : NodeId → Bool) (xs : List NodeId) (x : NodeId) → filter p (xs ++ x ∷ []) ≡ filter p xs ++ cond (p x) (x ∷ []) []
filter-snoc p [] x = refl
filter-snoc p (y ∷ xs) x = by (p y) (filter-snoc p xs x)
  where
    by : (b : Bool) → filter p (xs ++ x ∷ []) ≡ filter p xs ++ cond (p x) (x ∷ []) [] → cond b (y ∷ filter p (xs ++ x ∷ [])) (filter p (xs ++ x ∷ [])) ≡ cond b (y ∷ filter p xs) (filter p xs) ++ cond (p x) (x ∷ []) []
    by true e = ap (λ l. y ∷ l) e
    by false e = e

-- two stretches, one behind the other
pub Stands-append : (net : Network) (front xs ys : List NodeId) → Stands net front xs → Stands net (front ++ xs) ys → Stands net front (xs ++ ys)
Stands-append net front [] ys s t = subst (λ f. Stands net f ys) (append-nil front) t
Stands-append net front (x ∷ xs) ys s t = (s.0, s.1, s.2, Stands-append net (front ++ x ∷ []) xs ys s.3 (subst (λ f. Stands net f ys) (sym (append_assoc front (x ∷ []) xs)) t))

-- what feeds an early node is early, and all that feeds a late node stands in front, early or late
module _ (net : Network) (late : NodeId → Bool) (all : List NodeId)
    (early_fed : (x : NodeId) (n : Node) → late x ≡ false → node_of net x.0 ≡ Some n → (front : List NodeId) → AllByRecursion (IsFedFrom front) n.inputs → AllByRecursion (IsFedFrom (filter (λ y. not (late y)) front)) n.inputs)
    (late_fed : (x : NodeId) (n : Node) → (front : List NodeId) → AllByRecursion (IsFedFrom front) n.inputs → ((y : NodeId) → Has front y → late y ≡ false → Has all y) → AllByRecursion (IsFedFrom (all ++ filter late front)) n.inputs) where
  pub early_stands : (front xs : List NodeId) → Stands net front xs → Stands net (filter (λ y. not (late y)) front) (filter (λ y. not (late y)) xs)
  early_stands front [] s = tt
  early_stands front (x ∷ xs) s = by (late x) refl (early_stands (front ++ x ∷ []) xs s.3)
    where
      by : (b : Bool) → late x ≡ b → Stands net (filter (λ y. not (late y)) (front ++ x ∷ [])) (filter (λ y. not (late y)) xs)
          → Stands net (filter (λ y. not (late y)) front) (cond (not b) (x ∷ filter (λ y. not (late y)) xs) (filter (λ y. not (late y)) xs))
      by true e r = subst (λ f. Stands net f (filter (λ y. not (late y)) xs)) (filter-snoc (λ y. not (late y)) front x ∙ ap (λ b. filter (λ y. not (late y)) front ++ cond (not b) (x ∷ []) []) e ∙ append-nil (filter (λ y. not (late y)) front)) r
      by false e r = (
        s.0,
        s.1,
        early_fed x s.0 e s.1 front s.2,
        subst (λ f. Stands net f (filter (λ y. not (late y)) xs)) (filter-snoc (λ y. not (late y)) front x ∙ ap (λ b. filter (λ y. not (late y)) front ++ cond (not b) (x ∷ []) []) e) r,
      )

  pub late_stands : (front xs : List NodeId) → ((y : NodeId) → Has (front ++ xs) y → late y ≡ false → Has all y) → Stands net front xs → Stands net (all ++ filter late front) (filter late xs)
  late_stands front [] h s = tt
  late_stands front (x ∷ xs) h s = by (late x) refl (late_stands (front ++ x ∷ []) xs (λ y k. h y (subst (λ l. Has l y) (append_assoc front (x ∷ []) xs) k)) s.3)
    where
      by : (b : Bool) → late x ≡ b → Stands net (all ++ filter late (front ++ x ∷ [])) (filter late xs) → Stands net (all ++ filter late front) (cond b (x ∷ filter late xs) (filter late xs))
      by false e r = subst (λ f. Stands net (all ++ f) (filter late xs)) (filter-snoc late front x ∙ ap (λ b. filter late front ++ cond b (x ∷ []) []) e ∙ append-nil (filter late front)) r
      by true e r = (
        s.0,
        s.1,
        late_fed x s.0 front s.2 (λ y k. h y (Has-left front (x ∷ xs) y k)),
        subst (λ f. Stands net f (filter late xs)) (ap (λ f. all ++ f) (filter-snoc late front x ∙ ap (λ b. filter late front ++ cond b (x ∷ []) []) e) ∙ sym (append_assoc all (filter late front) (x ∷ []))) r,
      )

-- a node before a place has an earlier place
pub before-of : (front : List NodeId) (more : List NodeId) (y : NodeId) → Has front y → (j : ℕ) × (j < length front) × (slice_get (front ++ more) j ≡ Some y)
before-of [] more y h = absurd h
before-of (x ∷ front) more y (inl e) = (0, omega arith, ap Some (sym e))
before-of (x ∷ front) more y (inr h) = let r = before-of front more y h in (suc r.0, omega (arith, r.1), r.2)

inputs-before : (front more : List NodeId) (k : ℕ) → length front ≡ k → (inputs : List (Option NodeId)) → AllByRecursion (IsFedFrom front) inputs → AllByRecursion (IsBefore (front ++ more) k) inputs
inputs-before front more k e [] h = tt
inputs-before front more k e (None ∷ inputs) h = (tt, inputs-before front more k e inputs h.1)
inputs-before front more k e (Some id ∷ inputs) h = let r = before-of front more id h.0 in ((r.0, omega (arith, r.1, e), r.2), inputs-before front more k e inputs h.1)

-- by places
pub by_places : (net : Network) (front xs : List NodeId) → Stands net front xs → (k : ℕ) (x : NodeId) → slice_get xs k ≡ Some x
    → (n : Node) × (node_of net x.0 ≡ Some n) × AllByRecursion (IsBefore (front ++ xs) (length front + k)) n.inputs
by_places net front [] s k x at = let bad : ⊥ = cc in absurd bad
by_places net front (y ∷ xs) s zero x at =
    let same : y ≡ x = (let pick : Option NodeId → NodeId = λ o. elim o [ Some z ↦ z | None ↦ y ] in ap pick at) in
    (s.0, ap (λ z. node_of net z.0) (sym same) ∙ s.1, inputs-before front (y ∷ xs) (length front + 0) (omega arith) s.0.inputs s.2)
by_places net front (y ∷ xs) s (suc k) x at =
    let r = by_places net (front ++ y ∷ []) xs s.3 k x at in (
      r.0,
      r.1,
      subst (λ l. AllByRecursion (IsBefore l (length front + suc k)) r.0.inputs) (append_assoc front (y ∷ []) xs)
          (subst (λ m. AllByRecursion (IsBefore ((front ++ y ∷ []) ++ xs) m) r.0.inputs) (ap (λ m. m + k) (length-append front (y ∷ [])) ∙ (let e : (length front + length (y ∷ [])) + k ≡ length front + suc k = omega arith in e)) r.2),
    )
