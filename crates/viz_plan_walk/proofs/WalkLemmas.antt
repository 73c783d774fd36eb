-- Going over the inputs of a step, one after the other.
use Rattle.std.proofs.Common.{◌≡◌, ℕ, zero, suc, ◌+◌, ◌-◌, ◌<◌, ◌≤◌, false, cond, List, [], ◌∷◌, take, slice_get, length, Option, None, Some, refl, sym, ap, ◌∙◌, arith}
use Rattle.std.proofs.lemmas.Option.{slice_get-get_or}
use lib.ListN.{get_or}
use Rattle.std.specs.Option.{option_map}
use Rattle.viz_network.specs.declared.steps.Step.{Step}
use Rattle.viz_parts.specs.declared.request.Part.{Part}
use Rattle.viz_parts.specs.declared.request.Request.{Request}
use Rattle.viz_plan_meaning.specs.Plan.{Upstream, none, has, add}
use Rattle.viz_plan_meaning.specs.Steps.Visits.{enter, enter_used, visit, visit_used}
use Rattle.viz_plan_walk.specs.Walk.{port, grow, above}
use Rattle.viz_cache.specs.Keys.{same_request}

-- the needs of a list, by the positions of their nodes
abbrev Needs : Type 0
Needs = List (ℕ × Request)

take_all : {X : Type 0} (xs : List X) (i : ℕ) → length xs ≤ i → take i xs ≡ xs
take_all [] zero l = refl
take_all [] (suc i) l = refl
take_all (x ∷ xs) zero l = absurd (omega (arith, l))
take_all (x ∷ xs) (suc i) l = ap (λ t. x ∷ t) (take_all xs i (omega (arith, l)))

module _ (kept : ℕ → Request → Option (Request × Part)) (widen asks : ℕ → Request → Request) where
  abbrev needs_by : Upstream → Request → Needs → Needs
  needs_by c r s = visit same_request kept widen asks c r s

  abbrev used_by : Upstream → Request → Needs → Needs → Needs
  used_by c r s u = visit_used same_request kept widen asks c r s u

  port-needs : (t : Option (ℕ × Upstream)) (c : Upstream) (r : Request) (s : Needs) → needs_by (port t c) r s ≡ needs_by c r (needs_by (port t none) r s)
  port-needs None c r s = refl
  port-needs (Some t) c r s = refl

  port-used : (t : Option (ℕ × Upstream)) (c : Upstream) (r : Request) (s u : Needs) → used_by (port t c) r s u ≡ used_by c r (needs_by (port t none) r s) (used_by (port t none) r s u)
  port-used None c r s u = refl
  port-used (Some t) c r s u = refl

  next_needs : (up : ℕ → Option (ℕ × Upstream)) (is : List (Option ℕ)) (i : ℕ) (x : Option ℕ) (r : Request) (s : Needs) → slice_get is i ≡ Some x
      → needs_by (grow up (take (suc i) is)) r s ≡ needs_by (grow up (x ∷ [])) r (needs_by (grow up (take i is)) r s)
  next_needs up [] i x r s e = let bad : ⊥ = cc in absurd bad
  next_needs up (y ∷ is) zero x r s e = let p : y ≡ x = cc in ap (λ z. needs_by (grow up (z ∷ [])) r s) p
  next_needs up (None ∷ is) (suc i) x r s e = next_needs up is i x r s e
  next_needs up (Some y ∷ is) (suc i) x r s e =
      port-needs (up y) (grow up (take (suc i) is)) r s
      ∙ next_needs up is i x r (needs_by (port (up y) none) r s) e
      ∙ ap (needs_by (grow up (x ∷ [])) r) (sym (port-needs (up y) (grow up (take i is)) r s))

  next_used : (up : ℕ → Option (ℕ × Upstream)) (is : List (Option ℕ)) (i : ℕ) (x : Option ℕ) (r : Request) (s u : Needs) → slice_get is i ≡ Some x
      → used_by (grow up (take (suc i) is)) r s u ≡ used_by (grow up (x ∷ [])) r (needs_by (grow up (take i is)) r s) (used_by (grow up (take i is)) r s u)
  next_used up [] i x r s u e = let bad : ⊥ = cc in absurd bad
  next_used up (y ∷ is) zero x r s u e = let p : y ≡ x = cc in ap (λ z. used_by (grow up (z ∷ [])) r s u) p
  next_used up (None ∷ is) (suc i) x r s u e = next_used up is i x r s u e
  next_used up (Some y ∷ is) (suc i) x r s u e =
      port-used (up y) (grow up (take (suc i) is)) r s u
      ∙ next_used up is i x r (needs_by (port (up y) none) r s) (used_by (port (up y) none) r s u) e
      ∙ ap (λ l. used_by (grow up (x ∷ [])) r l (used_by (grow up (take i is)) r (needs_by (port (up y) none) r s) (used_by (port (up y) none) r s u))) (sym (port-needs (up y) (grow up (take i is)) r s))
      ∙ ap (used_by (grow up (x ∷ [])) r (needs_by (port (up y) (grow up (take i is))) r s)) (sym (port-used (up y) (grow up (take i is)) r s u))

  -- one input more
  pub more_needs : (up : ℕ → Option (ℕ × Upstream)) (is : List (Option ℕ)) (i : ℕ) (x : Option ℕ) (r : Request) (s t v : Needs) → slice_get is i ≡ Some x
      → t ≡ needs_by (grow up (take i is)) r s → v ≡ needs_by (grow up (x ∷ [])) r t → v ≡ needs_by (grow up (take (i + 1) is)) r s
  more_needs up is i x r s t v e h g =
      let p : suc i ≡ i + 1 = omega arith in
      g ∙ ap (needs_by (grow up (x ∷ [])) r) h ∙ sym (next_needs up is i x r s e) ∙ ap (λ j. needs_by (grow up (take j is)) r s) p

  pub more_used : (up : ℕ → Option (ℕ × Upstream)) (is : List (Option ℕ)) (i : ℕ) (x : Option ℕ) (r : Request) (s u t w v : Needs) → slice_get is i ≡ Some x
      → t ≡ needs_by (grow up (take i is)) r s → w ≡ used_by (grow up (take i is)) r s u → v ≡ used_by (grow up (x ∷ [])) r t w → v ≡ used_by (grow up (take (i + 1) is)) r s u
  more_used up is i x r s u t w v e h k g =
      let p : suc i ≡ i + 1 = omega arith in
      g ∙ ap (λ l. used_by (grow up (x ∷ [])) r l w) h ∙ ap (used_by (grow up (x ∷ [])) r (needs_by (grow up (take i is)) r s)) k
      ∙ sym (next_used up is i x r s u e) ∙ ap (λ j. used_by (grow up (take j is)) r s u) p

  module _ (steps : List Step) where
    new_needs : (k p : ℕ) (x : Step) (r : Request) (s t : Needs) → slice_get steps p ≡ Some x → kept x.node.0 (widen x.node.0 r) ≡ None → has same_request s x.node.0 (widen x.node.0 r) ≡ false
        → t ≡ needs_by (grow (above k steps) x.inputs) (asks x.node.0 (widen x.node.0 r)) s → add same_request t x.node.0 (widen x.node.0 r) ≡ needs_by (port (above (suc k) steps p) none) r s
    new_needs k p x r s t e q h m =
        let w = widen x.node.0 r in
        sym (ap (λ o. needs_by (port (option_map (λ y. (y.node.0, grow (above k steps) y.inputs)) o) none) r s) e
        ∙ ap (λ o. enter same_request kept widen asks o x.node.0 w (needs_by (grow (above k steps) x.inputs) (asks x.node.0 w)) s) q
        ∙ ap (λ b. cond b s (add same_request (needs_by (grow (above k steps) x.inputs) (asks x.node.0 w) s) x.node.0 w)) h
        ∙ ap (λ l. add same_request l x.node.0 w) (sym m))

    new_used : (k p : ℕ) (x : Step) (r : Request) (s u v : Needs) → slice_get steps p ≡ Some x → kept x.node.0 (widen x.node.0 r) ≡ None → has same_request s x.node.0 (widen x.node.0 r) ≡ false
        → v ≡ used_by (grow (above k steps) x.inputs) (asks x.node.0 (widen x.node.0 r)) s u → v ≡ used_by (port (above (suc k) steps p) none) r s u
    new_used k p x r s u v e q h m =
        let w = widen x.node.0 r in
        let up = used_by (grow (above k steps) x.inputs) (asks x.node.0 w) s u in
        sym (ap (λ o. used_by (port (option_map (λ y. (y.node.0, grow (above k steps) y.inputs)) o) none) r s u) e
        ∙ ap (λ o. enter_used same_request kept widen asks o x.node.0 w up s u) q
        ∙ ap (λ b. cond b u up) h
        ∙ sym m)

    -- behind all inputs the need is added
    pub last_needs : (k p : ℕ) (x : Step) (r w a : Request) (s t : Needs) (is : List (Option ℕ)) (i : ℕ) → (k ≡ 0 → ⊥) → p < length steps → x ≡ get_or steps p x
        → w ≡ widen x.node.0 r → kept x.node.0 w ≡ None → has same_request s x.node.0 w ≡ false → a ≡ asks x.node.0 w → is ≡ x.inputs → length is ≤ i
        → t ≡ needs_by (grow (above (k - 1) steps) (take i is)) a s → add same_request t x.node.0 w ≡ needs_by (port (above k steps p) none) r s
    last_needs zero p x r w a s t is i z l g ew q h ea same long m = absurd (z refl)
    last_needs (suc k) p x r w a s t is i z l g ew q h ea same long m =
        let one : suc k - 1 ≡ k = omega arith in
        ap (add same_request t x.node.0) ew
        ∙ new_needs k p x r s t (slice_get-get_or steps p x l ∙ ap Some (sym g)) (ap (kept x.node.0) (sym ew) ∙ q) (ap (has same_request s x.node.0) (sym ew) ∙ h)
        (m ∙ ap (λ j. needs_by (grow (above j steps) (take i is)) a s) one
        ∙ ap (λ j. needs_by (grow (above k steps) j) a s) (take_all is i long ∙ same)
        ∙ ap (λ b. needs_by (grow (above k steps) x.inputs) b s) (ea ∙ ap (asks x.node.0) ew))

    pub last_used : (k p : ℕ) (x : Step) (r w a : Request) (s u v : Needs) (is : List (Option ℕ)) (i : ℕ) → (k ≡ 0 → ⊥) → p < length steps → x ≡ get_or steps p x
        → w ≡ widen x.node.0 r → kept x.node.0 w ≡ None → has same_request s x.node.0 w ≡ false → a ≡ asks x.node.0 w → is ≡ x.inputs → length is ≤ i
        → v ≡ used_by (grow (above (k - 1) steps) (take i is)) a s u → v ≡ used_by (port (above k steps p) none) r s u
    last_used zero p x r w a s u v is i z l g ew q h ea same long m = absurd (z refl)
    last_used (suc k) p x r w a s u v is i z l g ew q h ea same long m =
        let one : suc k - 1 ≡ k = omega arith in
        new_used k p x r s u v (slice_get-get_or steps p x l ∙ ap Some (sym g)) (ap (kept x.node.0) (sym ew) ∙ q) (ap (has same_request s x.node.0) (sym ew) ∙ h)
        (m ∙ ap (λ j. used_by (grow (above j steps) (take i is)) a s u) one
        ∙ ap (λ j. used_by (grow (above k steps) j) a s u) (take_all is i long ∙ same)
        ∙ ap (λ b. used_by (grow (above k steps) x.inputs) b s u) (ea ∙ ap (asks x.node.0) ew))
