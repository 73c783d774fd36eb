-- In how many kept tetrahedra of one tetrahedron a facet lies, by its vertices.
use Rattle.std.proofs.Common.{◌≡◌, ◌≢◌, ℕ, zero, suc, ◌+◌, ◌*◌, ◌<◌, ◌≤◌, ◌==◌, Bool, true, false, not, ◌&&◌, ◌||◌, ◌⊎◌, inl, inr, ⊎_elim, List, [], ◌∷◌, ◌++◌, length, get_or, map, cond, Ordering, Less, Equal, Greater, is_lt, is_eq, refl, sym, ap, ap₂, subst, ◌∙◌, true≢false, arith}
use Rattle.std.specs.List.{All, Contains, count_by, flat_map, list_all, list_any}
use Rattle.std.proofs.lemmas.Bool.{and_parts}
use Rattle.viz_sheet.proofs.KeptLemmas.{count_by-cons}
use Rattle.viz_sheet.proofs.MemberLemmas.{here, there}
use Rattle.viz_clip_meaning.specs.declared.vertex.Vertex.{Vertex}
use Rattle.viz_clip_meaning.specs.declared.vertex.Vertex.TheVariants.{Corner, Cut}
use Rattle.viz_clip_meaning.specs.Vertices.{leaves_at, vertex_cmp}
use Rattle.viz_clip_meaning.specs.Solids.{kept_tets}
use Rattle.viz_clip_meaning.proofs.SetLemmas.{vertices-exact}
use Rattle.viz_clip_meaning.proofs.SpotLemmas.{Four, Rises, Spot, c0, c1, c2, c3, e01, e02, e03, e12, e13, e23, four, spot_cmp, spot_tets, spots-keep, tets-at, vertex_at}
use Rattle.viz_clip_law.specs.Facets.{has_facet, lying}
use Rattle.viz_clip_law.proofs.SpotTable.{has_spots, spot_count}

-- ---- counts

pub count-map : {X Y : Type 0} (P : Y → Bool) (g : X → Y) (xs : List X) → count_by P (map g xs) ≡ count_by (λ x. P (g x)) xs
count-map P g [] = refl
count-map P g (x ∷ xs) = count_by-cons P (g x) (map g xs) ∙ ap (λ n. cond (P (g x)) 1 0 + n) (count-map P g xs) ∙ sym (count_by-cons (λ y. P (g y)) x xs)

pub count-same : {X : Type 0} (P Q : X → Bool) (xs : List X) → ((x : X) → P x ≡ Q x) → count_by P xs ≡ count_by Q xs
count-same P Q [] same = refl
count-same P Q (x ∷ xs) same = count_by-cons P x xs ∙ ap₂ (λ b n. cond b 1 0 + n) (same x) (count-same P Q xs same) ∙ sym (count_by-cons Q x xs)

-- a count above 0 has an item that passes
pub counted : {X : Type 0} (P : X → Bool) (xs : List X) → 0 < count_by P xs → (x : X) × Contains xs x × (P x ≡ true)
counted P [] above = absurd (omega (arith, above))
counted {X} P (x ∷ xs) above = at (P x) refl (counted P xs)
  where
    at : (b : Bool) → P x ≡ b → (0 < count_by P xs → (y : X) × Contains xs y × (P y ≡ true)) → (y : X) × Contains (x ∷ xs) y × (P y ≡ true)
    at true e later = (x, here x xs, e)
    at false e later =
        let rest = later (omega (arith, above, count_by-cons P x xs, ap (λ b. cond {A = ℕ} b 1 0) e)) in
        (rest.0, there x xs rest.0 rest.1, rest.2)

-- ---- vertices at spots

module _ (x : Four) (h : Rises x) where
  has-any : (a : Spot) (t : List Spot) → list_any (λ w. is_eq (vertex_cmp (vertex_at x a) w)) (map (vertex_at x) t) ≡ list_any (λ b. is_eq (spot_cmp a b)) t
  has-any a [] = refl
  has-any a (b ∷ t) = ap₂ (λ p q. p || q) (ap is_eq (spots-keep x h a b)) (has-any a t)

  has-three : (i j k : Spot) (t : List Spot) → has_facet (vertex_at x i ∷ vertex_at x j ∷ vertex_at x k ∷ []) (map (vertex_at x) t) ≡ has_spots i j k t
  has-three i j k t = ap₂ (λ p q. p && q) (has-any i t) (ap₂ (λ p q. p && q) (has-any j t) (ap (λ p. p && true) (has-any k t)))

  -- a facet of vertices at spots lies in as many tetrahedra as the spots do
  pub count-at : (p q r s : Bool) (i j k : Spot) → lying (kept_tets (p ∷ q ∷ r ∷ s ∷ []) (four x)) (vertex_at x i ∷ vertex_at x j ∷ vertex_at x k ∷ []) ≡ spot_count p q r s i j k
  count-at p q r s i j k =
      let facet = vertex_at x i ∷ vertex_at x j ∷ vertex_at x k ∷ [] in
      ap (λ l. lying l facet) (tets-at p q r s x h)
      ∙ count-map (has_facet facet) (map (vertex_at x)) (spot_tets p q r s)
      ∙ count-same (λ t. has_facet facet (map (vertex_at x) t)) (has_spots i j k) (spot_tets p q r s) (has-three i j k)

  is_equal : (o : Ordering) → is_eq o ≡ true → o ≡ Equal
  is_equal Less e = absurd (true≢false (sym e))
  is_equal Equal e = refl
  is_equal Greater e = absurd (true≢false (sym e))

  any-spot : (v : Vertex) (t : List Spot) → list_any (λ w. is_eq (vertex_cmp v w)) (map (vertex_at x) t) ≡ true → (a : Spot) × (vertex_at x a ≡ v)
  any-spot v [] e = absurd (true≢false (sym e))
  any-spot v (b ∷ t) e = at (is_eq (vertex_cmp v (vertex_at x b))) refl e (any-spot v t)
    where
      at : (c : Bool) → is_eq (vertex_cmp v (vertex_at x b)) ≡ c → (c || list_any (λ w. is_eq (vertex_cmp v w)) (map (vertex_at x) t)) ≡ true
          → (list_any (λ w. is_eq (vertex_cmp v w)) (map (vertex_at x) t) ≡ true → (a : Spot) × (vertex_at x a ≡ v)) → (a : Spot) × (vertex_at x a ≡ v)
      at true c e later = (b, sym (vertices-exact v (vertex_at x b) (is_equal (vertex_cmp v (vertex_at x b)) c)))
      at false c e later = later e

  -- the spots of three vertices
  pub record AtSpots (u v w : Vertex) : Type 0 where
    pub i : Spot
    pub j : Spot
    pub k : Spot
    pub is_u : vertex_at x i ≡ u
    pub is_v : vertex_at x j ≡ v
    pub is_w : vertex_at x k ≡ w

  -- a facet that lies in some kept tetrahedron has its vertices at spots
  pub at-spots : (p q r s : Bool) (u v w : Vertex) → 0 < lying (kept_tets (p ∷ q ∷ r ∷ s ∷ []) (four x)) (u ∷ v ∷ w ∷ []) → AtSpots u v w
  at-spots p q r s u v w above =
      let facet = u ∷ v ∷ w ∷ [] in
      let some : 0 < count_by (λ t. has_facet facet (map (vertex_at x) t)) (spot_tets p q r s) =
      subst (λ n. 0 < n) (ap (λ l. lying l facet) (tets-at p q r s x h) ∙ count-map (has_facet facet) (map (vertex_at x)) (spot_tets p q r s)) above in
      let found = counted (λ t. has_facet facet (map (vertex_at x) t)) (spot_tets p q r s) some in
      let any = λ (z : Vertex). list_any (λ y. is_eq (vertex_cmp z y)) (map (vertex_at x) found.0) in
      let first = and_parts (any u) (any v && (any w && true)) found.2 in
      let second = and_parts (any v) (any w && true) first.1 in
      let third = and_parts (any w) true second.1 in
      let a = any-spot u found.0 first.0 in
      let b = any-spot v found.0 second.0 in
      let c = any-spot w found.0 third.0 in
      record { i = a.0; j = b.0; k = c.0; is_u = a.1; is_v = b.1; is_w = c.1 }
