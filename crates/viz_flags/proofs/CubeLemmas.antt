-- The cells of a cube by the numbers of edges are its cells by names.
use Rattle.std.proofs.Common.{◌≡◌, ℕ, ◌+◌, ◌*◌, ◌/◌, ◌%◌, ◌<◌, ◌≤◌, min, max, List, [], ◌∷◌, ◌++◌, Bool, map, refl, sym, ap, ◌∙◌, arith, slice_index_or}
use Rattle.std.proofs.Math.Nat.{min-eq_left, min-eq_right, max-eq_left, max-eq_right}
use Rattle.std.proofs.lemmas.List.{map-append}
use Rattle.viz_fraction.specs.Cases.{cells_at}
use Rattle.viz_fraction.specs.CaseRows.{End}
use Rattle.viz_grid_section.specs.Edges.{Edge}
use Rattle.viz_grid_section.specs.Edges.{edge_of}
use Rattle.viz_grid_section.specs.GridSection.{mask_of, cells_in, named}
use Rattle.viz_grid_section.specs.Steps.Rows.{eight_from, cells_between}
use Rattle.viz_flags.proofs.CountLemmas.{six_pushed}
use Rattle.viz_flags.specs.Edges.{edge, step_of, cells_by}
use Rattle.viz_flags.specs.Steps.Cases.{numbered, six_edges, place_of_end}
use Rattle.viz_flags.proofs.RowLemmas.{each_below}

-- cells by the names of six edges
abbrev by_names : ℕ → List Edge → List (List Edge)
by_names mask names = map (λ cell. map (λ (e : End). slice_index_or names (place_of_end e) (record { low = 0; high = 0 })) cell) (cells_at 4 mask)

numbered-by_names : (name : ℕ → Edge) (a b c d e f : ℕ) (mask : ℕ) → mask < 16
    → map (λ cell. map name cell) (numbered mask (a ∷ b ∷ c ∷ d ∷ e ∷ f ∷ [])) ≡ by_names mask (name a ∷ name b ∷ name c ∷ name d ∷ name e ∷ name f ∷ [])
unfolding cells_at
numbered-by_names name a b c d e f mask below =
    each_below (λ m. map (λ cell. map name cell) (numbered m (a ∷ b ∷ c ∷ d ∷ e ∷ f ∷ [])) ≡ by_names m (name a ∷ name b ∷ name c ∷ name d ∷ name e ∷ name f ∷ [])) 16
    (refl, (refl, (refl, (refl, (refl, (refl, (refl, (refl, (refl, (refl, (refl, (refl, (refl, (refl, (refl, (refl, tt)))))))))))))))) mask below

named-by_names : (leaves : List ℕ) (mask : ℕ) → mask < 16 → by_names mask (six_edges leaves) ≡ map (named leaves) (cells_at 4 mask)
unfolding cells_at
named-by_names leaves mask below =
    each_below (λ m. by_names m (six_edges leaves) ≡ map (named leaves) (cells_at 4 m)) 16
    (refl, (refl, (refl, (refl, (refl, (refl, (refl, (refl, (refl, (refl, (refl, (refl, (refl, (refl, (refl, (refl, tt)))))))))))))))) mask below

-- one tetrahedron
pub tetrahedron : (row plane : ℕ) (inside : List Bool) (p q r s a b c d e f mask : ℕ) → mask ≡ mask_of inside (p ∷ q ∷ r ∷ s ∷ []) → mask < 16
    → edge row plane a ≡ edge_of p q → edge row plane b ≡ edge_of p r → edge row plane c ≡ edge_of p s
    → edge row plane d ≡ edge_of q r → edge row plane e ≡ edge_of q s → edge row plane f ≡ edge_of r s
    → (t0 t1 : List (List ℕ)) → t1 ≡ t0 ++ numbered mask (a ∷ b ∷ c ∷ d ∷ e ∷ f ∷ [])
    → cells_by row plane t1 ≡ cells_by row plane t0 ++ cells_in inside (p ∷ q ∷ r ∷ s ∷ [])
tetrahedron row plane inside p q r s a b c d e f mask is below ea eb ec ed ee ef t0 t1 pushed =
    let leaves = p ∷ q ∷ r ∷ s ∷ [] in
    let name = edge row plane in
    let six : (name a ∷ name b ∷ name c ∷ name d ∷ name e ∷ name f ∷ []) ≡ six_edges leaves = λ i. ea i ∷ eb i ∷ ec i ∷ ed i ∷ ee i ∷ ef i ∷ [] in
    ap (cells_by row plane) pushed
    ∙ map-append (λ cell. map name cell) t0 (numbered mask (a ∷ b ∷ c ∷ d ∷ e ∷ f ∷ []))
    ∙ ap (λ t. cells_by row plane t0 ++ t) (numbered-by_names name a b c d e f mask below ∙ ap (by_names mask) six ∙ named-by_names leaves mask below ∙ ap (λ m. map (named leaves) (cells_at 4 m)) is)

module _ (row plane : ℕ) where
  -- the edge from a leaf up
  up : (leaf d number high : ℕ) → d < 8 → number ≡ 8 * leaf + d → high ≡ leaf + step_of row plane d → edge row plane number ≡ edge_of leaf high
  unfolding edge
  up leaf d number high below is top =
      let low : number / 8 ≡ leaf = omega arith in
      let direction : number % 8 ≡ d = omega arith in
      let order : leaf ≤ high = omega (arith, top) in
      let least : min leaf high ≡ leaf = min-eq_left order in
      let most : max leaf high ≡ high = max-eq_right order in
      let upper : number / 8 + step_of row plane (number % 8) ≡ high = ap (λ l. l + step_of row plane (number % 8)) low ∙ ap (λ k. leaf + step_of row plane k) direction ∙ sym top in
      let lower : number / 8 ≡ min leaf high = low ∙ sym least in
      let higher : number / 8 + step_of row plane (number % 8) ≡ max leaf high = upper ∙ sym most in
      λ i. record { low = lower i; high = higher i }

  -- the same by its ends the other way round
  down : (leaf d number high : ℕ) → d < 8 → number ≡ 8 * leaf + d → high ≡ leaf + step_of row plane d → edge row plane number ≡ edge_of high leaf
  unfolding edge
  down leaf d number high below is top =
      let low : number / 8 ≡ leaf = omega arith in
      let direction : number % 8 ≡ d = omega arith in
      let order : leaf ≤ high = omega (arith, top) in
      let least : min high leaf ≡ leaf = min-eq_right order in
      let most : max high leaf ≡ high = max-eq_left order in
      let upper : number / 8 + step_of row plane (number % 8) ≡ high = ap (λ l. l + step_of row plane (number % 8)) low ∙ ap (λ k. leaf + step_of row plane k) direction ∙ sym top in
      let lower : number / 8 ≡ min high leaf = low ∙ sym least in
      let higher : number / 8 + step_of row plane (number % 8) ≡ max high leaf = upper ∙ sym most in
      λ i. record { low = lower i; high = higher i }

-- the six of a cube
pub six : (row plane : ℕ) (inside : List Bool) (lowest : ℕ) (t0 t1 t2 t3 t4 t5 t6 : List (List ℕ)) (m1 m2 m3 m4 m5 m6 : ℕ)
    → let a = lowest in let b = lowest + plane in let c = lowest + row in let d = lowest + row + plane in
    let e = lowest + 1 in let f = lowest + 1 + plane in let g = lowest + 1 + row in let h = lowest + 1 + row + plane in
    m1 ≡ mask_of inside (a ∷ e ∷ g ∷ h ∷ []) → m2 ≡ mask_of inside (a ∷ f ∷ e ∷ h ∷ []) → m3 ≡ mask_of inside (a ∷ g ∷ c ∷ h ∷ [])
    → m4 ≡ mask_of inside (a ∷ c ∷ d ∷ h ∷ []) → m5 ≡ mask_of inside (a ∷ b ∷ f ∷ h ∷ []) → m6 ≡ mask_of inside (a ∷ d ∷ b ∷ h ∷ [])
    → m1 < 16 → m2 < 16 → m3 < 16 → m4 < 16 → m5 < 16 → m6 < 16
    → t1 ≡ t0 ++ numbered m1 ((8 * a) ∷ (8 * a + 2) ∷ (8 * a + 6) ∷ (8 * e + 1) ∷ (8 * e + 5) ∷ (8 * g + 3) ∷ [])
    → t2 ≡ t1 ++ numbered m2 ((8 * a + 4) ∷ (8 * a) ∷ (8 * a + 6) ∷ (8 * e + 3) ∷ (8 * f + 1) ∷ (8 * e + 5) ∷ [])
    → t3 ≡ t2 ++ numbered m3 ((8 * a + 2) ∷ (8 * a + 1) ∷ (8 * a + 6) ∷ (8 * c) ∷ (8 * g + 3) ∷ (8 * c + 4) ∷ [])
    → t4 ≡ t3 ++ numbered m4 ((8 * a + 1) ∷ (8 * a + 5) ∷ (8 * a + 6) ∷ (8 * c + 3) ∷ (8 * c + 4) ∷ (8 * d) ∷ [])
    → t5 ≡ t4 ++ numbered m5 ((8 * a + 3) ∷ (8 * a + 4) ∷ (8 * a + 6) ∷ (8 * b) ∷ (8 * b + 2) ∷ (8 * f + 1) ∷ [])
    → t6 ≡ t5 ++ numbered m6 ((8 * a + 5) ∷ (8 * a + 3) ∷ (8 * a + 6) ∷ (8 * b + 1) ∷ (8 * d) ∷ (8 * b + 2) ∷ [])
    → cells_by row plane t6 ≡ cells_by row plane t0 ++ cells_between inside (eight_from lowest row plane)
six row plane inside lowest t0 t1 t2 t3 t4 t5 t6 m1 m2 m3 m4 m5 m6 e1 e2 e3 e4 e5 e6 n1 n2 n3 n4 n5 n6 p1 p2 p3 p4 p5 p6 =
    let a = lowest in
    let b = lowest + plane in
    let c = lowest + row in
    let d = lowest + row + plane in
    let e = lowest + 1 in
    let f = lowest + 1 + plane in
    let g = lowest + 1 + row in
    let h = lowest + 1 + row + plane in
    let u = up row plane in
    let v = down row plane in
    let by = cells_by row plane in
    let q1 : by t1 ≡ by t0 ++ cells_in inside (a ∷ e ∷ g ∷ h ∷ []) =
    tetrahedron row plane inside a e g h _ _ _ _ _ _ m1 e1 n1
    (u a 0 _ e (omega arith) (omega arith) (omega arith)) (u a 2 _ g (omega arith) (omega arith) (omega arith)) (u a 6 _ h (omega arith) (omega arith) (omega arith))
    (u e 1 _ g (omega arith) (omega arith) (omega arith)) (u e 5 _ h (omega arith) (omega arith) (omega arith)) (u g 3 _ h (omega arith) (omega arith) (omega arith)) t0 t1 p1 in
    let q2 : by t2 ≡ by t1 ++ cells_in inside (a ∷ f ∷ e ∷ h ∷ []) =
    tetrahedron row plane inside a f e h _ _ _ _ _ _ m2 e2 n2
    (u a 4 _ f (omega arith) (omega arith) (omega arith)) (u a 0 _ e (omega arith) (omega arith) (omega arith)) (u a 6 _ h (omega arith) (omega arith) (omega arith))
    (v e 3 _ f (omega arith) (omega arith) (omega arith)) (u f 1 _ h (omega arith) (omega arith) (omega arith)) (u e 5 _ h (omega arith) (omega arith) (omega arith)) t1 t2 p2 in
    let q3 : by t3 ≡ by t2 ++ cells_in inside (a ∷ g ∷ c ∷ h ∷ []) =
    tetrahedron row plane inside a g c h _ _ _ _ _ _ m3 e3 n3
    (u a 2 _ g (omega arith) (omega arith) (omega arith)) (u a 1 _ c (omega arith) (omega arith) (omega arith)) (u a 6 _ h (omega arith) (omega arith) (omega arith))
    (v c 0 _ g (omega arith) (omega arith) (omega arith)) (u g 3 _ h (omega arith) (omega arith) (omega arith)) (u c 4 _ h (omega arith) (omega arith) (omega arith)) t2 t3 p3 in
    let q4 : by t4 ≡ by t3 ++ cells_in inside (a ∷ c ∷ d ∷ h ∷ []) =
    tetrahedron row plane inside a c d h _ _ _ _ _ _ m4 e4 n4
    (u a 1 _ c (omega arith) (omega arith) (omega arith)) (u a 5 _ d (omega arith) (omega arith) (omega arith)) (u a 6 _ h (omega arith) (omega arith) (omega arith))
    (u c 3 _ d (omega arith) (omega arith) (omega arith)) (u c 4 _ h (omega arith) (omega arith) (omega arith)) (u d 0 _ h (omega arith) (omega arith) (omega arith)) t3 t4 p4 in
    let q5 : by t5 ≡ by t4 ++ cells_in inside (a ∷ b ∷ f ∷ h ∷ []) =
    tetrahedron row plane inside a b f h _ _ _ _ _ _ m5 e5 n5
    (u a 3 _ b (omega arith) (omega arith) (omega arith)) (u a 4 _ f (omega arith) (omega arith) (omega arith)) (u a 6 _ h (omega arith) (omega arith) (omega arith))
    (u b 0 _ f (omega arith) (omega arith) (omega arith)) (u b 2 _ h (omega arith) (omega arith) (omega arith)) (u f 1 _ h (omega arith) (omega arith) (omega arith)) t4 t5 p5 in
    let q6 : by t6 ≡ by t5 ++ cells_in inside (a ∷ d ∷ b ∷ h ∷ []) =
    tetrahedron row plane inside a d b h _ _ _ _ _ _ m6 e6 n6
    (u a 5 _ d (omega arith) (omega arith) (omega arith)) (u a 3 _ b (omega arith) (omega arith) (omega arith)) (u a 6 _ h (omega arith) (omega arith) (omega arith))
    (v b 1 _ d (omega arith) (omega arith) (omega arith)) (u d 0 _ h (omega arith) (omega arith) (omega arith)) (u b 2 _ h (omega arith) (omega arith) (omega arith)) t5 t6 p6 in
    six_pushed inside (eight_from lowest row plane) (by t0) (by t1) (by t2) (by t3) (by t4) (by t5) (by t6) q1 q2 q3 q4 q5 q6
