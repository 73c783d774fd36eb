-- The cells of a cube: none where its points are all inside or all outside, and those of its six tetrahedra in turn.
use Rattle.std.proofs.Common.{◌≡◌, ℕ, zero, suc, ◌+◌, ◌<◌, ◌≤◌, List, [], ◌∷◌, ◌++◌, Bool, false, not, nat_eq, append-nil, refl, sym, ◌∙◌, append_assoc, arith, slice_index}
use Rattle.std.specs.List.{flat_map}
use Rattle.viz_fraction.specs.Cases.{cells_at}
use Rattle.std.proofs.lemmas.Bool.Decides.{nat_tests}
use Rattle.viz_fraction.proofs.CaseTable.{EachBelow}
use Rattle.viz_grid_section.specs.Edges.{Edge}
use Rattle.viz_grid_section.specs.GridSection.{bit_of, cells_in}
use Rattle.viz_grid_section.specs.Steps.Rows.{cells_between}

-- a fact of each number below n, written out, is one of any
each_below : (P : ℕ → Type 0) (n : ℕ) → EachBelow P n → (k : ℕ) → k < n → P k
each_below P zero facts k below = absurd (omega arith)
each_below P (suc n) (here, later) zero below = here
each_below P (suc n) (here, later) (suc k) below = each_below (λ i. P (suc i)) n later k (omega arith)

-- what holds of eight numbers holds of each below eight
below_eight : (P : ℕ → Type 0) → P 0 → P 1 → P 2 → P 3 → P 4 → P 5 → P 6 → P 7 → (k : ℕ) → k < 8 → P k
below_eight P a b c d e f g h = each_below P 8 (a, (b, (c, (d, (e, (f, (g, (h, tt))))))))

-- a case holds the cells of its mask

-- no cell where all four are outside
none_inside : (inside : List Bool) (a b c d : ℕ) → bit_of inside a ≡ 0 → bit_of inside b ≡ 0 → bit_of inside c ≡ 0 → bit_of inside d ≡ 0
    → cells_in inside (a ∷ b ∷ c ∷ d ∷ []) ≡ []
unfolding cells_at
none_inside inside a b c d p q r s = rw p (rw q (rw r (rw s refl)))

-- nor where all four are inside
all_inside : (inside : List Bool) (a b c d : ℕ) → bit_of inside a ≡ 1 → bit_of inside b ≡ 1 → bit_of inside c ≡ 1 → bit_of inside d ≡ 1
    → cells_in inside (a ∷ b ∷ c ∷ d ∷ []) ≡ []
unfolding cells_at
all_inside inside a b c d p q r s = rw p (rw q (rw r (rw s refl)))

-- six empty lists joined
six_empty : {A : Type 0} (f : List ℕ → List A) (a b c d e g : List ℕ)
    → f a ≡ [] → f b ≡ [] → f c ≡ [] → f d ≡ [] → f e ≡ [] → f g ≡ []
    → flat_map f (a ∷ b ∷ c ∷ d ∷ e ∷ g ∷ []) ≡ []
six_empty f a b c d e g p q r s t u = rw p (rw q (rw r (rw s (rw t (rw u refl)))))

-- no cell between eight points that are outside
pub none_of_eight : (inside : List Bool) (eight : List ℕ) → ((k : ℕ) → k < 8 → bit_of inside (slice_index eight k) ≡ 0)
    → cells_between inside eight ≡ []
unfolding cells_between
none_of_eight inside eight out =
    let b0 = out 0 (omega arith) in
    let b1 = out 1 (omega arith) in
    let b2 = out 2 (omega arith) in
    let b3 = out 3 (omega arith) in
    let b4 = out 4 (omega arith) in
    let b5 = out 5 (omega arith) in
    let b6 = out 6 (omega arith) in
    let b7 = out 7 (omega arith) in
    let at = slice_index eight in
    six_empty (cells_in inside)
    (at 0 ∷ at 4 ∷ at 6 ∷ at 7 ∷ []) (at 0 ∷ at 5 ∷ at 4 ∷ at 7 ∷ []) (at 0 ∷ at 6 ∷ at 2 ∷ at 7 ∷ []) (at 0 ∷ at 2 ∷ at 3 ∷ at 7 ∷ []) (at 0 ∷ at 1 ∷ at 5 ∷ at 7 ∷ []) (at 0 ∷ at 3 ∷ at 1 ∷ at 7 ∷ [])
    (none_inside inside (at 0) (at 4) (at 6) (at 7) b0 b4 b6 b7)
    (none_inside inside (at 0) (at 5) (at 4) (at 7) b0 b5 b4 b7)
    (none_inside inside (at 0) (at 6) (at 2) (at 7) b0 b6 b2 b7)
    (none_inside inside (at 0) (at 2) (at 3) (at 7) b0 b2 b3 b7)
    (none_inside inside (at 0) (at 1) (at 5) (at 7) b0 b1 b5 b7)
    (none_inside inside (at 0) (at 3) (at 1) (at 7) b0 b3 b1 b7)

-- nor between eight that are inside
pub all_of_eight : (inside : List Bool) (eight : List ℕ) → ((k : ℕ) → k < 8 → bit_of inside (slice_index eight k) ≡ 1)
    → cells_between inside eight ≡ []
unfolding cells_between
all_of_eight inside eight out =
    let b0 = out 0 (omega arith) in
    let b1 = out 1 (omega arith) in
    let b2 = out 2 (omega arith) in
    let b3 = out 3 (omega arith) in
    let b4 = out 4 (omega arith) in
    let b5 = out 5 (omega arith) in
    let b6 = out 6 (omega arith) in
    let b7 = out 7 (omega arith) in
    let at = slice_index eight in
    six_empty (cells_in inside)
    (at 0 ∷ at 4 ∷ at 6 ∷ at 7 ∷ []) (at 0 ∷ at 5 ∷ at 4 ∷ at 7 ∷ []) (at 0 ∷ at 6 ∷ at 2 ∷ at 7 ∷ []) (at 0 ∷ at 2 ∷ at 3 ∷ at 7 ∷ []) (at 0 ∷ at 1 ∷ at 5 ∷ at 7 ∷ []) (at 0 ∷ at 3 ∷ at 1 ∷ at 7 ∷ [])
    (all_inside inside (at 0) (at 4) (at 6) (at 7) b0 b4 b6 b7)
    (all_inside inside (at 0) (at 5) (at 4) (at 7) b0 b5 b4 b7)
    (all_inside inside (at 0) (at 6) (at 2) (at 7) b0 b6 b2 b7)
    (all_inside inside (at 0) (at 2) (at 3) (at 7) b0 b2 b3 b7)
    (all_inside inside (at 0) (at 1) (at 5) (at 7) b0 b1 b5 b7)
    (all_inside inside (at 0) (at 3) (at 1) (at 7) b0 b3 b1 b7)

-- six lists joined one after the other
pub six_joined : {A : Type 0} (f : List ℕ → List A) (a b c d e g : List ℕ) (t0 t1 t2 t3 t4 t5 t6 : List A)
    → t1 ≡ t0 ++ f a → t2 ≡ t1 ++ f b → t3 ≡ t2 ++ f c → t4 ≡ t3 ++ f d → t5 ≡ t4 ++ f e → t6 ≡ t5 ++ f g
    → t6 ≡ t0 ++ flat_map f (a ∷ b ∷ c ∷ d ∷ e ∷ g ∷ [])
six_joined f a b c d e g t0 t1 t2 t3 t4 t5 t6 p q r s t u =
    rw u (rw t (rw s (rw r (rw q (rw p (simp (append_assoc, append-nil)))))))

-- where all of eight points are inside, there is no cell
pub all_counted : (inside : List Bool) (eight : List ℕ) (b0 b1 b2 b3 b4 b5 b6 b7 : ℕ)
    → b0 ≡ bit_of inside (slice_index eight 0) → b1 ≡ bit_of inside (slice_index eight 1)
    → b2 ≡ bit_of inside (slice_index eight 2) → b3 ≡ bit_of inside (slice_index eight 3)
    → b4 ≡ bit_of inside (slice_index eight 4) → b5 ≡ bit_of inside (slice_index eight 5)
    → b6 ≡ bit_of inside (slice_index eight 6) → b7 ≡ bit_of inside (slice_index eight 7)
    → b0 ≤ 1 → b1 ≤ 1 → b2 ≤ 1 → b3 ≤ 1 → b4 ≤ 1 → b5 ≤ 1 → b6 ≤ 1 → b7 ≤ 1
    → not (nat_eq (b0 + b1 + b2 + b3 + (b4 + b5 + b6 + b7)) 8) ≡ false
    → cells_between inside eight ≡ []
all_counted inside eight b0 b1 b2 b3 b4 b5 b6 b7 e0 e1 e2 e3 e4 e5 e6 e7 m0 m1 m2 m3 m4 m5 m6 m7 fails =
    let sum : b0 + b1 + b2 + b3 + (b4 + b5 + b6 + b7) ≡ 8 = grind (arith, nat_tests) in
    let one : (n : ℕ) → n ≤ 1 → 0 < n → n ≡ 1 = λ n most least. omega arith in
    all_of_eight inside eight (below_eight (λ k. bit_of inside (slice_index eight k) ≡ 1)
    (sym e0 ∙ one b0 m0 (omega arith)) (sym e1 ∙ one b1 m1 (omega arith))
    (sym e2 ∙ one b2 m2 (omega arith)) (sym e3 ∙ one b3 m3 (omega arith))
    (sym e4 ∙ one b4 m4 (omega arith)) (sym e5 ∙ one b5 m5 (omega arith))
    (sym e6 ∙ one b6 m6 (omega arith)) (sym e7 ∙ one b7 m7 (omega arith)))

-- nor where none is
pub none_counted : (inside : List Bool) (eight : List ℕ) (b0 b1 b2 b3 b4 b5 b6 b7 : ℕ)
    → b0 ≡ bit_of inside (slice_index eight 0) → b1 ≡ bit_of inside (slice_index eight 1)
    → b2 ≡ bit_of inside (slice_index eight 2) → b3 ≡ bit_of inside (slice_index eight 3)
    → b4 ≡ bit_of inside (slice_index eight 4) → b5 ≡ bit_of inside (slice_index eight 5)
    → b6 ≡ bit_of inside (slice_index eight 6) → b7 ≡ bit_of inside (slice_index eight 7)
    → not (nat_eq (b0 + b1 + b2 + b3 + (b4 + b5 + b6 + b7)) 0) ≡ false
    → cells_between inside eight ≡ []
none_counted inside eight b0 b1 b2 b3 b4 b5 b6 b7 e0 e1 e2 e3 e4 e5 e6 e7 fails =
    let sum : b0 + b1 + b2 + b3 + (b4 + b5 + b6 + b7) ≡ 0 = grind (arith, nat_tests) in
    let zero_of : (n : ℕ) → n ≤ 0 → n ≡ 0 = λ n most. omega arith in
    none_of_eight inside eight (below_eight (λ k. bit_of inside (slice_index eight k) ≡ 0)
    (sym e0 ∙ zero_of b0 (omega arith)) (sym e1 ∙ zero_of b1 (omega arith))
    (sym e2 ∙ zero_of b2 (omega arith)) (sym e3 ∙ zero_of b3 (omega arith))
    (sym e4 ∙ zero_of b4 (omega arith)) (sym e5 ∙ zero_of b5 (omega arith))
    (sym e6 ∙ zero_of b6 (omega arith)) (sym e7 ∙ zero_of b7 (omega arith)))

-- the six tetrahedra of a cube one after the other
pub six_pushed : (inside : List Bool) (eight : List ℕ) (t0 t1 t2 t3 t4 t5 t6 : List (List Edge))
    → let at = slice_index eight in
    t1 ≡ t0 ++ cells_in inside (at 0 ∷ at 4 ∷ at 6 ∷ at 7 ∷ [])
    → t2 ≡ t1 ++ cells_in inside (at 0 ∷ at 5 ∷ at 4 ∷ at 7 ∷ [])
    → t3 ≡ t2 ++ cells_in inside (at 0 ∷ at 6 ∷ at 2 ∷ at 7 ∷ [])
    → t4 ≡ t3 ++ cells_in inside (at 0 ∷ at 2 ∷ at 3 ∷ at 7 ∷ [])
    → t5 ≡ t4 ++ cells_in inside (at 0 ∷ at 1 ∷ at 5 ∷ at 7 ∷ [])
    → t6 ≡ t5 ++ cells_in inside (at 0 ∷ at 3 ∷ at 1 ∷ at 7 ∷ [])
    → t6 ≡ t0 ++ cells_between inside eight
unfolding cells_between
six_pushed inside eight t0 t1 t2 t3 t4 t5 t6 p q r s t u =
    let at = slice_index eight in
    six_joined (cells_in inside)
    (at 0 ∷ at 4 ∷ at 6 ∷ at 7 ∷ []) (at 0 ∷ at 5 ∷ at 4 ∷ at 7 ∷ []) (at 0 ∷ at 6 ∷ at 2 ∷ at 7 ∷ []) (at 0 ∷ at 2 ∷ at 3 ∷ at 7 ∷ []) (at 0 ∷ at 1 ∷ at 5 ∷ at 7 ∷ []) (at 0 ∷ at 3 ∷ at 1 ∷ at 7 ∷ [])
    t0 t1 t2 t3 t4 t5 t6 p q r s t u
