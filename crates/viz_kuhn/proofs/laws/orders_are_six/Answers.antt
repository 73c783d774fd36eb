use Rattle.std.proofs.Common.{◌≡◌, ◌≢◌, ℕ, ◌+◌, ◌*◌, ◌<◌, cond, ltb, List, [], ◌∷◌, refl, ap, sym, ◌∙◌, arith}
use Rattle.std.specs.Prelude.{IsPermutation}
use Rattle.viz_kuhn.specs.Corners.{Axis, along_x, along_y, along_z, rank}
use Rattle.viz_kuhn.specs.Kuhn.{rows, axes_of}
use Rattle.viz_kuhn.proofs.RowLemmas.{below_six}
use Rattle.viz_kuhn.proofs.laws.orders_are_six.Goals as goal

pub returns-clause-axes : goal.returns-clause-axes
unfolding rows
returns-clause-axes c =
    below_six (λ p. IsPermutation (along_x ∷ along_y ∷ along_z ∷ []) (axes_of p))
    (record { moves = []; below = tt; is = refl })
    (record { moves = (1, 2) ∷ []; below = (omega arith, omega arith, tt); is = refl })
    (record { moves = (0, 1) ∷ []; below = (omega arith, omega arith, tt); is = refl })
    (record { moves = (1, 2) ∷ (0, 1) ∷ []; below = (omega arith, omega arith, (omega arith, omega arith, tt)); is = refl })
    (record { moves = (1, 2) ∷ (0, 2) ∷ []; below = (omega arith, omega arith, (omega arith, omega arith, tt)); is = refl })
    (record { moves = (0, 2) ∷ []; below = (omega arith, omega arith, tt); is = refl })

-- the row of an order
order_at : (a b c : Axis) → a ≢ b → a ≢ c → b ≢ c → (p : ℕ) × (p < 6) × (axes_of p ≡ a ∷ b ∷ c ∷ [])
unfolding rows
order_at along_x along_y along_z ab ac bc = (0, omega arith, refl)
order_at along_x along_z along_y ab ac bc = (1, omega arith, refl)
order_at along_y along_x along_z ab ac bc = (2, omega arith, refl)
order_at along_y along_z along_x ab ac bc = (3, omega arith, refl)
order_at along_z along_x along_y ab ac bc = (4, omega arith, refl)
order_at along_z along_y along_x ab ac bc = (5, omega arith, refl)
order_at along_x along_x c ab ac bc = absurd (ab refl)
order_at along_y along_y c ab ac bc = absurd (ab refl)
order_at along_z along_z c ab ac bc = absurd (ab refl)
order_at along_x b along_x ab ac bc = absurd (ac refl)
order_at along_y b along_y ab ac bc = absurd (ac refl)
order_at along_z b along_z ab ac bc = absurd (ac refl)
order_at a along_x along_x ab ac bc = absurd (bc refl)
order_at a along_y along_y ab ac bc = absurd (bc refl)
order_at a along_z along_z ab ac bc = absurd (bc refl)

pub returns-clause-every : goal.returns-clause-every
unfolding rows
returns-clause-every c = order_at

-- the place of three axes among their orders, as in a dictionary
place_of_order : List Axis → ℕ
place_of_order (a ∷ b ∷ c ∷ []) = rank a * 2 + cond (ltb (rank c) (rank b)) 1 0
place_of_order _ = 0

-- the rows stand in that order
rows_in_order : (p : ℕ) → p < 6 → place_of_order (axes_of p) ≡ p
unfolding rows place_of_order
rows_in_order = below_six (λ p. place_of_order (axes_of p) ≡ p) refl refl refl refl refl refl

pub returns-clause-differ : goal.returns-clause-differ
returns-clause-differ c = λ p q p_below q_below same.
    sym (rows_in_order p p_below) ∙ ap place_of_order same ∙ rows_in_order q q_below
