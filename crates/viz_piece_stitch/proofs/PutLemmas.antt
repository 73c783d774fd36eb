-- One more item put.
use Rattle.std.proofs.Common.{◌≡◌, ◌≢◌, ℕ, ◌<◌, ◌≤◌, ◌⊎◌, inl, inr, ⊎_elim, List, [], ◌∷◌, ◌++◌, length, get_or, refl, sym, subst, ◌∙◌, arith}
use Rattle.std.specs.List.{All}
use Rattle.std.proofs.lemmas.Bool.{cases_lt}
use Rattle.std.proofs.lemmas.List.{get_or_append_left, get_or_push, length_push}
use Rattle.viz_piece_stitch.specs.Steps.Put.{IsFrom, IsPut, IsPutAt}

module _ {X : Type 0} (old : List X) (ranks : List ℕ) (piece before after : List X) (r i : ℕ) (z : X) (at : length ranks ≡ i) (h : IsPut old ranks piece before) (step : IsPutAt before r z after) (item : (d : X) → z ≡ get_or piece i d) where
  more : List ℕ
  more = ranks ++ r ∷ []

  last_from : IsFrom more piece r after
  unfolding more
  last_from = (i, omega (arith, at, length_push ranks r), get_or_push ranks r 0 i at, step.within, λ d. step.put d ∙ item d)

  kept_from : (q : ℕ) → q ≢ r → IsFrom ranks piece q before → IsFrom more piece q after
  unfolding more
  kept_from q n f =
      (f.0, omega (arith, f.1, length_push ranks r), get_or_append_left ranks (r ∷ []) 0 f.0 f.1 ∙ f.2, omega (arith, f.3, step.size), λ d. step.others q d f.3 n ∙ f.4 d)

  same_or_not : (q : ℕ) → (q ≡ r) ⊎ (q ≢ r)
  same_or_not q =
      ⊎_elim (λ b. inr (λ e. absurd (omega (arith, b, e)))) (λ f. ⊎_elim (λ b. inr (λ e. absurd (omega (arith, b, e)))) (λ g. inl (omega (arith, f, g))) (cases_lt r q)) (cases_lt q r)

  from_now : (q : ℕ) → IsFrom ranks piece q before → IsFrom more piece q after
  from_now q f = ⊎_elim (λ e. subst (λ k. IsFrom more piece k after) (sym e) last_from) (λ n. kept_from q n f) (same_or_not q)

  put_now : (k : ℕ) → k < length more → IsFrom more piece (get_or more k 0) after
  unfolding more
  put_now k b =
      ⊎_elim
      (λ before. subst (λ q. IsFrom more piece q after) (sym (get_or_append_left ranks (r ∷ []) 0 k before)) (from_now (get_or ranks k 0) (h.put k before)))
      (λ from. let e : length ranks ≡ k = omega (arith, from, b, length_push ranks r) in subst (λ q. IsFrom more piece q after) (sym (get_or_push ranks r 0 k e)) last_from)
      (cases_lt k (length ranks))

  others_now : (q : ℕ) → q < length old → IsFrom more piece q after ⊎ ((d : X) → get_or after q d ≡ get_or old q d)
  others_now q l =
      ⊎_elim
      (λ e. inl (subst (λ k. IsFrom more piece k after) (sym e) last_from))
      (λ n. ⊎_elim (λ f. inl (kept_from q n f)) (λ g. inr (λ d. step.others q d (omega (arith, l, h.size)) n ∙ g d)) (h.others q l))
      (same_or_not q)

  most_now : (count : ℕ) → length old ≤ count → All (λ q. q < count) more → length after ≤ count
  unfolding more
  most_now count l all =
      let long = length_push ranks r in
      let first : All (λ q. q < count) ranks = λ k d b. subst (λ q. q < count) (get_or_append_left ranks (r ∷ []) d k b) (all k d (omega (arith, b, long))) in
      let last : r < count = subst (λ q. q < count) (get_or_push ranks r 0 i at) (all i 0 (omega (arith, at, long))) in
      step.most count (h.most count l first) last

  pub put_more : IsPut old (ranks ++ r ∷ []) piece after
  unfolding more
  put_more = record { size = omega (arith, h.size, step.size); most = most_now; put = put_now; others = others_now }

pub put_none : {X : Type 0} (old piece : List X) → IsPut old [] piece old
put_none old piece = record { size = omega arith; most = λ count l all. l; put = λ k b. absurd (omega (arith, b)); others = λ r l. inr (λ d. refl) }
