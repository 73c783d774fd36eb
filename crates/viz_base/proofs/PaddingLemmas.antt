-- Writing a name in front of zeros, one byte after the other.
use Rattle.std.proofs.Common.{◌≡◌, ℕ, suc, ◌-◌, ◌+◌, ◌<◌, ◌≤◌, List, [], ◌∷◌, ◌++◌, length, get_or, take, refl, sym, ap, ◌∙◌, append_assoc, arith}
use Rattle.std.specs.Prelude.{replicate, set}
use Rattle.std.proofs.lemmas.List.{set_at, take_more, length-take-le, drop_at, length-append, length-replicate}
use Rattle.viz_base.specs.Names.{IsPadded}

-- one more byte in front of one zero less
pub padded_more : (text : List ℕ) (i n : ℕ) → i < length text → i < n → set (take i text ++ replicate (n - i) 0) i (get_or text i 0) ≡ take (i + 1) text ++ replicate (n - (i + 1)) 0
padded_more text i n within room =
    let left : n - i ≡ suc (n - (i + 1)) = omega arith in
    let len : length (take i text) ≡ i = length-take-le i text (omega arith) in
    let zeros : replicate (n - i) 0 ≡ 0 ∷ replicate (n - (i + 1)) 0 = ap (λ (m : ℕ). replicate m 0) left in
    ap (λ (zs : List ℕ). set (take i text ++ zs) i (get_or text i 0)) {y = 0 ∷ replicate (n - (i + 1)) 0} zeros
    ∙ set_at (take i text) 0 (replicate (n - (i + 1)) 0) (get_or text i 0) i len
    ∙ sym (ap (λ (front : List ℕ). front ++ replicate (n - (i + 1)) 0) (take_more text i 0 within) ∙ append_assoc (take i text) (get_or text i 0 ∷ []) (replicate (n - (i + 1)) 0))

-- a name of the right length before zeros is padded
pub IsPadded-name : (text : List ℕ) → 1 ≤ length text → length text ≤ 64 → IsPadded (length text) (text ++ replicate (64 - length text) 0)
IsPadded-name text some short = record {
  some = some;
  short = short;
  room = omega (arith, length-append text (replicate (64 - length text) 0), length-replicate {A = ℕ} (64 - length text) 0);
  padding = drop_at text (replicate (64 - length text) 0) (length text) refl;
}
