-- The sides of triangles of ranks, before any is taken.
use Rattle.std.proofs.Common.{◌≡◌, ◌≢◌, ℕ, ◌+◌, ◌*◌, ◌/◌, ◌%◌, ◌<◌, ◌≤◌, Bool, false, List, [], ◌∷◌, length, get_or, replicate, sym, ap, subst, ◌∙◌, arith}
use Rattle.std.specs.Prelude.{All}
use Rattle.std.proofs.lemmas.List.{length-replicate}
use Rattle.std.proofs.lemmas.List.Elements.{All-get_or}
use Rattle.viz_strip.specs.Strips.{IsTriangle}
use Rattle.viz_strip.specs.Steps.Links.{LeadBack, LeadOn}
use Rattle.viz_strip.specs.Steps.Grown.{IsReady}
use Rattle.viz_strip.specs.Steps.Sides.{HaveSides, from_of, to_of, triangle_at}
use Rattle.viz_strip.proofs.GrowthLemmas.{met-kept, none-kept, three-cases, within}
use Rattle.viz_strip.proofs.RunLemmas.{shape}

-- two corners that follow each other differ
corners-apart : (t : List ℕ) (k : ℕ) → IsTriangle t → k < 3 → get_or t k 0 ≢ get_or t ((k + 1) % 3) 0
corners-apart t k is l =
    let s = shape t is in
    subst (λ x. get_or x k 0 ≢ get_or x ((k + 1) % 3) 0) (sym s.3)
    (three-cases (λ j. get_or (s.0 ∷ s.1 ∷ s.2 ∷ []) j 0 ≢ get_or (s.0 ∷ s.1 ∷ s.2 ∷ []) ((j + 1) % 3) 0) k l s.4 s.6 (λ e. s.5 (sym e)))

-- an item of a triangle of ranks
item-below : (ts : List (List ℕ)) (points i k : ℕ) → All IsTriangle ts → All (λ t. All (λ r. r < points) t) ts → i < length ts → k < 3 → get_or (get_or ts i []) k 0 < points
item-below ts points i k a b l small =
    let is = All-get_or IsTriangle ts i [] l a in
    All-get_or (λ r. r < points) (get_or ts i []) k 0 (omega (arith, is.three)) (All-get_or (λ t. All (λ r. r < points) t) ts i [] l b)

pub sides-of : (ts : List (List ℕ)) (points : ℕ) → All IsTriangle ts → All (λ t. All (λ r. r < points) t) ts → HaveSides points ts
sides-of ts points a b =
    record {
      triangle = λ i l. All-get_or IsTriangle ts i [] l a;
      from_below = λ r l. item-below ts points (r / 3) (r % 3) a b (within ts r l) (omega arith);
      to_below = λ r l. item-below ts points (r / 3) ((r + 1) % 3) a b (within ts r l) (omega arith);
      apart = λ r l.
          let t = triangle_at ts r in
          subst (λ j. get_or t (r % 3) 0 ≢ get_or t j 0) {x = (r % 3 + 1) % 3} {y = (r + 1) % 3} (omega arith)
          (corners-apart t (r % 3) (All-get_or IsTriangle ts (r / 3) [] (within ts r l) a) (omega arith));
    }

pub sides-wide : (ts : List (List ℕ)) (points more : ℕ) → points ≤ more → HaveSides points ts → HaveSides more ts
sides-wide ts points more l h =
    record {
      triangle = h.triangle;
      from_below = λ r rl. let b = h.from_below r rl in omega arith;
      to_below = λ r rl. let b = h.to_below r rl in omega arith;
      apart = h.apart;
    }

pub ready-start : (ts : List (List ℕ)) (marks : List Bool) (firsts nexts : List ℕ) → marks ≡ replicate (length ts) false → length firsts ≡ 3 * length ts → length nexts ≡ 3 * length ts → LeadBack ts [] firsts → LeadOn ts [] nexts → IsReady ts marks firsts nexts
ready-start ts marks firsts nexts e f n back on =
    record {
      mark_size = ap length e ∙ length-replicate (length ts) false;
      first_size = f;
      next_size = n;
      back = record { each = λ s l. met-kept ts [] marks (to_of ts s) (from_of ts s) 0 (get_or firsts s 0) (none-kept marks) (back.each s l) };
      on = record { each = λ s l. met-kept ts [] marks (from_of ts s) (to_of ts s) (s + 1) (get_or nexts s 0) (none-kept marks) (on.each s l) };
    }
