-- One triangle more: sides by numbers, and triangles by names.
use Rattle.std.proofs.Common.{◌≡◌, ◌≢◌, ℕ, zero, suc, ◌+◌, ◌*◌, ◌/◌, ◌%◌, ◌<◌, ◌⊎◌, inl, inr, ⊎_elim, Bool, true, false, not, ◌&&◌, cond, List, [], ◌∷◌, ◌++◌, length, get_or, set, refl, sym, ap, subst, ◌∙◌, append_assoc, append-nil, arith, true≢false, eqb-true, eq-eqb}
use Rattle.std.specs.Prelude.{◌||◌, ◌==◌, All, Option, Some, None, IfSome, IfNone, is_some}
use Rattle.std.specs.List.{list_any}
use Rattle.std.proofs.lemmas.Bool.{and_parts, and_from, or_cases, or_left, or_right, cases_lt, false_from_ne_true}
use Rattle.std.proofs.lemmas.List.Folds.{list_any_none}
use Rattle.viz_strip.specs.Strips.{AreStrips, IsFirst, IsGrown, IsStrip, begun, runs, third}
use Rattle.viz_strip.specs.Steps.Marks.{is_taken, left}
use Rattle.viz_strip.specs.Steps.Sides.{HaveSides, before_of, behind_of, from_of, to_of, triangle_at}
use Rattle.viz_strip.specs.Steps.Links.{IsFree, IsMet, NoneIsFree}
use Rattle.viz_strip.specs.Steps.Grown.{AreKept, AreTaken, HasGained, HasGrown, HaveMade, IsReady, Stops, Takes, last, second_last}
use Rattle.viz_strip.proofs.MarkLemmas.{left-fewer, left-first, left-none, taken-set}
use Rattle.viz_strip.proofs.RunLemmas.{begun-first, begun-last, begun-second, none-of, one-of, shape, third-a, third-b, third-c}

-- ---- a triangle by its corners

pub corners : (t : List ℕ) → length t ≡ 3 → t ≡ get_or t 0 0 ∷ get_or t 1 0 ∷ get_or t 2 0 ∷ []
corners [] e = absurd (omega (arith, e))
corners (a ∷ []) e = absurd (omega (arith, e))
corners (a ∷ b ∷ []) e = absurd (omega (arith, e))
corners (a ∷ b ∷ c ∷ []) e = refl
corners (a ∷ b ∷ c ∷ d ∷ t) e = absurd (omega (arith, e))

pub three-cases : (P : ℕ → Type 0) (k : ℕ) → k < 3 → P 0 → P 1 → P 2 → P k
three-cases P zero l a b c = a
three-cases P (suc zero) l a b c = b
three-cases P (suc (suc zero)) l a b c = c
three-cases P (suc (suc (suc k))) l a b c = absurd (omega arith)

-- it runs along each of its sides
at-runs : (t : List ℕ) (k : ℕ) → length t ≡ 3 → k < 3 → runs (get_or t k 0) (get_or t ((k + 1) % 3) 0) t ≡ true
at-runs [] k e l = absurd (omega (arith, e))
at-runs (a ∷ []) k e l = absurd (omega (arith, e))
at-runs (a ∷ b ∷ []) k e l = absurd (omega (arith, e))
at-runs (a ∷ b ∷ c ∷ []) k e l =
    three-cases (λ j. runs (get_or (a ∷ b ∷ c ∷ []) j 0) (get_or (a ∷ b ∷ c ∷ []) ((j + 1) % 3) 0) (a ∷ b ∷ c ∷ []) ≡ true) k l
    (or_left (a == a && b == b) ((a == b && b == c) || (a == c && b == a)) (both a b))
    (or_right (b == a && c == b) ((b == b && c == c) || (b == c && c == a)) (or_left (b == b && c == c) (b == c && c == a) (both b c)))
    (or_right (c == a && a == b) ((c == b && a == c) || (c == c && a == a)) (or_right (c == b && a == c) (c == c && a == a) (both c a)))
  where
    both : (x y : ℕ) → (x == x && y == y) ≡ true
    both x y = and_from (x == x) (y == y) (eq-eqb x x refl) (eq-eqb y y refl)
at-runs (a ∷ b ∷ c ∷ d ∷ t) k e l = absurd (omega (arith, e))

-- and along no other
runs-at : (t : List ℕ) (u v : ℕ) → length t ≡ 3 → runs u v t ≡ true → (k : ℕ) × (k < 3) × (get_or t k 0 ≡ u) × (get_or t ((k + 1) % 3) 0 ≡ v)
runs-at [] u v e h = absurd (omega (arith, e))
runs-at (a ∷ []) u v e h = absurd (omega (arith, e))
runs-at (a ∷ b ∷ []) u v e h = absurd (omega (arith, e))
runs-at (a ∷ b ∷ c ∷ []) u v e h =
    ⊎_elim (λ k. let q = and_parts (u == a) (v == b) k in (0, omega arith, sym (eqb-true u a q.0), sym (eqb-true v b q.1)))
    (λ r. ⊎_elim
    (λ k. let q = and_parts (u == b) (v == c) k in (1, omega arith, sym (eqb-true u b q.0), sym (eqb-true v c q.1)))
    (λ k. let q = and_parts (u == c) (v == a) k in (2, omega arith, sym (eqb-true u c q.0), sym (eqb-true v a q.1)))
    (or_cases (u == b && v == c) (u == c && v == a) r))
    (or_cases (u == a && v == b) ((u == b && v == c) || (u == c && v == a)) h)
runs-at (a ∷ b ∷ c ∷ d ∷ t) u v e h = absurd (omega (arith, e))

-- ---- sides by numbers

pub within : (ts : List (List ℕ)) (r : ℕ) → r < 3 * length ts → r / 3 < length ts
within ts r l = omega arith

pub side-runs : (ts : List (List ℕ)) (points r : ℕ) → HaveSides points ts → r < 3 * length ts → runs (from_of ts r) (to_of ts r) (triangle_at ts r) ≡ true
side-runs ts points r h l =
    let t = triangle_at ts r in
    subst (λ j. runs (get_or t (r % 3) 0) (get_or t j 0) t ≡ true) {x = (r % 3 + 1) % 3} {y = (r + 1) % 3} (omega arith)
    (at-runs t (r % 3) ((h.triangle (r / 3) (within ts r l)).three) (omega arith))

pub runs-side : (ts : List (List ℕ)) (points i u v : ℕ) → HaveSides points ts → i < length ts → runs u v (get_or ts i []) ≡ true
    → (k : ℕ) × (k < 3) × (from_of ts (3 * i + k) ≡ u) × (to_of ts (3 * i + k) ≡ v)
runs-side ts points i u v h l e =
    let t = get_or ts i [] in
    let w = runs-at t u v (h.triangle i l).three e in
    let k = w.0 in
    let small : k < 3 = w.1 in
    let same : get_or ts ((3 * i + k) / 3) [] ≡ t = ap (λ j. get_or ts j []) {x = (3 * i + k) / 3} {y = i} (omega arith) in (
      k,
      small,
      ap (λ s. get_or s ((3 * i + k) % 3) 0) same ∙ ap (λ j. get_or t j 0) {x = (3 * i + k) % 3} {y = k} (omega arith) ∙ w.2,
      ap (λ s. get_or s ((3 * i + k + 1) % 3) 0) same ∙ ap (λ j. get_or t j 0) {x = (3 * i + k + 1) % 3} {y = (k + 1) % 3} (omega arith) ∙ w.3,
    )

-- ---- the first triangle that runs from u to v

pub free-first : (ts : List (List ℕ)) (points : ℕ) (marks : List Bool) (u v q : ℕ) → HaveSides points ts → length marks ≡ length ts → IsFree ts marks u v q
    → IsFirst (runs u v) (left marks ts) (triangle_at ts q) (left (set marks (q / 3) true) ts)
free-first ts points marks u v q h size f =
    let i = q / 3 in
    let il : i < length ts = within ts q f.within in
    let passes : runs u v (triangle_at ts q) ≡ true = ap (λ x. runs x v (triangle_at ts q)) (sym f.from_is) ∙ ap (λ x. runs (from_of ts q) x (triangle_at ts q)) (sym f.to_is) ∙ side-runs ts points q h f.within in
    left-first ts marks (runs u v) i size il f.free passes
    (λ j jl free. false_from_ne_true (runs u v (get_or ts j [])) (λ e.
    let w = runs-side ts points j u v h (omega arith) e in
    let k = w.0 in
    let small : k < 3 = w.1 in
    let taken : is_taken marks ((3 * j + k) / 3) ≡ true = f.first (3 * j + k) (omega arith) (omega arith) w.2 w.3 in
    absurd (true≢false (sym taken ∙ (ap (is_taken marks) {x = (3 * j + k) / 3} {y = j} (omega arith) ∙ free)))))

pub none-left : (ts : List (List ℕ)) (points : ℕ) (marks : List Bool) (u v : ℕ) → HaveSides points ts → length marks ≡ length ts → NoneIsFree ts marks u v → All (λ t. runs u v t ≡ false) (left marks ts)
none-left ts points marks u v h size n =
    left-none ts marks (runs u v) size
    (λ j jl free. false_from_ne_true (runs u v (get_or ts j [])) (λ e.
    let w = runs-side ts points j u v h jl e in
    let k = w.0 in
    let small : k < 3 = w.1 in
    let taken : is_taken marks ((3 * j + k) / 3) ≡ true = n.taken (3 * j + k) (omega arith) w.2 w.3 in
    absurd (true≢false (sym taken ∙ (ap (is_taken marks) {x = (3 * j + k) / 3} {y = j} (omega arith) ∙ free)))))

-- ---- the side before one, and the side behind it

pub from-before : (ts : List (List ℕ)) (r : ℕ) → from_of ts (before_of r) ≡ get_or (triangle_at ts r) ((r + 2) % 3) 0
from-before ts r =
    ap (λ i. get_or (get_or ts i []) ((before_of r) % 3) 0) {x = before_of r / 3} {y = r / 3} (omega arith)
    ∙ ap (λ k. get_or (triangle_at ts r) k 0) {x = before_of r % 3} {y = (r + 2) % 3} (omega arith)

pub to-before : (ts : List (List ℕ)) (r : ℕ) → to_of ts (before_of r) ≡ from_of ts r
to-before ts r =
    ap (λ i. get_or (get_or ts i []) ((before_of r + 1) % 3) 0) {x = before_of r / 3} {y = r / 3} (omega arith)
    ∙ ap (λ k. get_or (triangle_at ts r) k 0) {x = (before_of r + 1) % 3} {y = r % 3} (omega arith)

pub from-behind : (ts : List (List ℕ)) (r : ℕ) → from_of ts (behind_of r) ≡ to_of ts r
from-behind ts r =
    ap (λ i. get_or (get_or ts i []) ((behind_of r) % 3) 0) {x = behind_of r / 3} {y = r / 3} (omega arith)
    ∙ ap (λ k. get_or (triangle_at ts r) k 0) {x = behind_of r % 3} {y = (r + 1) % 3} (omega arith)

pub to-behind : (ts : List (List ℕ)) (r : ℕ) → to_of ts (behind_of r) ≡ get_or (triangle_at ts r) ((r + 2) % 3) 0
to-behind ts r =
    ap (λ i. get_or (get_or ts i []) ((behind_of r + 1) % 3) 0) {x = behind_of r / 3} {y = r / 3} (omega arith)
    ∙ ap (λ k. get_or (triangle_at ts r) k 0) {x = (behind_of r + 1) % 3} {y = (r + 2) % 3} (omega arith)

-- ---- the third name

third-at : (a b c k u v : ℕ) → a ≢ b → a ≢ c → b ≢ c → k < 3
    → ((u ≡ get_or (a ∷ b ∷ c ∷ []) k 0) × (v ≡ get_or (a ∷ b ∷ c ∷ []) ((k + 1) % 3) 0)) ⊎ ((u ≡ get_or (a ∷ b ∷ c ∷ []) ((k + 1) % 3) 0) × (v ≡ get_or (a ∷ b ∷ c ∷ []) k 0))
    → third u v (a ∷ b ∷ c ∷ []) ≡ get_or (a ∷ b ∷ c ∷ []) ((k + 2) % 3) 0
third-at a b c k u v ab ac bc l =
    three-cases
    (λ j. ((u ≡ get_or (a ∷ b ∷ c ∷ []) j 0) × (v ≡ get_or (a ∷ b ∷ c ∷ []) ((j + 1) % 3) 0)) ⊎ ((u ≡ get_or (a ∷ b ∷ c ∷ []) ((j + 1) % 3) 0) × (v ≡ get_or (a ∷ b ∷ c ∷ []) j 0))
    → third u v (a ∷ b ∷ c ∷ []) ≡ get_or (a ∷ b ∷ c ∷ []) ((j + 2) % 3) 0)
    k l
    (λ e. third-c a b c u v (one-of a u v (of a b e a (inl refl))) (one-of b u v (of a b e b (inr refl))))
    (λ e. third-a a b c u v (none-of a u v (off b c e a ab ac).0 (off b c e a ab ac).1))
    (λ e. third-b a b c u v (one-of a u v (of c a e a (inr refl))) (none-of b u v (off c a e b bc (λ h. ab (sym h))).0 (off c a e b bc (λ h. ab (sym h))).1))
  where
    of : (x y : ℕ) → ((u ≡ x) × (v ≡ y)) ⊎ ((u ≡ y) × (v ≡ x)) → (m : ℕ) → (m ≡ x) ⊎ (m ≡ y) → (m ≡ u) ⊎ (m ≡ v)
    of x y e m h =
        ⊎_elim (λ d. ⊎_elim (λ p. inl (p ∙ sym d.0)) (λ p. inr (p ∙ sym d.1)) h) (λ d. ⊎_elim (λ p. inr (p ∙ sym d.1)) (λ p. inl (p ∙ sym d.0)) h) e

    off : (x y : ℕ) → ((u ≡ x) × (v ≡ y)) ⊎ ((u ≡ y) × (v ≡ x)) → (m : ℕ) → m ≢ x → m ≢ y → (m ≢ u) × (m ≢ v)
    off x y e m f g = ⊎_elim (λ d. (λ p. f (p ∙ d.0), λ p. g (p ∙ d.1))) (λ d. (λ p. g (p ∙ d.0), λ p. f (p ∙ d.1))) e

pub third-side : (ts : List (List ℕ)) (points r u v : ℕ) → HaveSides points ts → r < 3 * length ts → ((u ≡ from_of ts r) × (v ≡ to_of ts r)) ⊎ ((u ≡ to_of ts r) × (v ≡ from_of ts r))
    → third u v (triangle_at ts r) ≡ get_or (triangle_at ts r) ((r + 2) % 3) 0
third-side ts points r u v h l e =
    let t = triangle_at ts r in
    let s = shape t (h.triangle (r / 3) (within ts r l)) in
    let k = r % 3 in
    let next : to_of ts r ≡ get_or t ((k + 1) % 3) 0 = ap (λ j. get_or t j 0) {x = (r + 1) % 3} {y = (k + 1) % 3} (omega arith) in
    let ends : ((u ≡ get_or t k 0) × (v ≡ get_or t ((k + 1) % 3) 0)) ⊎ ((u ≡ get_or t ((k + 1) % 3) 0) × (v ≡ get_or t k 0)) = ⊎_elim (λ d. inl (d.0, d.1 ∙ next)) (λ d. inr (d.0 ∙ next, d.1)) e in
    subst (λ x. ((u ≡ get_or x k 0) × (v ≡ get_or x ((k + 1) % 3) 0)) ⊎ ((u ≡ get_or x ((k + 1) % 3) 0) × (v ≡ get_or x k 0)) → third u v x ≡ get_or x ((k + 2) % 3) 0) (sym s.3)
    (third-at s.0 s.1 s.2 k u v s.4 s.5 s.6 (omega arith)) ends
    ∙ ap (λ j. get_or t j 0) {x = (k + 2) % 3} {y = (r + 2) % 3} (omega arith)

-- ---- one triangle more

pub takes-odd : (ts : List (List ℕ)) (points side found : ℕ) (marks : List Bool) (row new_row : List ℕ) → HaveSides points ts → length marks ≡ length ts → IsFree ts marks (to_of ts side) (from_of ts side) found → new_row ≡ row ++ from_of ts (before_of found) ∷ []
    → Takes ts true side marks (set marks (found / 3) true) row new_row (before_of found)
takes-odd ts points side found marks row new_row h size f more =
    let l : found < 3 * length ts = f.within in
    record {
      within = omega arith;
      t = triangle_at ts found;
      takes = free-first ts points marks (to_of ts side) (from_of ts side) found h size f;
      third_is = from-before ts found ∙ sym (third-side ts points found (from_of ts side) (to_of ts side) h l (inr (sym f.to_is, sym f.from_is)));
      last_is = to-before ts found ∙ f.from_is;
      row_is = more;
      fewer = left-fewer marks (found / 3) (omega (arith, size, within ts found l)) f.free;
    }

pub takes-even : (ts : List (List ℕ)) (points side found : ℕ) (marks : List Bool) (row new_row : List ℕ) → HaveSides points ts → length marks ≡ length ts → IsFree ts marks (to_of ts side) (from_of ts side) found → new_row ≡ row ++ from_of ts (before_of found) ∷ []
    → Takes ts false side marks (set marks (found / 3) true) row new_row (behind_of found)
takes-even ts points side found marks row new_row h size f more =
    let l : found < 3 * length ts = f.within in
    record {
      within = omega arith;
      t = triangle_at ts found;
      takes = free-first ts points marks (to_of ts side) (from_of ts side) found h size f;
      third_is = to-behind ts found ∙ sym (third-side ts points found (to_of ts side) (from_of ts side) h l (inl (sym f.from_is, sym f.to_is)));
      last_is = from-behind ts found ∙ f.to_is;
      row_is = more ∙ ap (λ w. row ++ w ∷ []) (from-before ts found ∙ sym (to-behind ts found));
      fewer = left-fewer marks (found / 3) (omega (arith, size, within ts found l)) f.free;
    }

pub stops-here : (ts : List (List ℕ)) (points : ℕ) (odd : Bool) (side : ℕ) (marks : List Bool) (row : List ℕ) → HaveSides points ts → length marks ≡ length ts → NoneIsFree ts marks (to_of ts side) (from_of ts side)
    → Stops ts odd side marks marks row row
stops-here ts points true side marks row h size n =
    record { none = none-left ts points marks (to_of ts side) (from_of ts side) h size n; marks_are = refl; row_is = refl }
stops-here ts points false side marks row h size n =
    record { none = none-left ts points marks (to_of ts side) (from_of ts side) h size n; marks_are = refl; row_is = refl }

-- ---- marks that grow

pub kept-set : (marks : List Bool) (i : ℕ) → i < length marks → AreKept marks (set marks i true)
kept-set marks i l = record { each = λ j h. taken-set marks i j l h }

pub kept-same : (marks : List Bool) → AreKept marks marks
kept-same marks = record { each = λ j h. h }

pub kept-both : (a b c : List Bool) → AreKept a b → AreKept b c → AreKept a c
kept-both a b c k m = record { each = λ j h. m.each j (k.each j h) }

pub met-kept : (ts : List (List ℕ)) (old new : List Bool) (u v from q : ℕ) → AreKept old new → IsMet ts old u v from q → IsMet ts new u v from q
met-kept ts old new u v from q k m =
    record {
      past = m.past;
      from_is = m.from_is;
      to_is = m.to_is;
      least = λ r b rq rl ef et. k.each (r / 3) (m.least r b rq rl ef et);
    }

pub ready-kept : (ts : List (List ℕ)) (old new : List Bool) (firsts nexts : List ℕ) → length new ≡ length old → AreKept old new → IsReady ts old firsts nexts → IsReady ts new firsts nexts
ready-kept ts old new firsts nexts size k r =
    record {
      mark_size = size ∙ r.mark_size;
      first_size = r.first_size;
      next_size = r.next_size;
      back = record { each = λ s l. met-kept ts old new (to_of ts s) (from_of ts s) 0 (get_or firsts s 0) k (r.back.each s l) };
      on = record { each = λ s l. met-kept ts old new (from_of ts s) (to_of ts s) (s + 1) (get_or nexts s 0) k (r.on.each s l) };
    }

pub none-kept : (marks : List Bool) → AreKept [] marks
none-kept marks = record { each = λ j h. absurd (true≢false (sym h)) }

-- ---- a strip that grows

pub gain-start : (u v : ℕ) (start : List (List ℕ)) (row : List ℕ) → HasGained u v start row row true u v start
gain-start u v start row = record { done = []; row_is = sym (append-nil row); goes = λ more rest g. g }

pub gain-more : (ts : List (List ℕ)) (u v : ℕ) (start : List (List ℕ)) (first row new_row : List ℕ) (odd : Bool) (side next : ℕ) (marks new_marks : List Bool)
    → HasGained u v start first row odd (second_last ts odd side) (last ts odd side) (left marks ts) → Takes ts odd side marks new_marks row new_row next
    → HasGained u v start first new_row (not odd) (second_last ts (not odd) next) (last ts (not odd) next) (left new_marks ts)
gain-more ts u v start first row new_row odd side next marks new_marks g t =
    let w = last ts (not odd) next in
    record {
      done = g.done ++ w ∷ [];
      row_is = t.row_is ∙ ap (λ r. r ++ w ∷ []) g.row_is ∙ append_assoc first g.done (w ∷ []);
      goes = λ more rest h.
          subst (λ m. IsGrown true u v m start rest) (sym (append_assoc g.done (w ∷ []) more))
          (g.goes (w ∷ more) rest (t.t, left new_marks ts, t.takes, t.third_is, subst (λ x. IsGrown (not odd) x w more (left new_marks ts) rest) t.last_is h));
    }

pub gain-end : (ts : List (List ℕ)) (u v : ℕ) (start : List (List ℕ)) (first row new_row : List ℕ) (odd : Bool) (side : ℕ) (marks new_marks : List Bool)
    → HasGained u v start first row odd (second_last ts odd side) (last ts odd side) (left marks ts) → Stops ts odd side marks new_marks row new_row → HasGrown u v start first new_row (left new_marks ts)
gain-end ts u v start first row new_row odd side marks new_marks g s =
    record {
      more = g.done;
      row_is = s.row_is ∙ g.row_is;
      grown = subst (λ ms. IsGrown true u v g.done start (left ms ts)) (sym s.marks_are) (subst (λ m. IsGrown true u v m start (left marks ts)) (append-nil g.done) (g.goes [] (left marks ts) (s.none, refl)));
    }

-- ---- how a strip begins

from-at : (ts : List (List ℕ)) (i k : ℕ) → k < 3 → from_of ts (3 * i + k) ≡ get_or (get_or ts i []) k 0
from-at ts i k l =
    ap (λ j. get_or (get_or ts j []) ((3 * i + k) % 3) 0) {x = (3 * i + k) / 3} {y = i} (omega arith)
    ∙ ap (λ j. get_or (get_or ts i []) j 0) {x = (3 * i + k) % 3} {y = k} (omega arith)

to-at : (ts : List (List ℕ)) (i k : ℕ) → k < 3 → to_of ts (3 * i + k) ≡ get_or (get_or ts i []) ((k + 1) % 3) 0
to-at ts i k l =
    ap (λ j. get_or (get_or ts j []) ((3 * i + k + 1) % 3) 0) {x = (3 * i + k) / 3} {y = i} (omega arith)
    ∙ ap (λ j. get_or (get_or ts i []) j 0) {x = (3 * i + k + 1) % 3} {y = (k + 1) % 3} (omega arith)

before-at : (ts : List (List ℕ)) (i k : ℕ) → k < 3 → from_of ts (before_of (3 * i + k)) ≡ get_or (get_or ts i []) ((k + 2) % 3) 0
before-at ts i k l =
    from-before ts (3 * i + k) ∙ ap (λ j. get_or (get_or ts j []) ((3 * i + k + 2) % 3) 0) {x = (3 * i + k) / 3} {y = i} (omega arith)
    ∙ ap (λ j. get_or (get_or ts i []) j 0) {x = (3 * i + k + 2) % 3} {y = (k + 2) % 3} (omega arith)

-- the names of a strip of the triangle whose last side is its side k
pub row-at : (ts : List (List ℕ)) (i k : ℕ) → k < 3 → from_of ts (before_of (3 * i + k)) ∷ from_of ts (3 * i + k) ∷ to_of ts (3 * i + k) ∷ []
    ≡ get_or (get_or ts i []) ((k + 2) % 3) 0 ∷ get_or (get_or ts i []) k 0 ∷ get_or (get_or ts i []) ((k + 1) % 3) 0 ∷ []
row-at ts i k l =
    ap (λ x. x ∷ from_of ts (3 * i + k) ∷ to_of ts (3 * i + k) ∷ []) (before-at ts i k l)
    ∙ ap (λ x. get_or (get_or ts i []) ((k + 2) % 3) 0 ∷ x ∷ to_of ts (3 * i + k) ∷ []) (from-at ts i k l)
    ∙ ap (λ x. get_or (get_or ts i []) ((k + 2) % 3) 0 ∷ get_or (get_or ts i []) k 0 ∷ x ∷ []) (to-at ts i k l)

pub any-at : (ts : List (List ℕ)) (i k : ℕ) (left : List (List ℕ)) → k < 3 → list_any (runs (to_of ts (3 * i + k)) (from_of ts (3 * i + k))) left
    ≡ list_any (runs (get_or (get_or ts i []) ((k + 1) % 3) 0) (get_or (get_or ts i []) k 0)) left
any-at ts i k left l =
    ap (λ x. list_any (runs x (from_of ts (3 * i + k))) left) (to-at ts i k l)
    ∙ ap (λ x. list_any (runs (get_or (get_or ts i []) ((k + 1) % 3) 0) x) left) (from-at ts i k l)

pub first-any : (test : List ℕ → Bool) (left : List (List ℕ)) (t : List ℕ) (others : List (List ℕ)) → IsFirst test left t others → list_any test left ≡ true
first-any test left t others f = ap (list_any test) f.all ∙ there f.front
  where
    there : (front : List (List ℕ)) → list_any test (front ++ t ∷ f.behind) ≡ true
    there [] = or_left (test t) (list_any test f.behind) f.passes
    there (s ∷ front) = or_right (test s) (list_any test (front ++ t ∷ f.behind)) (there front)

pub strip-is : (ts : List (List ℕ)) (t : List ℕ) (side : ℕ) (now : List (List ℕ)) (row new_row : List ℕ) (rest : List (List ℕ))
    → begun now t ≡ from_of ts (before_of side) ∷ from_of ts side ∷ to_of ts side ∷ [] → row ≡ from_of ts (before_of side) ∷ from_of ts side ∷ to_of ts side ∷ []
    → HasGrown (from_of ts side) (to_of ts side) now row new_row rest → IsStrip t now new_row rest
strip-is ts t side now row new_row rest b is g =
    record {
      a = from_of ts (before_of side);
      b = from_of ts side;
      c = to_of ts side;
      more = g.more;
      begins = b;
      is = g.row_is ∙ ap (λ r. r ++ g.more) is;
      grown = g.grown;
    }

-- ---- all strips

pub made-none : (start : List (List ℕ)) (rows : List (List ℕ)) → HaveMade start start rows rows
made-none start rows = record { made = []; rows_are = sym (append-nil rows); goes = λ strips h. h }

pub made-one : (start now : List (List ℕ)) (t : List ℕ) (others : List (List ℕ)) (rows new_rows : List (List ℕ)) (row : List ℕ) → start ≡ t ∷ others → IsStrip t others row now → new_rows ≡ rows ++ row ∷ [] → HaveMade start now rows new_rows
made-one start now t others rows new_rows row e s is =
    record { made = row ∷ []; rows_are = is; goes = λ strips h. (t, others, now, e, s, h) }

pub made-both : (start mid end : List (List ℕ)) (a b c : List (List ℕ)) → HaveMade start mid a b → HaveMade mid end b c → HaveMade start end a c
made-both start mid end a b c m n =
    record {
      made = m.made ++ n.made;
      rows_are = n.rows_are ∙ ap (λ r. r ++ n.made) m.rows_are ∙ append_assoc a m.made n.made;
      goes = λ strips h. subst (AreStrips start) (sym (append_assoc m.made n.made strips)) (m.goes (n.made ++ strips) (n.goes strips h));
    }

pub made-all : (start : List (List ℕ)) (new_rows : List (List ℕ)) → HaveMade start [] [] new_rows → AreStrips start new_rows
made-all start new_rows m = subst (AreStrips start) (sym m.rows_are) (subst (AreStrips start) (append-nil m.made) (m.goes [] refl))

pub taken-next : (marks : List Bool) (i : ℕ) → AreTaken marks i → is_taken marks i ≡ true → AreTaken marks (i + 1)
taken-next marks i a h =
    record { each = λ j l. ⊎_elim (λ lt. a.each j lt) (λ ge. ap (is_taken marks) {x = j} {y = i} (omega arith) ∙ h) (cases_lt j i) }

pub taken-kept : (old new : List Bool) (i : ℕ) → AreKept old new → AreTaken old i → AreTaken new i
taken-kept old new i k a = record { each = λ j l. k.each j (a.each j l) }

-- ---- whether a side is met

pub any-met : (ts : List (List ℕ)) (points : ℕ) (marks : List Bool) (u v : ℕ) (o : Option ℕ) → HaveSides points ts → length marks ≡ length ts → IfSome o (λ q. IsFree ts marks u v q) → IfNone o (NoneIsFree ts marks u v)
    → is_some o ≡ list_any (runs u v) (left marks ts)
any-met ts points marks u v None h size s n = sym (list_any_none (runs u v) (left marks ts) (none-left ts points marks u v h size n))
any-met ts points marks u v (Some q) h size s n =
    sym (first-any (runs u v) (left marks ts) (triangle_at ts q) (left (set marks (q / 3) true) ts) (free-first ts points marks u v q h size s))

-- ---- the last side of a strip that begins with a triangle

abbrev pub row_of : List (List ℕ) → ℕ → List ℕ
row_of ts side = from_of ts (before_of side) ∷ from_of ts side ∷ to_of ts side ∷ []

abbrev pub is_open : List (List ℕ) → List (List ℕ) → ℕ → Bool
is_open ts now side = list_any (runs (to_of ts side) (from_of ts side)) now

pub begun-at-second : (ts now : List (List ℕ)) (i : ℕ) → length (get_or ts i []) ≡ 3 → is_open ts now (3 * i + 1) ≡ true → begun now (get_or ts i []) ≡ row_of ts (3 * i + 1)
begun-at-second ts now i e h =
    let t = get_or ts i [] in
    ap (begun now) (corners t e) ∙ begun-first now (get_or t 0 0) (get_or t 1 0) (get_or t 2 0) (sym (any-at ts i 1 now (omega arith)) ∙ h) ∙ sym (row-at ts i 1 (omega arith))

pub begun-at-third : (ts now : List (List ℕ)) (i : ℕ) → length (get_or ts i []) ≡ 3 → is_open ts now (3 * i + 1) ≡ false → is_open ts now (3 * i + 2) ≡ true → begun now (get_or ts i []) ≡ row_of ts (3 * i + 2)
begun-at-third ts now i e n h =
    let t = get_or ts i [] in
    ap (begun now) (corners t e)
    ∙ begun-second now (get_or t 0 0) (get_or t 1 0) (get_or t 2 0) (sym (any-at ts i 1 now (omega arith)) ∙ n) (sym (any-at ts i 2 now (omega arith)) ∙ h) ∙ sym (row-at ts i 2 (omega arith))

begun-at-last : (ts now : List (List ℕ)) (i : ℕ) (b : Bool) → length (get_or ts i []) ≡ 3 → is_open ts now (3 * i + 1) ≡ false → is_open ts now (3 * i + 2) ≡ false → is_open ts now (3 * i + 0) ≡ b
    → begun now (get_or ts i []) ≡ cond b (get_or (get_or ts i []) 2 0 ∷ get_or (get_or ts i []) 0 0 ∷ get_or (get_or ts i []) 1 0 ∷ []) (get_or (get_or ts i []) 0 0 ∷ get_or (get_or ts i []) 1 0 ∷ get_or (get_or ts i []) 2 0 ∷ [])
begun-at-last ts now i b e n m h =
    let t = get_or ts i [] in
    ap (begun now) (corners t e)
    ∙ begun-last now (get_or t 0 0) (get_or t 1 0) (get_or t 2 0) (sym (any-at ts i 1 now (omega arith)) ∙ n) (sym (any-at ts i 2 now (omega arith)) ∙ m)
    ∙ ap (λ x. cond x (get_or t 2 0 ∷ get_or t 0 0 ∷ get_or t 1 0 ∷ []) (get_or t 0 0 ∷ get_or t 1 0 ∷ get_or t 2 0 ∷ [])) (sym (any-at ts i 0 now (omega arith)) ∙ h)

pub begun-at-first : (ts now : List (List ℕ)) (i : ℕ) → length (get_or ts i []) ≡ 3 → is_open ts now (3 * i + 1) ≡ false → is_open ts now (3 * i + 2) ≡ false → is_open ts now (3 * i) ≡ true → begun now (get_or ts i []) ≡ row_of ts (3 * i)
begun-at-first ts now i e n m h =
    let same : 3 * i + 0 ≡ 3 * i = omega arith in
    begun-at-last ts now i true e n m (ap (is_open ts now) same ∙ h) ∙ sym (row-at ts i 0 (omega arith)) ∙ ap (row_of ts) same

pub begun-as-listed : (ts now : List (List ℕ)) (i : ℕ) → length (get_or ts i []) ≡ 3 → is_open ts now (3 * i + 1) ≡ false → is_open ts now (3 * i + 2) ≡ false → is_open ts now (3 * i) ≡ false → begun now (get_or ts i []) ≡ row_of ts (3 * i + 1)
begun-as-listed ts now i e n m h =
    let same : 3 * i + 0 ≡ 3 * i = omega arith in
    begun-at-last ts now i false e n m (ap (is_open ts now) same ∙ h) ∙ sym (row-at ts i 1 (omega arith))
