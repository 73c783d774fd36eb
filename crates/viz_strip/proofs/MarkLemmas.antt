-- Triangles that are left, by marks of those that are taken.
use Rattle.std.proofs.Common.{◌≡◌, ℕ, zero, suc, ◌+◌, ◌<◌, ⊎_elim, Bool, true, false, not, cond, List, [], ◌∷◌, length, get_or, set, replicate, refl, sym, ap, ◌∙◌, arith, true≢false}
use Rattle.std.specs.Prelude.{All}
use Rattle.std.proofs.lemmas.Bool.{cases_eq}
use Rattle.std.proofs.lemmas.List.{get_or-set_other, get_or-set_same}
use Rattle.std.proofs.lemmas.List.Sums.{sum_by-set}
use Rattle.std.proofs.lemmas.List.Elements.{All-nil, All-cons}
use Rattle.viz_strip.specs.Strips.{IsFirst}
use Rattle.viz_strip.specs.Steps.Marks.{is_taken, left, left_count}

-- the first triangle that isn't taken and passes a test
pub left-first : (ts : List (List ℕ)) (marks : List Bool) (test : List ℕ → Bool) (i : ℕ) → length marks ≡ length ts → i < length ts → is_taken marks i ≡ false → test (get_or ts i []) ≡ true
    → ((j : ℕ) → j < i → is_taken marks j ≡ false → test (get_or ts j []) ≡ false) → IsFirst test (left marks ts) (get_or ts i []) (left (set marks i true) ts)
left-first [] marks test i size l free passes none = absurd (omega arith)
left-first (t ∷ ts) [] test i size l free passes none = absurd (omega (arith, size))
left-first (t ∷ ts) (m ∷ ms) test zero size l free passes none =
    record {
      front = [];
      behind = left ms ts;
      all = ap (λ (b : Bool). cond b (left ms ts) (t ∷ left ms ts)) {x = m} {y = false} free;
      others_are = refl;
      passes = passes;
      first = All-nil (λ s. test s ≡ false);
    }
left-first (t ∷ ts) (true ∷ ms) test (suc i) size l free passes none =
    left-first ts ms test i (omega (arith, size)) (omega arith) free passes (λ j jl. none (suc j) (omega arith))
left-first (t ∷ ts) (false ∷ ms) test (suc i) size l free passes none =
    let deep = left-first ts ms test i (omega (arith, size)) (omega arith) free passes (λ j jl. none (suc j) (omega arith)) in
    record {
      front = t ∷ deep.front;
      behind = deep.behind;
      all = ap (λ x. t ∷ x) deep.all;
      others_are = ap (λ x. t ∷ x) deep.others_are;
      passes = deep.passes;
      first = All-cons (λ s. test s ≡ false) t deep.front (none 0 (omega arith) refl) deep.first;
    }

-- none of those that are left passes a test
pub left-none : (ts : List (List ℕ)) (marks : List Bool) (test : List ℕ → Bool) → length marks ≡ length ts → ((j : ℕ) → j < length ts → is_taken marks j ≡ false → test (get_or ts j []) ≡ false) → All (λ t. test t ≡ false) (left marks ts)
left-none ts [] test size none = All-nil (λ t. test t ≡ false)
left-none [] (m ∷ ms) test size none = All-nil (λ t. test t ≡ false)
left-none (t ∷ ts) (true ∷ ms) test size none = left-none ts ms test (omega (arith, size)) (λ j jl. none (suc j) (omega arith))
left-none (t ∷ ts) (false ∷ ms) test size none =
    All-cons (λ s. test s ≡ false) t (left ms ts) (none 0 (omega arith) refl) (left-none ts ms test (omega (arith, size)) (λ j jl. none (suc j) (omega arith)))

-- the first that isn't taken
pub left-head : (ts : List (List ℕ)) (marks : List Bool) (i : ℕ) → length marks ≡ length ts → i < length ts → is_taken marks i ≡ false → ((j : ℕ) → j < i → is_taken marks j ≡ true) → left marks ts ≡ get_or ts i [] ∷ left (set marks i true) ts
left-head [] marks i size l free before = absurd (omega arith)
left-head (t ∷ ts) [] i size l free before = absurd (omega (arith, size))
left-head (t ∷ ts) (m ∷ ms) zero size l free before = ap (λ b. cond b (left ms ts) (t ∷ left ms ts)) free
left-head (t ∷ ts) (true ∷ ms) (suc i) size l free before = left-head ts ms i (omega (arith, size)) (omega arith) free (λ j jl. before (suc j) (omega arith))
left-head (t ∷ ts) (false ∷ ms) (suc i) size l free before = absurd (true≢false (sym (before 0 (omega arith))))

-- all are taken
pub left-end : (ts : List (List ℕ)) (marks : List Bool) → length marks ≡ length ts → ((j : ℕ) → j < length ts → is_taken marks j ≡ true) → left marks ts ≡ []
left-end ts [] size taken = refl
left-end [] (m ∷ ms) size taken = refl
left-end (t ∷ ts) (true ∷ ms) size taken = left-end ts ms (omega (arith, size)) (λ j jl. taken (suc j) (omega arith))
left-end (t ∷ ts) (false ∷ ms) size taken = absurd (true≢false (sym (taken 0 (omega arith))))

-- none is taken
pub left-start : (ts : List (List ℕ)) (n : ℕ) → n ≡ length ts → left (replicate n false) ts ≡ ts
left-start [] zero e = refl
left-start [] (suc n) e = refl
left-start (t ∷ ts) zero e = absurd (omega (arith, e))
left-start (t ∷ ts) (suc n) e = ap (λ x. t ∷ x) (left-start ts n (omega (arith, e)))

-- one fewer is left
pub left-fewer : (marks : List Bool) (i : ℕ) → i < length marks → is_taken marks i ≡ false → left_count (set marks i true) < left_count marks
left-fewer marks i l free =
    let one : cond {A = ℕ} (not (get_or marks i false)) 1 0 ≡ 1 = ap (λ (b : Bool). cond {A = ℕ} (not b) 1 0) free in
    let sum : left_count (set marks i true) + cond {A = ℕ} (not (get_or marks i false)) 1 0 ≡ left_count marks + 0 = sum_by-set (λ m. cond {A = ℕ} (not m) 1 0) marks i true false l in
    omega arith

-- what is taken stays so
pub taken-set : (marks : List Bool) (i j : ℕ) → i < length marks → is_taken marks j ≡ true → is_taken (set marks i true) j ≡ true
taken-set marks i j l h =
    ⊎_elim (λ e. ap (λ k. get_or (set marks i true) k false) e ∙ get_or-set_same marks i true false l)
    (λ ne. get_or-set_other marks i j true false ne ∙ h)
    (cases_eq j i)

pub taken-here : (marks : List Bool) (i j : ℕ) → i < length marks → j ≡ i → is_taken (set marks i true) j ≡ true
taken-here marks i j l e = ap (λ k. get_or (set marks i true) k false) e ∙ get_or-set_same marks i true false l
