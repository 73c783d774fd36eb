-- The least of some leaves.
use Rattle.std.proofs.Common.{◌≡◌, ℕ, zero, suc, ◌+◌, ◌-◌, ◌*◌, ◌/◌, ◌^◌, ◌<◌, ◌≤◌, ⊎_elim, List, [], ◌∷◌, ◌++◌, length, get_or, map, min, take, refl, sym, ap, subst, ◌∙◌, arith}
use Rattle.std.specs.List.{All, Contains, flat_map}
use Rattle.std.proofs.Math.Nat.{div-mul-le_self}
use Rattle.std.proofs.lemmas.Bool.{cases_lt}
use Rattle.std.proofs.lemmas.List.{map_more, take_more}
use Rattle.std.proofs.lemmas.List.Concat.{flat_map-append}
use Rattle.std.proofs.lemmas.Nat.{le-div}
use Rattle.viz_sheet.proofs.MemberLemmas.{here, there, member_cases, no_member}
use Rattle.viz_sheet.specs.Ranked.{names_at}
use Rattle.viz_piece_section.specs.Steps.Leaves.{least_leaf, least_of}

pub least-most : (ls : List ℕ) → least_of ls ≤ 2 ^ 31 - 1
least-most [] = omega arith
least-most (l ∷ ls) = omega (arith, least-most ls)

pub least-append : (xs ys : List ℕ) → least_of (xs ++ ys) ≡ min (least_of xs) (least_of ys)
least-append [] ys = omega (arith, least-most ys)
least-append (x ∷ xs) ys = omega (arith, least-append xs ys)

-- it is at most each of them
pub least-below : (ls : List ℕ) (x : ℕ) → Contains ls x → least_of ls ≤ x
least-below [] x c = absurd (no_member x c)
least-below (l ∷ ls) x c =
    ⊎_elim
    (λ e. let is : l ≡ x = e in omega (arith, is))
    (λ d. let less : least_of ls ≤ x = least-below ls x d in omega (arith, less))
    (member_cases l ls x c)

-- what holds of each and of the last leaf that there may be holds of the least
pub least-keeps : (P : ℕ → Type 0) (ls : List ℕ) → P (2 ^ 31 - 1) → ((x : ℕ) → Contains ls x → P x) → P (least_of ls)
least-keeps P [] base each = base
least-keeps P (l ∷ ls) base each =
    let rest = least-keeps P ls base (λ x c. each x (there l ls x c)) in
    ⊎_elim
    (λ less. subst P {x = l} {y = min l (least_of ls)} (omega (arith, less)) (each l (here l ls)))
    (λ more. subst P {x = least_of ls} {y = min l (least_of ls)} (omega (arith, more)) rest)
    (cases_lt l (least_of ls))

-- quotients rise
pub div-rises : (a b k : ℕ) → 0 < k → a ≤ b → a / k ≤ b / k
div-rises a b k some l = le-div (a / k) b k some (omega (arith, div-mul-le_self a k, l))

-- ---- one more in a loop

pub least-more : (number : ℕ) (ls : List ℕ) (i d : ℕ) → i < length ls
    → min (min number (least_of (take i ls))) (get_or ls i d) ≡ min number (least_of (take (i + 1) ls))
least-more number ls i d l =
    let e : least_of (take (i + 1) ls) ≡ min (least_of (take i ls)) (least_of (get_or ls i d ∷ [])) = ap least_of (take_more ls i d l) ∙ least-append (take i ls) (get_or ls i d ∷ []) in
    omega (arith, e, least-most (take i ls))

pub name-more : (names : List (List ℕ)) (ranks : List ℕ) (i d : ℕ) → i < length ranks
    → min (least_leaf (names_at names (take i ranks))) (least_of (get_or names (get_or ranks i d) [])) ≡ least_leaf (names_at names (take (i + 1) ranks))
name-more names ranks i d l =
    let at = λ (r : ℕ). get_or names r [] in
    let front = names_at names (take i ranks) in
    let last = get_or names (get_or ranks i d) [] in
    sym (ap least_leaf (map_more at ranks i d l) ∙ ap least_of (flat_map-append (λ n. n) front (last ∷ []))
    ∙ least-append (flat_map (λ n. n) front) (last ++ []) ∙ ap (λ k. min (least_leaf front) k) (nothing last))
  where
    nothing : (ls : List ℕ) → least_of (ls ++ []) ≡ least_of ls
    nothing ls = let e = least-append ls [] in omega (arith, e, least-most ls)
