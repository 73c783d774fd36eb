-- Keys that are the same are equal.
use Rattle.std.proofs.Common.{rules, ◌≡◌, ℕ, true, ◌&&◌, List, [], ◌∷◌, refl, ap, ◌∙◌, nat_eq}
use Rattle.std.proofs.lemmas.Bool.{and_parts, eqb-true, eq-eqb, false≢true}
use Rattle.std.specs.Cmp.Lexicographic.{pointwise}
use Rattle.viz_extent.specs.Extent.{Bounds, numbers_of}
use Rattle.viz_parts.specs.declared.request.Request.{Request}
use Rattle.viz_parts.specs.declared.request.Request.TheVariants.{Block, Piece}
use Rattle.viz_parts.specs.declared.stored.Key.{Key}
use Rattle.viz_parts.specs.contracts.stored.KeyPartialEq.TheImpl as equality
use Rattle.viz_cache.specs.Keys.{same_request, same_key}

numbers-same : (xs ys : List ℕ) → pointwise nat_eq xs ys ≡ true → xs ≡ ys
numbers-same [] [] h = refl
numbers-same [] (y ∷ ys) h = absurd (false≢true h)
numbers-same (x ∷ xs) [] h = absurd (false≢true h)
numbers-same (x ∷ xs) (y ∷ ys) h =
    let both = and_parts (nat_eq x y) (pointwise nat_eq xs ys) h in
    ap (λ n. n ∷ xs) (eqb-true x y both.0) ∙ ap (λ l. y ∷ l) (numbers-same xs ys both.1)

bounds-same : (a b : Bounds) → a.x0 ≡ b.x0 → a.x1 ≡ b.x1 → a.y0 ≡ b.y0 → a.y1 ≡ b.y1 → a.z0 ≡ b.z0 → a.z1 ≡ b.z1 → a ≡ b
bounds-same a b p q r s t u = λ j. record { x0 = p j; x1 = q j; y0 = r j; y1 = s j; z0 = t j; z1 = u j }

extent-same : (a b : Bounds) → pointwise nat_eq (numbers_of a) (numbers_of b) ≡ true → a ≡ b
extent-same a b h =
    let x = and_parts (nat_eq a.x0 b.x0) _ h in
    let x' = and_parts (nat_eq a.x1 b.x1) _ x.1 in
    let y = and_parts (nat_eq a.y0 b.y0) _ x'.1 in
    let y' = and_parts (nat_eq a.y1 b.y1) _ y.1 in
    let z = and_parts (nat_eq a.z0 b.z0) _ y'.1 in
    let z' = and_parts (nat_eq a.z1 b.z1) _ z.1 in
    bounds-same a b (eqb-true _ _ x.0) (eqb-true _ _ x'.0) (eqb-true _ _ y.0) (eqb-true _ _ y'.0) (eqb-true _ _ z.0) (eqb-true _ _ z'.0)

request-same : (a b : Request) → same_request a b ≡ true → a ≡ b
request-same (Block a) (Block b) h = ap Block (extent-same a b h)
request-same (Block a) (Piece q m k) h = absurd (false≢true h)
request-same (Piece p n g) (Block b) h = absurd (false≢true h)
request-same (Piece p n g) (Piece q m k) h =
    let first = and_parts (nat_eq p q && nat_eq n m) (nat_eq g k) h in
    let both = and_parts (nat_eq p q) (nat_eq n m) first.0 in
    let p-is = eqb-true p q both.0 in
    let n-is = eqb-true n m both.1 in
    let g-is = eqb-true g k first.1 in
    λ j. Piece (p-is j) (n-is j) (g-is j)

-- the same keys are equal
pub key-same : (a b : Key) → same_key a b ≡ true → a ≡ b
key-same a b h =
    let first = and_parts (nat_eq a.node.0 b.node.0 && nat_eq a.stamp b.stamp) (same_request a.request b.request) h in
    let both = and_parts (nat_eq a.node.0 b.node.0) (nat_eq a.stamp b.stamp) first.0 in
    let node = eqb-true a.node.0 b.node.0 both.0 in
    let stamp = eqb-true a.stamp b.stamp both.1 in
    let request = request-same a.request b.request first.1 in
    λ j. record { node = record { 0 = node j }; stamp = stamp j; request = request j }

-- what `==` answers of keys
pub key_eq : (a b : Key) → (equality.ghosts).eq a b ≡ same_key a b
key_eq a b = search rules

numbers-itself : (xs : List ℕ) → pointwise nat_eq xs xs ≡ true
numbers-itself [] = refl
numbers-itself (x ∷ xs) = rw (eq-eqb x x refl) (numbers-itself xs)

request-itself : (a : Request) → same_request a a ≡ true
request-itself (Block a) = numbers-itself (numbers_of a)
request-itself (Piece p n g) = rw (eq-eqb p p refl, eq-eqb n n refl, eq-eqb g g refl) refl

-- a key is the same as itself
pub key-itself : (a : Key) → same_key a a ≡ true
key-itself a = rw (eq-eqb a.node.0 a.node.0 refl, eq-eqb a.stamp a.stamp refl) (request-itself a.request)
