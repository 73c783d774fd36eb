-- Lists that match place by place, joined.
use Rattle.std.proofs.Common.{◌≡◌, ℕ, ◌+◌, List, [], ◌∷◌, ◌++◌, append-nil, sym, ap, subst, ◌∙◌, arith}
use Rattle.std.specs.List.{AllZip, flat_map, range_with_len}
use Rattle.std.proofs.lemmas.Grind.{flat_map-append}
use Rattle.std.proofs.lemmas.List.{map-id}
use Rattle.std.proofs.lemmas.List.FromFn.{map-range_with_len_more}

zip-append : {A B : Type 0} (R : A → B → Type 0) (xs ys : List A) (us vs : List B)
    → AllZip R xs us → AllZip R ys vs → AllZip R (xs ++ ys) (us ++ vs)
zip-append R [] ys [] vs h k = k
zip-append R [] ys (u ∷ us) vs h k = absurd h
zip-append R (x ∷ xs) ys [] vs h k = absurd h
zip-append R (x ∷ xs) ys (u ∷ us) vs h k = (h.0, zip-append R xs ys us vs h.1 k)

range-more : (n : ℕ) → range_with_len 0 (n + 1) ≡ range_with_len 0 n ++ n ∷ []
range-more n =
    sym (map-id (range_with_len 0 (n + 1)))
    ∙ map-range_with_len_more (λ k. k) 0 n n (omega arith)
    ∙ ap (λ r. r ++ n ∷ []) (map-id (range_with_len 0 n))

flat-more : {A : Type 0} (f : ℕ → List A) (n : ℕ)
    → flat_map f (range_with_len 0 (n + 1)) ≡ flat_map f (range_with_len 0 n) ++ f n
flat-more f n =
    ap (flat_map f) (range-more n)
    ∙ flat_map-append f (range_with_len 0 n) (n ∷ [])
    ∙ ap (λ r. flat_map f (range_with_len 0 n) ++ r) (append-nil (f n))

-- what is made of one number more matches what is added
pub zip-more : {A B : Type 0} (R : A → B → Type 0) (f : ℕ → List A) (n : ℕ) (us vs : List B)
    → AllZip R (flat_map f (range_with_len 0 n)) us → AllZip R (f n) vs
    → AllZip R (flat_map f (range_with_len 0 (n + 1))) (us ++ vs)
zip-more R f n us vs h k =
    subst (λ xs. AllZip R xs (us ++ vs)) (sym (flat-more f n))
    (zip-append R (flat_map f (range_with_len 0 n)) (f n) us vs h k)
