-- Counts over all cells, where each cell has some or none.
use Rattle.std.proofs.Common.{◌≡◌, ℕ, ◌+◌, ◌*◌, ◌<◌, ◌==◌, Bool, true, false, not, ◌&&◌, ◌||◌, ◌⊎◌, inl, inr, List, [], ◌∷◌, ◌++◌, cond, refl, sym, ap, ap₂, ◌∙◌, true≢false, arith}
use Rattle.std.specs.List.{Contains, count_by, flat_map}
use Rattle.std.proofs.lemmas.List.Sums.{sum_by-append}
use Rattle.viz_sheet.proofs.KeptLemmas.{count_by-cons}
use Rattle.viz_sheet.proofs.MemberLemmas.{here, there}

count-append : {X : Type 0} (P : X → Bool) (xs ys : List X) → count_by P (xs ++ ys) ≡ count_by P xs + count_by P ys
count-append P xs ys = sum_by-append (λ x. cond (P x) 1 0) xs ys

one-each : (b : Bool) (n m : ℕ) → n ≡ m → cond b 1 0 + n ≡ cond b 1 0 + m
one-each b n m e = ap (λ k. cond b 1 0 + k) e

-- where each item gives one that passes, if it passes itself, and else none
pub once-each : {X Y : Type 0} (P : X → Bool) (Q : Y → Bool) (g : X → List Y) (xs : List X) → ((x : X) → Contains xs x → count_by Q (g x) ≡ cond (P x) 1 0)
    → count_by Q (flat_map g xs) ≡ count_by P xs
once-each P Q g [] h = refl
once-each P Q g (x ∷ xs) h =
    count-append Q (g x) (flat_map g xs)
    ∙ ap₂ (λ a b. a + b) (h x (here x xs)) (once-each P Q g xs (λ y c. h y (there x xs y c)))
    ∙ sym (count_by-cons P x xs)

two-more : (b : Bool) (n : ℕ) → cond b 2 0 + (n + n) ≡ (cond b 1 0 + n) + (cond b 1 0 + n)
two-more true n = omega arith
two-more false n = omega arith

-- where each gives two
pub twice-each : {X Y : Type 0} (P : X → Bool) (Q : Y → Bool) (g : X → List Y) (xs : List X) → ((x : X) → Contains xs x → count_by Q (g x) ≡ cond (P x) 2 0)
    → count_by Q (flat_map g xs) ≡ count_by P xs + count_by P xs
twice-each P Q g [] h = omega arith
twice-each P Q g (x ∷ xs) h =
    count-append Q (g x) (flat_map g xs)
    ∙ ap₂ (λ a b. a + b) (h x (here x xs)) (twice-each P Q g xs (λ y c. h y (there x xs y c)))
    ∙ two-more (P x) (count_by P xs)
    ∙ ap₂ (λ a b. a + b) (sym (count_by-cons P x xs)) (sym (count_by-cons P x xs))

-- ---- what the table says of three spots

-- the spots have all four corners, or those of a face
pub data Found (a b c d w m : Bool) : Type 0 where
  wide : a ≡ true → b ≡ true → c ≡ true → d ≡ true → w ≡ true → Found a b c d w m
  miss0 : a ≡ false → b ≡ true → c ≡ true → d ≡ true → m ≡ true → Found a b c d w m
  miss1 : a ≡ true → b ≡ false → c ≡ true → d ≡ true → m ≡ true → Found a b c d w m
  miss2 : a ≡ true → b ≡ true → c ≡ false → d ≡ true → m ≡ true → Found a b c d w m
  miss3 : a ≡ true → b ≡ true → c ≡ true → d ≡ false → m ≡ true → Found a b c d w m

never : {A : Type 0} → false ≡ true → A
never e = absurd (true≢false (sym e))

at-flags : (a b c d w m : Bool) → cond a (cond b (cond c (cond d w m) (d && m)) (c && (d && m))) (b && (c && (d && m))) ≡ true → Found a b c d w m
at-flags true true true true w m h = wide refl refl refl refl h
at-flags true true true false w m h = miss3 refl refl refl refl h
at-flags true true false true w m h = miss2 refl refl refl refl h
at-flags true true false false w m h = never h
at-flags true false true true w m h = miss1 refl refl refl refl h
at-flags true false true false w m h = never h
at-flags true false false d w m h = never h
at-flags false true true true w m h = miss0 refl refl refl refl h
at-flags false true true false w m h = never h
at-flags false true false d w m h = never h
at-flags false false c d w m h = never h

pub found : (up zero a b c d w m : Bool) → up ≡ true → zero ≡ false
    → (not up || (zero || cond a (cond b (cond c (cond d w m) (d && m)) (c && (d && m))) (b && (c && (d && m))))) ≡ true → Found a b c d w m
found true false a b c d w m x y h = at-flags a b c d w m h
found true true a b c d w m x y h = absurd (true≢false y)
found false zero a b c d w m x y h = never (x)
