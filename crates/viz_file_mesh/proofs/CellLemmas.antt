-- What holds of each piece of each cell holds of all pieces.
use Rattle.std.proofs.Common.{◌≡◌, ℕ, zero, suc, ◌<◌, Bool, true, false, List, [], ◌∷◌, refl, arith}
use Rattle.std.specs.List.{All, flat_map}
use Rattle.std.proofs.lemmas.List.Elements.{All-nil, All-cons, All-head, All-tail, All-append}
use Rattle.viz_mesh_read.specs.Pieces.{kept, pieces_up_to}

pub All-flat_map : {X Y : Type 0} (P : Y → Type 0) (f : X → List Y) (xs : List X) → All (λ x. All P (f x)) xs → All P (flat_map f xs)
All-flat_map P f [] h = All-nil P
All-flat_map P f (x ∷ xs) h =
    All-append P (f x) (flat_map f xs) (All-head (λ y. All P (f y)) x xs h) (All-flat_map P f xs (All-tail (λ y. All P (f y)) x xs h))

pub All-up_to : (P : List ℕ → Type 0) (f : ℕ → List (List ℕ)) (n : ℕ) → ((i : ℕ) → i < n → All P (f i)) → All P (pieces_up_to f n)
All-up_to P f zero h = All-nil P
All-up_to P f (suc n) h = All-append P (pieces_up_to f n) (f n) (All-up_to P f n (λ i l. h i (omega arith))) (h n (omega arith))

pub All-one : {X : Type 0} (P : X → Type 0) (x : X) → P x → All P (x ∷ [])
All-one P x h = All-cons P x [] h (All-nil P)

pub All-kept : (P : List ℕ → Type 0) (test : Bool) (piece : List ℕ) → (test ≡ true → P piece) → All P (kept test piece)
All-kept P true piece h = All-one P piece (h refl)
All-kept P false piece h = All-nil P
