-- Rows in parts: what stands after one part more.
use Rattle.std.proofs.Common.{◌≡◌, ℕ, ◌+◌, ◌-◌, ◌*◌, ◌≤◌, ℤ, Bool, List, [], ◌++◌, length, take}
use Rattle.std.proofs.Common.{drop, sym, ap, subst, refl, ◌∙◌, append_assoc, arith}
use Rattle.std.proofs.Common.{Err}
use Rattle.std.specs.Prelude.{min}
use Rattle.std.specs.List.{All, flat_map}
use Rattle.std.proofs.lemmas.List.Concat.{flat_map-append}
use Rattle.std.proofs.lemmas.List.Elements.{All-append, All-take, All-drop}
use Rattle.std.proofs.lemmas.List.{take_all, take_min, take_rest, length-drop}
use Rattle.std.proofs.Math.Seq.{take-add}
use Rattle.viz_fraction.specs.Points.{Point}
use Rattle.viz_image_write.specs.declared.stop.WriteStop.{WriteStop}
use Rattle.viz_image_write.specs.declared.stop.WriteStop.TheVariants as stop
use Rattle.viz_mesh_write.specs.Fits.{FitsRow}
use Rattle.viz_mesh_write.specs.Steps.Parts.{part_of, IsPointPart}
use Rattle.viz_mesh_write.specs.Steps.Passes.{FitBy}

-- the first parts, and one more
parts_more : {X : Type 0} (xs : List X) (k : ℕ) → take ((k + 1) * 16384) xs ≡ take (k * 16384) xs ++ part_of xs k
parts_more {X} xs k =
    let more : (k + 1) * 16384 ≡ k * 16384 + 16384 = omega arith in
    ap (λ (n : ℕ). take n xs) more ∙ take-add (k * 16384) 16384 xs

-- the rows of one part more stand behind a text
pub rows_more : {X : Type 0} (row : X → List ℕ) (xs : List X) (k : ℕ) (old text new part : List ℕ) → text ≡ old ++ flat_map row (take (k * 16384) xs) → part ≡ flat_map row (part_of xs k) → new ≡ text ++ part
    → new ≡ old ++ flat_map row (take ((k + 1) * 16384) xs)
rows_more {X} row xs k old text new part so_far is put =
    let f : List X → List ℕ = flat_map row in
    let before = f (take (k * 16384) xs) in
    put ∙ ap (λ (t : List ℕ). t ++ part) so_far ∙ append_assoc old before part
    ∙ ap (λ (t : List ℕ). old ++ (before ++ t)) is
    ∙ ap (λ (t : List ℕ). old ++ t) (sym (flat_map-append row (take (k * 16384) xs) (part_of xs k)) ∙ sym (ap f (parts_more xs k)))

-- once there are no more parts these are all rows
pub rows_all : {X : Type 0} (row : X → List ℕ) (xs : List X) (k : ℕ) (old text : List ℕ) → length xs ≤ k * 16384 → text ≡ old ++ flat_map row (take (k * 16384) xs) → text ≡ old ++ flat_map row xs
rows_all row xs k old text most so_far =
    so_far ∙ ap (λ l. old ++ flat_map row l) (take_all (k * 16384) xs most)

-- what holds of the first parts and of one more holds of them together
pub all_more : {X : Type 0} (P : X → Type 0) (xs : List X) (k : ℕ) → All P (take (k * 16384) xs) → All P (part_of xs k) → All P (take ((k + 1) * 16384) xs)
all_more P xs k before here = subst (All P) (sym (parts_more xs k)) (All-append P (take (k * 16384) xs) (part_of xs k) before here)

-- once there are no more parts it holds of all
pub all_parts : {X : Type 0} (P : X → Type 0) (xs : List X) (k : ℕ) → length xs ≤ k * 16384 → All P (take (k * 16384) xs) → All P xs
all_parts P xs k most all = subst (All P) (take_all (k * 16384) xs most) all

-- what holds of all holds of a part
pub in_part : {X : Type 0} (P : X → Type 0) (xs : List X) (k : ℕ) → All P xs → All P (part_of xs k)
in_part P xs k all = All-take P 16384 (drop (k * 16384) xs) (All-drop P (k * 16384) xs all)

-- a part is cut from the rows that are left
pub part_is : {X : Type 0} (xs : List X) (t n : ℕ) → n ≡ min 16384 (length xs - t * 16384) → take n (take (length xs - t * 16384) (drop (t * 16384) xs)) ≡ part_of xs t
part_is {X} xs t n is =
    let rest : List X = drop (t * 16384) xs in
    let long : length rest ≡ length xs - t * 16384 = length-drop (t * 16384) xs in
    ap (λ (l : List X). take n l) (take_rest xs (t * 16384))
    ∙ ap (λ (m : ℕ). take m rest) (is ∙ ap (λ (m : ℕ). min 16384 m) (sym long))
    ∙ take_min 16384 rest

-- a text that holds the rows of a part alone
pub rows_of_part : {X : Type 0} (row : X → List ℕ) (rows xs : List X) (t : ℕ) (old new : List ℕ) → rows ≡ part_of xs t → old ≡ [] → new ≡ old ++ flat_map row rows → new ≡ flat_map row (part_of xs t)
rows_of_part row rows xs t old new is none put =
    put ∙ ap (λ (l : List ℕ). l ++ flat_map row rows) none ∙ ap (flat_map row) is

-- why a part has no rows
pub no_rows : {X : Type 0} (point : X → Point) (numbers : Point → List ℤ) (binary : Bool) (rows xs : List X) (t : ℕ) (e : WriteStop) → rows ≡ part_of xs t → (e ≡ stop.TooWide → FitBy point numbers rows → ⊥) → (e ≡ stop.TooMany → ⊥) → IsPointPart point numbers binary xs t (Err e)
no_rows point numbers binary rows xs t stop.TooWide is wide few = λ fits. wide refl (subst (FitBy point numbers) (sym is) fits)
no_rows point numbers binary rows xs t stop.TooMany is wide few = few refl
no_rows point numbers binary rows xs t stop.Memory is wide few = tt

abbrev IsWide : WriteStop → Type 0
IsWide stop.TooWide = ⊥
IsWide e = Unit {0}

-- where a part's numbers don't fit, not all do
pub not_all_parts : {X : Type 0} (point : X → Point) (numbers : Point → List ℤ) (binary : Bool) (xs : List X) (t : ℕ) (e : WriteStop) → IsPointPart point numbers binary xs t (Err e) → e ≡ stop.TooWide → FitBy point numbers xs → ⊥
not_all_parts point numbers binary xs t stop.TooWide has is all = has (in_part (λ x. FitsRow (numbers (point x))) xs t all)
not_all_parts point numbers binary xs t stop.TooMany has is all = absurd has
not_all_parts point numbers binary xs t stop.Memory has is all = absurd (subst IsWide is tt)
