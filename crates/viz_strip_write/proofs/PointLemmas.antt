-- Rows of points, one more at a time.
use Rattle.std.proofs.Common.{◌≡◌, ℕ, ◌+◌, ◌<◌, ℤ, false, List, [], ◌∷◌, ◌++◌, length, get_or, take, refl, sym, ap, ap₂, subst, ◌∙◌, append_assoc, append-nil}
use Rattle.std.specs.List.{flat_map}
use Rattle.std.proofs.lemmas.List.{flat_map_more, take_more}
use Rattle.std.proofs.lemmas.List.Elements.{All-get_or, All-more}
use Rattle.viz_fraction.specs.Points.{Point}
use Rattle.viz_image_write.specs.ImageText.{row_text}
use Rattle.viz_mesh_write.specs.Fits.{FitRows, FitsRow}
use Rattle.viz_mesh_write.specs.MeshText.{coordinates, points_line, points_text, scalars, scalars_head, scalars_text}
use Rattle.viz_mesh_write.specs.Steps.Passes.{point_rows}
use Rattle.viz_column.specs.declared.kind.Kind8.TheVariants.{I64}
use Rattle.viz_image_write.proofs.PassLemmas.{appended}
use Rattle.viz_strip_write.proofs.TextLemmas.{block-is}

-- one item more
flat-take : {X Y : Type 0} (f : X → List Y) (xs : List X) (i : ℕ) (x : X) → i < length xs → x ≡ get_or xs i x → flat_map f (take (i + 1) xs) ≡ flat_map f (take i xs) ++ f x
flat-take {X} f xs i x lt is =
    ap (flat_map f) (take_more xs i x lt ∙ ap (λ (y : X). take i xs ++ y ∷ []) (sym is)) ∙ sym (flat_map_more f [] (take i xs) x)

-- one row more
pub points-more : (numbers : Point → List ℤ) (points : List Point) (i : ℕ) (x : Point) (old text new : List ℕ) → i < length points → x ≡ get_or points i x → text ≡ old ++ point_rows numbers false (take i points) → new ≡ text ++ row_text (numbers x)
    → new ≡ old ++ point_rows numbers false (take (i + 1) points)
points-more numbers points i x old text new l e h k =
    k ∙ ap (λ (t : List ℕ). t ++ row_text (numbers x)) h ∙ append_assoc old (point_rows numbers false (take i points)) (row_text (numbers x))
    ∙ ap (λ (t : List ℕ). old ++ t) (sym (flat-take (λ (p : Point). row_text (numbers p)) points i x l e))

-- one row more fits
pub fits-more : (numbers : Point → List ℤ) (points : List Point) (i : ℕ) (x : Point) → i < length points → x ≡ get_or points i x → FitRows numbers (take i points) → FitsRow (numbers x) → FitRows numbers (take (i + 1) points)
fits-more numbers points i x l e f h =
    record { each = All-more (λ p. FitsRow (numbers p)) points i x l f.each (subst (λ (p : Point). FitsRow (numbers p)) e h) }

-- where one doesn't, all don't
pub one-wide : (numbers : Point → List ℤ) (points : List Point) (i : ℕ) (x : Point) → i < length points → x ≡ get_or points i x → (FitsRow (numbers x) → ⊥) → FitRows numbers points → ⊥
one-wide numbers points i x l e n f = n (subst (λ (p : Point). FitsRow (numbers p)) (sym e) (All-get_or (λ p. FitsRow (numbers p)) points i x l f.each))

pub points-put : (points : List Point) (n : ℕ) (old line new : List ℕ) → n ≡ length points → line ≡ old ++ points_line n → new ≡ line ++ point_rows (coordinates 3) false points → new ≡ old ++ points_text false 3 points
unfolding points_text
points-put points n old line new e h k =
    let block = point_rows (coordinates 3) false points in
    appended old line new (points_line n) (block ++ []) h (k ∙ ap (λ (t : List ℕ). line ++ t) (sym (append-nil block)))
    ∙ ap (λ (t : List ℕ). old ++ t) (ap₂ (λ (a : ℕ) (b : List ℕ). points_line a ++ b) e (block-is I64 (coordinates 3) points n block e refl))

pub scalars-put : (points : List Point) (n : ℕ) (old head new : List ℕ) → (n ≡ 0 → ⊥) → n ≡ length points → head ≡ old ++ scalars_head n → new ≡ head ++ point_rows scalars false points → new ≡ old ++ scalars_text false points
scalars-put [] n old head new some e h k = absurd (some e)
scalars-put (p ∷ points) n old head new some e h k =
    let block = point_rows scalars false (p ∷ points) in
    appended old head new (scalars_head n) (block ++ []) h (k ∙ ap (λ (t : List ℕ). head ++ t) (sym (append-nil block)))
    ∙ ap (λ (t : List ℕ). old ++ t) (ap₂ (λ (a : ℕ) (b : List ℕ). scalars_head a ++ b) e (block-is I64 scalars (p ∷ points) n block e refl))
