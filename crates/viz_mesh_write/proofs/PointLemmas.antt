-- A pass over the points of a sheet, and over the sheets, one more at a time.
use Rattle.std.proofs.Common.{◌≡◌, ℕ, zero, suc, ◌+◌, ◌<◌, ℤ, Bool, List, [], ◌∷◌, ◌++◌, length, get_or, take, sym, ap, subst, ◌∙◌, append_assoc, arith}
use Rattle.std.specs.List.{All, flat_map}
use Rattle.std.proofs.lemmas.List.{flat_map_more, take_more}
use Rattle.std.proofs.lemmas.List.Concat.{flat_map-append}
use Rattle.std.proofs.lemmas.List.Elements.{All-append, All-nil, All-cons, All-head, All-tail}
use Rattle.viz_column.specs.declared.kind.Kind8.TheVariants.{I64}
use Rattle.viz_fraction.specs.Points.{Point}
use Rattle.viz_sheet.specs.Sheet.{SheetData}
use Rattle.viz_mesh_write.specs.Cells.{points_of}
use Rattle.viz_mesh_write.specs.Rows.{row_of}
use Rattle.viz_mesh_write.specs.Fits.{FitsRow, FitRows}
use Rattle.viz_mesh_write.specs.Steps.Passes.{point_rows}

-- one item more
pub flat_take : {X Y : Type 0} (f : X → List Y) (xs : List X) (i : ℕ) (x : X) → i < length xs → x ≡ get_or xs i x → flat_map f (take (i + 1) xs) ≡ flat_map f (take i xs) ++ f x
flat_take {X} f xs i x lt is =
    ap (flat_map f) (take_more xs i x lt ∙ ap (λ (y : X). take i xs ++ y ∷ []) (sym is)) ∙ sym (flat_map_more f [] (take i xs) x)

All-front : {X : Type 0} (P : X → Type 0) (xs ys : List X) → All P (xs ++ ys) → All P xs
All-front P [] ys h = All-nil P
All-front P (x ∷ xs) ys h = All-cons P x xs (All-head P x (xs ++ ys) h) (All-front P xs ys (All-tail P x (xs ++ ys) h))

All-behind : {X : Type 0} (P : X → Type 0) (xs ys : List X) → All P (xs ++ ys) → All P ys
All-behind P [] ys h = h
All-behind P (x ∷ xs) ys h = All-behind P xs ys (All-tail P x (xs ++ ys) h)

-- what holds of all holds of the part of one item
All-part : {X Y : Type 0} (P : Y → Type 0) (f : X → List Y) (xs : List X) (i : ℕ) (d : X) → i < length xs → All P (flat_map f xs) → All P (f (get_or xs i d))
All-part P f [] i d lt h = absurd (omega (arith, lt))
All-part P f (x ∷ xs) zero d lt h = All-front P (f x) (flat_map f xs) h
All-part P f (x ∷ xs) (suc i) d lt h = All-part P f xs i d (omega (arith, lt)) (All-behind P (f x) (flat_map f xs) h)

-- the numbers of these points fit
pub rows_fit : (numbers : Point → List ℤ) (ps points : List Point) → ps ≡ points
    → All (λ p. FitsRow (numbers p)) ps → FitRows numbers points
rows_fit numbers ps points same fits =
    record { each = subst (λ (l : List Point). All (λ p. FitsRow (numbers p)) l) same fits }

-- where they do, those of each do
pub rows_fit_back : (numbers : Point → List ℤ) (ps points : List Point) → ps ≡ points
    → FitRows numbers points → All (λ p. FitsRow (numbers p)) ps
rows_fit_back numbers ps points same fits =
    subst (λ (l : List Point). All (λ p. FitsRow (numbers p)) l) (sym same) fits.each

-- the rows of one sheet more
pub sheet_more : (numbers : Point → List ℤ) (binary : Bool) (old text new : List ℕ) (sheets : List SheetData) (i : ℕ) (s : SheetData) (points : List Point) → i < length sheets → s ≡ get_or sheets i s → points ≡ s.points
    → text ≡ old ++ point_rows numbers binary (points_of (take i sheets)) → new ≡ text ++ point_rows numbers binary points
    → new ≡ old ++ point_rows numbers binary (points_of (take (i + 1) sheets))
sheet_more numbers binary old text new sheets i s points lt is same so_far put =
    let row : Point → List ℕ = λ (p : Point). row_of binary I64 (numbers p) in
    let before = points_of (take i sheets) in
    let grown : new ≡ old ++ (flat_map row before ++ flat_map row s.points) =
    put ∙ ap (λ (ps : List Point). text ++ flat_map row ps) same ∙ ap (λ (t : List ℕ). t ++ flat_map row s.points) so_far ∙ append_assoc old (flat_map row before) (flat_map row s.points) in
    grown ∙ ap (λ (t : List ℕ). old ++ t) (sym (flat_map-append row before s.points)) ∙ ap (λ (ps : List Point). old ++ flat_map row ps) (sym (flat_take (λ (t : SheetData). t.points) sheets i s lt is))

-- one sheet more has numbers that fit
pub sheet_fits : (numbers : Point → List ℤ) (sheets : List SheetData) (i : ℕ) (s : SheetData) → i < length sheets → s ≡ get_or sheets i s → FitRows numbers (points_of (take i sheets)) → FitRows numbers s.points → FitRows numbers (points_of (take (i + 1) sheets))
sheet_fits numbers sheets i s lt is so_far here =
    let whole = All-append (λ q. FitsRow (numbers q)) (points_of (take i sheets)) s.points so_far.each here.each in
    record { each = subst (λ (ps : List Point). All (λ q. FitsRow (numbers q)) ps) (sym (flat_take (λ (t : SheetData). t.points) sheets i s lt is)) whole }

-- where those of one sheet don't fit, those of all don't
pub no_sheet : (numbers : Point → List ℤ) (sheets : List SheetData) (i : ℕ) (s : SheetData) → i < length sheets → s ≡ get_or sheets i s → (FitRows numbers s.points → ⊥) → FitRows numbers (points_of sheets) → ⊥
no_sheet numbers sheets i s lt is misses all =
    let part = All-part (λ q. FitsRow (numbers q)) (λ (t : SheetData). t.points) sheets i s lt all.each in
    misses (record { each = subst (λ (t : SheetData). All (λ q. FitsRow (numbers q)) t.points) (sym is) part })
