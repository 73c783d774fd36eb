-- The reader of polydata decides its rule.
use Rattle.std.proofs.Common.{◌≡◌, ℕ, zero, suc, Bool, true, false, List, [], Result, Ok, Err, refl, ap, ◌∙◌}
use Rattle.std.specs.Prelude.{if◌then◌else◌}
use Rattle.viz_lex.specs.declared.fault.FileFault.{FileFault}
use Rattle.viz_lex.specs.Reading.{Reading, ◌>>=◌}
use Rattle.viz_lex.specs.Steps.{due_word}
use Rattle.viz_lex.specs.Rules.{gives, Decides}
use Rattle.viz_lex.specs.Items.{word}
use Rattle.viz_lex.proofs.RuleLemmas.{decides-gives, decides-follow, decides-beside}
use Rattle.viz_lex.proofs.ItemLemmas.{decides-word}
use Rattle.viz_lex.proofs.PassRules.{decides-same}
use Rattle.viz_mesh_read.specs.declared.coordinates.FilePoints.{FilePoints}
use Rattle.viz_mesh_read.specs.declared.poly.SectionKind.{SectionKind}
use Rattle.viz_mesh_read.specs.declared.poly.SectionKind.TheVariants.{Vertices, Lines, Polygons, Strips}
use Rattle.viz_mesh_read.specs.declared.poly.Seen.{Seen}
use Rattle.viz_mesh_read.specs.Points.{points}
use Rattle.viz_mesh_read.specs.CellSections.{cell_section, numbers_of_section}
use Rattle.viz_mesh_read.specs.Grid.{fields}
use Rattle.viz_mesh_read.specs.Poly.{ByKind, for_each, with_kind, kind_named, none_seen, seen_with, is_due, sections, Poly, polydata, numbers_by_kind, polydata_numbers}
use Rattle.viz_mesh_read.specs.Steps.{points_at, cell_section_at}
use Rattle.viz_mesh_read.specs.GridSteps.{fields_at}
use Rattle.viz_mesh_read.specs.PolySteps.{kind_at, sections_at, polydata_at}
use Rattle.viz_mesh_read.proofs.PointLaws.{decides-points}
use Rattle.viz_counted_cells.proofs.SectionLaws.{as_numbers, in_front}
use Rattle.viz_mesh_read.proofs.SectionLaws.{cell_list_at, decides-cell_section, cell_section-list}
use Rattle.viz_mesh_read.proofs.GridLaws.{decides-fields}
use Rattle.viz_mesh_read.proofs.PolyLoops.{Sectioned}

-- ---- the readers that give lists of indices

abbrev Listed : Type 0
Listed = Result (ByKind (List (List ℕ)) × Reading) FileFault

-- at most so many sections, with the indices of their cells
abbrev sections_list_at : Bool → Bool → ℕ → ℕ → Seen → ByKind (List (List ℕ)) → Reading → Listed
sections_list_at binary later points zero seen all r = Ok (all, r)
sections_list_at binary later points (suc n) seen all r =
    fields_at binary r >>= λ passed. if is_due seen passed.1 then (due_word passed.1 >>= λ key. cell_list_at later binary points key.1 >>= λ cells.
    sections_list_at binary later points n (seen_with seen (kind_named key.0.1)) (with_kind all (kind_named key.0.1) cells.0) cells.1) else Ok (all, passed.1)

decides-sections : (binary later : Bool) (points n : ℕ) (seen : Seen) (all : ByKind (List (List ℕ))) → Decides (sections binary later points n seen all) (sections_list_at binary later points n seen all)
decides-sections binary later points zero seen all = decides-gives all
decides-sections binary later points (suc n) seen all =
    decides-follow (fields binary) _ (fields_at binary) _ (decides-fields binary) (λ passed.
    decides-beside (is_due seen) _ (gives all) _ (λ r. Ok (all, r)) (
    decides-follow word _ due_word _ decides-word (λ key.
    decides-follow (cell_section later binary points) _ (cell_list_at later binary points) _ (decides-cell_section later binary points) (λ cells.
    decides-sections binary later points n (seen_with seen (kind_named key.1)) (with_kind all (kind_named key.1) cells))))
    (decides-gives all))

-- ---- from lists of indices to numbers

-- all sections by their numbers
abbrev as_kinds : ByKind (List (List ℕ)) × Reading → Sectioned
as_kinds x = Ok (numbers_by_kind x.0, x.1)

numbers_with : (all : ByKind (List (List ℕ))) (kind : SectionKind) (cells : List (List ℕ)) → with_kind (numbers_by_kind all) kind (numbers_of_section cells) ≡ numbers_by_kind (with_kind all kind cells)
numbers_with all Vertices cells = refl
numbers_with all Lines cells = refl
numbers_with all Polygons cells = refl
numbers_with all Strips cells = refl

-- what stands behind a section
abbrev behind_kind : Bool → Bool → ℕ → ℕ → Seen → ByKind (ℕ × List ℕ) → (SectionKind × (ℕ × List ℕ)) × Reading → Sectioned
behind_kind binary later points n seen all x = sections_at binary later points n (seen_with seen x.0.0) (with_kind all x.0.0 x.0.1) x.1

abbrev behind_list : Bool → Bool → ℕ → ℕ → Seen → ByKind (List (List ℕ)) → SectionKind → List (List ℕ) × Reading → Listed
behind_list binary later points n seen all kind cells = sections_list_at binary later points n (seen_with seen kind) (with_kind all kind cells.0) cells.1

-- a section with its kind
abbrev of_kind : SectionKind → (ℕ × List ℕ) × Reading → Result ((SectionKind × (ℕ × List ℕ)) × Reading) FileFault
of_kind kind c = Ok ((kind, c.0), c.1)

cells_kind : (binary later : Bool) (points n : ℕ) (seen : Seen) (all : ByKind (List (List ℕ))) (kind : SectionKind) (read : Result (List (List ℕ) × Reading) FileFault)
    → ((seen : Seen) (all : ByKind (List (List ℕ))) (r : Reading) → sections_at binary later points n seen (numbers_by_kind all) r ≡ (sections_list_at binary later points n seen all r >>= as_kinds))
    → (((read >>= as_numbers) >>= of_kind kind) >>= behind_kind binary later points n seen (numbers_by_kind all)) ≡ ((read >>= behind_list binary later points n seen all kind) >>= as_kinds)
cells_kind binary later points n seen all kind (Ok cells) ih = rw (numbers_with all kind cells.0) (ih (seen_with seen kind) (with_kind all kind cells.0) cells.1)
cells_kind binary later points n seen all kind (Err f) ih = refl

section_kind : (binary later : Bool) (points n : ℕ) (seen : Seen) (all : ByKind (List (List ℕ))) (kind : SectionKind) (r : Reading)
    → ((seen : Seen) (all : ByKind (List (List ℕ))) (r : Reading) → sections_at binary later points n seen (numbers_by_kind all) r ≡ (sections_list_at binary later points n seen all r >>= as_kinds))
    → ((cell_section_at later binary points r >>= of_kind kind) >>= behind_kind binary later points n seen (numbers_by_kind all)) ≡ ((cell_list_at later binary points r >>= behind_list binary later points n seen all kind) >>= as_kinds)
section_kind binary later points n seen all kind r ih =
    ap (λ (o : Result ((ℕ × List ℕ) × Reading) FileFault). (o >>= of_kind kind) >>= behind_kind binary later points n seen (numbers_by_kind all)) (cell_section-list later binary points r)
    ∙ cells_kind binary later points n seen all kind (cell_list_at later binary points r) ih

keyed_kind : (binary later : Bool) (points n : ℕ) (seen : Seen) (all : ByKind (List (List ℕ))) (read : Result ((ℕ × List ℕ) × Reading) FileFault)
    → ((seen : Seen) (all : ByKind (List (List ℕ))) (r : Reading) → sections_at binary later points n seen (numbers_by_kind all) r ≡ (sections_list_at binary later points n seen all r >>= as_kinds))
    → ((read >>= λ key. cell_section_at later binary points key.1 >>= of_kind (kind_named key.0.1)) >>= behind_kind binary later points n seen (numbers_by_kind all))
    ≡ ((read >>= λ key. cell_list_at later binary points key.1 >>= behind_list binary later points n seen all (kind_named key.0.1)) >>= as_kinds)
keyed_kind binary later points n seen all (Ok key) ih = section_kind binary later points n seen all (kind_named key.0.1) key.1 ih
keyed_kind binary later points n seen all (Err f) ih = refl

due_kind : (due : Bool) (a : Sectioned) (b : Listed) (all : ByKind (List (List ℕ))) (r : Reading) → a ≡ (b >>= as_kinds) → (if due then a else Ok (numbers_by_kind all, r)) ≡ ((if due then b else Ok (all, r)) >>= as_kinds)
due_kind true a b all r e = e
due_kind false a b all r e = refl

passed_kind : (binary later : Bool) (points n : ℕ) (seen : Seen) (all : ByKind (List (List ℕ))) (r : Reading)
    → ((seen : Seen) (all : ByKind (List (List ℕ))) (r : Reading) → sections_at binary later points n seen (numbers_by_kind all) r ≡ (sections_list_at binary later points n seen all r >>= as_kinds))
    → (kind_at binary later points r >>= behind_kind binary later points n seen (numbers_by_kind all))
    ≡ ((due_word r >>= λ key. cell_list_at later binary points key.1 >>= behind_list binary later points n seen all (kind_named key.0.1)) >>= as_kinds)
unfolding kind_at
passed_kind binary later points n seen all r ih = keyed_kind binary later points n seen all (due_word r) ih

sections_at-list : (binary later : Bool) (points n : ℕ) (seen : Seen) (all : ByKind (List (List ℕ))) (r : Reading) → sections_at binary later points n seen (numbers_by_kind all) r ≡ (sections_list_at binary later points n seen all r >>= as_kinds)
unfolding sections_at
sections_at-list binary later points zero seen all r = refl
sections_at-list binary later points (suc n) seen all r =
    in_front (fields_at binary r) _ as_kinds _ (λ passed. due_kind (is_due seen passed.1) _ _ all passed.1 (passed_kind binary later points n seen all passed.1 (sections_at-list binary later points n)))

-- ---- polydata

abbrev pub polydata_list_at : Bool → Bool → Reading → Result (Poly × Reading) FileFault
polydata_list_at binary later r =
    fields_at binary r >>= λ before. points_at binary before.1 >>= λ p. sections_list_at binary later p.0.count 4 none_seen (for_each []) p.1 >>= λ cells. Ok (record { points = p.0; cells = cells.0 }, cells.1)

pub decides-polydata : (binary later : Bool) → Decides (polydata binary later) (polydata_list_at binary later)
decides-polydata binary later =
    decides-follow (fields binary) _ (fields_at binary) _ (decides-fields binary) (λ before.
    decides-follow (points binary) _ (points_at binary) _ (decides-points binary) (λ p.
    decides-follow (sections binary later p.count 4 none_seen (for_each [])) _ (sections_list_at binary later p.count 4 none_seen (for_each [])) _ (decides-sections binary later p.count 4 none_seen (for_each [])) (λ cells. decides-gives _)))

-- polydata by the numbers of its cells
abbrev as_polydata : Poly × Reading → Result ((FilePoints × ByKind (ℕ × List ℕ)) × Reading) FileFault
as_polydata p = Ok ((p.0.points, numbers_by_kind p.0.cells), p.1)

-- behind all sections
abbrev with_points : FilePoints → ByKind (ℕ × List ℕ) × Reading → Result ((FilePoints × ByKind (ℕ × List ℕ)) × Reading) FileFault
with_points p cells = Ok ((p, cells.0), cells.1)

abbrev with_points_list : FilePoints → ByKind (List (List ℕ)) × Reading → Result (Poly × Reading) FileFault
with_points_list p cells = Ok (record { points = p; cells = cells.0 }, cells.1)

all_kinds : (p : FilePoints) (read : Listed) → ((read >>= as_kinds) >>= with_points p) ≡ ((read >>= with_points_list p) >>= as_polydata)
all_kinds p (Ok cells) = refl
all_kinds p (Err f) = refl

points_kinds : (binary later : Bool) (p : FilePoints) (r : Reading)
    → (sections_at binary later p.count 4 none_seen (for_each (0, [])) r >>= with_points p) ≡ ((sections_list_at binary later p.count 4 none_seen (for_each []) r >>= with_points_list p) >>= as_polydata)
points_kinds binary later p r =
    ap (λ (o : Sectioned). o >>= with_points p) (sections_at-list binary later p.count 4 none_seen (for_each []) r) ∙ all_kinds p (sections_list_at binary later p.count 4 none_seen (for_each []) r)

polydata_at-list : (binary later : Bool) (r : Reading) → polydata_at binary later r ≡ (polydata_list_at binary later r >>= as_polydata)
unfolding polydata_at
polydata_at-list binary later r =
    in_front (fields_at binary r) _ as_polydata _ (λ before.
    in_front (points_at binary before.1) _ as_polydata _ (λ p. points_kinds binary later p.0 p.1))

pub decides-polydata_numbers : (binary later : Bool) → Decides (polydata_numbers binary later) (polydata_at binary later)
decides-polydata_numbers binary later =
    decides-same (polydata_numbers binary later) (λ r. polydata_list_at binary later r >>= as_polydata) (polydata_at binary later) (polydata_at-list binary later)
    (decides-follow (polydata binary later) _ (polydata_list_at binary later) _ (decides-polydata binary later) (λ p. decides-gives (p.points, numbers_by_kind p.cells)))
