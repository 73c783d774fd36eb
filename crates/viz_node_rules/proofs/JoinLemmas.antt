-- The meshes at the ports, one port more at a time.
use Rattle.std.proofs.Common.{◌≡◌, ℕ, ◌+◌, ◌<◌, List, [], ◌∷◌, ◌++◌, length, map, get_or, take, Option, None, Some, IfSome, refl, sym, ap, ◌∙◌}
use Rattle.std.specs.List.{All}
use Rattle.std.proofs.lemmas.List.{map-append, take_more}
use Rattle.std.proofs.lemmas.List.Elements.{All-nil, All-append}
use Rattle.viz_dataset.specs.declared.dataset.Dataset.{Dataset}
use Rattle.viz_dataset.specs.declared.dataset.Dataset.TheVariants.{Image, Mesh}
use Rattle.viz_legacy_read.specs.Reading.{IsSound}
use Rattle.viz_mesh_meaning.specs.Append.{appended}
use Rattle.viz_node_meaning.specs.Data.{meshes_in}
use Rattle.viz_node_rules.specs.Places.{Table, value_at, AreSoundIn}
use Rattle.viz_node_meaning.specs.Rules.{Inputs}
use Rattle.viz_node_rules.proofs.PlaceLemmas.{sound_at}
use Rattle.viz_sheet.specs.Sheet.{SheetData, IsFit}

-- a function after another, item by item
pub map-twice : {A B C : Type 0} (f : A → B) (g : B → C) (xs : List A) → map (λ x. g (f x)) xs ≡ map g (map f xs)
map-twice f g [] = refl
map-twice f g (x ∷ xs) = ap (λ ys. g (f x) ∷ ys) (map-twice f g xs)

-- the meshes of ports and of more ports
pub meshes-append : (xs ys : Inputs Dataset) → meshes_in (xs ++ ys) ≡ meshes_in xs ++ meshes_in ys
meshes-append [] ys = refl
meshes-append (None ∷ xs) ys = meshes-append xs ys
meshes-append (Some (Image i) ∷ xs) ys = meshes-append xs ys
meshes-append (Some (Mesh sheets) ∷ xs) ys = ap (λ t. sheets ∷ t) (meshes-append xs ys)

-- the meshes of one port more
pub meshes-more : (table : Table Dataset) (places : List (Option ℕ)) (i : ℕ) (d : Option ℕ) (old new : List (List SheetData)) (o : Option Dataset) → i < length places
    → o ≡ value_at table (get_or places i d) → old ≡ meshes_in (map (value_at table) (take i places)) → new ≡ old ++ meshes_in (o ∷ [])
    → new ≡ meshes_in (map (value_at table) (take (i + 1) places))
meshes-more table places i d old new o l fed is more =
    let at = value_at table in
    let p = get_or places i d in
    more ∙ ap (λ t. t ++ meshes_in (o ∷ [])) is ∙ ap (λ q. meshes_in (map at (take i places)) ++ meshes_in (q ∷ [])) fed
    ∙ sym (meshes-append (map at (take i places)) (at p ∷ [])) ∙ ap meshes_in (sym (map-append at (take i places) (p ∷ []))) ∙ ap (λ t. meshes_in (map at t)) (sym (take_more places i d l))

-- sheets that fit, and those of one port more
one-fits : (o : Option Dataset) (more : Inputs Dataset) → IfSome o IsSound → All IsFit (appended (meshes_in more)) → All IsFit (appended (meshes_in (o ∷ more)))
one-fits None more h rest = rest
one-fits (Some (Image i)) more h rest = rest
one-fits (Some (Mesh sheets)) more h rest = All-append IsFit sheets (appended (meshes_in more)) h.1 rest

-- the sheets at ports whose datasets are sound fit
pub meshes-fit : (table : Table Dataset) (places : List (Option ℕ)) → AreSoundIn IsSound table → All IsFit (appended (meshes_in (map (value_at table) places)))
meshes-fit table [] h = All-nil IsFit
meshes-fit table (place ∷ places) h = one-fits (value_at table place) (map (value_at table) places) (sound_at IsSound table place h) (meshes-fit table places h)
