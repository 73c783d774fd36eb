-- Sections of sheets by forms, one form more at a time.
use Rattle.std.proofs.Common.{◌≡◌, ℕ, zero, suc, ◌+◌, ◌<◌, List, [], ◌∷◌, ◌++◌, length, map, take, get_or, Result, Ok, Err, IfOk, refl, sym, ap, subst, ◌∙◌}
use Rattle.std.specs.List.{All, flat_map}
use Rattle.std.proofs.lemmas.List.{flat_map_more, take_more}
use Rattle.std.proofs.lemmas.List.Elements.{All-nil, All-cons, All-append, All-map, All-push}
use Rattle.viz_fraction.specs.declared.forms.Form.{Form}
use Rattle.viz_sheet.specs.Sheet.{SheetData, IsFit}
use Rattle.viz_meaning.specs.Section.{section_of, sections_of}
use Rattle.viz_node_rules.specs.Steps.Made.{HasFitSections}

-- the sections of sheets by forms fit
pub sections_fit : (forms : List Form) (sheets : List SheetData) → All HasFitSections sheets → All IsFit (sections_of forms sheets)
sections_fit [] sheets h = All-nil IsFit
sections_fit (f ∷ forms) sheets h = All-append IsFit (map (section_of f) sheets) (sections_of forms sheets) (All-map IsFit (section_of f) sheets (each sheets h)) (sections_fit forms sheets h)
  where
    each : (all : List SheetData) → All HasFitSections all → All (λ s. IsFit (section_of f s)) all
    each all k i d l = k i d l f

-- the sections by one more form
pub sections_more : (forms : List Form) (sheet : SheetData) (old new : List SheetData) (i : ℕ) (d : Form) → i < length forms → old ≡ sections_of (take i forms) (sheet ∷ [])
    → new ≡ old ++ section_of (get_or forms i d) sheet ∷ [] → new ≡ sections_of (take (i + 1) forms) (sheet ∷ [])
sections_more forms sheet old new i d l is more =
    let by = λ (f : Form). section_of f sheet ∷ [] in
    more ∙ ap (λ t. t ++ by (get_or forms i d)) is
    ∙ flat_map_more by [] (take i forms) (get_or forms i d) ∙ ap (flat_map by) (sym (take_more forms i d l))

-- the item of a list, made by a function
pub get_or_map : {A B : Type 0} (f : A → B) (xs : List A) (i : ℕ) (d : A) → get_or (map f xs) i (f d) ≡ f (get_or xs i d)
get_or_map f [] i d = refl
get_or_map f (x ∷ xs) zero d = refl
get_or_map f (x ∷ xs) (suc i) d = get_or_map f xs i d

-- the sections that were made fit
pub made_fit : {E : Type 0} (r : Result (List SheetData) E) (forms : List Form) (sheets : List SheetData) → IfOk r (λ m. m ≡ sections_of forms sheets) → All HasFitSections sheets → IfOk r (All IsFit)
made_fit (Ok m) forms sheets is h = subst (All IsFit) (sym is) (sections_fit forms sheets h)
made_fit (Err e) forms sheets is h = tt

-- one section more fits
pub push_fit : (sheets : List SheetData) (s : SheetData) (f : Form) (t : SheetData) → All IsFit sheets → s ≡ section_of f t → HasFitSections t → All IsFit (sheets ++ s ∷ [])
push_fit sheets s f t all is h = All-push IsFit sheets s all (subst IsFit (sym is) (h f))
