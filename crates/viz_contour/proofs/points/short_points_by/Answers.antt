use Rattle.std.proofs.Common.{◌≡◌, ℕ, ◌+◌, ◌<◌, List, [], ◌∷◌, ◌++◌, map, take, get_or, length, sym, ap, ◌∙◌, subst, arith}
use Rattle.std.proofs.lemmas.List.{take_all, take_more, map-append}
use Rattle.std.proofs.lemmas.List.Elements.{All-more}
use Rattle.viz_grid_section.specs.ImageSection.{IsNarrowAt}
use Rattle.viz_contour.specs.Steps.Named.{edge_named, named_point, AreNarrowNames}
use Rattle.viz_contour.proofs.points.short_points_by.Goals as goal

one_more : {X Y : Type 0} (f : X → Y) (xs : List X) (i : ℕ) (d : X) → i < length xs → (ys new : List Y) (y : Y) → ys ≡ map f (take i xs) → new ≡ ys ++ y ∷ [] → y ≡ f (get_or xs i d)
    → new ≡ map f (take (i + 1) xs)
one_more {X} f xs i d l ys new y so_far pushed is =
    pushed ∙ ap (λ t. t ++ y ∷ []) so_far ∙ ap (λ z. map f (take i xs) ++ z ∷ []) is
    ∙ sym (ap (map f) (take_more xs i d l) ∙ map-append f (take i xs) (get_or xs i d ∷ []))

pub loop-name-preserved : goal.loop-name-preserved
loop-name-preserved c =
    let names = c.args.names.now in
    let i = c.loop-name.name-index in
    let within : i < length names = omega arith in
    let here = c.in-Some-short_point_of_name.ensures in
    let made = one_more (named_point c.args.level.now c.args.image.now) names i [] within c.loop-name.points.items c.push.new.self.items _
    c.loop-name.invariant.made c.in_ok-push-in-Some-short_point_of_name.ensures.items here.value in
    record {
      low = here.low;
      made = made;
      narrow = record { each = All-more (λ n. IsNarrowAt c.args.level.now c.args.image.now (edge_named n)) names i [] within c.loop-name.invariant.narrow.each here.narrow };
    }

pub returns-clause-narrow : goal.returns-clause-narrow
returns-clause-narrow c =
    let P : List (List ℕ) → Type 0 = λ ns. AreNarrowNames c.args.level.now c.args.image.now ns in
    subst P (take_all c.loop-name.name-index c.args.names.now (omega arith)) c.loop-name.invariant.narrow
