use Rattle.std.proofs.Common.{◌≡◌, ℕ, List, length, subst}
use Rattle.std.specs.List.{All}
use Rattle.viz_node_rules.proofs.section.section_fits.Goals as goal

pub returns : goal.returns
returns c f =
    let s = c.args.sheet.now in
    let sized : All (λ (n : List ℕ). length n ≡ c.size-size.result) s.names = subst (λ (l : List (List ℕ)). All (λ (n : List ℕ). length n ≡ c.size-size.result) l) c.leaves.ensures.value c.size-size.ensures.each in
    c.sections_are_sheets.ensures.fits f s c.size-size.result c.known.ensures.valid (record { sized = sized; ascending = c.known.ensures.valid.ascending }) c.requires
