use Rattle.std.proofs.Common.{◌≡◌, ◌∙◌, ap}
use Rattle.viz_meaning.specs.Section.{section_of}
use Rattle.viz_mesh_parts.proofs.MadeLemmas.{section-count, section-own, section-part-is}
use Rattle.viz_mesh_parts.proofs.sectioning.sectioned_part.Goals as goal

pub returns-then-are_own-clause-value : goal.returns-then-are_own-clause-value
returns-then-are_own-clause-value c =
    let f = c.args.form.now in
    let part = c.args.part.now in
    let is : c.in_ok-made.made ≡ section_of f part.sheet = c.in_ok-made.ensures.value ∙ ap (section_of f) c.sheet.ensures.value in
    section-part-is f part c.own.result c.in_ok-made.made is c.own.ensures.sheet (c.own.ensures.levels ∙ section-own f part c.in_ok-made.made (c.are_own.ensures c.if-are_own.true) is)

pub new-requires : goal.new-requires
new-requires c =
    let f = c.args.form.now in
    let part = c.args.part.now in
    let is : c.in_ok-made.made ≡ section_of f part.sheet = c.in_ok-made.ensures.value ∙ ap (section_of f) c.sheet.ensures.value in
    record { matched = section-count f part c.in_ok-made.made c.in_ok-levels.levels.items c.known.ensures.valid.matched is c.in_ok-levels.ensures }
