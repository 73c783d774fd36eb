use Rattle.std.proofs.Common.{sym, ap, ◌∙◌}
use Rattle.viz_entries.specs.History.{own_of}
use Rattle.viz_executive_tests.proofs.story.Story.keep.Goals as goal

pub invariant_of-self : goal.invariant_of-self
invariant_of-self c =
    let same = c.keep_in.ensures.same in
    ap (own_of 1) same ∙ (c.self.invariant ∙ sym same)
