use Rattle.std.proofs.Common.{[], append-nil, subst}
use Rattle.viz_entries.specs.History.{edits_of}
use Rattle.viz_kept.specs.True.{AreTrueOf}
use Rattle.viz_executive_tests.proofs.story.keep_in.Goals as goal

pub publish-requires : goal.publish-requires
publish-requires c =
    let edits = edits_of c.args.core.now.history in
    record {
      made = subst (λ all. AreTrueOf all c.args.made.now) (append-nil edits)
          (c.made_is_true.ensures.law edits [] c.args.made.now c.requires.made);
    }
