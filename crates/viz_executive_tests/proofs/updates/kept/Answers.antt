use Rattle.std.proofs.Common.{sym, subst}
use Rattle.viz_entries.specs.History.{network_of}
use Rattle.viz_kept.specs.True.{AreMadeIn}
use Rattle.viz_executive_tests.proofs.updates.kept.Goals as goal

pub keep-requires : goal.keep-requires
keep-requires c =
    let made = c.in-Ok.made.items in
    let given = c.in-Ok.ensures.made c.args._net.now c.requires.made c.requires.only in
    record {
      made = subst (AreMadeIn (network_of c.args.story.now.history)) (sym c.deref-in-Ok.ensures.value)
          (subst (λ net. AreMadeIn net made) c.requires.network given);
    }
