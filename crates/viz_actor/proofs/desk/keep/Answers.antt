use Rattle.std.proofs.Common.{rules, refl, inr}
use Rattle.viz_base.specs.declared.call.WriteAnswer.TheVariants as write
use Rattle.viz_actor.proofs.desk.keep.Goals as goal

pub returns-in-Err-Failed : goal.returns-in-Err-Failed
returns-in-Err-Failed g c =
    let w = rw c.in-Err-Failed.field-0-is at c.in-Err-Failed.ensures in
    inr (
      c.in-Ok-of.text,
      write.Failed,
      search rules,
      search rules,
      record {
        calls = search rules;
        files = λ t. (w.prefix t refl, w.kept t);
        cause = λ f. w.failed refl;
        later = w.later;
        limit = w.same_limit;
      },
    )

pub returns-in-Ok-write : goal.returns-in-Ok-write
returns-in-Ok-write g c =
    let w = c.in-Ok-write.ensures in
    inr (
      c.in-Ok-of.text,
      write.Written,
      search rules,
      search rules,
      record {
        calls = search rules;
        files = λ t. (w.written t, w.kept t);
        cause = λ f. absurd f;
        later = w.later;
        limit = w.same_limit;
      },
    )
