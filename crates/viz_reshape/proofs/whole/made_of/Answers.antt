use Rattle.std.proofs.Common.{sym, subst}
use Rattle.viz_fraction.specs.declared.forms.Form.{Form}
use Rattle.viz_meaning.specs.Tetrahedra.{sheets_of}
use Rattle.viz_reshape.specs.declared.reshape.Reshape.{Reshape}
use Rattle.viz_reshape.specs.Reshape.{IsClipOf, IsMadeOf}
use Rattle.viz_reshape.specs.Steps.Work.{Makes}
use Rattle.viz_reshape.proofs.whole.made_of.Goals as goal

pub returns-in-Clip : goal.returns-in-Clip
returns-in-Clip c = record {
  value = subst (λ (s : Reshape). Makes (IsMadeOf s c.args.dataset) c.clip_of.result) (sym c.in-Clip.is)
      (subst (λ (f : Form). Makes (IsClipOf f (sheets_of c.args.dataset)) c.clip_of.result) c.plane_form.ensures.value c.clip_of.ensures.value);
}
