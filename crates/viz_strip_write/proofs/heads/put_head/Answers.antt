use Rattle.std.proofs.Common.{◌++◌, ◌∷◌, [], ◌∙◌, ℕ, List, ap, sym, false, append_assoc}
use Rattle.std.specs.Prelude.{codes}
use Rattle.std.specs.Fmt.{decimal}
use Rattle.viz_image_write.specs.ImageText.{form_line}
use Rattle.viz_image_write.specs.Version.{version_line}
use Rattle.viz_image_write.proofs.PassLemmas.{appended}
use Rattle.viz_mesh_write.specs.MeshText.{dataset_line, title_lines}
use Rattle.viz_strip_write.specs.StripText.{head_text}
use Rattle.viz_strip_write.proofs.heads.put_head.Goals as goal

pub returns : goal.returns
unfolding head_text form_line dataset_line title_lines
returns c =
    let old = c.args.text.now.items in
    let front = version_line false ++ codes "vizrun fixed 10^-" in
    let tail = codes "\nASCII\nDATASET POLYDATA\n" in
    appended old c.put_count.new.text.items _ (front ++ decimal 3) tail
    (appended old _ c.put_count.new.text.items front (decimal 3)
    (appended old c.put_version.new.text.items _ (version_line false) (codes "vizrun fixed 10^-") c.in_ok-put_version.ensures.put c.in_ok-extend_from_slice.ensures.items)
    c.in_ok-put_count.ensures) c.in_ok-extend_from_slice-2.ensures.items
    ∙ ap (λ (t : List ℕ). old ++ t)
    (sym (append_assoc ((front ++ decimal 3) ++ 10 ∷ []) (form_line false) (dataset_line false) ∙ append_assoc (front ++ decimal 3) (10 ∷ []) (form_line false ++ dataset_line false)))
