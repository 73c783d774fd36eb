use Rattle.std.proofs.Common.{◌++◌, ◌∷◌, []}
use Rattle.std.specs.Prelude.{codes}
use Rattle.std.specs.Fmt.{decimal}
use Rattle.viz_image_write.specs.Version.{version_line}
use Rattle.viz_mesh_write.specs.MeshText.{title_lines}
use Rattle.viz_image_write.proofs.PassLemmas.{appended}
use Rattle.viz_mesh_write.proofs.heads.put_title.Goals as goal

pub returns : goal.returns
unfolding title_lines
returns c =
    let old = c.args.text.now.items in
    let version = version_line c.args.later in
    let word = codes "vizrun fixed 10^-" in
    let number = decimal c.args.digits in
    appended old c.put_count.new.text.items _ ((version ++ word) ++ number) (10 ∷ [])
    (appended old _ c.put_count.new.text.items (version ++ word) number
    (appended old c.put_version.new.text.items _ version word c.in_ok-put_version.ensures.put c.in_ok-extend_from_slice.ensures.items)
    c.in_ok-put_count.ensures) c.in_ok-push.ensures.items
