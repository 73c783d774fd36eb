use Rattle.std.proofs.Common.{◌++◌}
use Rattle.std.specs.Prelude.{codes}
use Rattle.std.specs.Fmt.{decimal}
use Rattle.viz_mesh_write.specs.MeshText.{scalars_head}
use Rattle.viz_image_write.proofs.PassLemmas.{appended}
use Rattle.viz_strip_write.proofs.heads.put_scalars_head.Goals as goal

pub returns : goal.returns
unfolding scalars_head
returns c =
    let word = codes "POINT_DATA " in
    let tail = codes "\nSCALARS scalars long 1\nLOOKUP_TABLE default\n" in
    appended c.args.text.now.items c.put_count.new.text.items _ (word ++ decimal c.args.n) tail (appended c.args.text.now.items _ c.put_count.new.text.items word (decimal c.args.n) c.in_ok-extend_from_slice.ensures.items c.in_ok-put_count.ensures) c.in_ok-extend_from_slice-2.ensures.items
