use Rattle.std.proofs.Common.{◌++◌, take}
use Rattle.viz_base.proofs.ReadersLemmas.{Appends-more, Appends-kept, split_more}
use Rattle.viz_base.proofs.dir_port.write_all.Goals as goal
use Rattle.viz_base.proofs.dir_port.write_all.Goals.{in-Ok, in-Err}

pub loop-preserved : goal.loop-preserved
loop-preserved g c =
    let (done, split, appended) = c.loop.invariant in
    let rest = c.loop.rest.now in
    elim c.match-write.branch [
      | in-Ok w ↦
          let n = w.in-Ok.n in
          rw w.rest-is (done ++ take n rest, split_more _ done rest n split, Appends-more _ _ _ done (take n rest) appended w.in-Ok.ensures.bytes)
      | in-Err w ↦ rw w.rest-is (done, split, Appends-kept _ _ _ done appended w.in-Err.ensures.bytes)
    ]
