use Rattle.viz_make.specs.Views.{make_of}
use Rattle.viz_make.proofs.GivenLemmas.{contour_is}
use Rattle.viz_make.proofs.contour.contour_given.Goals as goal

pub returns-in-Ok : goal.returns-in-Ok
returns-in-Ok g c =
    contour_is c.nothing_else_is_read.ensures.only (make_of c.args._command.now) c.in_ok-net.net c.args.text c.in-Ok.produced.dataset
    c.requires.writable c.in_ok-net.ensures c.requires.text c.in-Ok.ensures.dataset
