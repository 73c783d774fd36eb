use Rattle.std.proofs.Common.{◌≡◌, rules}
use Rattle.viz_network.specs.Cone.{cone_of}
use Rattle.viz_scratch.specs.Written.{style_of, style_seen}
use Rattle.viz_account.proofs.MadeLemmas.{text_stopped, text_written}
use Rattle.viz_account.proofs.made.file_by.Goals as goal

pub returns-in-Err : goal.returns-in-Err
returns-in-Err g c =
    let style = c.style_with-style.result in
    let is : style_seen style ≡ style_of (cone_of c.args.net.now c.args.node.0) = search rules in
    text_stopped c.args.net.now c.args.node.0 c.args.dataset.now
    (style_seen style) c.in-Err.stop c.requires.given
    is c.in-Err.ensures.value

pub returns-in-Some-Some : goal.returns-in-Some-Some
returns-in-Some-Some g c =
    let style = c.style_with-style.result in
    let is : style_seen style ≡ style_of (cone_of c.args.net.now c.args.node.0) = search rules in
    record {
      file = text_written c.args.net.now c.args.node.0 c.args.dataset.now (style_seen style)
          c.in-Ok.text c.requires.given is c.in-Ok.ensures.value;
      counts = search rules;
    }
