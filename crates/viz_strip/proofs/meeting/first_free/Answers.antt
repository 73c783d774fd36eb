use Rattle.std.proofs.Common.{◌≡◌, ◌∙◌, length, drop, subst, sym, ap, arith}
use Rattle.std.proofs.lemmas.List.{take_at}
use Rattle.viz_strip.specs.Steps.Links.{LeadOn}
use Rattle.viz_strip.proofs.meeting.first_free.Goals as goal

pub returns-clause-ready : goal.returns-clause-ready
returns-clause-ready c =
    let ts = c.args.triangles.now in
    let new = c.met.new.nexts in
    let old = c.args.links.now.nexts in
    let size : length new ≡ old.len = omega (arith, ap length c.deref_mut.ensures.value, old.ok.0, c.met.auto.nexts) in
    let is = take_at new (drop (length new) old.items) old.len size in
    record {
      mark_size = c.requires.ready.mark_size;
      first_size = c.requires.ready.first_size;
      next_size = ap length is ∙ omega (arith, size, old.ok.0, c.requires.ready.next_size);
      back = c.requires.ready.back;
      on = subst (LeadOn ts c.args.marks.now) (sym is) c.met.ensures.nexts;
    }
