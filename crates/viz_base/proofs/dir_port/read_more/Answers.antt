use Rattle.std.proofs.Common.{◌≡◌, ◌+◌, true, take, drop, ap, ◌∙◌, List, ℕ, arith, rules, length-take-le}
use Rattle.std.specs.Result.{is_ok}
use Rattle.std.proofs.lemmas.List.{with_items_is, length-drop}
use Rattle.viz_base.proofs.ReadersLemmas.{read_appends}
use Rattle.viz_base.proofs.dir_port.read_more.Goals as goal

pub returns-clause-gains : goal.returns-clause-gains
returns-clause-gains g c =
    let read = c.in_ok-n.ensures in
    let start = c.len-start.result in
    let new = c.read_at.new.bytes in
    let made : is_ok c.resize.result ≡ true = search rules in
    let cut = c.truncate.ensures.items ∙ ap (λ (l : List ℕ). take (start + c.in_ok-n.n) l) (with_items_is c.resize.new.self new (search rules)) in
    record {
      got = take c.in_ok-n.n (drop start new);
      count = length-take-le c.in_ok-n.n (drop start new) (omega (arith, length-drop start new, read.within));
      appended = cut ∙ read_appends c.args.bytes.now.items c.resize.new.self.items new start c.in-Some.end c.in_ok-n.n (search rules) (search rules) (search rules) (search rules);
      taken = read.taken;
      end = read.end;
    }
