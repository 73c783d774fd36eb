use Rattle.std.proofs.Common.{◌≡◌, List, [], Ok, length, map, sym, ap, subst, ◌∙◌}
use Rattle.std.proofs.lemmas.List.{length-map}
use Rattle.viz_script.specs.Script.{script_of, stepped}
use Rattle.viz_report.specs.declared.line.Row.{Row}
use Rattle.viz_actor.specs.Groups.{chunks_from}
use Rattle.viz_actor.specs.Runs.{ports_of, Runs}
use Rattle.viz_actor.proofs.RunLemmas.{runs_turn}
use Rattle.viz_actor.proofs.ScriptLemmas.{seated_account, is_seated}
use Rattle.viz_actor.proofs.script.serve_seated.Goals as goal

pub close-journal-requires : goal.close-journal-requires
close-journal-requires g c =
    let hub = c.in_ok-hub.hub in
    let ran = c.run_phases-root in
    record {
      belongs = (runs_turn g.P.Port hub.mark (chunks_from 64 1 c.args.steps.now) c.in_ok-hub.root c.reserve_all.new.places c.in_ok-rows.rows.items ran.new.places ran.new.rows.items ran.result ran.ensures.runs).0
          ∙ ap (λ p. p.turn) c.in_ok-hub.ensures.pass;
    }

pub returns-clause-ok : goal.returns-clause-ok
returns-clause-ok g c =
    let m = g.P.Port in
    let hub = c.in_ok-hub.hub in
    let steps = c.args.steps.now in
    let places = c.reserve_all.new.places in
    let ran = c.run_phases-root in
    let chunks = chunks_from 64 1 steps in
    let journal = c.close-journal in
    let ports = c.reserve_all.ensures.ports in
    let len : length c.args.places.now ≡ length places =
    sym (length-map c.args.places.now (λ s. s.port)) ∙ sym (ap length ports) ∙ length-map places (λ s. s.port) in
    let script = subst (λ n. script_of n c.requires.script.0 ≡ Ok (map stepped steps)) len c.requires.script.1 in
    let runs = subst (λ p. Runs m hub.mark chunks p places [] ran.new.places ran.new.rows.items ran.result) c.in_ok-hub.ensures.pass
    (subst (λ (l : List Row). Runs m hub.mark chunks c.in_ok-hub.root places l ran.new.places ran.new.rows.items ran.result) c.in_ok-rows.ensures.items ran.ensures.runs) in
    let all = seated_account m hub.mark hub 64 c.requires.script.0 steps journal.result.entries ran.result places ran.new.places ran.new.rows.items script c.reserve_all.ensures.idle runs
    journal.ensures.legal journal.ensures.within journal.ensures.further journal.ensures.whole in
    is_seated m hub.mark steps ran.new.rows.items journal.result.entries c.take.result.items (length places) (ports_of places) (ports_of c.args.places.now) (ports_of ran.new.places) all.0
    c.in_ok-hub.ensures.limit (sym c.take.ensures.value) ports (length-map places (λ s. s.port)) all.1 all.2
