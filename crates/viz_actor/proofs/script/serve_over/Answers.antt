use Rattle.std.proofs.Common.{◌≡◌, length, ◌++◌, map, sym, ap, subst, ◌∙◌, arith}
use Rattle.std.proofs.lemmas.List.{length-map, map-append}
use Rattle.std.proofs.lemmas.Result.{IfOk-weaker}
use Rattle.viz_script.specs.Script.{stepped}
use Rattle.viz_actor.specs.Groups.{actors_over}
use Rattle.viz_actor.specs.Runs.{ports_of, IsSeatedScript}
use Rattle.viz_actor.specs.Served.{IsServedScript}
use Rattle.viz_actor.proofs.ScriptLemmas.{over_ports}
use Rattle.viz_actor.proofs.script.serve_over.Goals as goal

pub returns-clause-ok : goal.returns-clause-ok
returns-clause-ok g c =
    let m = g.P.Port in
    let steps = map stepped c.args.steps.now in
    let all = c.args.places.now in
    let seated = c.split_at_mut-seated.result.0.now in
    let others = c.split_at_mut-seated.result.1.now in
    let new = c.serve_seated.new.places in
    let value : all ≡ seated ++ others = c.split_at_mut-seated.ensures.value in
    let len : length (ports_of seated) ≡ actors_over (ports_of all) =
    omega (arith, length-map seated (λ s. s.port), length-map all (λ s. s.port), c.split_at_mut-seated.ensures.front_len, c.min-actors.ensures) in
    IfOk-weaker c.serve_seated.result (λ r. IsSeatedScript m steps r.rows.items r.history.items (ports_of seated) (ports_of new))
    (λ r. IsServedScript m steps r.rows.items r.history.items (ports_of all) (ports_of (new ++ others)))
    (λ r s. subst (λ l. IsServedScript m steps r.rows.items r.history.items (ports_of all) l) (sym (map-append (λ s. s.port) new others))
    (over_ports m steps r.rows.items r.history.items (ports_of seated) (ports_of others) (ports_of new) (ports_of all) (ap ports_of value ∙ map-append (λ s. s.port) seated others) len s))
    c.serve_seated.ensures.ok
