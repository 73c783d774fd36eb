use Rattle.std.proofs.Common.{Some, Ok, Err, refl, sym, ap, subst, ◌∙◌}
use Rattle.viz_legacy_read.specs.Reading.{IsInfo, StopsInHeader}
use Rattle.viz_network.specs.declared.fault.Cause.TheVariants.{BadFile}
use Rattle.viz_node_meaning.specs.Information.{IsHeaderOf, information_in}
use Rattle.viz_node_meaning.proofs.RuleLemmas.{header_given}
use Rattle.viz_node_rules.proofs.files.file_information.Goals as goal

pub returns-in-Ok : goal.returns-in-Ok
returns-in-Ok c =
    let bytes = c.list.ensures.value ∙ c.get.ensures.value in
    let found = subst (λ b. IsInfo b c.in-Ok.info) bytes c.in-Ok.ensures.found in
    subst (IsHeaderOf c.args.node.now.file) (sym (ap (λ i. Ok i) c.of_header.ensures))
    (subst (λ f. IsHeaderOf f (Ok (information_in c.in-Ok.info))) (sym c.in-Some.is) (header_given c.in-Some.file c.in-Ok.info found))

pub returns-in-Err : goal.returns-in-Err
returns-in-Err c =
    let bytes = c.list.ensures.value ∙ c.get.ensures.value in
    let stops = subst (λ b. StopsInHeader b c.in-Err.fault) bytes c.in-Err.ensures.fault in
    subst (λ f. IsHeaderOf f (Err (BadFile c.in-Err.fault))) (sym c.in-Some.is) (c.in-Err.fault, stops, refl)
