-- Whether a network refuses Sets, before any is made: a Set changes no kind, so none depends on
-- another.
use Rattle.std.specs.Prelude.{◌≡◌, ℕ, ◌+◌, not, if◌then◌else◌, List, [], ◌∷◌, Result}
use Rattle.std.specs.Prelude.{Ok, Err}
use Rattle.std.specs.Option.{option_map, option_map_or}
use Rattle.viz_kinds.specs.declared.kind.Kind.{Kind}
use Rattle.viz_kinds.specs.declared.param.Param.{Param}
use Rattle.viz_kinds.specs.declared.param.Value.{Value}
use Rattle.viz_kinds.specs.Kinds.{has_param}
use Rattle.viz_kinds.specs.Values.{is_value}
use Rattle.viz_network.specs.declared.edit.Edit.{Edit}
use Rattle.viz_network.specs.declared.edit.Edit.TheVariants.{Set}
use Rattle.viz_network.specs.declared.refusal.Refusal.{Refusal}
use Rattle.viz_network.specs.declared.refusal.Refusal.TheVariants.{Unknown, NoParam, BadValue}
use Rattle.viz_network.specs.Network.{Network, named}
use Rattle.viz_network.specs.Readers.{kind_at}
use Rattle.viz_batches.specs.declared.stop.BatchStop.{BatchStop}
use Rattle.viz_batches.specs.declared.stop.BatchStop.TheVariants.{Refused, Memory}
use Rattle.viz_batches.specs.Batches.{BatchRefusal}

-- why a node of this kind may not have the value
abbrev pub kind_check : Param → Value → Kind → Result (Unit {0}) Refusal
kind_check param value kind = if not (has_param kind param) then Err NoParam
    else (if not (is_value param value) then Err BadValue else Ok tt)

-- why the Set is refused
abbrev pub set_check : Network → List ℕ → Param → Value → Result (Unit {0}) Refusal
set_check net name param value = option_map_or (kind_check param value)
    (option_map kind_at (named net name)) (Err Unknown)

-- why the edit is refused, where it is a Set
abbrev pub check_of : Network → Edit → Result (Unit {0}) Refusal
check_of net (Set name param value) = set_check net name param value
check_of net e = Ok tt

-- what is found behind an edit at this place, or its refusal
abbrev pub then_check : Result (Unit {0}) BatchRefusal → ℕ → Result (Unit {0}) Refusal
    → Result (Unit {0}) BatchRefusal
then_check next index (Ok done) = next
then_check next index (Err r) = Err (index, r)

-- the first of the edits that is refused, the first edit having this place
abbrev pub check_each : ℕ → List Edit → Network → Result (Unit {0}) BatchRefusal
check_each index [] net = Ok tt
check_each index (e ∷ edits) net = then_check (check_each (index + 1) edits net) index
    (check_of net e)

-- the answer is what was found
abbrev pub AnswersCheck : Result (Unit {0}) BatchStop → Result (Unit {0}) BatchRefusal → Type 0
AnswersCheck (Ok done) found = found ≡ Ok tt
AnswersCheck (Err (Refused index r)) found = found ≡ Err (index, r)
AnswersCheck (Err Memory) found = ⊥
