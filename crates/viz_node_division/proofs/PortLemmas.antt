-- What a node gives with its division, by what feeds its ports.
use Rattle.std.proofs.Common.{◌≡◌, [], ◌∷◌, None, Some, Result, Ok, Err, refl, sym, subst, ◌∙◌}
use Rattle.viz_dataset.specs.declared.dataset.Dataset.{Dataset}
use Rattle.viz_network.specs.declared.node.Node.{Node}
use Rattle.viz_network.specs.declared.fault.Cause.{Cause}
use Rattle.viz_network.specs.declared.fault.Fault.{Fault}
use Rattle.viz_network.specs.Cone.{Cone, none, empty, fed}
use Rattle.viz_node_meaning.specs.Fold.{AreGiven, IsMade, at_node, filled, joined}
use Rattle.viz_node_meaning.specs.Rules.{Inputs}
use Rattle.viz_parts.specs.Pieces.{Division}
use Rattle.viz_node_division.specs.Divided.{Divided, DividedRule, IsMadeOf}
use Rattle.viz_node_division.specs.Laws.{AreDivided, DividedByPorts, IsMadeAtFoot}
use Rattle.viz_node_division.proofs.DividedLemmas.{shared_as}

-- ---- what feeds the ports

none_divided : (others : Cone) (rest : Result (Inputs Divided) Fault) (inputs : Inputs Divided)
    → ((xs : Inputs Divided) → rest ≡ Ok xs → AreDivided others xs)
    → Ok inputs ≡ joined (Ok None) rest → AreDivided (empty others) inputs
none_divided others (Ok xs) inputs h e =
    let same : None ∷ xs ≡ inputs = cc in
    subst (AreDivided (empty others)) same (h xs refl)
none_divided others (Err fault) inputs h e = let bad : ⊥ = cc in absurd bad

fed_divided : (n : Node) (own others : Cone) (ports rest : Result (Inputs Divided) Fault)
    (value : Result Divided Fault) (inputs : Inputs Divided)
    → AreGiven DividedRule own ports
    → IsMade DividedRule n ports value
    → ((xs : Inputs Divided) → rest ≡ Ok xs → AreDivided others xs)
    → Ok inputs ≡ joined (filled value) rest → AreDivided (fed n own others) inputs
fed_divided n own others ports (Ok xs) (Ok d) inputs g m h e =
    let same : Some d ∷ xs ≡ inputs = cc in
    subst (AreDivided (fed n own others)) same (record { given = (ports, g, m) }, h xs refl)
fed_divided n own others ports (Err fault) (Ok d) inputs g m h e = let bad : ⊥ = cc in absurd bad
fed_divided n own others ports rest (Err fault) inputs g m h e = let bad : ⊥ = cc in absurd bad

to_ports : (cone : Cone) (all : Result (Inputs Divided) Fault) (inputs : Inputs Divided)
    → all ≡ Ok inputs → AreGiven DividedRule cone all → AreDivided cone inputs
to_ports none all inputs e g =
    let some : Ok [] ≡ Ok inputs = sym g ∙ e in
    let same : [] ≡ inputs = cc in
    subst (AreDivided none) same tt
to_ports (empty others) all inputs e g =
    none_divided others g.0 inputs (λ xs is. to_ports others g.0 xs is g.1) (sym e
    ∙ g.2)
to_ports (fed n own others) all inputs e g =
    fed_divided n own others g.0 g.2 g.1 inputs g.3 g.4 (λ xs is. to_ports others g.2 xs is g.5)
    (sym e
    ∙ g.6)

from_ports : (cone : Cone) (inputs : Inputs Divided) → AreDivided cone inputs
    → AreGiven DividedRule cone (Ok inputs)
from_ports none [] h = refl
from_ports (empty others) (None ∷ inputs) h = (Ok inputs, from_ports others inputs h, refl)
from_ports (fed n own others) (Some d ∷ inputs) h =
    let given = h.0.given in
    (given.0, Ok d, Ok inputs, given.1, given.2, from_ports others inputs h.1, refl)
from_ports none (None ∷ inputs) h = absurd h
from_ports none (Some d ∷ inputs) h = absurd h
from_ports (empty others) [] h = absurd h
from_ports (empty others) (Some d ∷ inputs) h = absurd h
from_ports (fed n own others) [] h = absurd h
from_ports (fed n own others) (None ∷ inputs) h = absurd h

-- ---- the node

own_made : (n : Node) (inputs : Inputs Divided) (d : Divided) (own : Result Divided Cause)
    → DividedRule n inputs own → Ok d ≡ at_node n own → IsMadeOf n.settings n.file inputs d
own_made n inputs d (Ok made) m e =
    let same : made ≡ d = cc in
    subst (IsMadeOf n.settings n.file inputs) same m
own_made n inputs d (Err cause) m e = let bad : ⊥ = cc in absurd bad

at_foot : (n : Node) (cone : Cone) (whole : Dataset) (division : Division)
    (all : Result (Inputs Divided) Fault)
    → AreGiven DividedRule cone all
    → IsMade DividedRule n all (Ok (shared_as whole division)) → IsMadeAtFoot n cone whole division
at_foot n ports whole division (Ok inputs) g m = record {
  inputs = inputs;
  fed = to_ports ports (Ok inputs) inputs refl g;
  made = own_made n inputs (shared_as whole division) m.0 m.1 m.2;
}
at_foot n ports whole division (Err fault) g m = let bad : ⊥ = cc in absurd bad

pub by_ports : DividedByPorts
by_ports n cone whole division = (
  λ d. at_foot n cone whole division d.given.0 d.given.1 d.given.2,
  λ f. record {
    given = (
      Ok f.inputs,
      from_ports cone f.inputs f.fed,
      (Ok (shared_as whole division), f.made, refl),
    );
  },
)
