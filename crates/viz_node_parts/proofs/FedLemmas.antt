-- The parts at the ports that are fed, one port more at a time.
use Rattle.std.proofs.Common.{
  ◌≡◌,
  ℕ,
  ◌+◌,
  ◌<◌,
  List,
  [],
  ◌∷◌,
  ◌++◌,
  length,
  get_or,
  take,
  Option,
  None,
  Some,
  refl,
  sym,
  ap,
  ◌∙◌,
}
use Rattle.std.proofs.lemmas.List.{take_more}
use Rattle.viz_node_meaning.specs.Rules.{Inputs}
use Rattle.viz_node_parts.specs.Taken.{parts_fed}
use Rattle.viz_parts.specs.declared.request.Part.{Part}

-- the parts of ports and of more ports
pub fed_append : (xs ys : Inputs Part) → parts_fed (xs ++ ys) ≡ parts_fed xs ++ parts_fed ys
fed_append [] ys = refl
fed_append (None ∷ xs) ys = fed_append xs ys
fed_append (Some part ∷ xs) ys = ap (λ t. part ∷ t) (fed_append xs ys)

-- the parts of one port more
pub fed_more : (inputs : Inputs Part) (i : ℕ) (x : Option Part) (old new : List Part)
    → i < length inputs → x ≡ get_or inputs i x → old ≡ parts_fed (take i inputs)
    → new ≡ old ++ parts_fed (x ∷ []) → new ≡ parts_fed (take (i + 1) inputs)
fed_more inputs i x old new l e is more =
    let y = get_or inputs i x in
    more ∙ ap (λ t. t ++ parts_fed (x ∷ [])) is
    ∙ ap (λ z. parts_fed (take i inputs) ++ parts_fed (z ∷ [])) e
    ∙ sym (fed_append (take i inputs) (y ∷ [])) ∙ ap parts_fed (sym (take_more inputs i x l))
