-- What a run did of which only the first of all ports is used (docs/DEFINITIONS.md, "How a run is
-- told").
use Rattle.std.specs.Prelude.{◌≡◌, List, [], ◌∷◌}
use Rattle.viz_base.specs.Faults.{Rose}
use Rattle.viz_base.specs.declared.port.Port as port

-- the first items are related, and the others are as before
abbrev pub FirstOnly : {P : Type 0} → (P → P → Type 0) → List P → List P → Type 0
FirstOnly Q [] new = ⊥
FirstOnly Q (p ∷ ps) [] = ⊥
FirstOnly Q (p ∷ ps) (q ∷ qs) = Q p q × (qs ≡ ps)

-- all items but the first are as before
abbrev pub OthersStay : {P : Type 0} → List P → List P → Type 0
OthersStay [] new = new ≡ []
OthersStay (p ∷ ps) [] = ⊥
OthersStay (p ∷ ps) (q ∷ qs) = qs ≡ ps

-- the first port's count of faults rose
abbrev pub FirstRose : {P : Type 0} → port.Ghosts P → List P → List P → Type 0
FirstRose m old new = FirstOnly (λ p q. Rose (m.faults p) (m.faults q)) old new
