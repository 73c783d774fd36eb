-- What `==` answers of equal requests.
use Rattle.std.proofs.Common.{◌≡◌, true, refl}
use Rattle.std.proofs.lemmas.Bool.{eq-eqb}
use Rattle.viz_parts.specs.declared.request.Request.{Request}
use Rattle.viz_parts.specs.declared.request.Request.TheVariants.{Block, Piece}
use Rattle.viz_parts.specs.contracts.request.RequestPartialEq.TheImpl as equality

pub request-itself : (a : Request) → (equality.ghosts).eq a a ≡ true
request-itself (Block a) = rw (eq-eqb a.x0 a.x0 refl, eq-eqb a.x1 a.x1 refl, eq-eqb a.y0 a.y0 refl, eq-eqb a.y1 a.y1 refl, eq-eqb a.z0 a.z0 refl, eq-eqb a.z1 a.z1 refl) refl
request-itself (Piece p n g) = rw (eq-eqb p p refl, eq-eqb n n refl, eq-eqb g g refl) refl
