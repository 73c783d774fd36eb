-- What is found among the needs and tasks of one number is found in the whole list.
use Rattle.std.proofs.Common.{◌≡◌, ℕ, ◌+◌, ◌*◌, Bool, true, false, ◌&&◌, ◌||◌, cond, nat_eq, nat_le, List, suc, refl, sym, ap, ◌∙◌, true≢false}
use Rattle.std.proofs.lemmas.Bool.{eqb-true}
use Rattle.viz_buckets.specs.Buckets.{HasAllOf}
use Rattle.viz_buckets.proofs.BucketLemmas.{by_first}
use Rattle.viz_cache.specs.Keys.{same_request}
use Rattle.viz_parts.specs.declared.request.Request.{Request}
use Rattle.viz_parts.specs.declared.request.Request.TheVariants.{Block, Piece}
use Rattle.viz_plan_meaning.proofs.PlanLemmas.{and-elim}
use Rattle.viz_plan_meaning.specs.Plan.{has, served}
use Rattle.viz_plan_meaning.specs.Levels.{above_first}
use Rattle.viz_plan_walk.proofs.RequestLemmas.{request_alike}
use Rattle.viz_plan_walk.specs.Finding.{number_of, piece_of}
use Rattle.viz_plan_walk.specs.Leveling.{levelled}
use Rattle.viz_plan_walk.specs.Walk.{named}
use Rattle.viz_plan_walk.specs.declared.levels.Levelled.{Levelled}
use Rattle.viz_plan_walk.specs.declared.walk.Need.{Need}
use Rattle.viz_requests.specs.Serving.{serves}

piece_served : (a b : Request) → serves a b ≡ true → piece_of a ≡ piece_of b
piece_served (Block a) (Block b) e = refl
piece_served (Block a) (Piece q m h) e = absurd (true≢false (sym e))
piece_served (Piece p n g) (Block b) e = absurd (true≢false (sym e))
piece_served (Piece p n g) (Piece q m h) e =
    let same = and-elim (nat_eq p q && nat_eq n m) (nat_le h g || nat_eq n 1) e in
    eqb-true p q (and-elim (nat_eq p q) (nat_eq n m) same.0).0

number_alike : (id n : ℕ) (a b : Request) → nat_eq id n ≡ true → piece_of a ≡ piece_of b → number_of id a ≡ number_of n b
number_alike id n a b e p = ap (λ m. number_of m a) (eqb-true id n e) ∙ ap (λ k. n * 64 + k) p

same_number : (id n : ℕ) (a b : Request) → (nat_eq id n && same_request a b) ≡ true → number_of id a ≡ number_of n b
same_number id n a b e =
    let both = and-elim (nat_eq id n) (same_request a b) e in
    number_alike id n a b both.0 (ap piece_of (request_alike a b both.1))

served_number : (id n : ℕ) (a b : Request) → (nat_eq id n && serves a b) ≡ true → number_of id a ≡ number_of n b
served_number id n a b e =
    let both = and-elim (nat_eq id n) (serves a b) e in
    number_alike id n a b both.0 (piece_served a b both.1)

or_is : (a b : Bool) → (a || b) ≡ cond a true b
or_is true b = refl
or_is false b = refl

abbrev number_needed : Need → ℕ
number_needed x = number_of x.node.0 x.request

pub has_found : (all some : List Need) (n : ℕ) (w : Request) → HasAllOf number_needed (number_of n w) all some → has same_request (named some) n w ≡ has same_request (named all) n w
has_found all some n w found =
    by_first number_needed (number_of n w) all some found (λ x. nat_eq x.node.0 n && same_request x.request w) (λ x e. same_number x.node.0 n x.request w e)
    (λ x. true) (λ l. has same_request (named l) n w) (λ x xs. or_is (nat_eq x.node.0 n && same_request x.request w) (has same_request (named xs) n w))

pub served_found : (all some : List Need) (n : ℕ) (w : Request) → HasAllOf number_needed (number_of n w) all some → served serves (named some) n w ≡ served serves (named all) n w
served_found all some n w found =
    by_first number_needed (number_of n w) all some found (λ x. nat_eq x.node.0 n && serves x.request w) (λ x e. served_number x.node.0 n x.request w e)
    (λ x. true) (λ l. served serves (named l) n w) (λ x xs. or_is (nat_eq x.node.0 n && serves x.request w) (served serves (named xs) n w))

pub first_found : (all some : List Levelled) (n : ℕ) (w : Request) → HasAllOf (λ x. number_of x.need.node.0 x.need.request) (number_of n w) all some
    → above_first serves (levelled some) n w ≡ above_first serves (levelled all) n w
first_found all some n w found =
    by_first (λ x. number_of x.need.node.0 x.need.request) (number_of n w) all some found
    (λ x. nat_eq x.need.node.0 n && serves x.need.request w) (λ x e. served_number x.need.node.0 n x.need.request w e)
    (λ x. suc x.level) (λ l. above_first serves (levelled l) n w) (λ x xs. refl)
