-- What is found among true entries.
use Rattle.std.proofs.Common.{
  ◌≡◌,
  ℕ,
  suc,
  Bool,
  true,
  false,
  cond,
  ◌&&◌,
  nat_eq,
  All,
  List,
  [],
  ◌∷◌,
  Option,
  None,
  Some,
  refl,
  ap,
  subst,
  ◌∙◌,
  arith,
}
use Rattle.std.specs.List.{find}
use Rattle.std.specs.Option.{option_map}
use Rattle.std.proofs.lemmas.Bool.Decides.{nat_tests}
use Rattle.viz_kept.specs.True.{HasStamp, IsNodePart, IsTrueIn}
use Rattle.viz_network.specs.Cone.{cone_of, stamp_of}
use Rattle.viz_parts.specs.declared.request.Part.{Part}
use Rattle.viz_parts.specs.declared.request.Request.{Request}
use Rattle.viz_parts.specs.declared.stored.Stored.{Stored}
use Rattle.viz_plan_meaning.specs.Known.{Known, is_serving, is_stamp}
use Rattle.viz_requests.specs.Serving.{serves}
use Rattle.viz_plan_law.specs.Kept.{KeptPartsServe}
use Rattle.viz_plan_law.proofs.ServeLemmas.{and_left, and_right}

-- what is found passes the test, and has what all have
found : (test : Stored → Bool) (P : Stored → Type 0) (xs : List Stored) → All P xs
    → (x : Stored) → find test xs ≡ Some x → P x × (test x ≡ true)
found test P [] all x e = let bad : ⊥ = cc in absurd bad
found test P (y ∷ xs) all x e =
    by (test y) refl (found test P xs (λ k d l. all (suc k) d (omega (arith, l))) x) e
  where
    by : (b : Bool) → test y ≡ b → (find test xs ≡ Some x → P x × (test x ≡ true))
        → cond b (Some y) (find test xs) ≡ Some x → P x × (test x ≡ true)
    by true t rest q = (
        let same : y ≡ x = cc in
        subst (λ (z : Stored). P z × (test z ≡ true)) same (all 0 y (omega arith), t)
        )
    by false t rest q = rest q

-- the request and the part of an entry
abbrev pair_of : Stored → Request × Part
pair_of s = (s.key.request, s.part)

mapped : (o : Option Stored) (e : Request × Part) → option_map pair_of o ≡ Some e
    → (x : Stored) × (o ≡ Some x) × (pair_of x ≡ e)
mapped None e h = let bad : ⊥ = cc in absurd bad
mapped (Some x) e h = let same : pair_of x ≡ e = cc in (x, refl, same)

stamp_is : (o : Option ℕ) (stamp : ℕ) → is_stamp o stamp ≡ true → o ≡ Some stamp
stamp_is None stamp h = let bad : ⊥ = cc in absurd bad
stamp_is (Some s) stamp h =
    let same : s ≡ stamp = grind (arith, nat_tests) in
    ap (λ (n : ℕ). Some n) same

-- a true entry that serves is a part that the node gives
serving_given : (k : Known) (id : ℕ) (wanted : Request) (x : Stored) → IsTrueIn k.net x
    → is_serving k id wanted x ≡ true
    → IsNodePart (cone_of k.net id) x.key.request x.part × (serves x.key.request wanted ≡ true)
serving_given k id wanted x true_in h =
    let is = nat_eq x.key.node.0 id in
    let has = is_stamp (stamp_of k.net id) x.key.stamp in
    let both = and_left (is && has) (serves x.key.request wanted) h in
    let node = and_left is has both in
    let same : x.key.node.0 ≡ id = grind (arith, nat_tests, node) in
    let stamp : HasStamp k.net x.key =
    ap (stamp_of k.net) same
    ∙ stamp_is (stamp_of k.net id) x.key.stamp (and_right is has both) in (
      subst (λ (n : ℕ). IsNodePart (cone_of k.net n) x.key.request x.part) same
          (true_in.part stamp),
      and_right (is && has) (serves x.key.request wanted) h,
    )

pub kept_serve : KeptPartsServe
kept_serve k id wanted e all h =
    let m = mapped (find (is_serving k id wanted) k.entries) e h in
    let f = found (is_serving k id wanted) (IsTrueIn k.net) k.entries all.each m.0 m.1 in
    subst
    (λ (p : Request × Part). IsNodePart (cone_of k.net id) p.0 p.1 × (serves p.0 wanted ≡ true))
    m.2
    (serving_given k id wanted m.0 f.0 f.1)
