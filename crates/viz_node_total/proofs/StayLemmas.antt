-- What a rule reads stays in the same text, and has a property where the text is one of bytes.
use Rattle.std.proofs.Common.{
  ◌≡◌,
  ℕ,
  zero,
  suc,
  ◌+◌,
  ◌<◌,
  Bool,
  true,
  false,
  inl,
  inr,
  List,
  [],
  ◌∷◌,
  ◌++◌,
  length,
  Result,
  sym,
  ap,
  subst,
  ◌∙◌,
  arith,
}
use Rattle.std.specs.List.{AllByRecursion}
use Rattle.std.specs.Prelude.{get_or, slice_index}
use Rattle.std.proofs.lemmas.Bool.{cases_lt}
use Rattle.std.proofs.Math.ListN.{get_or-eq_default}
use Rattle.std.proofs.lemmas.List.{get_or-drop, get_or_append_left}
use Rattle.viz_column.specs.Bytes.{AreBytes}
use Rattle.viz_lex.specs.Reading.{Reading, rest_of}
use Rattle.viz_lex.specs.Repeats.{AreKnown, AreSome}
use Rattle.viz_lex.specs.Rules.{Decides, Rule, beside, choose, follow, gives, refuses}
use Rattle.viz_lex.specs.declared.fault.FileFault.{FileFault}

-- each is a byte, also the 0 that stands for none past the end
abbrev pub Small : List ℕ → Type 0
Small bytes = (i : ℕ) → slice_index bytes i < 256

pub small_bytes : (bytes : List ℕ) → AreBytes bytes → Small bytes
small_bytes bytes are i = elim (cases_lt i (length bytes)) [
  | inl lt ↦ are i lt
  | inr le ↦ let none : slice_index bytes i ≡ 0 = get_or-eq_default bytes 0 le in omega arith
]

-- bytes that stand in front of the rest of a text of bytes
pub small_front : (r : Reading) (bytes behind : List ℕ) → Small r.bytes
    → rest_of r ≡ bytes ++ behind → AreBytes bytes
small_front r bytes behind small e i below =
    let here : slice_index bytes i ≡ slice_index r.bytes (r.place + i) =
    sym (get_or_append_left bytes behind 0 i below) ∙ ap (λ (b : List ℕ). get_or b i 0) (sym e)
    ∙ get_or-drop r.place r.bytes i 0 in
    subst (λ (n : ℕ). n < 256) (sym here) (small (r.place + i))

-- ---- the same text

-- what a rule reads stays in the same text
abbrev pub Stays : {V : Type 0} → Rule V → Type 0
Stays {V = V} rule = (old new : Reading) (x : V) → rule.is old new x → new.bytes ≡ old.bytes

pub stays : {V : Type 0} {rule : Rule V} {read : Reading → Result (V × Reading) FileFault}
    → Decides rule read → Stays rule
stays d old new x i = (d.along old new x i).same

pub stays_beside : {V : Type 0} (test : Reading → Bool) (a b : Rule V) → Stays a → Stays b
    → Stays (beside test a b)
stays_beside test a b s t old new x (inl i) = s old new x i.1
stays_beside test a b s t old new x (inr i) = t old new x i.1

pub stays_gives : {V : Type 0} (v : V) → Stays (gives v)
stays_gives v old new x i = ap (λ (r : Reading). r.bytes) i.0

-- ---- and a property

-- what a rule reads of bytes has a property, and stays in the same text
abbrev pub Holds_of : {V : Type 0} → (V → Type 0) → Rule V → Type 0
Holds_of {V = V} P rule =
    (old new : Reading) (x : V) → Small old.bytes → rule.is old new x
    → P x × (new.bytes ≡ old.bytes)

pub holds_refuses : {V : Type 0} (P : V → Type 0) (fault : FileFault) → Holds_of P (refuses fault)
holds_refuses P fault old new x small i = absurd i

pub holds_choose : {V : Type 0} (P : V → Type 0) (b : Bool) (r s : Rule V) → Holds_of P r
    → Holds_of P s → Holds_of P (choose b r s)
holds_choose P true r s h g = h
holds_choose P false r s h g = g

-- behind a rule that stays in the same text
pub holds_behind : {A V : Type 0} (P : V → Type 0) (a : Rule A) (f : A → Rule V) → Stays a
    → ((x : A) → Holds_of P (f x)) → Holds_of P (follow a f)
holds_behind P a f s h old new y small i =
    let same = s old i.1 i.0 i.2 in
    let r = h i.0 i.1 new y (subst Small (sym same) small) i.3 in
    (r.0, r.1 ∙ same)

-- what is made of what a rule reads
pub holds_made : {A V : Type 0} (P : A → Type 0) (Q : V → Type 0) (a : Rule A) (f : A → V)
    → ((x : A) → P x → Q (f x)) → Holds_of P a → Holds_of Q (follow a (λ x. gives (f x)))
holds_made P Q a f h g old new y small i =
    let r = g old i.1 i.0 small i.2 in
    (subst Q (sym i.3.1) (h i.0 r.0), ap (λ (r : Reading). r.bytes) i.3.0 ∙ r.1)

-- ---- lists

-- so many, each of which knows those before it
pub holds_known : {V : Type 0} (P : V → Type 0) (rule : List V → Rule V)
    → ((before : List V) → Holds_of P (rule before))
    → (n : ℕ) (before : List V) (old new : Reading) (xs : List V) → Small old.bytes
    → AreKnown rule before old new xs n → AllByRecursion P xs × (new.bytes ≡ old.bytes)
holds_known P rule each zero before old new [] small h = (tt, ap (λ (r : Reading). r.bytes) h)
holds_known P rule each (suc n) before old new [] small h = absurd h
holds_known P rule each zero before old new (x ∷ xs) small h = absurd h
holds_known P rule each (suc n) before old new (x ∷ xs) small h =
    let first = each before old h.0 x small h.1 in
    let rest = holds_known P rule each n (before ++ x ∷ []) h.0 new xs
    (subst Small (sym first.1) small) h.2 in
    ((first.0, rest.0), rest.1 ∙ first.1)

-- all to the end
pub holds_some : {V : Type 0} (P : V → Type 0) (rule : List V → Rule V)
    → ((before : List V) → Holds_of P (rule before))
    → (before : List V) (old new : Reading) (xs : List V) → Small old.bytes
    → AreSome rule before old new xs → AllByRecursion P xs
holds_some P rule each before old new [] small h = tt
holds_some P rule each before old new (x ∷ xs) small h =
    let first = each before old h.0 x small h.2 in (
      first.0,
      holds_some P rule each (before ++ x ∷ []) h.0 new xs (subst Small (sym first.1) small) h.3,
    )
