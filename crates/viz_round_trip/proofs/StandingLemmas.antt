-- What stands at a place by a rule, with its value, and what is left behind it: the rules that are made of others.
use Rattle.std.proofs.Common.{◌≡◌, ℕ, Bool, true, false, List, refl, inl, inr}
use Rattle.viz_lex.specs.declared.fault.FileFault.{FileFault}
use Rattle.viz_lex.specs.Reading.{Reading, rest_of}
use Rattle.viz_lex.specs.Rules.{Rule, gives, demand, choose, beside, follow}
use Rattle.viz_lex.specs.Repeats.{skip}

-- from a place on, this value stands by the rule, and this text is left
pub record Stands {V : Type 0} (rule : Rule V) (old : Reading) (value : V) (left : List ℕ) : Type 0 where
  pub new : Reading
  pub is : rule.is old new value
  pub rest : rest_of new ≡ left

-- a value is given, and nothing is taken
pub stands-gives : {V : Type 0} (v : V) (old : Reading) (left : List ℕ) → rest_of old ≡ left → Stands (gives v) old v left
stands-gives v old left e = record { new = old; is = (refl, refl); rest = e }

-- one, and behind it the other
pub stands-follow : {A B : Type 0} (a : Rule A) (f : A → Rule B) (old : Reading) (x : A) (y : B) (mid left : List ℕ) → (first : Stands a old x mid) → Stands (f x) first.new y left → Stands (follow a f) old y left
stands-follow a f old x y mid left first second = record { new = second.new; is = (x, first.new, first.is, second.is); rest = second.rest }

-- a test that holds
pub stands-demand : {V : Type 0} (test : Bool) (fault : FileFault) (next : Rule V) (old : Reading) (x : V) (left : List ℕ) → test ≡ true → Stands next old x left → Stands (demand test fault next) old x left
stands-demand test fault next old x left e s = record { new = s.new; is = (e, s.is); rest = s.rest }

-- the rule that is chosen
pub stands-first : {V : Type 0} (test : Bool) (a b : Rule V) (old : Reading) (x : V) (left : List ℕ) → test ≡ true → Stands a old x left → Stands (choose test a b) old x left
stands-first true a b old x left e s = s
stands-first false a b old x left e s = absurd cc

pub stands-second : {V : Type 0} (test : Bool) (a b : Rule V) (old : Reading) (x : V) (left : List ℕ) → test ≡ false → Stands b old x left → Stands (choose test a b) old x left
stands-second true a b old x left e s = absurd cc
stands-second false a b old x left e s = s

-- the rule that a test of what is left chooses
pub stands-beside : {V : Type 0} (test : Reading → Bool) (a b : Rule V) (old : Reading) (x : V) (left : List ℕ) → test old ≡ true → Stands a old x left → Stands (beside test a b) old x left
stands-beside test a b old x left e s = record { new = s.new; is = inl (e, s.is); rest = s.rest }

pub stands-otherwise : {V : Type 0} (test : Reading → Bool) (a b : Rule V) (old : Reading) (x : V) (left : List ℕ) → test old ≡ false → Stands b old x left → Stands (beside test a b) old x left
stands-otherwise test a b old x left e s = record { new = s.new; is = inr (e, s.is); rest = s.rest }

-- none of those that may be skipped
pub stands-none : {V : Type 0} (test : Reading → Bool) (rule : Rule V) (old : Reading) (left : List ℕ) → test old ≡ false → rest_of old ≡ left → Stands (skip test rule) old tt left
stands-none test rule old left none e = record { new = old; is = (0, refl, none); rest = e }
