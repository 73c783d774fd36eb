-- Rules of a format: what stands between two places, and which first fault is met where it doesn't
-- (docs/FORMATS-OF-FILES.md, "Reading").
use Rattle.std.specs.Prelude.{◌≡◌, ◌⊎◌, ◌<◌, ◌≤◌, length, Bool, true, false, Result, Ok, Err}
use Rattle.viz_lex.specs.declared.fault.FileFault.{FileFault}
use Rattle.viz_lex.specs.Reading.{Reading}

-- what stands between two places, with its value; and the first fault that is met from a place
-- where it doesn't
pub record Rule (V : Type 0) : Type 1 where
  pub is : Reading → Reading → V → Type 0
  pub isnt : Reading → FileFault → Type 0

-- nothing stands there, and v is the value
abbrev pub gives : {V : Type 0} → V → Rule V
gives v = record { is = λ old new x. (new ≡ old) × (x ≡ v); isnt = λ old fault. ⊥ }

-- this fault is met, whatever stands there
abbrev pub refuses : {V : Type 0} → FileFault → Rule V
refuses fault = record { is = λ old new x. ⊥; isnt = λ old f. f ≡ fault }

-- one, and behind it the other, which may depend on the value of the first
abbrev pub follow : {A B : Type 0} → Rule A → (A → Rule B) → Rule B
follow {A = A} a f = record {
  is = λ old new y. (x : A) × (mid : Reading) × a.is old mid x × (f x).is mid new y;
  isnt = λ old fault. a.isnt old fault ⊎ ((x : A) × (mid : Reading) × a.is old mid x
      × (f x).isnt mid fault);
}

-- the same, as do-blocks write it
infixl 10 ◌>>=◌
abbrev pub ◌>>=◌ : {A B : Type 0} → Rule A → (A → Rule B) → Rule B
a >>= f = follow a f

-- the test holds, or this fault is met; and then the rule
abbrev pub demand : {V : Type 0} → Bool → FileFault → Rule V → Rule V
demand test fault next = record {
  is = λ old new x. (test ≡ true) × next.is old new x;
  isnt = λ old f. ((test ≡ false) × (f ≡ fault)) ⊎ ((test ≡ true) × next.isnt old f);
}

-- one rule or another
abbrev pub choose : {V : Type 0} → Bool → Rule V → Rule V → Rule V
choose true a b = a
choose false a b = b

-- one rule where the test holds of what is left, and else the other
abbrev pub beside : {V : Type 0} → (Reading → Bool) → Rule V → Rule V → Rule V
beside test a b = record {
  is = λ old new x. ((test old ≡ true) × a.is old new x) ⊎ ((test old ≡ false) × b.is old new x);
  isnt = λ old f. ((test old ≡ true) × a.isnt old f) ⊎ ((test old ≡ false) × b.isnt old f);
}

-- no place in front, in the same bytes and not past their end
pub record IsAlong (old new : Reading) : Type 0 where
  pub same : new.bytes ≡ old.bytes
  pub further : old.place ≤ new.place
  pub within : old.place ≤ length old.bytes → new.place ≤ length old.bytes

-- a place further on in the same bytes
pub record IsOnward (old new : Reading) : Type 0 where
  pub same : new.bytes ≡ old.bytes
  pub further : old.place < new.place
  pub within : new.place ≤ length old.bytes

-- a reader decides a rule: it gives just what stands there, and else just the fault that is met
pub record Decides {V : Type 0} (rule : Rule V)
    (read : Reading → Result (V × Reading) FileFault) : Type 0 where
  pub found : (r : Reading) (x : V × Reading) → read r ≡ Ok x → rule.is r x.1 x.0
  pub only : (r next : Reading) (x : V) → rule.is r next x → read r ≡ Ok (x, next)
  pub stops : (r : Reading) (f : FileFault) → read r ≡ Err f → rule.isnt r f
  pub only_stops : (r : Reading) (f : FileFault) → rule.isnt r f → read r ≡ Err f
  pub along : (r next : Reading) (x : V) → rule.is r next x → IsAlong r next

-- from each place exactly one value stands there, or exactly one fault is met
pub record IsDefinite {V : Type 0} (rule : Rule V) : Type 0 where
  pub some : (r : Reading) → ((x : V) × (next : Reading) × rule.is r next x)
      ⊎ ((f : FileFault) × rule.isnt r f)
  pub one : (r next after : Reading) (x y : V) → rule.is r next x → rule.is r after y → (x ≡ y)
      × (next ≡ after)
  pub one_fault : (r : Reading) (f g : FileFault) → rule.isnt r f → rule.isnt r g → f ≡ g
  pub not_both : (r next : Reading) (x : V) (f : FileFault) → rule.is r next x → rule.isnt r f → ⊥
