-- Rules one behind the other: so many, so many of which each knows those before it, and all to the
-- end of the text (docs/FORMATS-OF-FILES.md, "Reading").
use Rattle.std.specs.Prelude.{◌≡◌, ◌⊎◌, ℕ, zero, suc, ◌<◌, Bool, true, false, List, [], ◌∷◌, ◌++◌}
use Rattle.std.specs.Prelude.{length, Result}
use Rattle.viz_lex.specs.declared.fault.FileFault.{FileFault}
use Rattle.viz_lex.specs.Reading.{Reading, rest_of}
use Rattle.viz_lex.specs.Words.{IsBlank}
use Rattle.viz_lex.specs.Rules.{Rule, IsOnward, Decides}

-- these stand one behind the other, and are so many
abbrev pub AreTimes : {V : Type 0} → Rule V → Reading → Reading → List V → ℕ → Type 0
AreTimes rule old new [] zero = new ≡ old
AreTimes rule old new [] (suc n) = ⊥
AreTimes rule old new (x ∷ xs) zero = ⊥
AreTimes rule old new (x ∷ xs) (suc n) = (mid : Reading) × rule.is old mid x
    × AreTimes rule mid new xs n

-- fewer than so many stand there, and behind them a fault is met
abbrev pub ArentTimes : {V : Type 0} → Rule V → Reading → FileFault → ℕ → Type 0
ArentTimes rule old fault zero = ⊥
ArentTimes {V = V} rule old fault (suc n) =
    rule.isnt old fault ⊎ ((x : V) × (mid : Reading) × rule.is old mid x
    × ArentTimes rule mid fault n)

-- so many, one behind the other
abbrev pub times : {V : Type 0} → ℕ → Rule V → Rule (List V)
times n rule =
    record {
      is = λ old new xs. AreTimes rule old new xs n;
      isnt = λ old fault. ArentTimes rule old fault n;
    }

-- the same, where each knows those before it
abbrev pub AreKnown : {V : Type 0} → (List V → Rule V) → List V → Reading → Reading → List V → ℕ
    → Type 0
AreKnown rule before old new [] zero = new ≡ old
AreKnown rule before old new [] (suc n) = ⊥
AreKnown rule before old new (x ∷ xs) zero = ⊥
AreKnown rule before old new (x ∷ xs) (suc n) =
    (mid : Reading) × (rule before).is old mid x × AreKnown rule (before ++ x ∷ []) mid new xs n

-- likewise
abbrev pub ArentKnown : {V : Type 0} → (List V → Rule V) → List V → Reading → FileFault → ℕ → Type 0
ArentKnown rule before old f zero = ⊥
ArentKnown {V = V} rule before old f (suc n) =
    (rule before).isnt old f ⊎ ((x : V) × (mid : Reading) × (rule before).is old mid x
    × ArentKnown rule (before ++ x ∷ []) mid f n)

-- so many, one behind the other, of which each knows those before it
abbrev pub times_knowing : {V : Type 0} → ℕ → (List V → Rule V) → Rule (List V)
times_knowing n rule =
    record {
      is = λ old new xs. AreKnown rule [] old new xs n;
      isnt = λ old f. ArentKnown rule [] old f n;
    }

-- these stand one behind the other, each knowing those before it, and each where not only blanks
-- are left
abbrev pub AreSome : {V : Type 0} → (List V → Rule V) → List V → Reading → Reading → List V → Type 0
AreSome rule before old new [] = new ≡ old
AreSome rule before old new (x ∷ xs) =
    (mid : Reading) × (¬ IsBlank (rest_of old)) × (rule before).is old mid x
    × AreSome rule (before ++ x ∷ []) mid new xs

-- some stand there, and behind them, where not only blanks are left, a fault is met
abbrev pub ArentSome : {V : Type 0} → (List V → Rule V) → List V → Reading → FileFault → Type 0
ArentSome {V = V} rule before old f =
    (xs : List V) × (mid : Reading) × AreSome rule before old mid xs × (¬ IsBlank (rest_of mid))
    × (rule (before ++ xs)).isnt mid f

-- all to where only blanks are left, each knowing those before it
abbrev pub to_the_end : {V : Type 0} → (List V → Rule V) → Rule (List V)
to_the_end rule = record {
  is = λ old new xs. AreSome rule [] old new xs × IsBlank (rest_of new);
  isnt = λ old f. ArentSome rule [] old f;
}

-- so many stand there, each where the test holds
abbrev pub AreSkipped : {V : Type 0} → (Reading → Bool) → Rule V → Reading → Reading → ℕ → Type 0
AreSkipped test rule old new zero = new ≡ old
AreSkipped {V = V} test rule old new (suc n) =
    (x : V) × (mid : Reading) × (test old ≡ true) × rule.is old mid x
    × AreSkipped test rule mid new n

-- as many as there are where the test holds
abbrev pub skip : {V : Type 0} → (Reading → Bool) → Rule V → Rule (Unit {0})
skip test rule = record {
  is = λ old new x. (n : ℕ) × AreSkipped test rule old new n × (test new ≡ false);
  isnt = λ old f. (n : ℕ) × (mid : Reading) × AreSkipped test rule old mid n × (test mid ≡ true)
      × rule.isnt mid f;
}

-- each takes at least a byte, and a reader decides it; behind the end the test fails
pub record Skips {V : Type 0} (test : Reading → Bool) (rule : Rule V)
    (read : Reading → Result (V × Reading) FileFault) : Type 0 where
  pub decides : Decides rule read
  pub onward : (old new : Reading) (x : V) → rule.is old new x → IsOnward old new
  pub ends : (r : Reading) → length r.bytes < r.place → test r ≡ false

-- each takes at least a byte, and a reader decides it, whatever stands before
pub record Moves {V : Type 0} (rule : List V → Rule V)
    (read : List V → Reading → Result (V × Reading) FileFault) : Type 0 where
  pub decides : (before : List V) → Decides (rule before) (read before)
  pub onward : (before : List V) (old new : Reading) (x : V) → (rule before).is old new x
      → IsOnward old new
