-- A list whose items have numbers, and those of one number (Knuth, The Art of Computer Programming
-- 3, section 6.4: hashing with separate chains).
use Rattle.std.specs.Prelude.{◌≡◌, ℕ, Bool, true, List}
use Rattle.std.specs.List.{filter}

-- a property that only items with this number have picks the same items of both lists, in order
abbrev pub HasAllOf : {T : Type 0} → (T → ℕ) → ℕ → List T → List T → Type 0
HasAllOf {T} number k all some =
    (p : T → Bool) → ((x : T) → p x ≡ true → number x ≡ k) → filter p some ≡ filter p all
