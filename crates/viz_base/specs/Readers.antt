-- What reads of a real file give, where the bytes that it has left are known.
use Rattle.std.specs.Prelude.{◌≡◌, ℕ, List, ◌++◌, length, Option}
use Rattle.std.specs.Io.KnownBytes.{Consumes, IsAtEnd}

-- a read appended its n bytes, and gave none only at the end
pub record Gains (left now : Option (List ℕ)) (before after : List ℕ) (n : ℕ) : Type 0 where
  pub got : List ℕ
  pub count : length got ≡ n
  pub appended : after ≡ before ++ got
  pub taken : Consumes left now got
  pub end : n ≡ 0 → IsAtEnd now
