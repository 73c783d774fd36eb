-- Names of nodes, files and arrays (docs/FORMATS.md, "Names").
use Rattle.std.specs.Prelude.{◌≡◌, ℕ, ◌-◌, ◌≤◌, Bool, nat_le, ◌&&◌, List, length, drop, replicate}

-- a name has 1 to 64 bytes
pub record IsName (name : List ℕ) : Type 0 where
  pub some : 1 ≤ length name
  pub short : length name ≤ 64

-- whether the bytes are a name
abbrev pub is_name : List ℕ → Bool
is_name name = nat_le 1 (length name) && nat_le (length name) 64

-- the first len of 64 bytes are a name, and the others are 0
pub record IsPadded (len : ℕ) (bytes : List ℕ) : Type 0 where
  pub some : 1 ≤ len
  pub short : len ≤ 64
  pub room : length bytes ≡ 64
  pub padding : drop len bytes ≡ replicate (64 - len) 0
