-- Names of nodes, files and arrays (docs/FORMATS.md, "Names").
use Rattle.std.specs.Prelude.{ℕ, Bool, false, ◌&&◌, ◌||◌, ◌==◌, nat_le, List, [], ◌∷◌, Result, Ok}
use Rattle.std.specs.Prelude.{Err, if◌then◌else◌}
use Rattle.std.specs.List.{list_all}
use Rattle.viz_base.specs.Names.{is_name}
use Rattle.viz_words.specs.declared.refusal.ScriptRefusal.{ScriptRefusal}
use Rattle.viz_words.specs.declared.refusal.ScriptRefusal.TheVariants.{Name}

-- a letter, a digit or _
abbrev pub is_node_byte : ℕ → Bool
is_node_byte b = nat_le 48 b && nat_le b 57 || nat_le 65 b && nat_le b 90 || b == 95 || nat_le 97 b
    && nat_le b 122

-- the same, or - or .
abbrev pub is_file_byte : ℕ → Bool
is_file_byte b = is_node_byte b || b == 45 || b == 46

-- a byte from ! to ~
abbrev pub is_array_byte : ℕ → Bool
is_array_byte b = nat_le 33 b && nat_le b 126

-- the first byte is a letter, a digit or _
abbrev pub begins_name : List ℕ → Bool
begins_name [] = false
begins_name (b ∷ bs) = is_node_byte b

-- 1 to 64 letters, digits or _
abbrev pub is_node_name : List ℕ → Bool
is_node_name word = is_name word && list_all is_node_byte word

-- 1 to 64 letters, digits, _, - or ., the first a letter, a digit or _
abbrev pub is_file_name : List ℕ → Bool
is_file_name word = is_name word && (begins_name word && list_all is_file_byte word)

-- 1 to 64 bytes from ! to ~
abbrev pub is_array_name : List ℕ → Bool
is_array_name word = is_name word && list_all is_array_byte word

-- a name that is due, of the kind that the test tells
abbrev pub named_in : (List ℕ → Bool) → List ℕ → Result (List ℕ) ScriptRefusal
named_in test word = if test word then Ok word else Err Name
