-- Names of files are text.
use Rattle.std.proofs.Common.{◌≡◌, ℕ, ◌<◌, true, List, [], ◌∷◌, arith}
use Rattle.std.specs.List.{list_all}
use Rattle.std.specs.Str.{IsUtf8, IsAscii}
use Rattle.std.proofs.lemmas.Bool.{and_parts}
use Rattle.std.proofs.lemmas.Bool.Decides.{nat_tests}
use Rattle.std.proofs.lemmas.Str.{IsUtf8-from_ascii}
use Rattle.std.proofs.lemmas.Str.Ascii.{IsAscii-nil, IsAscii-cons}
use Rattle.viz_words.specs.Names.{is_file_byte, is_file_name}

file_byte-ascii : (b : ℕ) → is_file_byte b ≡ true → b < 128
file_byte-ascii b h = grind (arith, nat_tests)

file_bytes-ascii : (word : List ℕ) → list_all is_file_byte word ≡ true → IsAscii word
file_bytes-ascii [] h = IsAscii-nil
file_bytes-ascii (b ∷ bs) h =
    let p = and_parts (is_file_byte b) (list_all is_file_byte bs) h in
    IsAscii-cons b bs (file_byte-ascii b p.0) (file_bytes-ascii bs p.1)

-- a file name is text
pub file_name-IsUtf8 : (word : List ℕ) → is_file_name word ≡ true → IsUtf8 word
file_name-IsUtf8 word h = IsUtf8-from_ascii word (file_bytes-ascii word (and_parts _ _ (and_parts _ _ h).1).1)
