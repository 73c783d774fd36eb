-- The words of a command of one file (docs/FORMATS.md, "Words of a command").
use Rattle.std.specs.Prelude.{ℕ, ℤ, pos, List, [], ◌∷◌, replicate, codes, Option, Some, None, option_map}
use Rattle.std.specs.Prelude.{option_and_then, if◌then◌else◌}
use Rattle.std.specs.Str.{bytes_eq}
use Rattle.viz_words.specs.Names.{is_file_name}
use Rattle.viz_words.specs.Numbers.{number_of}
use Rattle.viz_kinds.specs.declared.param.Param.TheVariants.{Plane}
use Rattle.viz_kinds.specs.declared.param.Value.TheVariants.{Numbers}
use Rattle.viz_kinds.specs.Values.{is_value}
use Rattle.viz_reshape.specs.declared.reshape.Reshape.{Reshape as Shape}
use Rattle.viz_reshape.specs.declared.reshape.Reshape.TheVariants.{Strip, Clip}
use Rattle.viz_once.specs.declared.command.Filter.{Filter}
use Rattle.viz_once.specs.declared.command.Filter.TheVariants.{Node, Reshape}
use Rattle.viz_once.specs.declared.command.NodeFilter.{NodeFilter}
use Rattle.viz_once.specs.declared.command.NodeFilter.TheVariants.{Threshold, Contour}

-- what is read, what is written, and what is done
pub record Command : Type 0 where
  pub input : List ℕ
  pub output : List ℕ
  pub filter : Filter

-- the word as a file name
unfoldable pub file_name_of : List ℕ → Option (List ℕ)
file_name_of word = if is_file_name word then Some word else None

-- the words of a contour
abbrev pub contour_of : List ℕ → List ℕ → Option NodeFilter
contour_of name level = if bytes_eq name (codes "contour")
    then option_map (λ v. Contour v) (number_of level) else None

-- the words of a filter
unfoldable pub filter_of : List (List ℕ) → Option NodeFilter
filter_of (name ∷ level ∷ []) = contour_of name level
filter_of (name ∷ lo ∷ hi ∷ []) =
    if bytes_eq name (codes "threshold")
    then option_and_then (λ l. option_map (λ h. Threshold l h) (number_of hi)) (number_of lo)
    else None
filter_of words = None

-- the command that the words behind `once` are: IN OUT and those of a filter
unfoldable pub once_of : List (List ℕ) → Option Command
once_of (input ∷ output ∷ filter) =
    option_and_then
    (λ i. option_and_then (λ o. option_map (λ f. record { input = i; output = o; filter = Node f })
    (filter_of filter)) (file_name_of output)) (file_name_of input)
once_of words = None

-- the command of two names and what is made that no node makes
abbrev pub reshaping : Option (List ℕ) → Option (List ℕ) → Option Shape → Option Command
reshaping input output reshape = option_and_then
    (λ i. option_and_then (λ o. option_map (λ r. record { input = i; output = o; filter = Reshape r })
    reshape) output) input

-- the command that the words behind `strip` are: IN OUT
unfoldable pub strip_of : List (List ℕ) → Option Command
strip_of (input ∷ output ∷ []) = reshaping (file_name_of input) (file_name_of output) (Some Strip)
strip_of words = None

-- the clip of these numbers, where a plane may have them: each of magnitude at most 2^31 - 1, and
-- the first three not all 0
abbrev pub plane_of : ℤ → ℤ → ℤ → ℤ → Option Shape
plane_of a b c r =
    if is_value Plane (Numbers 4 (a ∷ b ∷ c ∷ r ∷ replicate 4 (pos 0))) then Some (Clip a b c r)
    else None

-- the clip of four words
unfoldable pub clip_with : List ℕ → List ℕ → List ℕ → List ℕ → Option Shape
clip_with a b c r = option_and_then (λ x. option_and_then (λ y. option_and_then (λ z.
    option_and_then (plane_of x y z) (number_of r)) (number_of c)) (number_of b)) (number_of a)

-- the command that the words behind `clip` are: IN OUT A B C R
unfoldable pub clip_of : List (List ℕ) → Option Command
clip_of (input ∷ output ∷ a ∷ b ∷ c ∷ r ∷ []) =
    reshaping (file_name_of input) (file_name_of output) (clip_with a b c r)
clip_of words = None
