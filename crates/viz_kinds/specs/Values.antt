-- The values that each parameter may have (docs/FORMATS-OF-FILTERS.md, "Kinds of node").
use Rattle.std.specs.Prelude.{ℕ, Bool, true, false, not, nat_le, nat_eq, ◌&&◌, ◌||◌, ℤ, pos}
use Rattle.std.specs.Prelude.{negsuc, int_le, List, take, drop, codes, slice_index_or, Option}
use Rattle.std.specs.Prelude.{None, Some}
use Rattle.std.specs.List.{list_all}
use Rattle.std.specs.Ordering.{int_eq}
use Rattle.std.specs.Cmp.Lexicographic.{pointwise}
use Rattle.viz_kinds.specs.declared.param.Param.{Param}
use Rattle.viz_kinds.specs.declared.param.Param.TheVariants as param
use Rattle.viz_kinds.specs.declared.param.Value.{Value}
use Rattle.viz_kinds.specs.declared.param.Value.TheVariants.{Numbers, Text}
use Rattle.viz_kinds.specs.declared.range.Range.{Range}

-- so many numbers, each from low to high
abbrev pub takes : ℕ → ℕ → ℤ → ℤ → Option Range
takes least most low high = Some (record { least = least; most = most; low = low; high = high })

-- the least and the greatest number of 64 bits
abbrev pub first_number : ℤ
first_number = negsuc 9223372036854775807

abbrev pub last_number : ℤ
last_number = pos 9223372036854775807

-- the numbers that the parameter takes
abbrev pub numbers_of : Param → Option Range
numbers_of param.Array = None
numbers_of param.Unit = takes 1 1 (pos 0) (pos 9)
numbers_of param.Bounds = takes 6 6 (pos 0) (pos 2147483647)
numbers_of param.Rate = takes 3 3 (pos 1) (pos 1024)
numbers_of param.Range = takes 2 2 first_number last_number
numbers_of param.Radius = takes 1 1 (pos 0) (pos 8)
numbers_of param.Op = None
numbers_of param.Mode = None
numbers_of param.Levels = takes 1 8 first_number last_number
numbers_of param.Plane = takes 4 4 (negsuc 2147483646) (pos 2147483647)
numbers_of param.Style = None
numbers_of param.Digits = takes 1 1 (pos 0) (pos 9)
numbers_of param.Release = takes 1 1 (pos 0) (pos 1)
numbers_of param.Version = takes 1 1 (pos 3) (pos 5)

-- whether each number lies from low to high
abbrev pub fits_range : ℤ → ℤ → List ℤ → Bool
fits_range low high numbers = list_all (λ n. int_le low n && int_le n high) numbers

-- whether so many numbers are in the range, and the items past them 0
abbrev pub fits_param : Range → ℕ → List ℤ → Bool
fits_param range count items = (nat_le range.least count && nat_le count range.most
    && nat_le count 8)
    && (fits_range range.low range.high (take count items)
    && fits_range (pos 0) (pos 0) (drop count items))

-- the number at an index
abbrev pub number : List ℤ → ℕ → ℤ
number items i = slice_index_or items i (pos 0)

-- whether each pair of bounds ascends or is equal
abbrev pub is_ascending : List ℤ → Bool
is_ascending items = int_le (number items 0) (number items 1)
    && int_le (number items 2) (number items 3) && int_le (number items 4) (number items 5)

-- whether a, b and c of a plane aren't all 0
abbrev pub is_normal : List ℤ → Bool
is_normal items = not (int_eq (number items 0) (pos 0)) || not (int_eq (number items 1) (pos 0))
    || not (int_eq (number items 2) (pos 0))

-- whether the number is that of a version that is written: 3 or 5
abbrev pub is_version : ℤ → Bool
is_version n = int_eq n (pos 3) || int_eq n (pos 5)

-- whether the numbers of the parameter fit together
abbrev pub fits_rest : Param → List ℤ → Bool
fits_rest param.Bounds items = is_ascending items
fits_rest param.Plane items = is_normal items
fits_rest param.Version items = is_version (number items 0)
fits_rest _ items = true

-- whether the two texts are the same
abbrev pub is_text : List ℕ → List ℕ → Bool
is_text = pointwise nat_eq

-- whether the parameter takes the text
abbrev pub takes_text : Param → List ℕ → Bool
takes_text param.Array text = true
takes_text param.Op text = is_text text (codes "add") || is_text text (codes "sub")
    || is_text text (codes "min") || is_text text (codes "max")
takes_text param.Mode text = is_text text (codes "all") || is_text text (codes "any")
takes_text param.Style text = is_text text (codes "ascii") || is_text text (codes "binary")
takes_text _ text = false

-- whether the range of a parameter has the numbers, which fit together
abbrev pub is_numbers : Param → Option Range → ℕ → List ℤ → Bool
is_numbers param None count items = false
is_numbers param (Some range) count items = fits_param range count items && fits_rest param items

-- whether the parameter may have the value
abbrev pub is_value : Param → Value → Bool
is_value param (Numbers count items) = is_numbers param (numbers_of param) count items
is_value param (Text text) = takes_text param text
