-- The numbers of a filter that words tell are of 64 bits.
use Rattle.std.proofs.Common.{◌≡◌, ℕ, ℤ, pos, neg_ℤ, ◌==◌, Bool, true, false, cond, List, [], ◌∷◌, Option, None, Some, refl, subst}
use Rattle.std.specs.Prelude.{codes, option_map, option_and_then}
use Rattle.std.specs.Str.{bytes_eq}
use Rattle.viz_lex.specs.Numbers.{natural_of}
use Rattle.viz_once.specs.declared.command.NodeFilter.{NodeFilter}
use Rattle.viz_once.specs.declared.command.NodeFilter.TheVariants.{Threshold, Contour}
use Rattle.viz_once.specs.Command.{Command, file_name_of, filter_of, once_of}
use Rattle.viz_once.specs.FixedHistory.{fits_i64, HasNumbers}
use Rattle.viz_once.specs.declared.command.Filter.TheVariants as filters
use Rattle.viz_once.specs.Laws.{HaveNumbers, WordsHaveNumbers}
use Rattle.viz_words.specs.Numbers.{within, number_of}

-- nothing is something
none_is_some : {X Y : Type 0} (x : X) → (let o : Option X = None in o) ≡ Some x → Y
none_is_some {X} x e = (let bad : (let o : Option X = None in o) ≡ Some x = e in absurd cc)

kept_fits : (n m : ℤ) (b : Bool) → fits_i64 n ≡ b → cond b (Some n) None ≡ Some m → fits_i64 m ≡ true
kept_fits n m true f e = (let same : n ≡ m = cc in subst (λ (k : ℤ). fits_i64 k ≡ true) same f)
kept_fits n m false f e = none_is_some m e

within_fits : (o : Option ℤ) (m : ℤ) → within o ≡ Some m → fits_i64 m ≡ true
within_fits None m e = none_is_some m e
within_fits (Some n) m e = kept_fits n m (fits_i64 n) refl e

number_fits : (word : List ℕ) (m : ℤ) → number_of word ≡ Some m → fits_i64 m ≡ true
number_fits [] m e = none_is_some m e
number_fits (b ∷ bs) m e =
    within_fits (cond (b == 45) (option_map (λ n. neg_ℤ (pos n)) (natural_of bs)) (option_map (λ n. pos n) (natural_of (b ∷ bs)))) m e

-- a filter, where it is one with numbers of 64 bits
abbrev HasOwn : Option NodeFilter → Type 0
HasOwn o = (f : NodeFilter) → o ≡ Some f → HasNumbers f

contour_has : (level : List ℕ) (b : Bool) (o : Option ℤ) → number_of level ≡ o → HasOwn (cond b (option_map (λ v. Contour v) o) None)
contour_has level true (Some v) is = λ f e. (let same : Contour v ≡ f = cc in subst HasNumbers same (number_fits level v is))
contour_has level true None is = λ f e. none_is_some f e
contour_has level false o is = λ f e. none_is_some f e

threshold_has : (lo hi : List ℕ) (b : Bool) (l h : Option ℤ) → number_of lo ≡ l → number_of hi ≡ h
    → HasOwn (cond b (option_and_then (λ l. option_map (λ h. Threshold l h) h) l) None)
threshold_has lo hi true (Some l) (Some h) is_l is_h = λ f e. (let same : Threshold l h ≡ f = cc in subst HasNumbers same (number_fits lo l is_l, number_fits hi h is_h))
threshold_has lo hi true (Some l) None is_l is_h = λ f e. none_is_some f e
threshold_has lo hi true None h is_l is_h = λ f e. none_is_some f e
threshold_has lo hi false l h is_l is_h = λ f e. none_is_some f e

filter_has : (words : List (List ℕ)) → HasOwn (filter_of words)
unfolding filter_of
filter_has [] = λ f e. none_is_some f e
filter_has (a ∷ []) = λ f e. none_is_some f e
filter_has (name ∷ level ∷ []) = contour_has level (bytes_eq name (codes "contour")) (number_of level) refl
filter_has (name ∷ lo ∷ hi ∷ []) = threshold_has lo hi (bytes_eq name (codes "threshold")) (number_of lo) (number_of hi) refl refl
filter_has (a ∷ b ∷ c ∷ d ∷ more) = λ f e. none_is_some f e

-- a command whose filter is one of these
abbrev built : Option (List ℕ) → Option (List ℕ) → Option NodeFilter → Option Command
built input output filter = option_and_then (λ i. option_and_then (λ o. option_map (λ f. record { input = i; output = o; filter = filters.Node f }) filter) output) input

built_has : (input output : Option (List ℕ)) (filter : Option NodeFilter) → HasOwn filter → (c : Command) → built input output filter ≡ Some c → HaveNumbers c.filter
built_has (Some i) (Some o) (Some f) own c e =
    let given : Command = record { input = i; output = o; filter = filters.Node f } in
    let same : given ≡ c = cc in
    subst (λ (d : Command). HaveNumbers d.filter) same (own f refl)
built_has (Some i) (Some o) None own c e = none_is_some c e
built_has (Some i) None filter own c e = none_is_some c e
built_has None output filter own c e = none_is_some c e

pub words_have_numbers : WordsHaveNumbers
unfolding once_of
words_have_numbers [] c e = none_is_some c e
words_have_numbers (a ∷ []) c e = none_is_some c e
words_have_numbers (input ∷ output ∷ filter) c e = built_has (file_name_of input) (file_name_of output) (filter_of filter) (filter_has filter) c e
