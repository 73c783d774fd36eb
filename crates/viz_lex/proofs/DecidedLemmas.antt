-- What is decided has one answer.
use Rattle.std.proofs.Common.{◌≡◌, ◌⊎◌, Result, Ok, Err, refl, sym, ap, ◌∙◌, inl, inr}
use Rattle.viz_lex.specs.declared.fault.FileFault.{FileFault}
use Rattle.viz_lex.specs.Reading.{Reading}
use Rattle.viz_lex.proofs.ReadingLemmas.{done, done_is, fault_is}
use Rattle.viz_lex.specs.Rules.{Rule, Decides, IsDefinite}

some_of : {V : Type 0} (rule : Rule V) (read : Reading → Result (V × Reading) FileFault) → Decides rule read
    → (r : Reading) (o : Result (V × Reading) FileFault) → read r ≡ o → ((x : V) × (next : Reading) × rule.is r next x) ⊎ ((f : FileFault) × rule.isnt r f)
some_of rule read d r (Ok x) e = inl (x.0, x.1, d.found r x e)
some_of rule read d r (Err f) e = inr (f, d.stops r f e)

-- exactly one value stands at each place, or exactly one fault is met
pub IsDefinite-decided : {V : Type 0} (rule : Rule V) (read : Reading → Result (V × Reading) FileFault) → Decides rule read → IsDefinite rule
IsDefinite-decided {V = V} rule read d = record {
  some = λ r. some_of rule read d r (read r) refl;
  one = λ r next after x y a b.
      let same : (x, next) ≡ (y, after) = done_is (x, next) (y, after) (sym (d.only r next x a) ∙ d.only r after y b) in
      (ap (λ (p : V × Reading). p.0) same, ap (λ (p : V × Reading). p.1) same);
  one_fault = λ r f g a b. fault_is {A = V × Reading} f g (sym (d.only_stops r f a) ∙ d.only_stops r g b);
  not_both = λ r next x f a b. (let e : done {A = V × Reading} (x, next) ≡ Err f = sym (d.only r next x a) ∙ d.only_stops r f b in cc);
}
