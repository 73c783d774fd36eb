-- The requests of an update, one piece more.
use Rattle.std.proofs.Common.{◌≡◌, ℕ, ◌+◌, ◌<◌, Option, None, Some, IfSome, List, [], ◌∷◌, ◌++◌, append-nil, map, sym, ap, subst, ◌∙◌, arith}
use Rattle.std.specs.List.{All, flat_map, range_with_len}
use Rattle.std.proofs.lemmas.Grind.{flat_map-append}
use Rattle.std.proofs.lemmas.List.{map-id}
use Rattle.std.proofs.lemmas.List.Elements.{All-append, All-cons, All-nil, All-push}
use Rattle.std.proofs.lemmas.List.FromFn.{map-range_with_len_more}
use Rattle.viz_extent.specs.Extent.{Bounds}
use Rattle.viz_extent.specs.Parts.{IsPart}
use Rattle.viz_extent.specs.Slabs.{slab_of}
use Rattle.viz_parts.specs.declared.request.Request.{Request}
use Rattle.viz_parts.specs.declared.request.Request.TheVariants.{Block, Piece}
use Rattle.viz_requests.specs.Shapes.{slab_request}
use Rattle.viz_requests.specs.Upstream.{Fits}

range-more : (n : ℕ) → range_with_len 0 (n + 1) ≡ range_with_len 0 n ++ n ∷ []
range-more n =
    sym (map-id (range_with_len 0 (n + 1)))
    ∙ map-range_with_len_more (λ k. k) 0 n n (omega arith)
    ∙ ap (λ r. r ++ n ∷ []) (map-id (range_with_len 0 n))

flat-more : {A : Type 0} (f : ℕ → List A) (n : ℕ) → flat_map f (range_with_len 0 (n + 1)) ≡ flat_map f (range_with_len 0 n) ++ f n
flat-more f n =
    ap (flat_map f) (range-more n)
    ∙ flat_map-append f (range_with_len 0 n) (n ∷ [])
    ∙ ap (λ r. flat_map f (range_with_len 0 n) ++ r) (append-nil (f n))

pub slabs_more : (n : ℕ) (whole : Bounds) (p : ℕ) (old new : List Request) (slab : Option Bounds)
    → old ≡ flat_map (λ p. slab_request (slab_of p n whole)) (range_with_len 0 p)
    → new ≡ old ++ slab_request slab → slab ≡ slab_of p n whole
    → new ≡ flat_map (λ p. slab_request (slab_of p n whole)) (range_with_len 0 (p + 1))
slabs_more n whole p old new slab is grown it =
    grown ∙ ap (λ l. l ++ slab_request slab) is
    ∙ ap (λ s. flat_map (λ p. slab_request (slab_of p n whole)) (range_with_len 0 p) ++ slab_request s) it
    ∙ sym (flat-more (λ p. slab_request (slab_of p n whole)) p)

pub slab_fits : (whole : Bounds) (slab : Option Bounds) (old new : List Request) → All (Fits (Some whole)) old → new ≡ old ++ slab_request slab
    → IfSome slab (IsPart whole) → All (Fits (Some whole)) new
slab_fits whole slab old new a grown part = subst (All (Fits (Some whole))) (sym grown) (All-append (Fits (Some whole)) old (slab_request slab) a (own slab part))
  where
    own : (s : Option Bounds) → IfSome s (IsPart whole) → All (Fits (Some whole)) (slab_request s)
    own None p = All-nil (Fits (Some whole))
    own (Some s) p = All-cons (Fits (Some whole)) (Block s) [] p (All-nil (Fits (Some whole)))

pub pieces_more : (n p : ℕ) (old new : List Request) → old ≡ map (λ p. Piece p n 0) (range_with_len 0 p) → new ≡ old ++ Piece p n 0 ∷ []
    → new ≡ map (λ p. Piece p n 0) (range_with_len 0 (p + 1))
pieces_more n p old new is grown = grown ∙ ap (λ l. l ++ Piece p n 0 ∷ []) is ∙ sym (map-range_with_len_more (λ p. Piece p n 0) 0 p p (omega arith))

pub piece_fits : (n p : ℕ) (old new : List Request) → p < n → All (Fits None) old → new ≡ old ++ Piece p n 0 ∷ [] → All (Fits None) new
piece_fits n p old new below a grown = subst (All (Fits None)) (sym grown) (All-push (Fits None) old (Piece p n 0) a below)
