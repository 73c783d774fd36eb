-- Bytes by their number, as the values of a binary file stand (docs/FORMATS-OF-FILES.md,
-- "Reading").
use Rattle.std.specs.Prelude.{◌≡◌, ℕ, nat_le, ◌++◌, length, Result, Ok, Err, if◌then◌else◌}
use Rattle.viz_lex.specs.declared.fault.FileFault.{FileFault}
use Rattle.viz_lex.specs.declared.fault.FileKind.TheVariants.{Truncated}
use Rattle.viz_lex.specs.declared.span.Span.{Span}
use Rattle.viz_lex.specs.Reading.{Reading, rest_of, advanced, fault_at}
use Rattle.viz_lex.specs.Words.{span_from, text_of}

-- the next count bytes, if so many are left
unfoldable pub block_at : ℕ → Reading → Result (Span × Reading) FileFault
block_at count r =
    if nat_le count (length (rest_of r)) then Ok (span_from r.place count, advanced r count)
    else Err (fault_at Truncated (length r.bytes))

-- a span is that of the next count bytes, and the new place is behind it
pub record IsBlockAt (count : ℕ) (old new : Reading) (span : Span) : Type 0 where
  pub starts : span.start ≡ old.place
  pub long : length (text_of old span) ≡ count
  pub parts : rest_of old ≡ text_of old span ++ rest_of new
