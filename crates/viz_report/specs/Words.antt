-- The words of a refused command (docs/FORMATS.md, "Report").
use Rattle.std.specs.Prelude.{ℕ, List, ◌++◌, codes}
use Rattle.std.specs.Fmt.{decimal, signed_decimal}
use Rattle.viz_lex.specs.declared.fault.FileFault.{FileFault}
use Rattle.viz_lex.specs.declared.fault.FileKind.{FileKind}
use Rattle.viz_lex.specs.declared.fault.FileKind.TheVariants as kind
use Rattle.viz_network.specs.declared.fault.Cause.{Cause}
use Rattle.viz_network.specs.declared.fault.Cause.TheVariants as cause
use Rattle.viz_network.specs.declared.refusal.Refusal.{Refusal}
use Rattle.viz_network.specs.declared.refusal.Refusal.TheVariants as refusal
use Rattle.viz_report.specs.declared.line.Reason.{Reason}
use Rattle.viz_report.specs.declared.line.Reason.TheVariants as reason

-- the word of a refusal of the network
abbrev pub refusal_text : Refusal → List ℕ
refusal_text refusal.Exists = codes "Exists"
refusal_text refusal.Unknown = codes "Unknown"
refusal_text refusal.NoPort = codes "NoPort"
refusal_text refusal.NoParam = codes "NoParam"
refusal_text refusal.BadValue = codes "BadValue"
refusal_text refusal.WouldCycle = codes "WouldCycle"
refusal_text refusal.InUse = codes "InUse"
refusal_text refusal.TooManyNodes = codes "TooManyNodes"

-- a word with a number in brackets
abbrev pub numbered : List ℕ → List ℕ → List ℕ
numbered word number = word ++ codes "(" ++ number ++ codes ")"

-- the word of a kind of file fault
abbrev pub kind_text : FileKind → List ℕ
kind_text kind.Magic = codes "Magic"
kind_text kind.Title = codes "Title"
kind_text kind.Form = codes "Form"
kind_text kind.Keyword = codes "Keyword"
kind_text kind.Number = codes "Number"
kind_text kind.ValueRange = codes "ValueRange"
kind_text kind.Count = codes "Count"
kind_text kind.Index = codes "Index"
kind_text (kind.CellType n) = numbered (codes "CellType") (signed_decimal n)
kind_text kind.FloatArray = codes "FloatArray"
kind_text kind.NoArray = codes "NoArray"
kind_text kind.Spacing = codes "Spacing"
kind_text kind.HeaderNumber = codes "HeaderNumber"
kind_text kind.TooMany = codes "TooMany"
kind_text kind.Truncated = codes "Truncated"
kind_text kind.Unsupported = codes "Unsupported"

-- the word of a fault of a file: its kind, and the place of its first byte
abbrev pub file_text : FileFault → List ℕ
file_text f = numbered (codes "BadFile") (kind_text f.kind ++ codes "," ++ decimal f.place)

-- the word of a cause
abbrev pub cause_text : Cause → List ℕ
cause_text (cause.Unconnected port) = numbered (codes "Unconnected") (decimal port)
cause_text (cause.WrongInput port) = numbered (codes "WrongInput") (decimal port)
cause_text cause.NoFile = codes "NoFile"
cause_text (cause.BadFile fault) = file_text fault
cause_text cause.EmptyExtent = codes "EmptyExtent"
cause_text cause.GridsDiffer = codes "GridsDiffer"
cause_text cause.TooWide = codes "TooWide"
cause_text cause.TooMany = codes "TooMany"

-- the word of a reason; a fault has the name of its node
abbrev pub reason_text : Reason → List ℕ
reason_text (reason.Edit r) = refusal_text r
reason_text (reason.Batch index r) = decimal index ++ codes ":" ++ refusal_text r
reason_text reason.Full = codes "Full"
reason_text reason.TooLong = codes "TooLong"
reason_text reason.Unknown = codes "Unknown"
reason_text (reason.Fault fault node) = codes "fault:" ++ node ++ codes ":"
    ++ cause_text fault.cause
