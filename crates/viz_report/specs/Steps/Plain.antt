-- Kinds and causes whose word has no number. Only private contracts speak of them.
use Rattle.viz_lex.specs.declared.fault.FileKind.{FileKind}
use Rattle.viz_lex.specs.declared.fault.FileKind.TheVariants as kind
use Rattle.viz_network.specs.declared.fault.Cause.{Cause}
use Rattle.viz_network.specs.declared.fault.Cause.TheVariants as cause

abbrev pub IsPlainKind : FileKind → Type 0
IsPlainKind (kind.CellType n) = ⊥
IsPlainKind k = Unit {0}

abbrev pub IsPlainCause : Cause → Type 0
IsPlainCause (cause.Unconnected port) = ⊥
IsPlainCause (cause.WrongInput port) = ⊥
IsPlainCause (cause.BadFile fault) = ⊥
IsPlainCause c = Unit {0}
