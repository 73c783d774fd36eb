use Rattle.std.proofs.Common.{inl, inr}
use Rattle.viz_legacy_read.proofs.laws.headers_stop_where_files_do.Goals as goal

pub returns-clause-stops : goal.returns-clause-stops
returns-clause-stops c = λ bytes pick unit fault h. inl h

pub returns-clause-further : goal.returns-clause-further
returns-clause-further c = λ bytes pick unit fault h. elim h [ inl stops ↦ inl stops | inr further ↦ inr (further.0, (further.1, further.2)) ]

pub returns-clause-reads : goal.returns-clause-reads
returns-clause-reads c = λ bytes pick unit d h. (h.1.0, (h.1.1, h.1.2))
