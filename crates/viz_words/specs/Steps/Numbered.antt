-- Numbers of words, one after the other: words of private contracts alone.
use Rattle.std.specs.Prelude.{ℤ, List, ◌++◌, Result, Ok, Err}
use Rattle.viz_words.specs.declared.refusal.ScriptRefusal.{ScriptRefusal}

-- the numbers so far, and those that are read behind them
abbrev pub numbers_behind : List ℤ → Result (List ℤ) ScriptRefusal → Result (List ℤ) ScriptRefusal
numbers_behind front (Ok ns) = Ok (front ++ ns)
numbers_behind front (Err e) = Err e
