-- the one line that a refused script prints
use Rattle.std.specs.Prelude.{ℕ, List, ◌++◌, codes, decimal}
use Rattle.sf_sequential.specs.CauseText.{cause_text}
use Rattle.sf_model.specs.declared.refusal.ScriptRefusal.{ScriptRefusal}
use Rattle.sf_model.specs.declared.refusal.ScriptRefusal.TheVariants.{BadLine, Refused, OutOfMemory}

-- the one line of a refused script
abbrev pub refusal_text : ScriptRefusal → List ℕ
refusal_text (BadLine n) = codes "line " ++ (decimal n ++ codes ": not a command")
refusal_text (Refused n e) = codes "line " ++ (decimal n ++ (codes ": " ++ cause_text e))
refusal_text OutOfMemory = codes "out of memory"
