-- what is said where a get answers no value, or a reload forgets nothing
use Rattle.std.specs.Prelude.{ℕ, List, codes}
use Rattle.sf_fill_values.specs.declared.fault.GetRefusal.{GetRefusal}
use Rattle.sf_fill_values.specs.declared.fault.GetRefusal.TheVariants.{KeyTooLong, Full, Spent}
use Rattle.sf_fill_values.specs.declared.fault.LoadFault.{LoadFault}
use Rattle.sf_fill_values.specs.declared.fault.LoadFault.TheVariants.{Refused, Local, Memory, LeaderMemory}

abbrev pub refusal_text : GetRefusal → List ℕ
refusal_text KeyTooLong = codes "key too long"
refusal_text Full = codes "directory full"
refusal_text Spent = codes "spent"

abbrev pub fault_text : LoadFault → List ℕ
fault_text (Refused refusal) = refusal_text refusal
fault_text (Local text) = text
fault_text Memory = codes "out of memory"
fault_text LeaderMemory = codes "out of memory in the load"
