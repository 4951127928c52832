-- what a refusal of the group prints
use Rattle.std.specs.Prelude.{ℕ, List, ◌++◌, codes, decimal}
use Rattle.sf_sequential.specs.declared.refusal.ModelRefusal.{ModelRefusal}
use Rattle.sf_sequential.specs.declared.refusal.ModelRefusal.TheVariants.{NotFree, NotLeading, NothingAsked, Spent, Memory}

-- why the group refuses a call
abbrev pub cause_text : ModelRefusal → List ℕ
cause_text (NotFree a) = codes "caller " ++ (decimal a ++ codes " is not free")
cause_text (NotLeading a) = codes "caller " ++ (decimal a ++ codes " is not leading")
cause_text (NothingAsked a) = codes "caller " ++ (decimal a ++ codes " has nothing to take")
cause_text (Spent a) = codes "caller " ++ (decimal a ++ codes " is spent")
cause_text Memory = codes "out of memory"
