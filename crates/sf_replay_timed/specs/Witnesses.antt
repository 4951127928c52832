-- what prints a witness
use Rattle.std.specs.Prelude.{ℕ, List, ◌++◌, codes, decimal}
use Rattle.sf_replay_check.specs.Checker.{cause_text}
use Rattle.sf_replay_timed.specs.declared.witness.Witness.{Witness}
use Rattle.sf_replay_timed.specs.declared.witness.Witness.TheVariants.{Wrong, Reversed, Crossed, Within, Unclosed, BothUnclosed, Missed, StillCurrent}

abbrev pub witness_text : Witness → List ℕ
witness_text (Wrong e c) = codes "event " ++ (decimal e ++ (codes ": " ++ cause_text c))
witness_text (Reversed a b) = codes "event " ++ (decimal b ++ (codes " has to follow event " ++ (decimal a ++ codes ", and ended before it began")))
witness_text (Crossed a b c d) =
    codes "two calls were open at once: event " ++ (decimal a ++ (codes " ended before event " ++ (decimal b ++ (codes " began, and event " ++ (decimal c ++ (codes " before event " ++ decimal d))))))
witness_text (Within f a b) = codes "event " ++ (decimal f ++ (codes " found no open call, between events " ++ (decimal a ++ (codes " and " ++ (decimal b ++ codes " of one")))))
witness_text (Unclosed a b) =
    codes "the call of event " ++ (decimal a ++ (codes " was not closed, and event " ++ (decimal a ++ (codes " ended before event " ++ (decimal b ++ codes " began")))))
witness_text (BothUnclosed a b) = codes "the calls of events " ++ (decimal a ++ (codes " and " ++ (decimal b ++ codes " were not closed")))
witness_text (Missed f a b) = codes "event " ++ (decimal f ++ (codes " missed its call, between events " ++ (decimal a ++ (codes " and " ++ (decimal b ++ codes " of it")))))
witness_text (StillCurrent f a) = codes "event " ++ (decimal f ++ (codes " missed its call, which was current since event " ++ decimal a))
