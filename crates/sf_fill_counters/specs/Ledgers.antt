-- the ledgers of a fill, and what is counted in them
use Rattle.std.specs.Prelude.{ℕ}
use Rattle.sf_fill_counters.specs.declared.totals.Totals.{Totals}
use Rattle.sf_fill_counters.specs.declared.totals.GetCounts.{GetCounts}
use Rattle.sf_fill_counters.specs.Totals.{each, with_counts}

abbrev pub nothing_counted : Totals
nothing_counted = each (λ counter. 0)

-- parts of a ledger, and what those who had them counted in it
pub record Held : Type 0 where
  pub parts : ℕ
  pub counted : ℕ

-- the same of all ledgers
pub record AllHeld : Type 0 where
  pub parts : ℕ
  pub counted : Totals

-- what a getter has counted, and what of that it has entered in the accounts
pub record Tally : Type 0 where
  pub counted : Totals
  pub entered : Totals

-- of a getter that has counted nothing
abbrev pub new_tally : Tally
new_tally = record { counted = nothing_counted; entered = nothing_counted }

-- one that counted so much more, and entered nothing more
abbrev pub counted_on : Tally → GetCounts → Tally
counted_on t c = record { counted = with_counts t.counted c; entered = t.entered }

-- all that is counted is entered
abbrev pub all_entered : Tally → Tally
all_entered t = record { counted = t.counted; entered = t.counted }

-- one that counted so much more, and has entered all
abbrev pub entered_with : Tally → GetCounts → Tally
entered_with t c = record { counted = with_counts t.counted c; entered = with_counts t.counted c }
