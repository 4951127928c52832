-- the names of the ledgers of a fill
use Rattle.sf_fill_counters.specs.declared.totals.Totals.{Totals}

-- one a counter
abbrev pub LedgerNames : Type 0
LedgerNames = Totals
