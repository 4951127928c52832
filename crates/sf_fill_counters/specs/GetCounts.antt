-- what one get counts
use Rattle.sf_loaders.specs.declared.counts.Counts.{Counts}
use Rattle.sf_fill_counters.specs.declared.totals.GetCounts.{GetCounts}

-- where the load path is not run
abbrev pub no_run : Counts
no_run = record { loads_deduped = 0; peer_loads = 0; peer_errors = 0; local_loads = 0; local_load_errors = 0 }

-- a get that a cache answers, one that asks the group, one whose leader finds a value in a cache, and one that neither asks nor hits
abbrev pub hit_counts : GetCounts
hit_counts = record { gets = 1; cache_hits = 1; loads = 0; run = no_run }

abbrev pub load_counts : Counts → GetCounts
load_counts run = record { gets = 1; cache_hits = 0; loads = 1; run = run }

abbrev pub second_look_counts : GetCounts
second_look_counts = record { gets = 1; cache_hits = 1; loads = 1; run = no_run }

abbrev pub get_alone : GetCounts
get_alone = record { gets = 1; cache_hits = 0; loads = 0; run = no_run }
