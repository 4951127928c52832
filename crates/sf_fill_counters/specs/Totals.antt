-- what a fill counts, over all its getters
use Rattle.std.specs.Prelude.{◌≡◌, ℕ, ◌+◌, ◌≤◌, List}
use Rattle.std.specs.List.{sum_by}
use Rattle.sf_fill_counters.specs.declared.totals.Totals.{Totals}
use Rattle.sf_fill_counters.specs.declared.totals.GetCounts.{GetCounts}
use Rattle.sf_fill_counters.specs.declared.totals.Ledgers.{Ledgers}
use Rattle.sf_fill_counters.specs.Names.{LedgerNames}

-- what is said of each counter, in the order in which they are printed
abbrev pub each : ((Totals → ℕ) → ℕ) → Totals
each f = record { gets = f (λ t. t.gets); cache_hits = f (λ t. t.cache_hits); loads = f (λ t. t.loads); loads_deduped = f (λ t. t.loads_deduped); peer_loads = f (λ t. t.peer_loads); peer_errors = f (λ t. t.peer_errors); local_loads = f (λ t. t.local_loads); local_load_errors = f (λ t. t.local_load_errors) }

pub same_each : (f g : (Totals → ℕ) → ℕ) → ((counter : Totals → ℕ) → f counter ≡ g counter) → each f ≡ each g
same_each f g same = λ i. each (λ counter. same counter i)

-- no counter is above Gets
pub record IsWithinGets (c : Totals) : Type 0 where
  pub cache_hits : c.cache_hits ≤ c.gets
  pub loads : c.loads ≤ c.gets
  pub loads_deduped : c.loads_deduped ≤ c.gets
  pub peer_loads : c.peer_loads ≤ c.gets
  pub peer_errors : c.peer_errors ≤ c.gets
  pub local_loads : c.local_loads ≤ c.gets
  pub local_load_errors : c.local_load_errors ≤ c.gets

-- each counter rose by as much
abbrev pub plus : Totals → Totals → Totals
plus a b = each (λ counter. counter a + counter b)

-- for each counter, the sum over all
abbrev pub sums_of : List Totals → Totals
sums_of all = each (λ counter. sum_by counter all)

-- a get is counted once, and no other counter rises by more
pub record IsOfOneGet (c : GetCounts) : Type 0 where
  pub gets : c.gets ≡ 1
  pub cache_hits : c.cache_hits ≤ 1
  pub loads : c.loads ≤ 1
  pub loads_deduped : c.run.loads_deduped ≤ 1
  pub peer_loads : c.run.peer_loads ≤ 1
  pub peer_errors : c.run.peer_errors ≤ 1
  pub local_loads : c.run.local_loads ≤ 1
  pub local_load_errors : c.run.local_load_errors ≤ 1

-- what each counter rises by
abbrev pub counts_in : GetCounts → Totals
counts_in c = record { gets = c.gets; cache_hits = c.cache_hits; loads = c.loads; loads_deduped = c.run.loads_deduped; peer_loads = c.run.peer_loads; peer_errors = c.run.peer_errors; local_loads = c.run.local_loads; local_load_errors = c.run.local_load_errors }

abbrev pub with_counts : Totals → GetCounts → Totals
with_counts a c = record { gets = a.gets + c.gets; cache_hits = a.cache_hits + c.cache_hits; loads = a.loads + c.loads; loads_deduped = a.loads_deduped + c.run.loads_deduped; peer_loads = a.peer_loads + c.run.peer_loads; peer_errors = a.peer_errors + c.run.peer_errors; local_loads = a.local_loads + c.run.local_loads; local_load_errors = a.local_load_errors + c.run.local_load_errors }

-- the names of these ledgers
abbrev pub names_of : Ledgers → LedgerNames
names_of l = record { gets = l.gets.name; cache_hits = l.cache_hits.name; loads = l.loads.name; loads_deduped = l.loads_deduped.name; peer_loads = l.peer_loads.name; peer_errors = l.peer_errors.name; local_loads = l.local_loads.name; local_load_errors = l.local_load_errors.name }

-- the ledgers have these names, and as many parts as there are getters
pub record AreNamed (names : LedgerNames) (getters : ℕ) (ledgers : Ledgers) : Type 0 where
  pub gets : (ledgers.gets.name ≡ names.gets) × (ledgers.gets.parts ≡ getters)
  pub cache_hits : (ledgers.cache_hits.name ≡ names.cache_hits) × (ledgers.cache_hits.parts ≡ getters)
  pub loads : (ledgers.loads.name ≡ names.loads) × (ledgers.loads.parts ≡ getters)
  pub loads_deduped : (ledgers.loads_deduped.name ≡ names.loads_deduped) × (ledgers.loads_deduped.parts ≡ getters)
  pub peer_loads : (ledgers.peer_loads.name ≡ names.peer_loads) × (ledgers.peer_loads.parts ≡ getters)
  pub peer_errors : (ledgers.peer_errors.name ≡ names.peer_errors) × (ledgers.peer_errors.parts ≡ getters)
  pub local_loads : (ledgers.local_loads.name ≡ names.local_loads) × (ledgers.local_loads.parts ≡ getters)
  pub local_load_errors : (ledgers.local_load_errors.name ≡ names.local_load_errors) × (ledgers.local_load_errors.parts ≡ getters)
