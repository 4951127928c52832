-- names that no key space and no group has: what a pick replaces
use Rattle.std.proofs.Common.{[], inl}
use Rattle.atomic_table.specs.Seated.{TableId}
use Rattle.sf_group_rows.specs.Tokens.{GroupValue}
use Rattle.sf_fill_keys.specs.Spaces.{SpaceId}
use Rattle.sf_fill_counters.specs.Names.{LedgerNames}
use Rattle.sf_fill_counters.specs.Ledgers.{nothing_counted}

abbrev pub no_table : TableId
no_table = record { words = 0; slots = 0; views_name = 0; atom = 0; block = 0; offset = 0; slot_names = [] }

abbrev pub no_space : SpaceId
no_space = inl (record { table = no_table; keys = 0; key_bytes = 0; desks = 0; seed0 = 0; seed1 = 0 })

abbrev pub no_group : GroupValue
no_group = record { table = no_table; sizes = record { places = 0; callers = 0; first = 0 } }

abbrev pub no_ledgers : LedgerNames
no_ledgers = nothing_counted
