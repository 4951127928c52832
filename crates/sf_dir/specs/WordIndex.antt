-- Where the words of the table lie.
use Rattle.std.specs.Prelude.{ℕ, ◌+◌, ◌*◌, ◌/◌, ◌≤◌}
use Rattle.sf_dir.specs.declared.rule.DirectorySizes.{DirectorySizes}
use Rattle.sf_words.specs.declared.limits.TheConstants.{LARGEST_CALLER, LARGEST_PLACE}

-- 1 to 1,048,576 places, keys of at most 250 bytes, 1 to 65,535 desks
pub record IsWithinLimits (z : DirectorySizes) : Type 0 where
  pub some_key : 1 ≤ z.keys
  pub keys : z.keys ≤ LARGEST_PLACE
  pub key_bytes : z.key_bytes ≤ 250
  pub some_desk : 1 ≤ z.desks
  pub desks : z.desks ≤ LARGEST_CALLER

-- Where the words lie: place n is the word n, the counter is 16 words behind the last place, and the rows begin 16 words behind the counter.
abbrev pub row_width : DirectorySizes → ℕ
row_width z = (z.key_bytes + 7) / 8 + 1

abbrev pub row_count : DirectorySizes → ℕ
row_count z = z.keys + z.desks

abbrev pub counter_at : DirectorySizes → ℕ
counter_at z = z.keys + 16

abbrev pub row_at : DirectorySizes → ℕ → ℕ
row_at z row = z.keys + 32 + row * row_width z

abbrev pub word_total : DirectorySizes → ℕ
word_total z = row_at z (row_count z)
