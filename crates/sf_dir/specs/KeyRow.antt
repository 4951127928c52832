-- A key as words: what its row holds, and the order in which its walk goes over the places.
use Rattle.std.specs.Prelude.{ℕ, zero, suc, ◌+◌, ◌*◌, ◌/◌, ◌%◌, List, length, drop}
use Rattle.std.specs.Int.{w64, from_le_bytes}
use Rattle.core.specs.Hash.DefaultHasher as sip
use Rattle.sf_dir.specs.declared.rule.DirectorySizes.{DirectorySizes}

-- the key's word of this index, eight bytes with the first lowest, zeros past the key
unfoldable pub key_word : List ℕ → ℕ → ℕ
key_word key index = from_le_bytes w64 (drop (index * 8) key)

-- how many words a key of this length has
abbrev pub words_of : ℕ → ℕ
words_of len = (len + 7) / 8

-- the words of the key's row: its length, and then its bytes
abbrev pub row_word : List ℕ → ℕ → ℕ
row_word key zero = length key
row_word key (suc index) = key_word key index

-- SipHash-1-3 of the key, by the directory's seed
abbrev pub hash_of : DirectorySizes → List ℕ → ℕ
hash_of z key = sip.finish (sip.write (sip.with_keys z.seed0 z.seed1) key)

-- the index of the place at which a walk begins: the hash's upper half, scaled down to the places
abbrev pub first_index : ℕ → ℕ → ℕ
first_index hash keys = hash / 0x1_0000_0000 * keys / 0x1_0000_0000

-- the place that the key's walk comes to after this many: it goes round once
abbrev pub place_after : DirectorySizes → List ℕ → ℕ → ℕ
place_after z key passed = (first_index (hash_of z key) z.keys + passed) % z.keys + 1
