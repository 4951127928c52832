-- The names of keys.
use Rattle.std.specs.Prelude.{◌≡◌, ℕ, ◌+◌, ◌*◌, ◌%◌, ◌<◌, ◌≤◌, List, [], ◌∷◌, length, slice_index}
use Rattle.core.specs.Hash.DefaultHasher as sip
use Rattle.sf_keyed.specs.declared.names.Names.{Names}

-- bytes as a number, the first one lowest
abbrev pub packed : List ℕ → ℕ
packed [] = 0
packed (b ∷ bs) = b + 256 * packed bs

-- a key of at most 15 bytes is its own name: its bytes, and above them its length
abbrev pub short_name : List ℕ → ℕ
short_name key = packed key + length key * 1329227995784915872903807060280344576

-- a longer one has a keyed digest of 127 bits, above which the highest bit is set: of the key, and of the key with one more byte
abbrev pub long_name : Names → List ℕ → ℕ
long_name s key = sip.finish (sip.write (sip.with_keys s.seed0 s.seed1) key) + (sip.finish (sip.write (sip.write (sip.with_keys s.seed0 s.seed1) key) (1 ∷ [])) % 9223372036854775808 + 9223372036854775808) * 18446744073709551616

-- a list of bytes
abbrev pub AreBytes : List ℕ → Type 0
AreBytes key = (i : ℕ) → slice_index key i < 256

-- different keys of at most 15 bytes have different names
abbrev pub ShortKeysApart : Type 0
ShortKeysApart = (k l : List ℕ) → AreBytes k → AreBytes l → length k ≤ 15 → length l ≤ 15 → short_name k ≡ short_name l → k ≡ l

-- and none of them has the name of a longer key
abbrev pub ShortNamesBelowLongOnes : Type 0
ShortNamesBelowLongOnes = (s : Names) (k l : List ℕ) → AreBytes k → length k ≤ 15 → short_name k < long_name s l
