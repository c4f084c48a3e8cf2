-- 01, Keys and the program: the key of a message's bytes.
use Rattle.std.specs.Prelude.{ℕ, List, [], ◌∷◌, ◌++◌}
use Rattle.rules.specs.Quantities.{Key, key}
use Rattle.keys.specs.Sip.{sip}

-- the eight little-endian bytes of hexadecimal 9E3779B97F4A7C15
unfoldable pub prefix : List ℕ
prefix = 0x15 ∷ 0x7C ∷ 0x4A ∷ 0x7F ∷ 0xB9 ∷ 0x79 ∷ 0x37 ∷ 0x9E ∷ []

-- the hash of the bytes; as second word, the hash of the prefix and the bytes
abbrev pub key_of : List ℕ → Key
key_of m = key (sip m) (sip (prefix ++ m))
