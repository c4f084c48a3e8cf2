-- Request 4 of document 02: the canonical bytes of a content, as the Rust's `canonical` writes them. The quoted words are the request's.
use Rattle.std.specs.Prelude.{Bool, true, false, List, [], ◌∷◌, ◌++◌, ℕ, zero, suc, ◌/◌, ◌%◌}
use Rattle.json_text.specs.Values.{Value, null, boolean, number, string, array, object}
use Rattle.json_text.specs.Values.{Items, no_items, item, Members, no_members, member}

-- "its length as eight little-endian bytes"
unfoldable pub little_endian : (bytes n : ℕ) → List ℕ
little_endian zero n = []
little_endian (suc k) n = (n % 256) ∷ little_endian k (n / 256)

unfoldable pub items : Items → ℕ
items no_items = 0
items (item v vs) = suc (items vs)

unfoldable pub members : Members → ℕ
members no_members = 0
members (member x v ms) = suc (members ms)

abbrev pub byte_of : Bool → ℕ
byte_of true = 1
byte_of false = 0

unfoldable mutual
  pub canonical : Value → List ℕ
  -- "Null is byte 0, a bool 1 and its byte, a number 2, its text and FF, a string 3, its text and FF."
  canonical null = 0 ∷ []
  canonical (boolean b) = 1 ∷ byte_of b ∷ []
  canonical (number x) = 2 ∷ (x ++ 0xFF ∷ [])
  canonical (string x) = 3 ∷ (x ++ 0xFF ∷ [])
  -- "An array is 4, its length as eight little-endian bytes, its items."
  canonical (array vs) = 4 ∷ (little_endian 8 (items vs) ++ canonical_items vs)
  -- "An object is 5, its length, then for each key in byte order its text, FF, the item."
  canonical (object ms) = 5 ∷ (little_endian 8 (members ms) ++ canonical_members ms)

  pub canonical_items : Items → List ℕ
  canonical_items no_items = []
  canonical_items (item v vs) = canonical v ++ canonical_items vs

  pub canonical_members : Members → List ℕ
  canonical_members no_members = []
  canonical_members (member x v ms) = x ++ 0xFF ∷ (canonical v ++ canonical_members ms)
