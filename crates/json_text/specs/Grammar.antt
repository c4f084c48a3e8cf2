-- RFC 8259, sections 2 to 5 and 7. `P s r` says that the bytes s begin with a P, and that r is what follows it; `P s x r`, that the P
-- stands for x. The ws around a structural character is written once: in front of : , ] } and behind [ { : , and around the text.
use Rattle.std.specs.Prelude.{◌≡◌, true, false, ◌&&◌, List, [], ◌∷◌, ◌++◌, ℕ, ltb}
use Rattle.json_text.specs.Bytes.{
  within,
  is_ws,
  plain,
  tail,
  first_of_three,
  first_of_four,
  escape_of,
  hex_four,
  is_scalar,
  is_high,
  is_low,
  joined,
  utf8,
}
use Rattle.json_text.specs.Numbers.{Number}
use Rattle.json_text.specs.Values.{Value, null, boolean, number, string, array, object}
use Rattle.json_text.specs.Values.{Items, no_items, item, Members, no_members, member}

-- ws = *( %x20 / %x09 / %x0_a / %x0_d )
pub data Ws : List ℕ → List ℕ → Type 0 where
  no_ws : {r : List ℕ} → Ws r r
  ws : {b : ℕ} {s r : List ℕ} → is_ws b ≡ true → Ws s r → Ws (b ∷ s) r

-- char = unescaped / escape ( .. ), with the bytes that it stands for. UTF-8 beyond one byte is RFC 3629's UTF8-2, UTF8-3 and UTF8-4.
pub data Char : List ℕ → List ℕ → List ℕ → Type 0 where
  one : {a : ℕ} {r : List ℕ} → plain a ≡ true → Char (a ∷ r) (a ∷ []) r
  two : {a b : ℕ} {r : List ℕ} → (within 0xC2 0xDF a && tail b) ≡ true → Char (a ∷ b ∷ r) (a ∷ b ∷ []) r
  three :
      {a b c : ℕ} {r : List ℕ} → (first_of_three a b && tail c) ≡ true → Char (a ∷ b ∷ c ∷ r) (a ∷ b ∷ c ∷ []) r
  four :
      {a b c d : ℕ} {r : List ℕ} →
      (first_of_four a b && (tail c && tail d)) ≡ true → Char (a ∷ b ∷ c ∷ d ∷ r) (a ∷ b ∷ c ∷ d ∷ []) r
  escaped : {a : ℕ} {r : List ℕ} → ltb (escape_of a) 256 ≡ true → Char (0x5C ∷ a ∷ r) (escape_of a ∷ []) r
  -- %x75 4HEXDIG
  unicode :
      {a b c d : ℕ} {r : List ℕ} →
      is_scalar (hex_four a b c d) ≡ true → Char (0x5C ∷ 0x75 ∷ a ∷ b ∷ c ∷ d ∷ r) (utf8 (hex_four a b c d)) r
  -- two of them, as a surrogate pair
  pair :
      {a b c d e f g h : ℕ} {r : List ℕ} →
      (is_high (hex_four a b c d) && is_low (hex_four e f g h)) ≡ true →
      Char (0x5C ∷ 0x75 ∷ a ∷ b ∷ c ∷ d ∷ 0x5C ∷ 0x75 ∷ e ∷ f ∷ g ∷ h ∷ r) (utf8 (joined (hex_four a b c d) (hex_four e f g h))) r

-- string = quotation-mark *char quotation-mark, from behind the first mark on
pub data Chars : List ℕ → List ℕ → List ℕ → Type 0 where
  mark : {r : List ℕ} → Chars (0x22 ∷ r) [] r
  char : {s x t y r : List ℕ} → Char s x t → Chars t y r → Chars s (x ++ y) r

-- the front of member = string name-separator value, name-separator = ws %x3_a ws
pub data Name : List ℕ → List ℕ → List ℕ → Type 0 where
  name : {s x t u r : List ℕ} → Chars s x t → Ws t (0x3A ∷ u) → Ws u r → Name (0x22 ∷ s) x r

mutual
  -- value = false / null / true / object / array / number / string
  pub data Val : List ℕ → Value → List ℕ → Type 0 where
    a_null : {r : List ℕ} → Val (0x6E ∷ 0x75 ∷ 0x6C ∷ 0x6C ∷ r) null r
    a_true : {r : List ℕ} → Val (0x74 ∷ 0x72 ∷ 0x75 ∷ 0x65 ∷ r) (boolean true) r
    a_false : {r : List ℕ} → Val (0x66 ∷ 0x61 ∷ 0x6C ∷ 0x73 ∷ 0x65 ∷ r) (boolean false) r
    a_number : {s x r : List ℕ} → Number s r → s ≡ x ++ r → Val s (number x) r
    a_string : {s x r : List ℕ} → Chars s x r → Val (0x22 ∷ s) (string x) r
    -- array = begin-array [ value *( value-separator value ) ] end_array
    empty_array : {s r : List ℕ} → Ws s (0x5D ∷ r) → Val (0x5B ∷ s) (array no_items) r
    an_array :
        {s t u r : List ℕ} {v : Value} {vs : Items} →
        Ws s t → Val t v u → MoreItems u vs r → Val (0x5B ∷ s) (array (item v vs)) r
    -- object = begin-object [ member *( value-separator member ) ] end_object
    empty_object : {s r : List ℕ} → Ws s (0x7D ∷ r) → Val (0x7B ∷ s) (object no_members) r
    an_object :
        {s t x u w r : List ℕ} {v : Value} {ms : Members} →
        Ws s t → Name t x u → Val u v w → MoreMembers w ms r → Val (0x7B ∷ s) (object (member x v ms)) r

  -- *( value-separator value ) end_array
  pub data MoreItems : List ℕ → Items → List ℕ → Type 0 where
    end_array : {s r : List ℕ} → Ws s (0x5D ∷ r) → MoreItems s no_items r
    next_item :
        {s t u w r : List ℕ} {v : Value} {vs : Items} →
        Ws s (0x2C ∷ t) → Ws t u → Val u v w → MoreItems w vs r → MoreItems s (item v vs) r

  -- *( value-separator member ) end_object
  pub data MoreMembers : List ℕ → Members → List ℕ → Type 0 where
    end_object : {s r : List ℕ} → Ws s (0x7D ∷ r) → MoreMembers s no_members r
    next_member :
        {s t u x w y r : List ℕ} {v : Value} {ms : Members} →
        Ws s (0x2C ∷ t) → Ws t u → Name u x w → Val w v y → MoreMembers y ms r → MoreMembers s (member x v ms) r

-- JSON-text = ws value ws
pub data Text : List ℕ → Value → Type 0 where
  text : {s t u : List ℕ} {v : Value} → Ws s t → Val t v u → Ws u [] → Text s v
