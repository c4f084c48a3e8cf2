-- The bytes that a string stands for, read off its text as a function, and how two names lie.
use Rattle.std.specs.Prelude.{◌≡◌, Bool, true, false, cond, List, [], ◌∷◌, ◌++◌, ℕ, zero, suc, ◌+◌, ◌≤◌, ◌<◌, ltb, eqb, length, take, drop}
use Rattle.json_text.specs.Bytes.{plain, escape_of, is_scalar, joined, utf8}
use Rattle.json_text.specs.Content.{before}
use Rattle.json_text.specs.Work.{byte_at, hex_at, utf8_len, char_len, up_to_ff}
use Rattle.member_order.specs.declared.names.Decoded.{Decoded}
use Rattle.std.specs.declared.cmp.Ordering.{Ordering}

-- of the char that s begins with
unfoldable pub escape_text : List ℕ → List ℕ
escape_text s =
    cond (ltb (escape_of (byte_at s 1)) 256) (escape_of (byte_at s 1) ∷ [])
    (cond (is_scalar (hex_at s 2)) (utf8 (hex_at s 2))
    (utf8 (joined (hex_at s 2) (hex_at s 8))))

unfoldable pub char_text : List ℕ → List ℕ
char_text s = cond (plain (byte_at s 0)) (byte_at s 0 ∷ []) (cond (eqb (byte_at s 0) 0x5C) (escape_text s) (take (utf8_len s) s))

-- of a string, up to its closing mark; n bounds how many chars are read
unfoldable pub text_from : ℕ → List ℕ → List ℕ
text_from zero s = []
text_from (suc n) s =
    cond (eqb (byte_at s 0) 0x22) [] (cond (eqb (char_len s) 0) [] (char_text s ++ text_from n (drop (char_len s) s)))

unfoldable pub chars_text : List ℕ → List ℕ
chars_text s = text_from (length s) s

-- of the name whose first mark stands at a place
abbrev pub name_at : List ℕ → ℕ → List ℕ
name_at t p = chars_text (drop (p + 1) t)

abbrev pub text_of : Decoded → List ℕ
text_of d = take d.len (d.b0 ∷ d.b1 ∷ d.b2 ∷ d.b3 ∷ [])

pub record Decodes (x : List ℕ) (d : Decoded) : Type 0 where
  pub is : text_of d ≡ x
  pub some : 0 < d.len
  pub most : d.len ≤ 4

-- a name in a list of bytes, from a place up to an FF
abbrev pub name_in : List ℕ → ℕ → List ℕ
name_in w p = up_to_ff (drop p w)

abbrev pub pick_order : Bool → Ordering → Ordering → Ordering
pick_order true a b = a
pick_order false a b = b

unfoldable pub order_of : List ℕ → List ℕ → Ordering
order_of x y = pick_order (before x y) Ordering.Less (pick_order (before y x) Ordering.Greater Ordering.Equal)
