-- Reading a text from its front, one value, bracket or comma at a time. The proofs show that this reads what the grammar has.
use Rattle.std.specs.Prelude.{None, Option, Some, ◌≡◌, Bool, true, false, ◌||◌, cond, List, [], ◌∷◌, ℕ, eqb, length, drop}
use Rattle.json_text.specs.Bytes.{is_digit}
use Rattle.json_text.specs.Refusals.{number_fault, depth_fault, first}
use Rattle.json_text.specs.Work.{byte_at, skip_ws, chars_rest, number_rest, up_to, literal_rest, name_rest}

-- The brackets that are open, the innermost first (true for an array), what is left of the text, and the first fault so far.
pub data State : Type 0 where
  -- a value is to begin here
  value : (open-brackets : List Bool) (left : List ℕ) (found : ℕ) → State
  -- a value has ended here
  after : (open-brackets : List Bool) (left : List ℕ) (found : ℕ) → State

pub data Next : Type 0 where
  go : State → Next
  done : ℕ → Next
  bad : Next

abbrev pub onward : Option (List ℕ) → (List ℕ → State) → Next
onward None f = bad
onward (Some r) f = go (f r)

-- behind an opening bracket and its ws
unfoldable pub in_array : List Bool → List ℕ → ℕ → Next
in_array k s g = cond (eqb (byte_at s 0) 0x5D) (go (after k (drop 1 s) g)) (go (value (true ∷ k) s g))

unfoldable pub in_object : List Bool → List ℕ → ℕ → Next
in_object k s g = cond (eqb (byte_at s 0) 0x7D) (go (after k (drop 1 s) g)) (onward (name_rest s) (λ r. value (false ∷ k) r g))

unfoldable pub of_string : List Bool → List ℕ → ℕ → Next
of_string k s g = onward (chars_rest (drop 1 s)) (λ r. after k r g)

unfoldable pub of_number : List Bool → List ℕ → ℕ → Next
of_number k s g = onward (number_rest s) (λ r. after k r (first g (number_fault (up_to r s))))

unfoldable pub of_literal : List Bool → List ℕ → ℕ → Next
of_literal k s g = onward (literal_rest s) (λ r. after k r g)

unfoldable pub of_value : List Bool → List ℕ → ℕ → Next
of_value k s g =
    cond (eqb (byte_at s 0) 0x22) (of_string k s g)
    (cond (eqb (byte_at s 0) 0x2D || is_digit (byte_at s 0)) (of_number k s g)
    (cond (eqb (byte_at s 0) 0x5B) (in_array k (skip_ws (drop 1 s)) (first g (depth_fault (length k))))
    (cond (eqb (byte_at s 0) 0x7B) (in_object k (skip_ws (drop 1 s)) (first g (depth_fault (length k))))
    (of_literal k s g))))

-- behind a value and its ws
abbrev pub no_more : List ℕ → ℕ → Next
no_more [] g = done g
no_more (b ∷ s) g = bad

unfoldable pub after_item : List Bool → List ℕ → ℕ → Next
after_item k s g =
    cond (eqb (byte_at s 0) 0x5D) (go (after k (drop 1 s) g))
    (cond (eqb (byte_at s 0) 0x2C) (go (value (true ∷ k) (skip_ws (drop 1 s)) g))
    bad)

unfoldable pub after_member : List Bool → List ℕ → ℕ → Next
after_member k s g =
    cond (eqb (byte_at s 0) 0x7D) (go (after k (drop 1 s) g))
    (cond (eqb (byte_at s 0) 0x2C) (onward (name_rest (skip_ws (drop 1 s))) (λ r. value (false ∷ k) r g))
    bad)

unfoldable pub of_after : List Bool → List ℕ → ℕ → Next
of_after [] s g = no_more s g
of_after (true ∷ k) s g = after_item k s g
of_after (false ∷ k) s g = after_member k s g

unfoldable pub next : State → Next
next (value k s g) = of_value k s g
next (after k s g) = of_after k (skip_ws s) g

-- what is found in the end: the first fault of a text, or that there is no text
pub data Run : State → Option ℕ → Type 0 where
  ended : {q : State} {g : ℕ} → next q ≡ done g → Run q (Some g)
  stopped : {q : State} → next q ≡ bad → Run q None
  goes : {q p : State} {o : Option ℕ} → next q ≡ go p → Run p o → Run q o

abbrev pub start : List ℕ → State
start t = value [] (skip_ws t) 0
