-- Request 4 of document 02: what a JSON text says.
use Rattle.std.specs.Prelude.{Bool, List, ℕ}

mutual
  -- a number by its text, a string by the UTF-8 bytes that it stands for
  pub data Value : Type 0 where
    null : Value
    boolean : Bool → Value
    number : List ℕ → Value
    string : List ℕ → Value
    array : Items → Value
    object : Members → Value

  pub data Items : Type 0 where
    no_items : Items
    item : Value → Items → Items

  -- names and values in the order of the text, a repeated name too
  pub data Members : Type 0 where
    no_members : Members
    member : List ℕ → Value → Members → Members
