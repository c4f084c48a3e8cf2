-- Request 4 of document 02: the content of a message. The quoted words are the request's.
use Rattle.std.specs.Prelude.{Bool, true, false, cond, List, [], ◌∷◌, ℕ, ltb}
use Rattle.json_text.specs.Values.{Value, null, boolean, number, string, array, object}
use Rattle.json_text.specs.Values.{Items, no_items, item, Members, no_members, member}

-- "in byte order"
unfoldable pub before : List ℕ → List ℕ → Bool
before [] [] = false
before [] (b ∷ y) = true
before (a ∷ x) [] = false
before (a ∷ x) (b ∷ y) = cond (ltb a b) true (cond (ltb b a) false (before x y))

-- a member in front of others that lie in order: "A repeated object key keeps its last item."
unfoldable pub put : List ℕ → Value → Members → Members
put x v no_members = member x v no_members
put x v (member y w ms) =
    cond (before x y) (member x v (member y w ms))
    (cond (before y x) (member y w (put x v ms))
    (member y w ms))

-- a value with the members of its objects in order, each key once
unfoldable mutual
  pub content : Value → Value
  content null = null
  content (boolean b) = boolean b
  content (number x) = number x
  content (string x) = string x
  content (array vs) = array (contents vs)
  content (object ms) = object (sorted ms)

  pub contents : Items → Items
  contents no_items = no_items
  contents (item v vs) = item (content v) (contents vs)

  pub sorted : Members → Members
  sorted no_members = no_members
  sorted (member x v ms) = put x (content v) (sorted ms)
