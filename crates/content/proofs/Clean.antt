-- The content of a text is clean: none of its numbers, strings and names has a byte FF.
use mathlib.Core.List.{List}
use Prim.Native.Nat.{ℕ}
use Rattle.json_text.specs.Content.{before, put, content, contents, sorted}
use Rattle.json_text.specs.Grammar.{Val, a_null, a_true, a_false, a_number, a_string, empty_array, an_array, empty_object, an_object}
use Rattle.json_text.specs.Grammar.{MoreItems, end_array, next_item, MoreMembers, end_object, next_member}
use Rattle.json_text.specs.Values.{Value, null, boolean, number, string, array, object}
use Rattle.json_text.specs.Values.{Items, no_items, item, Members, no_members, member}
use Rattle.rules.proofs.Tests.{by_cond}
use Rattle.content.proofs.CleanChars.{chars-below, name_below}
use Rattle.content.proofs.NumberTexts.{Below, number-below}

abbrev mutual
  pub Clean : Value → Type 0
  Clean null = Unit {0}
  Clean (boolean b) = Unit {0}
  Clean (number x) = Below x
  Clean (string x) = Below x
  Clean (array vs) = CleanItems vs
  Clean (object ms) = CleanMembers ms

  pub CleanItems : Items → Type 0
  CleanItems no_items = Unit {0}
  CleanItems (item v vs) = Clean v × CleanItems vs

  pub CleanMembers : Members → Type 0
  CleanMembers no_members = Unit {0}
  CleanMembers (member x v ms) = Below x × Clean v × CleanMembers ms

clean-put : (x : List ℕ) (v : Value) (ms : Members) → Below x → Clean v → CleanMembers ms → CleanMembers (put x v ms)
unfolding put
clean-put x v no_members b c d = (b, c, d)
clean-put x v (member y w ms) b c d =
    let h = clean-put x v ms b c d.2 in
    by_cond CleanMembers (before x y) (λ e. (b, c, d)) (λ e. by_cond CleanMembers (before y x) (λ e. (d.0, d.1, h)) (λ e. d))

mutual
  unfolding content contents sorted

  pub clean : {s r : List ℕ} {v : Value} → Val s v r → Clean (content v)
  clean a_null = tt
  clean a_true = tt
  clean a_false = tt
  clean (a_number {x = x} n e) = number-below x n e
  clean (a_string c) = chars-below c
  clean (empty_array w) = tt
  clean (an_array w x m) = (clean x, clean-items m)
  clean (empty_object w) = tt
  clean (an_object {x = x} {v = v} {ms = ms} w n y m) =
      clean-put x (content v) (sorted ms) (name_below n) (clean y) (clean-members m)

  clean-items : {s r : List ℕ} {vs : Items} → MoreItems s vs r → CleanItems (contents vs)
  clean-items (end_array w) = tt
  clean-items (next_item w u x m) = (clean x, clean-items m)

  clean-members : {s r : List ℕ} {ms : Members} → MoreMembers s ms r → CleanMembers (sorted ms)
  clean-members (end_object w) = tt
  clean-members (next_member {x = x} {v = v} {ms = ms} w u n y m) =
      clean-put x (content v) (sorted ms) (name_below n) (clean y) (clean-members m)
