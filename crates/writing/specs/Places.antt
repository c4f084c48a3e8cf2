-- Where values and members stand in a text.
use Rattle.std.specs.Prelude.{◌≡◌, false, List, [], ◌∷◌, ℕ, ◌-◌, ◌≤◌, ◌<◌, length, drop, get_or}
use Rattle.json_text.specs.Content.{content, put}
use Rattle.json_text.specs.Grammar.{Name, Val}
use Rattle.json_text.specs.Values.{Value, Members, no_members, member}
use Rattle.json_text.specs.Work.{byte_at, goes_on}

-- a value from a place up to an end, where nothing lengthens it
pub record Spans (t : List ℕ) (at end : ℕ) : Type 0 where
  pub value : Value
  pub is : Val (drop at t) value (drop end t)
  pub stop : goes_on (byte_at (drop end t) 0) ≡ false
  pub on : at < end
  pub fits : end ≤ length t

-- every end that a list has is one: of the value at that place
abbrev pub Ends : List ℕ → List ℕ → Type 0
Ends t ends = (p : ℕ) → 0 < get_or ends p 0 → Spans t p (get_or ends p 0)

-- a member from the first mark of its name up to an end
pub record MemberSpans (t : List ℕ) (q end : ℕ) : Type 0 where
  pub name : List ℕ
  pub at : ℕ
  pub behind : q < at
  pub named : Name (drop q t) name (drop at t)
  pub spans : Spans t at end

-- the name and the content of a member; its value is at most room long
pub record Holds (t : List ℕ) (room q : ℕ) (x : List ℕ) (w : Value) : Type 0 where
  pub end : ℕ
  pub spans : MemberSpans t q end
  pub name : spans.name ≡ x
  pub content_is : content spans.spans.value ≡ w
  pub few : end - spans.at ≤ room

-- members, with the content of their values, by the places of their names
pub data Lie (t : List ℕ) (room : ℕ) : List ℕ → Members → Type 0 where
  none_lie : Lie t room [] no_members
  one_lies :
      {q : ℕ} {qs : List ℕ} {x : List ℕ} {w : Value} {ms : Members} →
      Holds t room q x w → Lie t room qs ms → Lie t room (q ∷ qs) (member x w ms)

-- members with the content of their values, in the order of the text; and put in order, as `sorted` does
unfoldable pub laid : Members → Members
laid no_members = no_members
laid (member x v ms) = member x (content v) (laid ms)

unfoldable pub puts : Members → Members
puts no_members = no_members
puts (member x w ms) = put x w (puts ms)
