-- What the work leaves in the lists that it is lent.
use Rattle.std.specs.Prelude.{Some, ◌≡◌, List, [], ◌∷◌, ◌++◌, ℕ, ◌+◌, ◌-◌, ◌*◌, ◌≤◌, ◌<◌, length, take, drop, get_or}
use Rattle.json_text.specs.Canonical.{canonical}
use Rattle.json_text.specs.Content.{content}
use Rattle.json_text.specs.Refusals.{longest}
use Rattle.json_text.specs.Values.{Value, object, Members}
use Rattle.json_text.specs.Work.{char_len, chars_rest}
use Rattle.member_order.specs.Names.{char_text, chars_text, name_at, name_in}
use Rattle.member_order.specs.Order.{run}
use Rattle.writing.specs.declared.Spot.{Spot}
use Rattle.writing.specs.declared.collect.Collected.{Collected}
use Rattle.writing.specs.Places.{Spans, MemberSpans, Ends, Lie, laid}

-- the bytes x from a place on, and elsewhere what was there
unfoldable pub written : ℕ → List ℕ → List ℕ → List ℕ
written at x o = take at o ++ (x ++ drop (at + length x) o)

-- a char's bytes from pos on, and the places behind both; where no char stands, nothing
pub record PutChar (t : List ℕ) (at : ℕ) (out out' : List ℕ) (pos : ℕ) (r : Spot) : Type 0 where
  pub at_is : r.at ≡ at + char_len (drop at t)
  pub some : 0 < char_len (drop at t) → (out' ≡ written pos (char_text (drop at t)) out) × (r.pos ≡ pos + length (char_text (drop at t)))
  pub none : char_len (drop at t) ≡ 0 → (out' ≡ out) × (r.pos ≡ pos)

-- a string's bytes and FF from pos on; where the string has an end, its end
pub record PutString (t : List ℕ) (at : ℕ) (out out' : List ℕ) (pos : ℕ) (r : Spot) : Type 0 where
  pub bytes : out' ≡ written pos (chars_text (drop at t) ++ 0xFF ∷ []) out
  pub next : r.pos ≡ pos + length (chars_text (drop at t)) + 1
  pub fits : r.at ≤ length t
  pub end : (s : List ℕ) → chars_rest (drop at t) ≡ Some s → drop r.at t ≡ s

-- what skipping a value asks for
pub record Skippable (t ends : List ℕ) (at : ℕ) : Type 0 where
  pub short : length t ≤ longest
  pub known : Ends t ends
  pub room : length t ≤ length ends
  pub end : ℕ
  pub spans : Spans t at end

pub record SkippableMember (t ends : List ℕ) (at : ℕ) : Type 0 where
  pub short : length t ≤ longest
  pub known : Ends t ends
  pub room : length t ≤ length ends
  pub end : ℕ
  pub spans : MemberSpans t at end

-- at each place of a list, w has the name whose first mark stands there in t
abbrev pub Named : (t w qs : List ℕ) → Type 0
Named t w qs = (i : ℕ) → i < length qs → name_in w (get_or qs i 0) ≡ name_at t (get_or qs i 0)

-- an object's members: the places of their names, in the order of the text, from top on, and the names; each takes four bytes of the text or more
pub record Gathered (t ends' places places' names' : List ℕ) (at top : ℕ) (r : Collected) : Type 0 where
  pub known : Ends t ends'
  pub kept : take top places' ≡ take top places
  pub members : Members
  pub spans : Spans t at r.end
  pub value : spans.value ≡ object members
  pub lie : Lie t (r.end - at - 4 * r.count) (run places' top r.count) (laid members)
  pub few : 4 * r.count ≤ r.end - at
  pub named : Named t names' (run places' top r.count)

-- what writing a string, number or literal asks for, and what it leaves
pub record WritesScalar (t out : List ℕ) (at pos : ℕ) : Type 0 where
  pub short : length t ≤ longest
  pub end : ℕ
  pub spans : Spans t at end
  pub room : pos + length (canonical (content spans.value)) ≤ length out

pub record WroteScalar (t out out' : List ℕ) (at pos : ℕ) (r : Spot) : Type 0 where
  pub spans : Spans t at r.at
  pub bytes : out' ≡ written pos (canonical (content spans.value)) out
  pub next : r.pos ≡ pos + length (canonical (content spans.value))

-- a member's name, FF, the canonical bytes of its value
abbrev pub member_bytes : List ℕ → Value → List ℕ
member_bytes x v = x ++ 0xFF ∷ canonical (content v)

-- what writing a value asks for
pub record Writable (t ends places merged names out : List ℕ) (at top pos : ℕ) : Type 0 where
  pub short : length t ≤ longest
  pub known : Ends t ends
  pub room_ends : length t ≤ length ends
  pub room_merged : length t ≤ 4 * length merged
  pub room_names : length t ≤ length names
  pub end : ℕ
  pub spans : Spans t at end
  pub room_places : 4 * top + (end - at) ≤ 4 * length places
  pub room_out : pos + length (canonical (content spans.value)) ≤ length out

-- the same of a member
pub record WritableMember (t ends places merged names out : List ℕ) (at top pos : ℕ) : Type 0 where
  pub short : length t ≤ longest
  pub known : Ends t ends
  pub room_ends : length t ≤ length ends
  pub room_merged : length t ≤ 4 * length merged
  pub room_names : length t ≤ length names
  pub end : ℕ
  pub spans : MemberSpans t at end
  pub room_places : 4 * top + (end - spans.at) ≤ 4 * length places
  pub room_out : pos + length (member_bytes spans.name spans.spans.value) ≤ length out

pub record WroteMember (t ends' places places' out out' : List ℕ) (at top pos next : ℕ) : Type 0 where
  pub known : Ends t ends'
  pub kept : take top places' ≡ take top places
  pub end : ℕ
  pub spans : MemberSpans t at end
  pub bytes : out' ≡ written pos (member_bytes spans.name spans.spans.value) out
  pub next_is : next ≡ pos + length (member_bytes spans.name spans.spans.value)

-- and what it leaves: the canonical bytes from pos on; the places below top stay
pub record Wrote (t ends' places places' out out' : List ℕ) (at top pos : ℕ) (r : Spot) : Type 0 where
  pub known : Ends t ends'
  pub kept : take top places' ≡ take top places
  pub spans : Spans t at r.at
  pub bytes : out' ≡ written pos (canonical (content spans.value)) out
  pub next : r.pos ≡ pos + length (canonical (content spans.value))
