-- Request 4 of document 02: the call. The quoted words are the request's.
use Rattle.std.specs.Prelude.{◌≡◌, List, ◌++◌, ℕ, ◌≤◌, ◌<◌, length, drop, Result, Ok, Err}
use Rattle.json_text.specs.Canonical.{canonical}
use Rattle.json_text.specs.Content.{content}
use Rattle.json_text.specs.Grammar.{Text}
use Rattle.json_text.specs.Refusals.{longest, Judged, fault}
use Rattle.json_text.specs.Values.{Value}
use Rattle.json_check.specs.Numbers as Check
use Rattle.canonical.specs.declared.NotWritten.{NotWritten}

-- "An output under 163,840 bytes is refused with 3, before the rest."
abbrev pub least : ℕ
least = 163840

-- the number of a refusal of a text with an output of a length
pub data Refused (t : List ℕ) (room : ℕ) : ℕ → Type 0 where
  no_room : room < least → Refused t room 3
  judged : {n : ℕ} → least ≤ room → Judged t n → 0 < n → Refused t room n

-- the text of a message that is to be accepted, and what is written of it
pub record Message (t : List ℕ) : Type 0 where
  pub short : length t ≤ longest
  pub value : Value
  pub text : Text t value
  pub faultless : fault 0 value ≡ 0

pub record WroteMessage (t out out' : List ℕ) (count : ℕ) : Type 0 where
  pub message : Message t
  pub count_is : count ≡ length (canonical (content message.value))
  pub bytes : out' ≡ canonical (content message.value) ++ drop count out

-- why nothing is written, by its number
abbrev pub number : NotWritten → ℕ
number NotWritten.ShortOutput = 3
number (NotWritten.Text r) = Check.number r

-- accepted: the bytes at the front and their count, places behind them stay; refused: the number, nothing changed
pub data Answered (t out : List ℕ) : List ℕ → Result ℕ NotWritten → Type 0 where
  accepted : {out' : List ℕ} {count : ℕ} → least ≤ length out → WroteMessage t out out' count → Answered t out out' (Ok count)
  refused : {e : NotWritten} → Refused t (length out) (number e) → Answered t out out (Err e)
