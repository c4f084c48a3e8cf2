-- Request 4 of document 02: venue messages in, keys out.
use Rattle.std.specs.Prelude.{◌≡◌, List, ℕ, Result, Ok, Err}
use Rattle.canonical.specs.Calls.{Message}
use Rattle.json_text.specs.Canonical.{canonical}
use Rattle.json_text.specs.Content.{content}
use Rattle.json_text.specs.Refusals.{Judged}
use Rattle.keys.specs.Keys.{key_of}
use Rattle.json_check.specs.declared.Refusal.{Refusal}
use Rattle.json_check.specs.Numbers.{number}
use Rattle.rules.specs.Quantities.{Key}

-- the key of the canonical bytes of an accepted message
pub record KeyOf (t : List ℕ) (k : Key) : Type 0 where
  pub message : Message t
  pub is : k ≡ key_of (canonical (content message.value))

-- the key, or the refusal by its number
pub data Answers (t : List ℕ) : Result Key Refusal → Type 0 where
  keyed : {k : Key} → KeyOf t k → Answers t (Ok k)
  refused : {e : Refusal} → Judged t (number e) → Answers t (Err e)
