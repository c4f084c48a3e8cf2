-- What an answer's numbers say: code 1 is done, code 0 refused, and the number is then the refusal's.
use Rattle.std.specs.Prelude.{◌≡◌, ℕ, Result, Ok, Err}
use Rattle.canonical.specs.declared.NotWritten.{NotWritten}
use Rattle.canonical.specs.Calls as Calls
use Rattle.json_check.specs.declared.Refusal.{Refusal}
use Rattle.json_check.specs.Numbers as Check
use Rattle.rules.specs.Quantities.{Key, key}

-- the number is how many bytes were written
abbrev pub Tells : Result ℕ NotWritten → (code number : ℕ) → Type 0
Tells (Ok n) code number = (code ≡ 1) × (number ≡ n)
Tells (Err e) code number = (code ≡ 0) × (number ≡ Calls.number e)

-- the two numbers are the key's words, or the first is the refusal's
abbrev pub TellsKey : Result Key Refusal → (code key0 key1 : ℕ) → Type 0
TellsKey (Ok k) code key0 key1 = (code ≡ 1) × (key key0 key1 ≡ k)
TellsKey (Err e) code key0 key1 = (code ≡ 0) × (key0 ≡ Check.number e) × (key1 ≡ 0)
