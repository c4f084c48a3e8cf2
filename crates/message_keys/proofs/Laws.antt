-- The bytes at the front of an output are a message's, and so is their key.
use mathlib.Core.Path.{◌≡◌, sym, ◌∙◌, ap}
use mathlib.Core.List.{List}
use Prim.Native.Nat.{ℕ, ◌≤◌, ◌<◌}
use native.Mathlib.Omega.{arith}
use lib.ListN.{length, take, drop, length-append}
use lib.Seq.{take_at, length-take-le}
use Rattle.canonical.specs.Calls.{WroteMessage}
use Rattle.json_text.specs.Canonical.{canonical}
use Rattle.json_text.specs.Content.{content}
use Rattle.keys.specs.Keys.{key_of}
use Rattle.message_keys.specs.Keyed.{KeyOf}
use Rattle.rules.specs.Quantities.{Key}

count_fits : (t o o' : List ℕ) (n : ℕ) → WroteMessage t o o' n → n ≤ length o'
count_fits t o o' n w =
    let x = canonical (content w.message.value) in
    omega (arith, w.count_is, ap length w.bytes, length-append x (drop n o))

pub count_taken : (t o o' : List ℕ) (n : ℕ) → WroteMessage t o o' n → n ≡ length (take n o')
count_taken t o o' n w = sym (length-take-le n o' (count_fits t o o' n w))

pub key-of-written : (t o o' : List ℕ) (n : ℕ) (k : Key) → WroteMessage t o o' n → k ≡ key_of (take n o') → KeyOf t k
key-of-written t o o' n k w e =
    let x = canonical (content w.message.value) in
    let front : take n o' ≡ x = ap (take n) w.bytes ∙ take_at x (drop n o) n (sym w.count_is) in
    record { message = w.message; is = e ∙ ap key_of front }
