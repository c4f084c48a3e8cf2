-- What follows a value is the end of the bytes that begin with it, from some place on.
use mathlib.Core.Path.{◌≡◌, refl, ◌∙◌}
use mathlib.Core.List.{List, ◌∷◌}
use Prim.Native.Nat.{ℕ, suc, ◌+◌, ◌≤◌, ◌<◌}
use native.Mathlib.Omega.{arith}
use lib.ListN.{length, drop, length-drop}
use lib.Seq.{drop-drop}
use Rattle.json_text.specs.Numbers.{Digits, no_digits, digit, Digits1, digits, Minus, no_minus, minus, Int, zero, from_one}
use Rattle.json_text.specs.Numbers.{Frac, no_frac, frac, Sign, no_sign, negative, positive, Exp, no_exp, exp, Number, number}
use Rattle.json_text.specs.Values.{Value, Items, Members}
use Rattle.json_text.specs.Grammar.{Ws, no_ws, ws, Char, one, two, three, four, escaped, unicode, pair, Chars, mark, char, Name, name}
use Rattle.json_text.specs.Grammar.{Val, a_null, a_true, a_false, a_number, a_string, empty_array, an_array, empty_object, an_object}
use Rattle.json_text.specs.Grammar.{MoreItems, MoreMembers, end_array, next_item, end_object, next_member}

-- r is what s has from some place on
pub data From : List ℕ → List ℕ → Type 0 where
  here : {s : List ℕ} → From s s
  later : {b : ℕ} {s r : List ℕ} → From s r → From (b ∷ s) r

then : {s t r : List ℕ} → From s t → From t r → From s r
then here q = q
then (later p) q = later (then p q)

from_place : {s r : List ℕ} → From s r → (n : ℕ) × (r ≡ drop n s) × (n + length r ≡ length s)
from_place (here {s}) = (0, refl, omega arith)
from_place (later p) = let q = from_place p in (suc q.0, q.1, omega arith)

-- and from behind the first byte on
abbrev pub Past : List ℕ → List ℕ → Type 0
Past s r = From s r × (length r < length s)

behind : {b : ℕ} {s r : List ℕ} → From s r → Past (b ∷ s) r
behind p = (later p, omega (arith, (from_place p).2))

past : {s t r : List ℕ} → Past s t → From t r → Past s r
past p q = (then p.0 q, omega (arith, (from_place q).2))

after : {s t r : List ℕ} → From s t → Past t r → Past s r
after p q = (then p q.0, omega (arith, (from_place p).2))

from-ws : {s r : List ℕ} → Ws s r → From s r
from-ws no_ws = here
from-ws (ws h w) = later (from-ws w)

from-char : {s x r : List ℕ} → Char s x r → From s r
from-char (one h) = later here
from-char (two h) = later (later here)
from-char (three h) = later (later (later here))
from-char (four h) = later (later (later (later here)))
from-char (escaped h) = later (later here)
from-char (unicode h) = later (later (later (later (later (later here)))))
from-char (pair h) = later (later (later (later (later (later (later (later (later (later (later (later here)))))))))))

from-chars : {s x r : List ℕ} → Chars s x r → From s r
from-chars mark = later here
from-chars (char c cs) = then (from-char c) (from-chars cs)

pub past-name : {s x r : List ℕ} → Name s x r → Past s r
past-name (name c w u) = behind (then (from-chars c) (then (from-ws w) (later (from-ws u))))

from-digits : {s r : List ℕ} → Digits s r → From s r
from-digits no_digits = here
from-digits (digit h d) = later (from-digits d)

from-digits1 : {s r : List ℕ} → Digits1 s r → From s r
from-digits1 (digits h d) = later (from-digits d)

from-minus : {s r : List ℕ} → Minus s r → From s r
from-minus no_minus = here
from-minus minus = later here

past-int : {s r : List ℕ} → Int s r → Past s r
past-int zero = behind here
past-int (from_one h d) = behind (from-digits d)

from-frac : {s r : List ℕ} → Frac s r → From s r
from-frac no_frac = here
from-frac (frac d) = later (from-digits1 d)

from-sign : {s r : List ℕ} → Sign s r → From s r
from-sign no_sign = here
from-sign negative = later here
from-sign positive = later here

from-exp : {s r : List ℕ} → Exp s r → From s r
from-exp no_exp = here
from-exp (exp h g d) = later (then (from-sign g) (from-digits1 d))

past-number : {s r : List ℕ} → Number s r → Past s r
past-number (number m i f e) = after (from-minus m) (past (past-int i) (then (from-frac f) (from-exp e)))

mutual
  pub past-val : {s r : List ℕ} {v : Value} → Val s v r → Past s r
  past-val a_null = behind (later (later (later here)))
  past-val a_true = behind (later (later (later here)))
  past-val a_false = behind (later (later (later (later here))))
  past-val (a_number n e) = past-number n
  past-val (a_string c) = behind (from-chars c)
  past-val (empty_array w) = behind (then (from-ws w) (later here))
  past-val (an_array w v m) = behind (then (from-ws w) (then (past-val v).0 (from-items m)))
  past-val (empty_object w) = behind (then (from-ws w) (later here))
  past-val (an_object w n v m) = behind (then (from-ws w) (then (past-name n).0 (then (past-val v).0 (from-members m))))

  pub from-items : {s r : List ℕ} {vs : Items} → MoreItems s vs r → From s r
  from-items (end_array w) = then (from-ws w) (later here)
  from-items (next_item w y v m) = then (from-ws w) (later (then (from-ws y) (then (past-val v).0 (from-items m))))

  pub from-members : {s r : List ℕ} {ms : Members} → MoreMembers s ms r → From s r
  from-members (end_object w) = then (from-ws w) (later here)
  from-members (next_member w y n v m) =
      then (from-ws w) (later (then (from-ws y) (then (past-name n).0 (then (past-val v).0 (from-members m)))))

-- in a text: the place where what follows begins
module _ (t : List ℕ) (i : ℕ) (h : i ≤ length t) where
  pub place-past : {r : List ℕ} → Past (drop i t) r → (e : ℕ) × (r ≡ drop e t) × (i < e) × (e ≤ length t)
  place-past p =
      let q = from_place p.0 in
      let l = length-drop i t in
      (i + q.0, q.1 ∙ drop-drop q.0 i t, omega arith, omega arith)

  pub place-before : (e : ℕ) → From (drop i t) (drop e t) → e ≤ length t → i ≤ e
  place-before e p k = let q = (from_place p).2 in let l = length-drop i t in let m = length-drop e t in omega arith
