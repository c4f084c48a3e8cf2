-- Demand 3 on the words: a list of calls, each of which meets its promise on the store that the last one left.
use Rattle.std.specs.Prelude.{◌≡◌, List, [], ◌∷◌, ◌++◌, map, Bool, false, ℕ, ◌≤◌, length}
use Rattle.rules.specs.declared.Limits.{Limits}
use Rattle.rules.specs.declared.Applied.{Applied}
use Rattle.rules.specs.Lists.{any, count, Each}
use Rattle.rules.specs.Quantities.{Key}
use Rattle.rules.specs.Lines.{InLine, is_pending, line_for}
use Rattle.rules.specs.Calls.{done}
use Rattle.rules.specs.Refusals.{Call}
use Rattle.rules.specs.Answers.{Said, number, word}
use Rattle.rules.specs.Demand.{books, book_keys, now_taken, run, set_up, Agreed, own, GoesOn, Ends}
use Rattle.store.specs.Store.{market_of}
use Rattle.output.specs.Output.{records_in}
use Rattle.market.specs.Lent.{Lent}
use Rattle.promise.specs.Meets.{Meets, MeetsSetup}

-- one call on the words: what it was, what was lent to it, what it answered and left
pub record Made : Type 0 where
  pub call : Call
  pub before : Lent
  pub answer : Said
  pub after : Lent

-- each call meets its promise, and gets the store that the last one left
unfoldable pub Chain : List ℕ → List Made → Type 0
Chain w [] = Unit {0}
Chain w (d ∷ ds) = (d.before.store ≡ w) × Meets d.call d.before d.answer d.after × Chain d.after.store ds

unfoldable pub last_store : List ℕ → List Made → List ℕ
last_store w [] = w
last_store w (d ∷ ds) = last_store d.after.store ds

abbrev pub calls_of : List Made → List Call
calls_of ds = map (λ d. d.call) ds

-- the records that a call put out: those that its answer counts, in its output list
abbrev pub put_out_by : Said → List ℕ → List Applied
put_out_by (number n) v = []
put_out_by (word a records reports) v = records_in records v

unfoldable pub put_out : List Made → List Applied
put_out [] = []
put_out (d ∷ ds) = put_out_by d.answer d.after.out ++ put_out ds

abbrev pub answers_of : List Made → List Said
answers_of ds = map (λ d. d.answer) ds

-- the keys of each connection's taken book events, in order, by the answers
abbrev pub taken_by : Call → Said → (ℕ → List Key) → ℕ → List Key
taken_by x (number n) t = t
taken_by x (word a records reports) t = now_taken x a t

unfoldable pub taken : (ℕ → List Key) → List Made → ℕ → List Key
taken t [] = t
taken t (d ∷ ds) = taken (taken_by d.call d.answer t) ds

-- a call was not refused
abbrev pub Accepted : Made → Type 0
Accepted d = elim d.answer as (λ a. Type 0) [ number n ↦ ⊥ | word a records reports ↦ Unit {0} ]

-- the calls ds from the store w, which setup made with l and start; entry numbers are what the rules make of the calls
pub record DemandOn (l : Limits) (start : ℕ) (w : List ℕ) (ds : List Made) : Type 0 where
  pub numbers : map (λ x. x.0) (books (put_out ds)) ≡ count start (length (books (put_out ds)))
  pub agrees : (c n : ℕ) (a b : Bool) → line_for c (market_of (last_store w ds)) ≡ InLine n a b
      → Agreed start (book_keys (put_out ds)) (taken (λ x. []) ds c) ((run (set_up l start) (calls_of ds)).entry c) n
  pub goes_on : any (λ s. is_pending s.line) (market_of (last_store w ds)).lines ≡ false
      → ((c n : ℕ) (a b : Bool) → line_for c (market_of (last_store w ds)) ≡ InLine n a b → (market_of (last_store w ds)).log.base ≤ n)
      → (U : List Key) (xs : List Made) → Chain (last_store w ds) xs → GoesOn (market_of (last_store w ds)) U (calls_of xs) → Each Accepted xs
      → (ys : List Made) → Chain (last_store w ds) ys → ((c : ℕ) → own c (calls_of ys) ≡ own c (calls_of xs))
      → Each Accepted ys
      × Ends (market_of (last_store w ds)) U (calls_of xs) (calls_of ys) (market_of (last_store (last_store w ds) ys)) (put_out ys) (answers_of ys)

-- from any store that setup has made, whatever words it was before
abbrev pub Demand3OnWords : Type 0
Demand3OnWords = (l : Limits) (start : ℕ) (before w : List ℕ) → MeetsSetup l start before (word done 0 0) w
    → (ds : List Made) → Chain w ds → DemandOn l start w ds
