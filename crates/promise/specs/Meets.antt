-- What every public call promises, as one predicate of the call, the words before, the answer and the words after.
use Rattle.std.specs.Prelude.{Option, None, Some, ◌≡◌, List, Bool, ℕ, length}
use Rattle.rules.specs.declared.Limits.{Limits}
use Rattle.rules.specs.Calls.{Outcome, refused, did}
use Rattle.rules.specs.Lines.{Market}
use Rattle.rules.specs.Refusals.{Call, setup, view}
use Rattle.rules.specs.Answers.{Said, number, said_by, Queried, refusal, value, viewed}
use Rattle.store.specs.Store.{market_of, Sound}
use Rattle.output.specs.Output.{over}
use Rattle.market.specs.Lent.{Lent}
use Rattle.steps.specs.Steps.{Steps}

-- an unsound store is refused with 1 and nothing lent changes; on a sound one answer and words are the rules'
pub record Meets (x : Call) (before : Lent) (answer : Said) (after : Lent) : Type 0 where
  pub unsound : (Sound before.store → ⊥) → (answer ≡ number 1) × (after ≡ before)
  pub sound : Sound before.store → Steps x before answer after

-- ---- setup, the queries and view

abbrev pub SetsUp : Outcome → List ℕ → List ℕ → Type 0
SetsUp (refused n) before after = after ≡ before
SetsUp (did a rs w) before after = (market_of after ≡ w.market) × Sound after × (length after ≡ length before)

-- setup of limits l and a start number, whatever the words were
pub record MeetsSetup (l : Limits) (start : ℕ) (before : List ℕ) (answer : Said) (after : List ℕ) : Type 0 where
  pub answered : answer ≡ said_by (setup l start (length before))
  pub words : SetsUp (setup l start (length before)) before after

-- a query q of the market, on any words
pub record MeetsQuery (q : Market → Bool) (store : List ℕ) (answer : Queried Bool) : Type 0 where
  pub unsound : (Sound store → ⊥) → answer ≡ refusal 1
  pub sound : Sound store → answer ≡ value (q (market_of store))

-- a view's messages are written to the front of a list
abbrev pub Written : Option (List ℕ) → List ℕ → List ℕ → Type 0
Written None before after = after ≡ before
Written (Some ms) before after = after ≡ over ms before

pub record MeetsView (conn : ℕ) (store before : List ℕ) (answer : Queried ℕ) (after : List ℕ) : Type 0 where
  pub unsound : (Sound store → ⊥) → (answer ≡ refusal 1) × (after ≡ before)
  pub sound : Sound store
      → (answer ≡ viewed (view conn (length before) (market_of store))) × Written (view conn (length before) (market_of store)) before after

-- ---- the one predicate of every public call

pub data Request : Type 0 where
  of_call : Call → Request
  of_setup : (limits : Limits) (start : ℕ) → Request
  of_query : (Market → Bool) → Request
  of_view : (conn : ℕ) → Request

pub data Reply : Type 0 where
  says : Said → Reply
  asks : Queried Bool → Reply
  views : Queried ℕ → Reply

-- a view's list is lent where an output list is
abbrev pub Promise : Request → Lent → Reply → Lent → Type 0
Promise (of_call x) before (says a) after = Meets x before a after
Promise (of_call x) before (asks a) after = ⊥
Promise (of_call x) before (views a) after = ⊥
Promise (of_setup l start) before (says a) after = MeetsSetup l start before.store a after.store
Promise (of_setup l start) before (asks a) after = ⊥
Promise (of_setup l start) before (views a) after = ⊥
Promise (of_query q) before (says a) after = ⊥
Promise (of_query q) before (asks a) after = MeetsQuery q before.store a
Promise (of_query q) before (views a) after = ⊥
Promise (of_view c) before (says a) after = ⊥
Promise (of_view c) before (asks a) after = ⊥
Promise (of_view c) before (views a) after = MeetsView c before.store before.out a after.out
