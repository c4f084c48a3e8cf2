-- Many calls at once: a list of calls in words, done one after the other, as the rules do each of them.
use Rattle.std.specs.Prelude.{Option, None, Some, Result, Ok, Err, ◌≡◌, List, [], ◌∷◌, ◌++◌, cond, ℕ, zero, suc, ◌-◌, ◌/◌, ◌%◌, eqb, ltb, length, get_or, take, drop}
use Rattle.rules.specs.declared.Applied.{Applied}
use Rattle.rules.specs.declared.Expired.{Expired}
use Rattle.rules.specs.declared.refusal.Refusal.{Refusal}
use Rattle.rules.specs.Lists.{maybe}
use Rattle.rules.specs.Quantities.{key}
use Rattle.rules.specs.Lines.{Market}
use Rattle.rules.specs.Calls.{Outcome, refused, did}
use Rattle.rules.specs.Refusals.{Call, Subscribe, Snapshot, BookEvent, Print, Drop, Promote, Reset, Tick, step}
use Rattle.rules.specs.Answers.{Said, said_by, number_of}
use Rattle.store.specs.Store.{market_of, Sound}
use Rattle.output.specs.Output.{records_words, reports_words, over}
use Rattle.codes.specs.Told.{said_words}
use Rattle.batch.specs.declared.Batched.{Batched}
use Rattle.batch.specs.declared.Stop.{Stop}
use Rattle.batch.specs.declared.Stop.TheVariants as Stop

-- the last n binary digits of x, lowest first
unfoldable pub bits : ℕ → ℕ → List ℕ
bits zero x = []
bits (suc n) x = x % 2 ∷ bits n (x / 2)

-- a call is eight words: its number (1 to 8, in demand 3's order), connection, a snapshot's index or a subscription's limit (request 5),
-- key, key, message, time, and the view answers of a tick as binary digits, the lowest for the first line
unfoldable pub call_in : List ℕ → Market → (room reports : ℕ) → Option Call
call_in w m room reports =
    let number = get_or w 0 0 in
    let conn = get_or w 1 0 in
    let k = key (get_or w 3 0) (get_or w 4 0) in
    let message = get_or w 5 0 in
    let time = get_or w 6 0 in
    cond (eqb number 1) (Some (Subscribe conn (get_or w 2 0) time))
    (cond (eqb number 2) (Some (Snapshot conn (get_or w 2 0) message time room))
    (cond (eqb number 3) (Some (BookEvent conn k message time room))
    (cond (eqb number 4) (Some (Print conn k message time room))
    (cond (eqb number 5) (Some (Drop conn time room))
    (cond (eqb number 6) (Some (Promote time room))
    (cond (eqb number 7) (Some (Reset time))
    (cond (eqb number 8) (Some (Tick (bits (length m.lines) (get_or w 7 0)) time room reports)) None)))))))

-- the calls of a list of words; what is left over is none
unfoldable pub calls_in : ℕ → List ℕ → List (List ℕ)
calls_in zero w = []
calls_in (suc n) w = take 8 w ∷ calls_in n (drop 8 w)

-- what was done: the market that it left, the records and reports in order, and an answer for each call
pub record Ran : Type 0 where
  pub market : Market
  pub out : List Applied
  pub reports : List Expired
  pub answers : List Said

-- how many records, reports and answers the lent lists take
pub record Room : Type 0 where
  pub records : ℕ
  pub reports : ℕ
  pub answers : ℕ

-- a refusal for want of room (3) ends the list before that call
abbrev pub after : Outcome → Ran → Option Ran
after (refused n) k =
    cond (eqb n 3) None
    (Some (record { market = k.market; out = k.out; reports = k.reports; answers = k.answers ++ (said_by (refused n) ∷ []) }))
after (did a rs w) k =
    Some (record { market = w.market; out = k.out ++ w.out; reports = k.reports ++ rs; answers = k.answers ++ (said_by (did a rs w) ∷ []) })

abbrev pub after_call : Option Call → Ran → Option Ran
after_call None k = None
after_call (Some x) k = after (step x k.market) k

-- the call of the words, on what is left of the lists
abbrev pub call_next : Room → List ℕ → Ran → Option Call
call_next r w k = call_in w k.market (r.records - length k.out) (r.reports - length k.reports)

-- one call more; none where there is no room for its answer, the words are no call, or it has no room (3)
unfoldable pub next : Room → List ℕ → Ran → Option Ran
next r w k = cond (ltb (length k.answers) r.answers) (after_call (call_next r w k) k) None

-- calls one after the other, until one is not done
unfoldable pub run : Room → List (List ℕ) → Ran → Ran
run r [] k = k
run r (w ∷ ws) k = maybe k (run r ws) (next r w k)

-- why a call is not done: there is no room for its answer, the words are no call, or it has no room (3)
unfoldable pub why : Room → List ℕ → Ran → Stop
why r w k = cond (ltb (length k.answers) r.answers) (maybe Stop.NoCall (λ x. Stop.NoRoom) (call_next r w k)) Stop.NoAnswers

-- why the list ends
unfoldable pub stop : Room → List (List ℕ) → Ran → Stop
stop r [] k = Stop.AllDone
stop r (w ∷ ws) k = maybe (why r w k) (stop r ws) (next r w k)

abbrev pub start : Market → Ran
start m = record { market = m; out = []; reports = []; answers = [] }

-- ---- on the words

-- the store, the output list, the reports and the answers
pub record Lists : Type 0 where
  pub store : List ℕ
  pub out : List ℕ
  pub reports : List ℕ
  pub answers : List ℕ

abbrev pub lists : (store out reports answers : List ℕ) → Lists
lists w v q a = record { store = w; out = v; reports = q; answers = a }

abbrev pub room_in : Lists → Room
room_in l = record { records = length l.out / 7; reports = length l.reports / 3; answers = length l.answers / 3 }

unfoldable pub answers_words : List Said → List ℕ
answers_words [] = []
answers_words (a ∷ rest) = said_words a ++ answers_words rest

-- what a batch says: a refusal's number, or how many calls were done, with their records and reports, and why the list ended
pub data BatchSaid : Type 0 where
  refusal : ℕ → BatchSaid
  ended : (calls records reports : ℕ) → Stop → BatchSaid

abbrev pub of_batched : Result Batched Refusal → BatchSaid
of_batched (Ok b) = ended b.calls b.records b.reports b.stop
of_batched (Err r) = refusal (number_of r)

-- answer and words are those of what was done, and of why it ended there (s)
pub record Leaves (k : Ran) (s : Stop) (before : Lists) (answer : BatchSaid) (after : Lists) : Type 0 where
  pub answered : answer ≡ ended (length k.answers) (length k.out) (length k.reports) s
  pub market : market_of after.store ≡ k.market
  pub sound : Sound after.store
  pub size : length after.store ≡ length before.store
  pub out : after.out ≡ over (records_words k.out) before.out
  pub reports : after.reports ≡ over (reports_words k.reports) before.reports
  pub answers : after.answers ≡ over (answers_words k.answers) before.answers

abbrev pub ran : List ℕ → Lists → Ran
ran calls l = run (room_in l) (calls_in (length calls / 8) calls) (start (market_of l.store))

abbrev pub stops : List ℕ → Lists → Stop
stops calls l = stop (room_in l) (calls_in (length calls / 8) calls) (start (market_of l.store))

-- each call does what the rules say, and the answer tells why the list ended
abbrev pub Runs : List ℕ → Lists → BatchSaid → Lists → Type 0
Runs calls before answer after = Leaves (ran calls before) (stops calls before) before answer after

-- an unsound store is refused with 1 and nothing lent changes; on a sound one the calls are done
pub record MeetsBatch (calls : List ℕ) (before : Lists) (answer : BatchSaid) (after : Lists) : Type 0 where
  pub unsound : (Sound before.store → ⊥) → (answer ≡ refusal 1) × (after ≡ before)
  pub sound : Sound before.store → Runs calls before answer after
