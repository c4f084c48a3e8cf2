-- Demand 3 as one claim over a list of calls from the market that setup made: what it speaks of, and its statement.
use Rattle.std.specs.Prelude.{◌≡◌, ◌⊎◌, List, [], ◌∷◌, ◌++◌, map, Bool, true, false, ◌&&◌, ◌||◌, cond, ℕ, suc, ◌+◌, ◌-◌, ◌≤◌, ◌<◌, ltb, eqb, length, take, drop}
use Rattle.rules.specs.declared.Limits.{Limits}
use Rattle.rules.specs.declared.Kind.{Kind}
use Rattle.rules.specs.declared.Applied.{Applied}
use Rattle.rules.specs.Lists.{keep, any, sum, largest, count, Each, In}
use Rattle.rules.specs.Quantities.{Key, same, book_out}
use Rattle.rules.specs.Log.{Log, keys, end, push}
use Rattle.rules.specs.Prints.{of_key, of_pair, applied_in, touched_in, delivered_in}
use Rattle.rules.specs.Lines.{Line, Waiting, Pending, InLine, Failed, Connection, Market, fresh, is_pending, is_in_line, line_for, with_line}
use Rattle.rules.specs.Calls.{Answer, done, apply, duplicate, held, ignored, diverged, failed, kept, gone, rebuild, Outcome, refused, did}
use Rattle.rules.specs.Refusals.{Call, Subscribe, Snapshot, BookEvent, Print, Drop, Promote, Reset, Tick, step}
use Rattle.rules.specs.Answers.{Said, number, word, said_by}

-- ---- what a list of calls leaves behind, beside the market

-- the book events among records: number and key
abbrev pub if_book : Kind → ℕ × Key → List (ℕ × Key) → List (ℕ × Key)
if_book Kind.Snapshot x l = l
if_book Kind.Book x l = x ∷ l
if_book Kind.Print x l = l

unfoldable pub books : List Applied → List (ℕ × Key)
books [] = []
books (r ∷ rs) = if_book r.kind (r.number, r.key) (books rs)

abbrev pub book_keys : List Applied → List Key
book_keys rs = map (λ x. x.1) (books rs)

-- all that was put out; of each connection, the keys of its taken book events in order, and its entry number
pub record History : Type 0 where
  pub market : Market
  pub out : List Applied
  pub taken : ℕ → List Key
  pub entry : ℕ → ℕ

-- taken means answered Apply, Duplicate or Held
abbrev pub is_taken : Answer → Bool
is_taken done = false
is_taken apply = true
is_taken duplicate = true
is_taken held = true
is_taken ignored = false
is_taken diverged = false
is_taken failed = false
is_taken kept = false
is_taken gone = false
is_taken rebuild = false

-- f, but v at c
abbrev pub replace : {A : Type 0} → (ℕ → A) → ℕ → A → ℕ → A
replace f c v x = cond (eqb x c) v (f x)

abbrev pub now_taken : Call → Answer → (ℕ → List Key) → ℕ → List Key
now_taken (Subscribe c limit now) a t = t
now_taken (Snapshot c i msg now room) a t = t
now_taken (BookEvent c k msg now room) a t = cond (is_taken a) (replace t c (t c ++ (k ∷ []))) t
now_taken (Print c k msg now room) a t = t
now_taken (Drop c now room) a t = t
now_taken (Promote now room) a t = t
now_taken (Reset now) a t = t
now_taken (Tick answers now room reports) a t = t

unfoldable pub now_entered : List (ℕ × ℕ) → (ℕ → ℕ) → ℕ → ℕ
now_entered [] e = e
now_entered (x ∷ xs) e = now_entered xs (replace e x.0 x.1)

abbrev pub follow : Call → History → Outcome → History
follow x h (refused n) = h
follow x h (did a rs w) =
    record { market = w.market; out = h.out ++ w.out; taken = now_taken x a h.taken; entry = now_entered w.entered h.entry }

unfoldable pub run : History → List Call → History
run h [] = h
run h (x ∷ xs) = run (follow x h (step x h.market)) xs

abbrev pub set_up : Limits → ℕ → History
set_up l start = record { market = fresh l start; out = []; taken = λ c. []; entry = λ c. 0 }

-- a connection's latest taken events are what was put out from its entry number e to just below its next number n
pub record Agreed (start : ℕ) (out taken : List Key) (e n : ℕ) : Type 0 where
  pub from_start : start ≤ e
  pub in_order : e ≤ n
  pub put_out : n ≤ start + length out
  pub enough : n - e ≤ length taken
  pub latest : drop (length taken - (n - e)) taken ≡ take (n - e) (drop (e - start) out)

-- ---- connections in line go on

-- who makes a call
abbrev pub caller : Call → ℕ
caller (Subscribe c limit now) = c
caller (Snapshot c i msg now room) = c
caller (BookEvent c k msg now room) = c
caller (Print c k msg now room) = c
caller (Drop c now room) = c
caller (Promote now room) = 0
caller (Reset now) = 0
caller (Tick answers now room reports) = 0

-- a book event or print of a connection in line
abbrev pub Goes : Market → Call → Type 0
Goes m (Subscribe c limit now) = ⊥
Goes m (Snapshot c i msg now room) = ⊥
Goes m (BookEvent c k msg now room) = is_in_line (line_for c m) ≡ true
Goes m (Print c k msg now room) = is_in_line (line_for c m) ≡ true
Goes m (Drop c now room) = ⊥
Goes m (Promote now room) = ⊥
Goes m (Reset now) = ⊥
Goes m (Tick answers now room reports) = ⊥

-- all of a call but its time
abbrev pub timeless : Call → Call
timeless (Subscribe c limit now) = Subscribe c limit 0
timeless (Snapshot c i msg now room) = Snapshot c i msg 0 room
timeless (BookEvent c k msg now room) = BookEvent c k msg 0 room
timeless (Print c k msg now room) = Print c k msg 0 room
timeless (Drop c now room) = Drop c 0 room
timeless (Promote now room) = Promote 0 room
timeless (Reset now) = Reset 0
timeless (Tick answers now room reports) = Tick answers 0 room reports

-- a connection's own calls, in its own order
unfoldable pub own : ℕ → List Call → List Call
own c xs = map timeless (keep (λ x. eqb (caller x) c) xs)

-- the keys of a connection's book events
abbrev pub event_key : ℕ → Call → List Key → List Key
event_key c (Subscribe d limit now) l = l
event_key c (Snapshot d i msg now room) l = l
event_key c (BookEvent d k msg now room) l = cond (eqb d c) (k ∷ l) l
event_key c (Print d k msg now room) l = l
event_key c (Drop d now room) l = l
event_key c (Promote now room) l = l
event_key c (Reset now) l = l
event_key c (Tick answers now room reports) l = l

unfoldable pub events_of : ℕ → List Call → List Key
events_of c [] = []
events_of c (x ∷ xs) = event_key c x (events_of c xs)

-- a connection's prints of a key
abbrev pub is_print : Key → ℕ → Call → ℕ → ℕ
is_print k c (Subscribe d limit now) n = n
is_print k c (Snapshot d i msg now room) n = n
is_print k c (BookEvent d j msg now room) n = n
is_print k c (Print d j msg now room) n = cond (same j k && eqb d c) (suc n) n
is_print k c (Drop d now room) n = n
is_print k c (Promote now room) n = n
is_print k c (Reset now) n = n
is_print k c (Tick answers now room reports) n = n

unfoldable pub prints_by : Key → ℕ → List Call → ℕ
prints_by k c [] = 0
prints_by k c (x ∷ xs) = is_print k c x (prints_by k c xs)

abbrev pub applied_of : Key → Market → ℕ
applied_of k m = applied_in k m.prints.key_rows

-- what the table has: request 1, what it delivered since its last subscription
abbrev pub delivered_of : Key → ℕ → Market → ℕ
delivered_of k c m = delivered_in k c m.prints.count_rows

-- a list of calls on a market: none is refused, the market after it, and what it puts out
abbrev pub Passed : Outcome → (Market → Type 0) → Type 0
Passed (refused n) P = ⊥
Passed (did a rs w) P = P w.market

abbrev pub market_after : Outcome → Market → Market
market_after (refused n) m = m
market_after (did a rs w) m = w.market

abbrev pub records_of : Outcome → List Applied
records_of (refused n) = []
records_of (did a rs w) = w.out

unfoldable pub Unrefused : Market → List Call → Type 0
Unrefused m [] = Unit {0}
Unrefused m (x ∷ xs) = Passed (step x m) (λ m'. Unrefused m' xs)

unfoldable pub after : Market → List Call → Market
after m [] = m
after m (x ∷ xs) = after (market_after (step x m) m) xs

unfoldable pub records : Market → List Call → List Applied
records m [] = []
records m (x ∷ xs) = records_of (step x m) ++ records (market_after (step x m) m) xs

-- what each call is answered
unfoldable pub answers : Market → List Call → List Said
answers m [] = []
answers m (x ∷ xs) = said_by (step x m) ∷ answers (market_after (step x m) m) xs

-- Apply of one record, or Duplicate
abbrev pub ApplyOrDuplicate : Said → Type 0
ApplyOrDuplicate a = (a ≡ word apply 1 0) ⊎ (a ≡ word duplicate 0 0)

-- a line with k more events; its reach, 0 if it is not in line
abbrev pub forward : ℕ → Line → Line
forward k (Waiting is since) = Waiting is since
forward k (Pending is at since) = Pending is at since
forward k (InLine n a b) = InLine (n + k) a b
forward k Failed = Failed

abbrev pub reach : ℕ → Line → ℕ
reach k (Waiting is since) = 0
reach k (Pending is at since) = 0
reach k (InLine n a b) = n + k
reach k Failed = 0

-- a line's next number, 0 if it is not in line
abbrev pub next_of : Line → ℕ
next_of (Waiting is since) = 0
next_of (Pending is at since) = 0
next_of (InLine n a b) = n
next_of Failed = 0

abbrev pub advanced : (ℕ → ℕ) → Connection → Connection
advanced f s = with_line (forward (f s.conn) s.line) s

-- the largest of end and the reaches
unfoldable pub farthest : Market → (ℕ → ℕ) → ℕ
farthest m f = largest (end m.log) (map (λ s. reach (f s.conn) s.line) m.lines)

-- the larger of what applied was and the largest count that a connection delivering the key reached; request 1: since its last subscription
unfoldable pub highest : Key → Market → (ℕ → ℕ) → ℕ
highest k m f =
    largest (applied_of k m) (map (λ s. cond (ltb 0 (f s.conn)) (delivered_of k s.conn m + f s.conn) 0) m.lines)

-- a connection prints the key here
abbrev pub is_printed : Market → (ℕ → ℕ) → Bool
is_printed m f = any (λ s. ltb 0 (f s.conn)) m.lines

abbrev pub if_print : Kind → ℕ → ℕ
if_print Kind.Snapshot n = 0
if_print Kind.Book n = 0
if_print Kind.Print n = n

-- a key's copies: times, added up
unfoldable pub copies : Key → List Applied → ℕ
copies k rs = sum (λ r. cond (same r.key k) (if_print r.kind r.times) 0) rs

-- keys under the numbers from n on
unfoldable pub numbered : ℕ → List Key → List (ℕ × Key)
numbered n [] = []
numbered n (k ∷ ks) = (n, k) ∷ numbered (suc n) ks

-- a connection's own book events as records, numbered from n, each with its call's message
abbrev pub own_book : ℕ → ℕ → Call → (ℕ → List Applied) → List Applied
own_book c n (Subscribe d limit now) l = l n
own_book c n (Snapshot d i msg now room) l = l n
own_book c n (BookEvent d k msg now room) l = cond (eqb d c) (book_out c n k msg ∷ l (suc n)) (l n)
own_book c n (Print d k msg now room) l = l n
own_book c n (Drop d now room) l = l n
own_book c n (Promote now room) l = l n
own_book c n (Reset now) l = l n
own_book c n (Tick answers now room reports) l = l n

unfoldable pub own_books : ℕ → ℕ → List Call → List Applied
own_books c n [] = []
own_books c n (x ∷ xs) = own_book c n x (λ j. own_books c j xs)

-- a connection's own prints: key and message
abbrev pub own_print : ℕ → Call → List (Key × ℕ) → List (Key × ℕ)
own_print c (Subscribe d limit now) l = l
own_print c (Snapshot d i msg now room) l = l
own_print c (BookEvent d k msg now room) l = l
own_print c (Print d k msg now room) l = cond (eqb d c) ((k, msg) ∷ l) l
own_print c (Drop d now room) l = l
own_print c (Promote now room) l = l
own_print c (Reset now) l = l
own_print c (Tick answers now room reports) l = l

unfoldable pub own_prints : ℕ → List Call → List (Key × ℕ)
own_prints c [] = []
own_prints c (x ∷ xs) = own_print c x (own_prints c xs)

-- where a record comes from: it is no snapshot; a book record is its connection's own event of that number and key, with that
-- call's message; a print record has a key and message that its connection delivered, at least one copy, and number 0
abbrev pub SentAs : Kind → Market → List Call → Applied → Type 0
SentAs Kind.Snapshot m xs r = ⊥
SentAs Kind.Book m xs r = In r (own_books r.conn (next_of (line_for r.conn m)) xs)
SentAs Kind.Print m xs r = In (r.key, r.message) (own_prints r.conn xs) × (0 < r.times) × (r.number ≡ 0)

abbrev pub Sent : Market → List Call → Applied → Type 0
Sent m xs r = SentAs r.kind m xs r

-- ---- stamps

-- how many records an answer counts
abbrev pub record_count : Said → ℕ
record_count (number n) = 0
record_count (word a records reports) = records

-- a book event that is put out is pushed at its time
abbrev pub pushed_by : Call → Said → Log → Log
pushed_by (Subscribe c limit now) a l = l
pushed_by (Snapshot c i msg now room) a l = l
pushed_by (BookEvent c k msg now room) a l = cond (ltb 0 (record_count a)) (push k now l) l
pushed_by (Print c k msg now room) a l = l
pushed_by (Drop c now room) a l = l
pushed_by (Promote now room) a l = l
pushed_by (Reset now) a l = l
pushed_by (Tick answers now room reports) a l = l

-- the log after calls in this order, by their answers
unfoldable pub log_by : List Call → List Said → Log → Log
log_by [] said l = l
log_by (x ∷ xs) [] l = l
log_by (x ∷ xs) (a ∷ said) l = log_by xs said (pushed_by x a l)

abbrev pub touched_of : Key → Market → ℕ
touched_of k m = touched_in k m.prints.key_rows

-- a print touches its key
abbrev pub touched_by : Key → Call → ℕ → ℕ
touched_by k (Subscribe c limit now) t = t
touched_by k (Snapshot c i msg now room) t = t
touched_by k (BookEvent c j msg now room) t = t
touched_by k (Print c j msg now room) t = cond (same j k) now t
touched_by k (Drop c now room) t = t
touched_by k (Promote now room) t = t
touched_by k (Reset now) t = t
touched_by k (Tick answers now room reports) t = t

-- when a key was touched last, after calls in this order
unfoldable pub last_touch : Key → List Call → ℕ → ℕ
last_touch k [] t = t
last_touch k (x ∷ xs) t = last_touch k xs (touched_by k x t)

-- ---- the statement

-- the calls xs are of connections in line, and each one's book events follow from its next number the common list U, which begins with the log
pub record GoesOn (m : Market) (U : List Key) (xs : List Call) : Type 0 where
  pub theirs : Each (Goes m) xs
  pub begins : take (length (keys m.log)) U ≡ keys m.log
  pub follows : (c n : ℕ) (a b : Bool) → line_for c m ≡ InLine n a b
      → take (length (events_of c xs)) (drop (n - m.log.base) U) ≡ events_of c xs

-- how the calls xs end when they come in the order ys, whatever that is: m' after them, out put out, said answered
pub record Ends (m : Market) (U : List Key) (xs ys : List Call) (m' : Market) (out : List Applied) (said : List Said) : Type 0 where
  pub limits : m'.limits ≡ m.limits
  -- each next becomes its reach
  pub lines : m'.lines ≡ map (advanced (λ c. length (events_of c xs))) m.lines
  pub base : m'.log.base ≡ m.log.base
  pub at_end : end m'.log ≡ farthest m (λ c. length (events_of c xs))
  pub log_keys : keys m'.log ≡ take (end m'.log - m.log.base) U
  -- from the old end to just below the farthest reach, once each under their numbers
  pub once : books out ≡ numbered (end m.log) (drop (end m.log - m.log.base) (take (end m'.log - m.log.base) U))
  pub applied : (k : Key) → applied_of k m' ≡ highest k m (λ c. prints_by k c xs)
  -- a key's copies are the rise of applied
  pub rise : (k : Key) → applied_of k m + copies k out ≡ applied_of k m'
  -- free: which calls are answered Apply; the others Duplicate
  pub answered : Each ApplyOrDuplicate said
  -- delivered before plus prints here
  pub delivered : (k : Key) (c : ℕ) → delivered_of k c m' ≡ delivered_of k c m + prints_by k c xs
  -- a row for each key, and for each key and connection, that had one or is printed here
  pub key_rows : (k : Key) → any (of_key k) m'.prints.key_rows ≡ (any (of_key k) m.prints.key_rows || is_printed m (λ c. prints_by k c xs))
  pub count_rows : (k : Key) (c : ℕ)
      → any (of_pair k c) m'.prints.count_rows ≡ (any (of_pair k c) m.prints.count_rows || ltb 0 (prints_by k c xs))
  -- free: whose message a record has, how copies split, the order of the records; what holds of it
  pub sent : Each (Sent m xs) out
  -- free: stamps. They go by the order ys: an entry and last-applied have the time of the event put out, a key that of its last print
  pub log : m'.log ≡ log_by ys said m.log
  pub touched : (k : Key) → touched_of k m' ≡ last_touch k ys (touched_of k m)

pub record Demand (start : ℕ) (h : History) : Type 0 where
  -- numbered from the start number in the order put out, without gap or repeat
  pub numbers : map (λ x. x.0) (books h.out) ≡ count start (length (books h.out))
  pub agrees : (c n : ℕ) (a b : Bool) → line_for c h.market ≡ InLine n a b
      → Agreed start (book_keys h.out) (h.taken c) (h.entry c) n
  -- no line pending, none in line below the log's first number: if one order meets no refusal, every order meets none and ends the same
  pub goes_on : any (λ s. is_pending s.line) h.market.lines ≡ false
      → ((c n : ℕ) (a b : Bool) → line_for c h.market ≡ InLine n a b → h.market.log.base ≤ n)
      → (U : List Key) (xs : List Call) → GoesOn h.market U xs → Unrefused h.market xs
      → (ys : List Call) → ((c : ℕ) → own c ys ≡ own c xs)
      → Unrefused h.market ys × Ends h.market U xs ys (after h.market ys) (records h.market ys) (answers h.market ys)

abbrev pub Demand3 : Type 0
Demand3 = (l : Limits) (start : ℕ) (xs : List Call) → Demand start (run (set_up l start) xs)
