-- Connections in line go on: what one accepted call changes, in terms that no order changes, and what makes a call refused.
use mathlib.Core.Path.{◌≡◌, refl}
use mathlib.Core.List.{List, [], ◌∷◌, ◌++◌, map}
use mathlib.Core.Bool.{Bool, true, false, ◌||◌}
use Prim.Native.Nat.{ℕ, ◌+◌, ◌-◌, ◌^◌, ◌≤◌, ◌<◌}
use lib.Dec.{ltb}
use lib.ListN.{length, drop}
use Rattle.rules.specs.declared.Applied.{Applied}
use Rattle.rules.specs.Lists.{Each, any}
use Rattle.rules.specs.Quantities.{Key, same}
use Rattle.rules.specs.Log.{end, keys}
use Rattle.rules.specs.Prints.{of_key, of_pair}
use Rattle.rules.specs.Lines.{Connection, Failed, InLine, Line, Market, Pending, Waiting, is_in_line, item_count}
use Rattle.rules.specs.Calls.{Outcome, did, refuse, refused}
use Rattle.rules.specs.Refusals.{BookEvent, Call, Drop, Print, Promote, Reset, Snapshot, Subscribe, Tick, short}
use Rattle.rules.specs.Answers.{Said, said_by}
use Rattle.rules.specs.Demand.{ApplyOrDuplicate, Goes, Sent, advanced, applied_of, books, copies, delivered_of, events_of, farthest, highest, is_printed, numbered, prints_by, pushed_by, touched_by, touched_of}
use Rattle.rules.proofs.Tests.{ff≢tt}
use Rattle.rules.proofs.Order.{same_pair}
use Rattle.rules.proofs.Tables.{news}
use Rattle.rules.proofs.Invariant.{Sorted}
use Rattle.rules.proofs.Still.{line_in}

-- ---- what the calls print

abbrev pub a_key : Call → List Key → List Key
a_key (Subscribe d limit now) l = l
a_key (Snapshot d i msg now room) l = l
a_key (BookEvent d k msg now room) l = l
a_key (Print d k msg now room) l = k ∷ l
a_key (Drop d now room) l = l
a_key (Promote now room) l = l
a_key (Reset now) l = l
a_key (Tick answers now room reports) l = l

unfoldable pub print_keys : List Call → List Key
print_keys [] = []
print_keys (x ∷ xs) = a_key x (print_keys xs)

abbrev pub a_pair : Call → List (Key × ℕ) → List (Key × ℕ)
a_pair (Subscribe d limit now) l = l
a_pair (Snapshot d i msg now room) l = l
a_pair (BookEvent d k msg now room) l = l
a_pair (Print d k msg now room) l = (k, d) ∷ l
a_pair (Drop d now room) l = l
a_pair (Promote now room) l = l
a_pair (Reset now) l = l
a_pair (Tick answers now room reports) l = l

unfoldable pub print_pairs : List Call → List (Key × ℕ)
print_pairs [] = []
print_pairs (x ∷ xs) = a_pair x (print_pairs xs)

abbrev pub seen_key : Market → Key → Bool
seen_key m k = any (of_key k) m.prints.key_rows

abbrev pub seen_pair : Market → Key × ℕ → Bool
seen_pair m p = any (of_pair p.0 p.1) m.prints.count_rows

abbrev pub room_of : Call → ℕ
room_of (Subscribe d limit now) = 0
room_of (Snapshot d i msg now room) = room
room_of (BookEvent d k msg now room) = room
room_of (Print d k msg now room) = room
room_of (Drop d now room) = room
room_of (Promote now room) = room
room_of (Reset now) = 0
room_of (Tick answers now room reports) = room

abbrev pub counting : List Call → ℕ → ℕ
counting xs c = length (events_of c xs)

abbrev pub printing : Key → List Call → ℕ → ℕ
printing k xs c = prints_by k c xs

abbrev pub new_keys : Market → List Call → ℕ
new_keys m xs = news same (seen_key m) (print_keys xs)

abbrev pub new_pairs : Market → List Call → ℕ
new_pairs m xs = news same_pair (seen_pair m) (print_pairs xs)

-- ---- connections in line go on

abbrev pub CalmLine : List Key → ℕ → ℕ → List Key → Line → Type 0
CalmLine U base e ev (Waiting is since) = Unit {0}
CalmLine U base e ev (Pending is at since) = ⊥
CalmLine U base e ev (InLine n a b) = (base ≤ n) × (n ≤ e) × ((rest : List Key) × (drop (n - base) U ≡ ev ++ rest))
CalmLine U base e ev Failed = Unit {0}

abbrev pub Calm : List Key → ℕ → ℕ → List Call → Connection → Type 0
Calm U base e xs s = CalmLine U base e (events_of s.conn xs) s.line

pub record Going (U : List Key) (m : Market) (xs : List Call) : Type 0 where
  pub theirs : Each (Goes m) xs
  pub rises : Sorted m.lines
  pub calm : Each (Calm U m.log.base (end m.log) xs) m.lines
  pub beyond : List Key
  pub begins : U ≡ keys m.log ++ beyond

-- what no order changes about being refused
pub record Fits (m : Market) (xs : List Call) : Type 0 where
  pub rooms : Each (λ x. short (room_of x) m ≡ false) xs
  pub log_fits : end m.log < farthest m (counting xs)
      → (farthest m (counting xs) - m.log.base + item_count m.lines ≤ m.limits.G) × (farthest m (counting xs) + item_count m.lines ≤ 2 ^ 64 - 1)
  pub keys_fit : 0 < new_keys m xs → length m.prints.key_rows + new_keys m xs ≤ m.limits.C
  pub pairs_fit : 0 < new_pairs m xs → length m.prints.count_rows + new_pairs m xs ≤ m.limits.D
  pub counts_fit : (k : Key) (c : ℕ) → 0 < prints_by k c xs → delivered_of k c m + prints_by k c xs ≤ 2 ^ 32 - 1

-- what an accepted call changes of the log and the lines
pub record Moved (U : List Key) (m : Market) (x : Call) (xs : List Call) (m' : Market) (out : List Applied) : Type 0 where
  pub rises : Sorted m'.lines
  pub goers : (c : ℕ) → is_in_line (line_in c m'.lines) ≡ is_in_line (line_in c m.lines)
  pub calm : Each (Calm U m'.log.base (end m'.log) xs) m'.lines
  pub beyond : List Key
  pub begins : U ≡ keys m'.log ++ beyond
  pub lines : map (advanced (counting xs)) m'.lines ≡ map (advanced (counting (x ∷ xs))) m.lines
  pub far : farthest m' (counting xs) ≡ farthest m (counting (x ∷ xs))
  pub base : m'.log.base ≡ m.log.base
  pub items : item_count m'.lines ≡ item_count m.lines
  pub newer : List Key
  pub grew : keys m'.log ≡ keys m.log ++ newer
  pub once : books out ≡ numbered (end m.log) newer
  pub fitted : end m.log < end m'.log → (end m'.log - m.log.base + item_count m.lines ≤ m.limits.G) × (end m'.log + item_count m.lines ≤ 2 ^ 64 - 1)

-- and of the prints
pub record Printed (m : Market) (x : Call) (xs : List Call) (m' : Market) (out : List Applied) : Type 0 where
  pub tops : (k : Key) → highest k m' (printing k xs) ≡ highest k m (printing k (x ∷ xs))
  pub rise : (k : Key) → applied_of k m + copies k out ≡ applied_of k m'
  pub deliveries : (k : Key) (c : ℕ) → delivered_of k c m' + prints_by k c xs ≡ delivered_of k c m + prints_by k c (x ∷ xs)
  pub counts_le : (k : Key) (c : ℕ) → delivered_of k c m ≤ delivered_of k c m'
  pub counts_fit : (k : Key) (c : ℕ) → delivered_of k c m < delivered_of k c m' → delivered_of k c m' ≤ 2 ^ 32 - 1
  pub key_row : length m'.prints.key_rows + new_keys m' xs ≡ length m.prints.key_rows + new_keys m (x ∷ xs)
  pub key_le : length m.prints.key_rows ≤ length m'.prints.key_rows
  pub key_fits : length m.prints.key_rows < length m'.prints.key_rows → length m'.prints.key_rows ≤ m.limits.C
  pub pair_row : length m'.prints.count_rows + new_pairs m' xs ≡ length m.prints.count_rows + new_pairs m (x ∷ xs)
  pub pair_le : length m.prints.count_rows ≤ length m'.prints.count_rows
  pub pair_fits : length m.prints.count_rows < length m'.prints.count_rows → length m'.prints.count_rows ≤ m.limits.D
  pub key_has : (k : Key) → (seen_key m' k || is_printed m' (printing k xs)) ≡ (seen_key m k || is_printed m (printing k (x ∷ xs)))
  pub pair_has : (k : Key) (c : ℕ) → (seen_pair m' (k, c) || ltb 0 (prints_by k c xs)) ≡ (seen_pair m (k, c) || ltb 0 (prints_by k c (x ∷ xs)))

pub record Next (U : List Key) (m : Market) (x : Call) (xs : List Call) (m' : Market) (out : List Applied) : Type 0 where
  pub limits : m'.limits ≡ m.limits
  pub room : short (room_of x) m ≡ false
  pub log : Moved U m x xs m' out
  pub prints : Printed m x xs m' out
  pub sent : Each (Sent m (x ∷ xs)) out

-- and of the stamps, s being its answer
pub record Stamped (m : Market) (x : Call) (s : Said) (m' : Market) : Type 0 where
  pub log : m'.log ≡ pushed_by x s m.log
  pub touched : (k : Key) → touched_of k m' ≡ touched_by k x (touched_of k m)

-- an outcome judged: an accepted call is answered Apply or Duplicate and changes what Next and Stamped say, and what fits is accepted
abbrev pub Judged : List Key → Market → Call → List Call → Outcome → Type 0
Judged U m x xs (refused n) = Fits m (x ∷ xs) → ⊥
Judged U m x xs (did a rs w) =
    ApplyOrDuplicate (said_by (did a rs w)) × Next U m x xs w.market w.out × Stamped m x (said_by (did a rs w)) w.market

pub refuse-judged : (U : List Key) (m : Market) (x : Call) (xs : List Call) (b : Bool) (n : ℕ) (o : Outcome) → (Fits m (x ∷ xs) → b ≡ false) → (b ≡ false → Judged U m x xs o) → Judged U m x xs (refuse b n o)
refuse-judged U m x xs true n o f h = λ t. ff≢tt (f t) refl
refuse-judged U m x xs false n o f h = h refl
