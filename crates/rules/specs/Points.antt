-- 01, Worked points: the starred ones, what the named misreadings get wrong, and the listing, as one claim over one table.
-- Letters p, q, r, s, t are the keys (1, 1) to (5, 5); start is 0.
use Rattle.std.specs.Prelude.{Some, ◌≡◌, List, [], ◌∷◌, ◌++◌, Bool, false, ℕ, take}
use Rattle.rules.specs.declared.Limits.{Limits}
use Rattle.rules.specs.declared.Applied.{Applied}
use Rattle.rules.specs.declared.Item.TheVariants as Item
use Rattle.rules.specs.declared.Expired.{Expired}
use Rattle.rules.specs.Lists.{Each}
use Rattle.rules.specs.Quantities.{key, snapshot_out, book_out, print_out}
use Rattle.rules.specs.Prints.{CountRow}
use Rattle.rules.specs.Lines.{Line, Waiting, Pending, InLine, Market, fresh, line_of, conn_at, with_lines}
use Rattle.rules.specs.Calls.{Answer, done, apply, duplicate, held, diverged, failed, gone, rebuild, Outcome, refused, did}
use Rattle.rules.specs.Refusals.{Call, Subscribe, Snapshot, BookEvent, Print, Drop, Reset, Tick, step, servable}
use Rattle.rules.specs.Sound.{Sound}
use Rattle.rules.specs.Demand.{market_after, after}

-- what a point shows: a call's answer with its records and reports; a line; the log's first number; the delivered counts; a line's limit;
-- what servable says
pub data Shown : Type 0 where
  refusal : ℕ → Shown
  answer : Answer → List Applied → List Expired → Shown
  line : Line → Shown
  base : ℕ → Shown
  counts : List CountRow → Shown
  limit : ℕ → Shown
  service : Bool → Shown

abbrev pub shown : Outcome → Shown
shown (refused n) = refusal n
shown (did a rs w) = answer a w.out rs

-- what the last of some calls shows
unfoldable pub last_of : Market → List Call → Shown → Shown
last_of m [] s = s
last_of m (x ∷ xs) s = last_of (market_after (step x m) m) xs (shown (step x m))

unfoldable pub limits : ℕ → Limits
limits h = record { L = 4; H = h; G = 128; C = 32; D = 128 }

-- key k is (k, k), and its message k; a snapshot's message is 0
unfoldable pub event_at : ℕ → ℕ → ℕ → Call
event_at c k now = BookEvent c (key k k) k now 1000

unfoldable pub event : ℕ → ℕ → Call
event c k = event_at c k 0

unfoldable pub snap : ℕ → ℕ → ℕ → Call
snap c t now = Snapshot c t 0 now 1000

unfoldable pub print_at : ℕ → ℕ → ℕ → Call
print_at c k now = Print c (key k k) k now 1000

unfoldable pub print_of : ℕ → ℕ → Call
print_of c k = print_at c k 0

unfoldable pub tick_at : ℕ → List ℕ → Call
tick_at now answers = Tick answers now 1000 4

-- a subscription at time 0: with this limit, and with limit 16
unfoldable pub limited : ℕ → ℕ → Call
limited c n = Subscribe c n 0

unfoldable pub subscribes : ℕ → Call
subscribes c = limited c 16

-- a subscription, with both snapshots at a time
unfoldable pub joins : ℕ → ℕ → List Call
joins c now = subscribes c ∷ snap c 0 now ∷ snap c 1 now ∷ []

unfoldable pub pqrs : ℕ → List Call
pqrs c = event c 1 ∷ event c 2 ∷ event c 3 ∷ event c 4 ∷ []

-- records of these: a connection's snapshot; event n, with key k; some copies of the print k
abbrev pub put_snap : ℕ → Applied
put_snap c = snapshot_out c 0

abbrev pub put_event : ℕ → ℕ → ℕ → Applied
put_event c n k = book_out c n (key k k) k

abbrev pub put_print : ℕ → ℕ → ℕ → Applied
put_print c k times = print_out c (key k k) k times

-- so many copies of the print k, delivered by a connection
abbrev pub count_of : ℕ → ℕ → ℕ → CountRow
count_of c k n = record { key = key k k; conn = c; delivered = n }

-- a row of the table: what is shown, and what it should be. H is 16, or h
abbrev pub Row : Type 0
Row = Shown × Shown

unfoldable pub says_from : Market → List Call → Shown → Row
says_from m xs s = (last_of m xs (refusal 0), s)

unfoldable pub says_with : ℕ → List Call → Shown → Row
says_with h xs s = says_from (fresh (limits h) 0) xs s

unfoldable pub says : List Call → Shown → Row
says xs s = says_with 16 xs s

unfoldable pub leaves : List Call → ℕ → Line → Row
leaves xs c l = let m = after (fresh (limits 16) 0) xs in (line (conn_at (line_of c m) m).line, line l)

unfoldable pub bases : List Call → ℕ → Row
bases xs n = (base (after (fresh (limits 16) 0) xs).log.base, base n)

unfoldable pub keeps : List Call → List CountRow → Row
keeps xs rs = (counts (after (fresh (limits 16) 0) xs).prints.count_rows, counts rs)

unfoldable pub limited_to : List Call → ℕ → ℕ → Row
limited_to xs c n = let m = after (fresh (limits 16) 0) xs in (limit (conn_at (line_of c m) m).limit, limit n)

unfoldable pub serves : List Call → Bool → Row
serves xs b = (service (servable (after (fresh (limits 16) 0) xs)), service b)

-- 1 in line; 2 in line by a quiet tick at 1,000
unfoldable pub two : List Call
two = joins 1 0 ++ joins 2 0 ++ (tick_at 1000 (0 ∷ 1 ∷ []) ∷ [])

-- 2 pending with pqrs, 1 waiting with a snapshot and pqrs, nobody in line any more
unfoldable pub deserted : List Call
deserted = joins 3 0 ++ joins 2 0 ++ pqrs 2 ++ (subscribes 1 ∷ snap 1 0 0 ∷ []) ++ pqrs 1 ++ (subscribes 3 ∷ [])

-- 1 delivers the prints 8 and 9, and 2 the print 8
unfoldable pub delivers : List Call
delivers = subscribes 1 ∷ subscribes 2 ∷ print_of 1 8 ∷ print_of 2 8 ∷ print_of 1 9 ∷ []

-- a print of 1 is put out, and 1 subscribes again and takes over
unfoldable pub again : List Call
again = subscribes 1 ∷ snap 1 0 0 ∷ print_of 1 9 ∷ subscribes 1 ∷ snap 1 0 0 ∷ []

-- as many lines as there may be
unfoldable pub four_lines : List Call
four_lines = subscribes 1 ∷ subscribes 2 ∷ subscribes 3 ∷ subscribes 4 ∷ []

-- snapshots of token 0, more than the limit of 1 and 8
unfoldable pub ten_snaps : ℕ → List Call
ten_snaps c =
    snap c 0 0 ∷ snap c 0 0 ∷ snap c 0 0 ∷ snap c 0 0 ∷ snap c 0 0
    ∷ snap c 0 0 ∷ snap c 0 0 ∷ snap c 0 0 ∷ snap c 0 0 ∷ snap c 0 0 ∷ []

-- a market that no call made: 1 holds three events and three prints, with a limit of 2
unfoldable pub overfull : Market
overfull =
    with_lines
    (record {
      conn = 1;
      limit = 2;
      line = Waiting (Item.Event (key 1 1) 1 ∷ Item.Event (key 2 2) 2 ∷ Item.Event (key 3 3) 3 ∷ []) 0;
      held = (key 2 2, 2) ∷ (key 3 3, 3) ∷ (key 4 4, 4) ∷ [];
    } ∷ [])
    (fresh (limits 16) 0)

-- the first n calls of the listing
unfoldable pub listing : ℕ → List Call
listing n =
    take n
    (subscribes 1 ∷ Snapshot 1 0 10 0 1000 ∷ BookEvent 1 (key 7 7) 11 0 1000 ∷ Print 1 (key 9 9) 12 0 1000 ∷ Drop 1 0 1000 ∷ [])

unfoldable pub points : List Row
points =
    -- log pqrs, pending holds pqr: held; then s: duplicate, next 4
    says (joins 1 0 ++ pqrs 1 ++ joins 2 0 ++ (event 2 1 ∷ event 2 2 ∷ event 2 3 ∷ [])) (answer held [] [])
    ∷ says (joins 1 0 ++ pqrs 1 ++ joins 2 0 ++ pqrs 2) (answer duplicate [] [])
    ∷ leaves (joins 1 0 ++ pqrs 1 ++ joins 2 0 ++ pqrs 2) 2 (InLine 4 false false)
    -- log pqrspqrs, pending pqrs: held, since two places count; then t: number 8
    ∷ says (joins 1 0 ++ pqrs 1 ++ pqrs 1 ++ joins 2 0 ++ pqrs 2) (answer held [] [])
    ∷ says (joins 1 0 ++ pqrs 1 ++ pqrs 1 ++ joins 2 0 ++ pqrs 2 ++ (event 2 5 ∷ [])) (answer apply (put_event 2 8 5 ∷ []) [])
    -- log age 10,000 stays, 10,001 goes
    ∷ bases (joins 1 0 ++ (event 1 1 ∷ tick_at 10000 (0 ∷ []) ∷ [])) 0
    ∷ bases (joins 1 0 ++ (event 1 1 ∷ tick_at 10001 (0 ∷ []) ∷ [])) 1
    -- since-age 9,999 waits, 10,000 ends
    ∷ says (subscribes 1 ∷ tick_at 9999 (0 ∷ []) ∷ []) (answer done [] [])
    ∷ says (subscribes 1 ∷ tick_at 10000 (0 ∷ []) ∷ []) (answer done [] (Expired.Failed 1 ∷ []))
    -- quiet 999 no, 1,000 yes
    ∷ leaves (joins 1 0 ++ joins 2 0 ++ (tick_at 999 (0 ∷ 1 ∷ []) ∷ [])) 2 (Pending (Item.Snapshot 0 0 ∷ Item.Snapshot 1 0 ∷ []) (Some 0) 0)
    ∷ leaves two 2 (InLine 0 false false)
    -- in line, two and three copies of a print: three put out
    ∷ says (two ++ (print_of 1 9 ∷ [])) (answer apply (put_print 1 9 1 ∷ []) [])
    ∷ says (two ++ (print_of 1 9 ∷ print_of 1 9 ∷ [])) (answer apply (put_print 1 9 1 ∷ []) [])
    ∷ says (two ++ (print_of 1 9 ∷ print_of 1 9 ∷ print_of 2 9 ∷ [])) (answer duplicate [] [])
    ∷ says (two ++ (print_of 1 9 ∷ print_of 1 9 ∷ print_of 2 9 ∷ print_of 2 9 ∷ [])) (answer duplicate [] [])
    ∷ says (two ++ (print_of 1 9 ∷ print_of 1 9 ∷ print_of 2 9 ∷ print_of 2 9 ∷ print_of 2 9 ∷ [])) (answer apply (put_print 2 9 1 ∷ []) [])
    -- request 1: print while Waiting, subscribe again, snapshot 0 with nobody in line, print: times 1
    ∷ says (subscribes 1 ∷ print_of 1 9 ∷ subscribes 1 ∷ snap 1 0 0 ∷ print_of 1 9 ∷ []) (answer apply (put_print 1 9 1 ∷ []) [])
    -- request 1: subscribe removes its connection's counts, of every key, and nobody else's; a refused one removes none
    ∷ keeps delivers (count_of 1 8 1 ∷ count_of 2 8 1 ∷ count_of 1 9 1 ∷ [])
    ∷ keeps (delivers ++ (subscribes 1 ∷ [])) (count_of 2 8 1 ∷ [])
    ∷ keeps (delivers ++ (Drop 1 0 1000 ∷ subscribes 3 ∷ subscribes 4 ∷ subscribes 5 ∷ subscribes 1 ∷ []))
    (count_of 1 8 1 ∷ count_of 2 8 1 ∷ count_of 1 9 1 ∷ [])
    -- request 1: applied counts remain, so of two more copies the first is no new one
    ∷ says (again ++ (print_of 1 9 ∷ [])) (answer duplicate [] [])
    ∷ says (again ++ (print_of 1 9 ∷ print_of 1 9 ∷ [])) (answer apply (put_print 1 9 1 ∷ []) [])
    -- held, released by a take-over, printed again: a release leaves applied = delivered
    ∷ says (subscribes 1 ∷ print_of 1 9 ∷ snap 1 0 0 ∷ []) (answer apply (put_snap 1 ∷ put_print 1 9 1 ∷ []) [])
    ∷ says (subscribes 1 ∷ print_of 1 9 ∷ snap 1 0 0 ∷ print_of 1 9 ∷ []) (answer apply (put_print 1 9 1 ∷ []) [])
    -- a print key untouched for 30,000 stays, for 30,001 goes
    ∷ says (two ++ (print_of 1 9 ∷ tick_at 30000 (0 ∷ 0 ∷ []) ∷ print_of 2 9 ∷ [])) (answer duplicate [] [])
    ∷ says (two ++ (print_of 1 9 ∷ tick_at 30001 (0 ∷ 0 ∷ []) ∷ print_of 2 9 ∷ [])) (answer apply (put_print 2 9 1 ∷ []) [])
    -- H - 1 items: held; H: failed
    ∷ says_with 2 (limited 1 2 ∷ event 1 1 ∷ event 1 2 ∷ []) (answer held [] [])
    ∷ says_with 2 (limited 1 2 ∷ event 1 1 ∷ event 1 2 ∷ event 1 3 ∷ []) (answer failed [] [])
    ∷ says_with 2 (limited 1 2 ∷ print_of 1 7 ∷ print_of 1 8 ∷ []) (answer held [] [])
    ∷ says_with 2 (limited 1 2 ∷ print_of 1 7 ∷ print_of 1 8 ∷ print_of 1 9 ∷ []) (answer failed [] [])
    -- request 5: the same at a line's limit below H, which another line's does not change; a key that is held does not fail
    ∷ says (limited 1 2 ∷ subscribes 2 ∷ event 1 1 ∷ event 1 2 ∷ []) (answer held [] [])
    ∷ says (limited 1 2 ∷ subscribes 2 ∷ event 1 1 ∷ event 1 2 ∷ event 1 3 ∷ []) (answer failed [] [])
    ∷ says (limited 1 2 ∷ subscribes 2 ∷ print_of 1 7 ∷ print_of 1 8 ∷ []) (answer held [] [])
    ∷ says (limited 1 2 ∷ subscribes 2 ∷ print_of 1 7 ∷ print_of 1 8 ∷ print_of 1 8 ∷ []) (answer held [] [])
    ∷ says (limited 1 2 ∷ subscribes 2 ∷ print_of 1 7 ∷ print_of 1 8 ∷ print_of 1 9 ∷ []) (answer failed [] [])
    -- request 5: or more. Snapshots ignore the limit; a store that no call made may hold more prints than it too
    ∷ says (joins 1 0 ++ (limited 2 1 ∷ snap 2 0 0 ∷ snap 2 1 0 ∷ [])) (answer held [] [])
    ∷ says (joins 1 0 ++ (limited 2 1 ∷ snap 2 0 0 ∷ snap 2 1 0 ∷ event 2 1 ∷ [])) (answer failed [] [])
    ∷ says_from overfull (event 1 5 ∷ []) (answer failed [] [])
    ∷ says_from overfull (print_of 1 4 ∷ []) (answer held [] [])
    ∷ says_from overfull (print_of 1 5 ∷ []) (answer failed [] [])
    -- request 5: the item area goes by H
    ∷ says (joins 1 0 ++ (limited 2 1 ∷ []) ++ ten_snaps 2) (answer held [] [])
    -- request 5: 18 for a limit of zero or above H, before 4
    ∷ says (limited 1 0 ∷ []) (refusal 18)
    ∷ says (limited 1 1 ∷ []) (answer done [] [])
    ∷ says (limited 1 16 ∷ []) (answer done [] [])
    ∷ says (limited 1 17 ∷ []) (refusal 18)
    ∷ says (four_lines ++ (limited 5 16 ∷ [])) (refusal 4)
    ∷ says (four_lines ++ (limited 5 17 ∷ [])) (refusal 18)
    -- request 5: a new subscription brings its own limit; a reset, a rebuild and failing keep it
    ∷ limited_to (limited 1 1 ∷ limited 1 2 ∷ []) 1 2
    ∷ limited_to (limited 1 2 ∷ limited 1 1 ∷ []) 1 1
    ∷ limited_to (limited 1 2 ∷ limited 1 0 ∷ []) 1 2
    ∷ limited_to (limited 1 2 ∷ Reset 0 ∷ []) 1 2
    ∷ limited_to (limited 1 1 ∷ event 1 1 ∷ event 1 2 ∷ []) 1 1
    ∷ limited_to ((limited 1 2 ∷ snap 1 0 0 ∷ snap 1 1 0 ∷ []) ++ joins 2 0 ++ (tick_at 10000 (0 ∷ 0 ∷ []) ∷ [])) 1 2
    -- snapshots of equal time: the lower connection
    ∷ says (joins 1 0 ++ joins 3 5 ++ joins 2 5 ++ (Drop 1 6 1000 ∷ [])) (answer rebuild (put_snap 2 ∷ put_snap 2 ∷ []) [])
    -- no sweep after a take-over by snapshot: 2, whose pqrs now fit the log, stays pending
    ∷ says (deserted ++ (snap 1 1 0 ∷ [])) (answer apply (put_snap 1 ∷ put_event 1 0 1 ∷ put_event 1 1 2 ∷ put_event 1 2 3 ∷ put_event 1 3 4 ∷ put_snap 1 ∷ []) [])
    ∷ leaves (deserted ++ (snap 1 1 0 ∷ [])) 2
    (Pending (Item.Snapshot 0 0 ∷ Item.Snapshot 1 0 ∷ Item.Event (key 1 1) 1 ∷ Item.Event (key 2 2) 2
    ∷ Item.Event (key 3 3) 3 ∷ Item.Event (key 4 4) 4 ∷ []) (Some 0) 0)
    -- and a sweep after the next event: 2 lines up
    ∷ leaves (deserted ++ (snap 1 1 0 ∷ event 1 5 ∷ [])) 2 (InLine 4 false false)
    -- counts outlive a drop
    ∷ keeps (delivers ++ (Drop 1 0 1000 ∷ [])) (count_of 1 8 1 ∷ count_of 2 8 1 ∷ count_of 1 9 1 ∷ [])
    -- at 10,000 a Waiting line that holds a snapshot fails; a Pending one with a snapshot time rebuilds
    ∷ says (joins 1 0 ++ (subscribes 2 ∷ snap 2 0 0 ∷ tick_at 10000 (0 ∷ 0 ∷ []) ∷ [])) (answer done [] (Expired.Failed 2 ∷ []))
    ∷ says (joins 1 0 ++ joins 2 0 ++ (tick_at 10000 (0 ∷ 0 ∷ []) ∷ [])) (answer done (put_snap 2 ∷ put_snap 2 ∷ []) (Expired.Rebuild 2 2 ∷ []))
    -- a second connection's copy; another key at the same number
    ∷ says (two ++ (event 1 1 ∷ event 2 1 ∷ [])) (answer duplicate [] [])
    ∷ says (two ++ (event 1 1 ∷ event 2 2 ∷ [])) (answer diverged [] [])
    -- the listing, with its own messages
    ∷ says (listing 1) (answer done [] [])
    ∷ says (listing 2) (answer apply (snapshot_out 1 10 ∷ []) [])
    ∷ says (listing 3) (answer apply (book_out 1 0 (key 7 7) 11 ∷ []) [])
    ∷ says (listing 4) (answer apply (print_out 1 (key 9 9) 12 1 ∷ []) [])
    ∷ says (listing 5) (answer gone [] [])
    ∷ []

-- each row shows what it should
abbrev pub WorkedPoints : Type 0
WorkedPoints = Each (λ (x : Row). x.0 ≡ x.1) points

-- the market that no call made is sound
abbrev pub OverfullSound : Type 0
OverfullSound = Sound overfull
