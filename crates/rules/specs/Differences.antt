-- docs/DIFFERENCES.md, comments that say something else than the code: what its call lists show, as one claim over one table.
-- Letters p to u are the keys (1, 1) to (6, 6); take n xs is a list up to its n-th call.
use Rattle.std.specs.Prelude.{None, Some, ◌≡◌, List, [], ◌∷◌, ◌++◌, true, false, ℕ, take}
use Rattle.rules.specs.declared.Item.{Item}
use Rattle.rules.specs.declared.Expired.TheVariants as Expired
use Rattle.rules.specs.Lists.{Each}
use Rattle.rules.specs.Quantities.{key}
use Rattle.rules.specs.Lines.{Pending, InLine}
use Rattle.rules.specs.Calls.{done, apply, duplicate, held, ignored, diverged, failed, kept, rebuild}
use Rattle.rules.specs.Refusals.{Call, Subscribe, Drop, Promote, Reset}
use Rattle.rules.specs.Points.{answer, event_at, event, snap, print_at, print_of, tick_at, limited, subscribes, joins, pqrs, put_snap, put_event, put_print, Row, says_with, says, leaves, bases, serves, two}

-- ---- how the lists begin

-- a subscription with token 0's snapshot alone: in line, still due token 1, where nobody was
unfoldable pub starts : ℕ → List Call
starts c = subscribes c ∷ snap c 0 0 ∷ []

-- a pending line without a snapshot time
unfoldable pub resets : ℕ → List Call
resets c = subscribes c ∷ Reset 0 ∷ []

-- p, four times, at a time
unfoldable pub pppp : ℕ → ℕ → List Call
pppp c now = event_at c 1 now ∷ event_at c 1 now ∷ event_at c 1 now ∷ event_at c 1 now ∷ []

-- what a pending line holds: both snapshots, then events
abbrev pub both : List Item → List Item
both is = Item.Snapshot 0 0 ∷ Item.Snapshot 1 0 ∷ is

-- ---- the lists

unfoldable pub resubscribed : List Call
resubscribed = subscribes 1 ∷ print_of 1 1 ∷ subscribes 1 ∷ snap 1 0 0 ∷ print_of 1 1 ∷ []

unfoldable pub second_copy : List Call
second_copy = starts 1 ++ (subscribes 2 ∷ print_of 2 1 ∷ print_of 1 1 ∷ [])

unfoldable pub late_copies : List Call
late_copies = starts 1 ++ (print_of 1 1 ∷ print_at 1 1 40000 ∷ tick_at 60000 (0 ∷ []) ∷ Subscribe 2 16 60000 ∷ print_at 2 1 60000 ∷ print_at 2 1 60000 ∷ [])

-- 2 pending, with a print held
unfoldable pub print_held : List Call
print_held = joins 1 0 ++ (subscribes 2 ∷ print_of 2 1 ∷ snap 2 0 0 ∷ snap 2 1 0 ∷ [])

unfoldable pub first_delivery : List Call
first_delivery = starts 1 ++ starts 2 ++ (event 2 1 ∷ event 1 1 ∷ Drop 1 0 1000 ∷ [])

unfoldable pub completed : List Call
completed = joins 1 0 ++ pqrs 1 ++ (subscribes 2 ∷ []) ++ pqrs 2 ++ (snap 2 0 0 ∷ snap 2 1 0 ∷ [])

unfoldable pub disagreeing : List Call
disagreeing = two ++ (event_at 1 1 1000 ∷ event_at 2 2 1000 ∷ event_at 1 3 1000 ∷ [])

unfoldable pub full_of_items : List Call
full_of_items = limited 1 1 ∷ snap 1 0 0 ∷ limited 2 1 ∷ snap 2 0 0 ∷ event 2 1 ∷ []

unfoldable pub full_of_prints : List Call
full_of_prints = limited 1 1 ∷ print_of 1 1 ∷ print_of 1 2 ∷ []

unfoldable pub run_inside : List Call
run_inside = resets 2 ++ joins 1 0 ++ (event 1 5 ∷ pqrs 1) ++ (event 2 6 ∷ pqrs 2)

unfoldable pub two_fit : List Call
two_fit = joins 1 0 ++ (event 1 1 ∷ joins 2 0) ++ (event 2 1 ∷ event 2 1 ∷ tick_at 1000 (0 ∷ 1 ∷ []) ∷ [])

unfoldable pub quiet_ticks : List Call
quiet_ticks = tick_at 1000 (0 ∷ 1 ∷ []) ∷ tick_at 1500 (0 ∷ 0 ∷ []) ∷ print_at 1 2 1500 ∷ tick_at 1500 (0 ∷ 1 ∷ []) ∷ []

unfoldable pub quiet_events : List Call
quiet_events = joins 1 0 ++ (event 1 1 ∷ joins 2 500) ++ (event_at 2 1 500 ∷ quiet_ticks)

-- the same without book events
unfoldable pub quiet_empty : List Call
quiet_empty = joins 1 0 ++ joins 2 500 ++ quiet_ticks

unfoldable pub clock_back : List Call
clock_back = starts 1 ++ (event 1 1 ∷ event_at 1 2 20000 ∷ event 1 3 ∷ tick_at 25000 (0 ∷ []) ∷ [])

unfoldable pub behind_log : List Call
behind_log =
    joins 1 0 ++ (event 1 1 ∷ event_at 1 2 5000 ∷ tick_at 10001 (0 ∷ []) ∷ [])
    ++ (Subscribe 2 16 10001 ∷ snap 2 0 10001 ∷ snap 2 1 10001 ∷ event_at 2 1 10001 ∷ event_at 2 2 10001 ∷ tick_at 11001 (0 ∷ 1 ∷ []) ∷ [])

unfoldable pub swept_in_tick : List Call
swept_in_tick =
    (subscribes 2 ∷ resets 3) ++ joins 1 0 ++ (event 1 1 ∷ pppp 1 1) ++ pppp 2 1 ++ pppp 3 1
    ++ (print_at 3 2 1 ∷ tick_at 10001 (0 ∷ 0 ∷ 0 ∷ []) ∷ [])

unfoldable pub part_of_snapshot : List Call
part_of_snapshot = starts 1 ++ starts 2 ++ (tick_at 10000 (0 ∷ 0 ∷ []) ∷ [])

unfoldable pub late_snapshot : List Call
late_snapshot = starts 1 ++ starts 2 ++ (snap 2 1 5000 ∷ tick_at 10000 (0 ∷ 0 ∷ []) ∷ tick_at 15000 (0 ∷ 0 ∷ []) ∷ [])

unfoldable pub rebuilt : List Call
rebuilt = starts 1 ++ joins 2 0 ++ (tick_at 10000 (0 ∷ 0 ∷ []) ∷ [])

unfoldable pub last_fails : List Call
last_fails = two ++ (event_at 2 1 1000 ∷ Subscribe 2 16 2000 ∷ snap 2 0 2000 ∷ snap 2 1 2000 ∷ tick_at 11001 (0 ∷ 0 ∷ []) ∷ Promote 11001 1000 ∷ [])

unfoldable pub last_resubscribes : List Call
last_resubscribes = starts 1 ++ joins 2 0 ++ (subscribes 1 ∷ Promote 0 1000 ∷ [])

unfoldable pub old_log : List Call
old_log = resets 2 ++ starts 1 ++ pqrs 1 ++ (subscribes 1 ∷ Drop 1 0 1000 ∷ []) ++ pqrs 2

-- ---- the table

unfoldable pub differences : List Row
differences =
    -- how the lists begin: 1 in line, token 1 due or not; 2 pending; 2 in line by a quiet tick; 2 pending without a snapshot time
    leaves (starts 1) 1 (InLine 0 false true)
    ∷ leaves (joins 1 0) 1 (InLine 0 false false)
    ∷ leaves (starts 1 ++ joins 2 0) 2 (Pending (both []) (Some 0) 0)
    ∷ leaves (joins 1 0 ++ joins 2 0) 2 (Pending (both []) (Some 0) 0)
    ∷ leaves two 2 (InLine 0 false false)
    ∷ leaves (resets 2) 2 (Pending [] None 0)
    -- Counts and subscription
    ∷ says (take 2 resubscribed) (answer held [] [])
    ∷ says (take 4 resubscribed) (answer apply (put_snap 1 ∷ []) [])
    ∷ says resubscribed (answer apply (put_print 1 1 1 ∷ []) [])
    -- The k-th copy
    ∷ says (take 4 second_copy) (answer held [] [])
    ∷ says second_copy (answer apply (put_print 1 1 1 ∷ []) [])
    -- OTHER_KEEP
    ∷ says (take 3 late_copies) (answer apply (put_print 1 1 1 ∷ []) [])
    ∷ says (take 4 late_copies) (answer apply (put_print 1 1 1 ∷ []) [])
    ∷ says (take 7 late_copies) (answer duplicate [] [])
    ∷ says late_copies (answer duplicate [] [])
    -- held_prints
    ∷ says (take 5 print_held) (answer held [] [])
    ∷ leaves print_held 2 (Pending (both []) (Some 0) 0)
    ∷ says (print_held ++ (tick_at 30001 (0 ∷ 1 ∷ []) ∷ [])) (answer done [] [])
    ∷ leaves (print_held ++ (tick_at 30001 (0 ∷ 1 ∷ []) ∷ [])) 2 (InLine 0 false false)
    -- First delivery
    ∷ says (take 5 first_delivery) (answer held [] [])
    ∷ says (take 6 first_delivery) (answer apply (put_event 1 0 1 ∷ []) [])
    ∷ says first_delivery (answer rebuild (put_snap 2 ∷ put_event 2 1 1 ∷ []) [])
    -- Step::Held
    ∷ says (take 12 completed) (answer held [] [])
    ∷ says (take 13 completed) (answer held [] [])
    ∷ says completed (answer held [] [])
    ∷ leaves completed 2 (InLine 4 false false)
    -- Step::Ignored
    ∷ says (starts 1 ++ (snap 1 0 0 ∷ [])) (answer ignored [] [])
    ∷ leaves (starts 1 ++ (snap 1 0 0 ∷ [])) 1 (InLine 0 false true)
    ∷ says (resets 1 ++ (snap 1 0 0 ∷ [])) (answer ignored [] [])
    ∷ leaves (resets 1 ++ (snap 1 0 0 ∷ [])) 1 (Pending [] None 0)
    -- Diverged
    ∷ says (take 8 disagreeing) (answer apply (put_event 1 0 1 ∷ []) [])
    ∷ says (take 9 disagreeing) (answer diverged [] [])
    ∷ leaves (take 9 disagreeing) 1 (InLine 1 false false)
    ∷ leaves (take 9 disagreeing) 2 (InLine 0 false false)
    ∷ says disagreeing (answer apply (put_event 1 1 3 ∷ []) [])
    -- MAX_HELD
    ∷ says_with 1 (take 4 full_of_items) (answer held [] [])
    ∷ says_with 1 full_of_items (answer failed [] [])
    ∷ says_with 1 (take 2 full_of_prints) (answer held [] [])
    ∷ says_with 1 full_of_prints (answer failed [] [])
    -- ALIGN_RUN
    ∷ says (take 10 run_inside) (answer apply (put_event 1 4 4 ∷ []) [])
    ∷ says run_inside (answer held [] [])
    -- Exactly one place
    ∷ says (take 4 two_fit) (answer apply (put_event 1 0 1 ∷ []) [])
    ∷ says (take 8 two_fit) (answer held [] [])
    ∷ says (take 9 two_fit) (answer held [] [])
    ∷ leaves two_fit 2 (InLine 1 false false)
    -- Quiet line-up
    ∷ leaves (take 7 quiet_events) 2 (Pending (both []) (Some 500) 500)
    ∷ says (take 8 quiet_events) (answer held [] [])
    ∷ leaves (take 9 quiet_events) 2 (Pending (both (Item.Event (key 1 1) 1 ∷ [])) (Some 500) 500)
    ∷ leaves (take 10 quiet_events) 2 (Pending (both (Item.Event (key 1 1) 1 ∷ [])) (Some 500) 500)
    ∷ says (take 11 quiet_events) (answer apply (put_print 1 2 1 ∷ []) [])
    ∷ leaves quiet_events 2 (InLine 1 false false)
    ∷ leaves (take 7 quiet_empty) 2 (Pending (both []) (Some 500) 500)
    ∷ leaves (take 8 quiet_empty) 2 (Pending (both []) (Some 500) 500)
    ∷ leaves quiet_empty 2 (InLine 0 false false)
    -- LOG_KEEP
    ∷ bases (take 4 clock_back) 0
    ∷ bases clock_back 1
    ∷ leaves clock_back 1 (InLine 3 false true)
    ∷ bases (take 6 behind_log) 1
    ∷ leaves (take 9 behind_log) 2 (Pending (both []) (Some 10001) 10001)
    ∷ says (take 10 behind_log) (answer held [] [])
    ∷ says (take 11 behind_log) (answer held [] [])
    ∷ leaves behind_log 2 (InLine 2 false false)
    -- Expired::Aligned
    ∷ says (print_held ++ (tick_at 1000 (0 ∷ 1 ∷ []) ∷ [])) (answer done (put_print 2 1 1 ∷ []) (Expired.Aligned 2 1 ∷ []))
    ∷ says two (answer done [] [])
    ∷ leaves (take 3 swept_in_tick) 2 (Pending [] None 0)
    ∷ leaves (take 3 swept_in_tick) 3 (Pending [] None 0)
    ∷ says (take 11 swept_in_tick) (answer apply (put_event 1 4 1 ∷ []) [])
    ∷ says (take 15 swept_in_tick) (answer held [] [])
    ∷ says (take 19 swept_in_tick) (answer held [] [])
    ∷ says (take 20 swept_in_tick) (answer held [] [])
    ∷ says swept_in_tick (answer done (put_print 3 2 1 ∷ []) (Expired.Aligned 2 1 ∷ []))
    ∷ leaves swept_in_tick 2 (InLine 5 false false)
    ∷ leaves swept_in_tick 3 (InLine 5 false false)
    -- ALIGN_TIMEOUT
    ∷ says (take 4 part_of_snapshot) (answer held [] [])
    ∷ says part_of_snapshot (answer done [] (Expired.Failed 2 ∷ []))
    ∷ leaves part_of_snapshot 1 (InLine 0 false true)
    ∷ says (take 5 late_snapshot) (answer held [] [])
    ∷ leaves (take 6 late_snapshot) 2 (Pending (both []) (Some 5000) 5000)
    ∷ says late_snapshot (answer done (put_snap 2 ∷ put_snap 2 ∷ []) (Expired.Rebuild 2 2 ∷ []))
    -- snapshot: None
    ∷ says rebuilt (answer done (put_snap 2 ∷ put_snap 2 ∷ []) (Expired.Rebuild 2 2 ∷ []))
    ∷ leaves rebuilt 1 (Pending [] None 10000)
    -- promote
    ∷ says (take 8 last_fails) (answer apply (put_event 2 0 1 ∷ []) [])
    ∷ leaves (take 8 last_fails) 1 (InLine 0 false false)
    ∷ leaves (take 11 last_fails) 2 (Pending (both []) (Some 2000) 2000)
    ∷ says (take 12 last_fails) (answer done [] (Expired.Failed 1 ∷ []))
    ∷ bases (take 12 last_fails) 1
    ∷ leaves (take 12 last_fails) 2 (Pending (both []) (Some 2000) 2000)
    ∷ says last_fails (answer rebuild (put_snap 2 ∷ put_snap 2 ∷ []) [])
    ∷ leaves (take 6 last_resubscribes) 2 (Pending (both []) (Some 0) 0)
    ∷ says last_resubscribes (answer rebuild (put_snap 2 ∷ put_snap 2 ∷ []) [])
    -- servable
    ∷ says (take 8 old_log) (answer apply (put_event 1 3 4 ∷ []) [])
    ∷ says (take 10 old_log) (answer kept [] [])
    ∷ serves (take 10 old_log) false
    ∷ says old_log (answer duplicate [] [])
    ∷ leaves old_log 2 (InLine 4 false false)
    ∷ []

-- each row shows what it should
abbrev pub ShownDifferences : Type 0
ShownDifferences = Each (λ (x : Row). x.0 ≡ x.1) differences
