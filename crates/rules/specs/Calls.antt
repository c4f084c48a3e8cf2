-- 01, Calls: all but the tick, with the refusals that go by the state. A call works on the i-th line, which is l.
use Rattle.std.specs.Prelude.{Option, None, Some, List, [], ◌∷◌, ◌++◌, map, Bool, true, false, not, ◌&&◌, ◌||◌, cond, ℕ, zero, suc, ◌+◌, ◌-◌, leb, ltb, eqb, length, get_or}
use Rattle.rules.specs.declared.Limits.{Limits}
use Rattle.rules.specs.declared.Item.TheVariants as Item
use Rattle.rules.specs.declared.Expired.{Expired}
use Rattle.rules.specs.Lists.{keep, any, nil, maybe}
use Rattle.rules.specs.Quantities.{Key, no_key, same, stamped, within, max_count, max_number, area_items, snapshot_out, print_out}
use Rattle.rules.specs.Log.{keys, end, stamp, clear}
use Rattle.rules.specs.Prints.{Prints, of_key, of_pair, applied_in, delivered_in, counted, apply_print, remove_counts}
use Rattle.rules.specs.Lines.{Line, Waiting, Pending, InLine, Failed, Connection, Market, snapshot_of, is_snapshot, items_of, is_in_line, is_failed, someone, item_count, line_of, conn_at, with_log, with_prints, with_lines, with_line, set_conn, set_line, subscribed}
use Rattle.rules.specs.Entering.{Work, begin, on_market, put_out, push_out, take_over, try_line_up, sweep}

pub data Answer : Type 0 where
  done apply duplicate held ignored diverged failed kept gone rebuild : Answer

-- a refusal's number; or an answer with its reports, the records and the market
pub data Outcome : Type 0 where
  refused : ℕ → Outcome
  did : Answer → List Expired → Work → Outcome

abbrev pub refuse : Bool → ℕ → Outcome → Outcome
refuse true n o = refused n
refuse false n o = o

-- an answer that puts nothing out
abbrev pub just : Answer → Market → Outcome
just a m = did a [] (begin m)

-- 5: log and items at G. 9: end plus items at 2^64 - 1
abbrev pub full_log : Market → Bool
full_log m = leb m.limits.G (length m.log.entries + item_count m.lines)

abbrev pub full_numbers : Market → Bool
full_numbers m = leb max_number (end m.log + item_count m.lines)

-- request 5: so many are the i-th line's limit or more
abbrev pub at_limit : ℕ → Market → ℕ → Bool
at_limit i m n = leb (conn_at i m).limit n

-- ---- Subscribe: the line is new; request 1: the connection's delivered counts go; request 5: with the line's limit, 1 to H
unfoldable pub subscribe : ℕ → ℕ → ℕ → Market → Outcome
subscribe c limit now m =
    refuse (not (within 1 m.limits.H limit)) 18
    (refuse (not (any (λ s. eqb s.conn c) m.lines) && leb m.limits.L (length m.lines)) 4
    (just done (with_lines (subscribed c limit now m.lines) (with_prints (remove_counts c m.prints) m))))

-- ---- Snapshot
abbrev pub due_for : ℕ → Bool → Bool → Bool
due_for zero a b = a
due_for (suc t) a b = b

-- due ends for token t
abbrev pub due_ends : ℕ → ℕ → Bool → Bool → Line
due_ends zero n a b = InLine n false b
due_ends (suc t) n a b = InLine n a false

-- after a try at line-up: nothing put out, the answer given; else sweep, Apply
abbrev pub released : Answer → ℕ → Work → Outcome
released a now w = cond (nil w.out) (did a [] w) (did apply [] (sweep now w))

unfoldable pub snapshot : ℕ → ℕ → ℕ → ℕ → Market → Line → Outcome
snapshot i t msg now m (InLine n a b) =
    cond (due_for t a b)
    (did apply []
    (sweep now (put_out (snapshot_out (conn_at i m).conn msg) (begin (set_line i (due_ends t n a b) (with_log (stamp now m.log) m))))))
    (just ignored m)
snapshot i t msg now m (Waiting is since) =
    let is' = is ++ (Item.Snapshot t msg ∷ []) in
    refuse (leb (area_items m.limits) (length is)) 6
    (refuse (full_log m) 5
    (refuse (full_numbers m) 9
    (cond (someone m.lines)
    (cond (any (snapshot_of 0) is' && any (snapshot_of 1) is')
    (released held now (try_line_up false i now (begin (set_line i (Pending is' (Some now) now) m))))
    (just held (set_line i (Waiting is' since) m)))
    (did apply [] (take_over i is' now (begin m))))))
snapshot i t msg now m (Pending is at since) = just ignored m
snapshot i t msg now m Failed = just ignored m

-- ---- Book event; request 5: a line fails by its own limit
unfoldable pub book_event : ℕ → Key → ℕ → ℕ → Market → Line → Outcome
book_event i k msg now m Failed = just ignored m
book_event i k msg now m (Waiting is since) =
    cond (at_limit i m (length is)) (just failed (set_line i Failed m))
    (refuse (full_log m) 5
    (refuse (full_numbers m) 9
    (just held (set_line i (Waiting (is ++ (Item.Event k msg ∷ [])) since) m))))
book_event i k msg now m (Pending is at since) =
    cond (at_limit i m (length is)) (just failed (set_line i Failed m))
    (refuse (full_log m) 5
    (refuse (full_numbers m) 9
    (let w = try_line_up false i now (begin (set_line i (Pending (is ++ (Item.Event k msg ∷ [])) at since) m)) in
    released (cond (is_in_line (conn_at i w.market).line) duplicate held) now w)))
book_event i k msg now m (InLine n a b) =
    cond (ltb n m.log.base) (just failed (set_line i Failed m))
    (cond (ltb n (end m.log))
    (cond (same (get_or (keys m.log) (n - m.log.base) no_key) k)
    (just duplicate (set_line i (InLine (suc n) a b) m))
    (just diverged m))
    (refuse (full_log m) 5
    (refuse (full_numbers m) 9
    (did apply [] (sweep now (on_market (set_line i (InLine (suc n) a b)) (push_out (conn_at i m).conn now k msg (begin m))))))))

-- ---- Print
-- not in line, delivered > applied: the key and message are held once per line; if the key is not held and the line's limit of prints or
-- more are (request 5), the line's prints go, Failed
unfoldable pub hold_print : ℕ → Key → ℕ → Market → Outcome
hold_print i k msg m =
    let hs = (conn_at i m).held in
    cond (any (λ h. same h.0 k) hs) (just held m)
    (cond (at_limit i m (length hs))
    (just failed (set_conn i Failed [] m))
    (just held (set_conn i (conn_at i m).line (hs ++ ((k, msg) ∷ [])) m)))

-- m has the print counted: delivered is d, applied is a
unfoldable pub print_counted : ℕ → ℕ → Key → ℕ → ℕ → ℕ → Market → Line → Outcome
print_counted i c k msg d a m Failed = just ignored m
print_counted i c k msg d a m (InLine n x y) =
    cond (leb d a) (just duplicate m)
    (did apply [] (put_out (print_out c k msg (d - a)) (begin (with_prints (apply_print k d m.prints) m))))
print_counted i c k msg d a m (Waiting is since) = cond (leb d a) (just duplicate m) (hold_print i k msg m)
print_counted i c k msg d a m (Pending is at since) = cond (leb d a) (just duplicate m) (hold_print i k msg m)

-- 7: a key or pair row needed and none free
abbrev pub no_row : Key → ℕ → Limits → Prints → Bool
no_row k c l p =
    not (any (of_key k) p.key_rows) && leb l.C (length p.key_rows)
    || not (any (of_pair k c) p.count_rows) && leb l.D (length p.count_rows)

-- on an unsubscribed or Failed line Ignored, nothing counted
unfoldable pub print : ℕ → Key → ℕ → ℕ → Market → Outcome
print c k msg now m =
    let p = m.prints in
    let i = line_of c m in
    cond (is_failed (conn_at i m).line) (just ignored m)
    (refuse (no_row k c m.limits p) 7
    (refuse (leb max_count (delivered_in k c p.count_rows)) 8
    (print_counted i c k msg (suc (delivered_in k c p.count_rows)) (applied_in k p.key_rows) (with_prints (counted k c now p) m) (conn_at i m).line)))

-- ---- Promote
-- a line's claim: Pending with a snapshot (1, snapshot time); Waiting holding a snapshot (0, since)
abbrev pub claim : Line → Option (ℕ × ℕ)
claim (Waiting is since) = cond (any is_snapshot is) (Some (0, since)) None
claim (Pending is at since) = stamped None (λ t. Some (1, t)) at
claim (InLine n a b) = None
claim Failed = None

abbrev pub below : ℕ × ℕ → ℕ × ℕ → Bool
below x y = ltb x.0 y.0 || eqb x.0 y.0 && ltb x.1 y.1

-- the better of the i-th line's claim and the best of those behind it: ties to the lowest connection
abbrev pub better : ℕ → Option (ℕ × ℕ) → Option (ℕ × (ℕ × ℕ)) → Option (ℕ × (ℕ × ℕ))
better i None o = o
better i (Some x) None = Some (i, x)
better i (Some x) (Some y) = cond (below x y.1) (Some y) (Some (i, x))

unfoldable pub source : ℕ → List Connection → Option (ℕ × (ℕ × ℕ))
source i [] = None
source i (s ∷ ss) = better i (claim s.line) (source (suc i) ss)

unfoldable pub promote : ℕ → Market → Outcome
promote now m =
    cond (someone m.lines) (just kept m)
    (let m' = with_log (clear m.log) m in
    maybe (just gone m')
    (λ x. did rebuild [] (sweep now (take_over x.0 (items_of (conn_at x.0 m).line) now (begin m'))))
    (source 0 m.lines))

-- ---- Drop: line, held prints go; promote keeps where another is in line
unfoldable pub drop_conn : ℕ → ℕ → Market → Outcome
drop_conn c now m =
    let m' = with_lines (keep (λ s. not (eqb s.conn c)) m.lines) m in
    cond (is_in_line (conn_at (line_of c m) m).line) (promote now m') (just kept m')

-- ---- Reset: every line but Failed becomes Pending, no items, no snapshot, since now
abbrev pub pending_anew : ℕ → Line → Line
pending_anew now (Waiting is since) = Pending [] None now
pending_anew now (Pending is at since) = Pending [] None now
pending_anew now (InLine n a b) = Pending [] None now
pending_anew now Failed = Failed

abbrev pub each_line : (Line → Line) → Market → Market
each_line f m = with_lines (map (λ s. with_line (f s.line) s) m.lines) m

abbrev pub reset : ℕ → Market → Market
reset now m = each_line (pending_anew now) (with_log (clear m.log) m)
