-- 01, Lines: what puts records out on the way into line: take-over, release, line-up, sweep.
use Rattle.std.specs.Prelude.{Option, None, List, [], ◌∷◌, ◌++◌, Bool, false, not, cond, ℕ, zero, suc, ◌+◌, ◌-◌, ltb, eqb, length, drop}
use Rattle.rules.specs.declared.Applied.{Applied}
use Rattle.rules.specs.declared.Item.{Item}
use Rattle.rules.specs.Lists.{keep, any, maybe}
use Rattle.rules.specs.Quantities.{Key, snapshot_out, book_out, print_out}
use Rattle.rules.specs.Log.{keys, end, push, stamp}
use Rattle.rules.specs.Prints.{applied_in, delivered_in, apply_print}
use Rattle.rules.specs.Lines.{Line, Waiting, Pending, InLine, Failed, Connection, Market, events, event_keys, snapshot_of, items_of, is_pending, some_due, conn_at, with_log, with_prints, set_conn}
use Rattle.rules.specs.Place.{Place, alignment}

-- a call under way: the market, the records put out so far, and who entered line at which entry number (no word of the store)
pub record Work : Type 0 where
  pub market : Market
  pub out : List Applied
  pub entered : List (ℕ × ℕ)

abbrev pub begin : Market → Work
begin m = record { market = m; out = []; entered = [] }

abbrev pub on_market : (Market → Market) → Work → Work
on_market f w = record { market = f w.market; out = w.out; entered = w.entered }

abbrev pub put_out : Applied → Work → Work
put_out r w = record { market = w.market; out = w.out ++ (r ∷ []); entered = w.entered }

abbrev pub note_entry : ℕ → ℕ → Work → Work
note_entry c n w = record { market = w.market; out = w.out; entered = w.entered ++ ((c, n) ∷ []) }

-- an event is pushed and put out under its number
unfoldable pub push_out : ℕ → ℕ → Key → ℕ → Work → Work
push_out c now k msg w = let l = w.market.log in put_out (book_out c (end l) k msg) (on_market (with_log (push k now l)) w)

unfoldable pub push_all : ℕ → ℕ → List (Key × ℕ) → Work → Work
push_all c now [] w = w
push_all c now (e ∷ es) w = push_all c now es (push_out c now e.0 e.1 w)

-- items put out in order, events pushed; if any was put out, last-applied = now
unfoldable pub put_items : ℕ → ℕ → List Item → Work → Work
put_items c now [] w = w
put_items c now (Item.Snapshot t msg ∷ is) w = put_items c now is (put_out (snapshot_out c msg) (on_market (with_log (stamp now w.market.log)) w))
put_items c now (Item.Event k msg ∷ is) w = put_items c now is (push_out c now k msg w)

-- Release: each held key in order, if its counts still exist and delivered > applied, is put out; a count that is gone reads 0
unfoldable pub release : ℕ → List (Key × ℕ) → Work → Work
release c [] w = w
release c (h ∷ hs) w =
    let p = w.market.prints in
    let d = delivered_in h.0 c p.count_rows in
    let a = applied_in h.0 p.key_rows in
    release c hs
    (cond (ltb a d) (put_out (print_out c h.0 h.1 (d - a)) (on_market (with_prints (apply_print h.0 d p)) w)) w)

-- into line at an entry number, with a next number and what is due; none is held any more; then release
unfoldable pub enter : ℕ → ℕ → ℕ → Bool → Bool → Work → Work
enter i entry next a b w =
    let s = conn_at i w.market in
    release s.conn s.held (note_entry s.conn entry (on_market (set_conn i (InLine next a b) []) w))

-- Take-over: due for each token without a snapshot; next = end
unfoldable pub take_over : ℕ → List Item → ℕ → Work → Work
take_over i is now w =
    let w' = put_items (conn_at i w.market).conn now is w in
    enter i (end w.market.log) (end w'.market.log) (not (any (snapshot_of 0) is)) (not (any (snapshot_of 1) is)) w'

-- alignment of a pending line, only while no line in line is due anything
abbrev pub aligns : Bool → Line → Market → Option Place
aligns quiet (Waiting is since) m = None
aligns quiet (Pending is at since) m = cond (some_due m.lines) None (alignment quiet (event_keys is) (keys m.log))
aligns quiet (InLine n a b) m = None
aligns quiet Failed m = None

-- Line-up at (j, p): held events past the end are pushed and put out; next = p + (held - j); due nothing
unfoldable pub line_up : ℕ → ℕ → Place → Work → Work
line_up i now p w =
    let s = conn_at i w.market in
    let l = w.market.log in
    let es = drop p.0 (events (items_of s.line)) in
    enter i (l.base + p.1) (l.base + p.1 + length es) false false
    (push_all s.conn now (drop (length l.entries - p.1) es) w)

unfoldable pub try_line_up : Bool → ℕ → ℕ → Work → Work
try_line_up quiet i now w = maybe w (λ p. line_up i now p w) (aligns quiet (conn_at i w.market).line w.market)

-- a round: n lines from the i-th on, rising. No line becomes pending within it, so it visits those pending at its start
unfoldable pub round : ℕ → ℕ → ℕ → Work → Work
round zero i now w = w
round (suc n) i now w = round n (suc i) now (try_line_up false i now w)

abbrev pub pendings : List Connection → ℕ
pendings ls = length (keep (λ s. is_pending s.line) ls)

-- rounds until one does nothing, at most n. A round that does something leaves fewer lines pending, so that one more than there are lines is enough
unfoldable pub rounds : ℕ → ℕ → Work → Work
rounds zero now w = w
rounds (suc n) now w =
    let w' = round (length w.market.lines) 0 now w in
    let w'' = rounds n now w' in cond (eqb (pendings w'.market.lines) (pendings w.market.lines)) w' w''

abbrev pub sweep : ℕ → Work → Work
sweep now w = rounds (suc (length w.market.lines)) now w
