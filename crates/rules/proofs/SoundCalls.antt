-- Each call but the tick leaves a sound market sound, and puts out no more records than the room asked for.
use Rattle.std.specs.Prelude.{Some}
use mathlib.Core.Path.{◌≡◌, refl, ap, subst}
use mathlib.Core.List.{List, [], ◌∷◌, ◌++◌, map}
use mathlib.Core.Bool.{Bool, true, false, not, ◌&&◌, ◌||◌, cond}
use Prim.Native.Nat.{ℕ, zero, suc, ◌+◌, ◌-◌, ◌*◌, ◌≤◌, ◌<◌}
use native.Mathlib.Omega.{arith}
use native.Mathlib.Nat.{mul-le-mul_right}
use lib.Dec.{leb, ltb, eqb}
use lib.ListN.{length, get_or, length-append, length-map}
use borrow.Author.Tests.{not-false}
use Rattle.rules.specs.declared.Limits.{Limits}
use Rattle.rules.specs.Lists.{Each, Rising, any, keep, nil}
use Rattle.rules.specs.Quantities.{Key, area_items, max_count, max_number, no_key, same, snapshot_out, within}
use Rattle.rules.specs.Log.{clear, end, keys, old, stamp}
use Rattle.rules.specs.Prints.{applied_in, counted, delivered_in, remove_counts}
use Rattle.rules.specs.Lines.{Connection, Failed, InLine, Line, Market, Pending, Waiting, conn_at, is_failed, is_in_line, item_count, items_of, line_of, nobody, set_conn, set_line, snapshot_of, someone, subscribed, waiting, with_line, with_lines, with_log, with_prints}
use Rattle.rules.specs.Entering.{Work, begin, on_market, push_out, put_out, sweep, take_over, try_line_up}
use Rattle.rules.specs.Calls.{Answer, Outcome, apply, book_event, did, diverged, done, drop_conn, due_ends, due_for, duplicate, failed, full_log, full_numbers, gone, held, hold_print, ignored, just, kept, no_row, pending_anew, print, print_counted, promote, refuse, refused, released, reset, snapshot, source, subscribe}
use Rattle.rules.specs.Tick.{all_out, out_of_line}
use Rattle.rules.specs.Refusals.{room_needed}
use Rattle.rules.specs.Sound.{holdings, ConnSound, Known, LimitSound, LineSound, Lower, Sound}
use Rattle.rules.proofs.Tests.{by_cond, by-maybe, eqb-other, ff≢tt, leb-false, ltb-true, or-false-left, or-false-right, within_both}
use Rattle.rules.proofs.ListLaws.{each_append, each_at, each-imp, each_keep, each_map, length-keep, rising-kept}
use Rattle.rules.proofs.PrintsSound.{apply_print-sound, counted-sound, remove_counts-sound}
use Rattle.rules.proofs.Invariant.{Sorted, sorted-map}
use Rattle.rules.proofs.Sweep.{here}
use Rattle.rules.proofs.CallsKept.{events-snap, source-law, subscribed-each, subscribed-sorted}
use Rattle.rules.proofs.SoundMoves.{Bound, SoundW, conn-limit, events-le, grow-conns, holdings-bound, set_conn-sound, sweep_sound, take_over-sound, try_line_up-sound}
use Rattle.rules.specs.declared.Item.TheVariants as Item

pub holdings-fit : (m : Market) → Sound m → holdings m.lines + 1 ≤ room_needed m.limits
holdings-fit m s =
    let a = holdings-bound m.limits (end m.log) m.lines s.lines.conns in
    let b = mul-le-mul_right (2 * m.limits.H + 8) s.lines.lines_fit in omega arith

abbrev pub room_for : Limits → Bound
room_for l = (room_needed l, l)

-- an outcome of a call on a market with limits l
abbrev pub Safe : Limits → Outcome → Type 0
Safe l (refused n) = Unit {0}
Safe l (did a rs w) = SoundW (room_for l) w × (length rs ≤ l.L)

pub refuse-safe : (l : Limits) (b : Bool) (n : ℕ) (o : Outcome) → (b ≡ false → Safe l o) → Safe l (refuse b n o)
refuse-safe l true n o h = tt
refuse-safe l false n o h = h refl

pub begin-sound : (m : Market) → Sound m → SoundW (room_for m.limits) (begin m)
begin-sound m s = record { sound = s; limits = refl; spent = let a = holdings-fit m s in omega arith }

pub just-safe : (m : Market) (a : Answer) → Sound m → Safe m.limits (just a m)
just-safe m a s = (begin-sound m s, omega arith)

pub released-safe : (l : Limits) (a : Answer) (now : ℕ) (w : Work) → SoundW (room_for l) w → Safe l (released a now w)
released-safe l a now w s = by_cond (Safe l) (nil w.out) (λ q. (s, omega arith)) (λ q. (sweep_sound (room_for l) now w s, omega arith))

-- fewer lines, or lines with fewer items
less-sound : (m : Market) (ls : List Connection) → Sound m → length ls ≤ m.limits.L → Sorted ls → Each (ConnSound m.limits (end m.log)) ls → item_count ls ≤ item_count m.lines → Sound (with_lines ls m)
less-sound m ls s a b c d = let x = s.lines.log_fits in let y = s.lines.numbers_fit in
    record { limits_fit = s.limits_fit; lines = record { lines_fit = a; rises = b; conns = c; log_fits = omega arith; numbers_fit = omega arith }; prints = s.prints }

pub clear-sound : (m : Market) → Sound m → Sound (with_log (clear m.log) m)
clear-sound m s = let x = s.lines.log_fits in let y = s.lines.numbers_fit in
    record {
      limits_fit = s.limits_fit;
      lines = record {
        lines_fit = s.lines.lines_fit;
        rises = s.lines.rises;
        conns = grow-conns m.limits (end m.log) (end m.log + 0) m.lines (omega arith) s.lines.conns;
        log_fits = omega arith;
        numbers_fit = omega arith;
      };
      prints = s.prints;
    }

pub line_at : (m : Market) (i : ℕ) (l : Line) → (conn_at i m).line ≡ l → is_failed l ≡ false → Sound m → LineSound m.limits (end m.log) l
line_at m i l e f s = subst (LineSound m.limits (end m.log)) e (each_at (ConnSound m.limits (end m.log)) m.lines i nobody (here i m l e f) s.lines.conns).0

pub held_at : (m : Market) (i : ℕ) → i < length m.lines → Sound m → length (conn_at i m).held ≤ m.limits.H
held_at m i lt s = (each_at (ConnSound m.limits (end m.log)) m.lines i nobody lt s.lines.conns).1

pub limit-at : (m : Market) (i : ℕ) → i < length m.lines → Sound m → LimitSound m.limits (conn_at i m)
limit-at m i lt s = conn-limit m.limits (end m.log) m.lines i lt s.lines.conns

-- a line without items, or with no more than it had
pub shrink : (m : Market) (i : ℕ) (line : Line) (hs : List (Key × ℕ)) → Sound m → i < length m.lines → LineSound m.limits (end m.log) line → length hs ≤ m.limits.H
    → length (items_of line) ≤ length (items_of (conn_at i m).line) → Sound (set_conn i line hs m)
shrink m i line hs s lt ok hh le = let x = s.lines.log_fits in let y = s.lines.numbers_fit in set_conn-sound m i line hs s lt ok hh (omega arith) (omega arith)

-- one item more, where there is room
pub store : (m : Market) (i : ℕ) (line : Line) → Sound m → i < length m.lines → LineSound m.limits (end m.log) line
    → length (items_of line) ≡ suc (length (items_of (conn_at i m).line)) → full_log m ≡ false → full_numbers m ≡ false → Sound (set_line i line m)
store m i line s lt ok q f₅ f₉ =
    let a : length m.log.entries + item_count m.lines < m.limits.G = leb-false f₅ in
    let b : end m.log + item_count m.lines < max_number = leb-false f₉ in
    set_conn-sound m i line (conn_at i m).held s lt ok (held_at m i lt s) (omega arith) (omega arith)

-- ---- Subscribe, Reset
none_above : (c : ℕ) (l : List Connection) → Each (λ y. c < y.conn) l → any (λ s. eqb s.conn c) l ≡ false
none_above c [] h = refl
none_above c (x ∷ xs) h = rw (eqb-other (λ (z : x.conn ≡ c). let t = h.0 in omega arith)) (none_above c xs h.1)

subscribed-length : (c limit now : ℕ) (ls : List Connection) → Sorted ls → length (subscribed c limit now ls) ≤ cond (any (λ s. eqb s.conn c) ls) (length ls) (suc (length ls))
unfolding subscribed Rising
subscribed-length c limit now [] o = omega arith
subscribed-length c limit now (x ∷ xs) o = go (ltb c x.conn) refl (eqb x.conn c) refl (any (λ s. eqb s.conn c) xs) refl (subscribed-length c limit now xs o.1)
  where
    v : Connection
    v = waiting c limit now

    lower : ltb c x.conn ≡ true → any (λ s. eqb s.conn c) (x ∷ xs) ≡ false
    lower p = let lt : c < x.conn = ltb-true p in none_above c (x ∷ xs) (lt, each-imp (λ y. x.conn < y.conn) (λ y. c < y.conn) (λ y t. omega arith) xs o.0)

    go : (p : Bool) → ltb c x.conn ≡ p → (q : Bool) → eqb x.conn c ≡ q → (r : Bool) → any (λ s. eqb s.conn c) xs ≡ r
        → length (subscribed c limit now xs) ≤ cond r (length xs) (suc (length xs))
        → length (cond p (v ∷ x ∷ xs) (cond q (v ∷ xs) (x ∷ subscribed c limit now xs))) ≤ cond (q || r) (suc (length xs)) (suc (suc (length xs)))
    go true p true q r t h = absurd (ff≢tt (or-false-left (eqb x.conn c) (any (λ s. eqb s.conn c) xs) (lower p)) q)
    go true p false q true t h = absurd (ff≢tt (or-false-right (eqb x.conn c) (any (λ s. eqb s.conn c) xs) (lower p)) t)
    go true p false q false t h = omega arith
    go false p true q r t h = omega arith
    go false p false q true t h = omega arith
    go false p false q false t h = omega arith

subscribed-items : (c limit now : ℕ) (ls : List Connection) → item_count (subscribed c limit now ls) ≤ item_count ls
unfolding subscribed
subscribed-items c limit now [] = omega arith
subscribed-items c limit now (x ∷ xs) = let h = subscribed-items c limit now xs in
    by_cond (λ (l : List Connection). item_count l ≤ item_count (x ∷ xs)) (ltb c x.conn) (λ e. omega arith)
    (λ e. by_cond (λ (l : List Connection). item_count l ≤ item_count (x ∷ xs)) (eqb x.conn c) (λ t. omega arith) (λ t. omega arith))

-- without the counts of c
pub uncounted-sound : (c : ℕ) (m : Market) → Sound m → Sound (with_prints (remove_counts c m.prints) m)
uncounted-sound c m s = record { limits_fit = s.limits_fit; lines = s.lines; prints = remove_counts-sound m.limits c m.prints s.prints }

pub subscribe-safe : (c limit now : ℕ) (m : Market) → Sound m → Safe m.limits (subscribe c limit now m)
unfolding subscribe
subscribe-safe c limit now m s =
    let m' = with_prints (remove_counts c m.prints) m in
    let full = not (any (λ x. eqb x.conn c) m.lines) && leb m.limits.L (length m.lines) in
    let o = just done (with_lines (subscribed c limit now m.lines) m') in
    refuse-safe m.limits (not (within 1 m.limits.H limit)) 18 (refuse full 4 o)
    (λ z. refuse-safe m.limits full 4 o
    (λ q. just-safe (with_lines (subscribed c limit now m.lines) m') done
    (less-sound m' (subscribed c limit now m.lines) (uncounted-sound c m s)
    (fits (any (λ x. eqb x.conn c) m.lines) q (subscribed-length c limit now m.lines s.lines.rises))
    (subscribed-sorted c limit now m.lines s.lines.rises)
    (subscribed-each (ConnSound m.limits (end m.log)) c limit now m.lines
    ((omega arith, tt), omega arith, within_both 1 m.limits.H limit (not-false _ z)) s.lines.conns) (subscribed-items c limit now m.lines))))
  where
    fits : (b : Bool) → (not b && leb m.limits.L (length m.lines)) ≡ false → length (subscribed c limit now m.lines) ≤ cond b (length m.lines) (suc (length m.lines)) → length (subscribed c limit now m.lines) ≤ m.limits.L
    fits true q h = let z = s.lines.lines_fit in omega arith
    fits false q h = let z : length m.lines < m.limits.L = leb-false q in omega arith

map-items : (f : Connection → Connection) → ((x : Connection) → length (items_of (f x).line) ≤ length (items_of x.line)) → (ls : List Connection) → item_count (map f ls) ≤ item_count ls
map-items f h [] = omega arith
map-items f h (x ∷ xs) = let a = h x in let b = map-items f h xs in omega arith

-- lines that keep their connections and held prints, with no more items each
mapped-sound : (m : Market) (f : Line → Line) → Sound m → ((l : Line) → LineSound m.limits (end m.log) l → LineSound m.limits (end m.log) (f l)) → ((l : Line) → length (items_of (f l)) ≤ length (items_of l))
    → Sound (with_lines (map (λ x. with_line (f x.line) x) m.lines) m)
mapped-sound m f s h k = less-sound m (map F m.lines) s
    (let z = s.lines.lines_fit in let y = length-map m.lines F in omega arith) (sorted-map F (λ x. refl) m.lines s.lines.rises)
    (each_map (ConnSound m.limits (end m.log)) (ConnSound m.limits (end m.log)) F (λ x t. (h x.line t.0, t.1, t.2)) m.lines s.lines.conns) (map-items F (λ x. k x.line) m.lines)
  where
    F : Connection → Connection
    F x = with_line (f x.line) x

pub reset-sound : (now : ℕ) (m : Market) → Sound m → Sound (reset now m)
reset-sound now m s = mapped-sound (with_log (clear m.log) m) (pending_anew now) (clear-sound m s) ok less
  where
    ok : (l : Line) → LineSound m.limits (end m.log + 0) l → LineSound m.limits (end m.log + 0) (pending_anew now l)
    ok (Waiting is since) t = (omega arith, tt)
    ok (Pending is at since) t = (omega arith, tt)
    ok (InLine n a b) t = (omega arith, tt)
    ok Failed t = tt

    less : (l : Line) → length (items_of (pending_anew now l)) ≤ length (items_of l)
    less (Waiting is since) = omega arith
    less (Pending is at since) = omega arith
    less (InLine n a b) = omega arith
    less Failed = omega arith

pub out-sound : (now : ℕ) (m : Market) → Sound m → Sound (all_out now m)
out-sound now m s = mapped-sound (with_log (clear m.log) m) (out_of_line now) (clear-sound m s) ok less
  where
    ok : (l : Line) → LineSound m.limits (end m.log + 0) l → LineSound m.limits (end m.log + 0) (out_of_line now l)
    ok (Waiting is since) t = t
    ok (Pending is at since) t = t
    ok (InLine n a b) t = (omega arith, tt)
    ok Failed t = tt

    less : (l : Line) → length (items_of (out_of_line now l)) ≤ length (items_of l)
    less (Waiting is since) = omega arith
    less (Pending is at since) = omega arith
    less (InLine n a b) = omega arith
    less Failed = omega arith

-- ---- Snapshot
pub snapshot-safe : (i t msg now : ℕ) (m : Market) (l : Line) → t ≤ 1 → (conn_at i m).line ≡ l → Sound m → Safe m.limits (snapshot i t msg now m l)
unfolding snapshot
snapshot-safe i t msg now m (Pending is at since) tk e s = just-safe m ignored s
snapshot-safe i t msg now m Failed tk e s = just-safe m ignored s
snapshot-safe i t msg now m (InLine n a b) tk e s =
    let lt = here i m (InLine n a b) e refl in
    let m₀ = with_log (stamp now m.log) m in
    let s₀ : Sound m₀ = record { limits_fit = s.limits_fit; lines = s.lines; prints = s.prints } in
    let m₁ = set_line i (due_ends t n a b) m₀ in
    let s₁ : Sound m₁ = shrink m₀ i (due_ends t n a b) (conn_at i m).held s₀ lt (less t (line_at m i (InLine n a b) e refl s)) (held_at m i lt s) (no_items t) in
    by_cond (Safe m.limits) (due_for t a b)
    (λ q. (
      sweep_sound (room_for m.limits) now (put_out (snapshot_out (conn_at i m).conn msg) (begin m₁))
          (record { sound = record { limits_fit = s₁.limits_fit; lines = s₁.lines; prints = s₁.prints }; limits = refl; spent = let z = holdings-fit m₁ s₁ in omega arith }),
      omega arith,
    ))
    (λ q. just-safe m ignored s)
  where
    less : (t : ℕ) → n ≤ end m.log → LineSound m.limits (end m.log) (due_ends t n a b)
    less zero h = h
    less (suc t) h = h

    no_items : (t : ℕ) → length (items_of (due_ends t n a b)) ≤ length (items_of (conn_at i m).line)
    no_items zero = omega arith
    no_items (suc t) = omega arith
snapshot-safe i t msg now m (Waiting is since) tk e s =
    let l = m.limits in
    let is' = is ++ (Item.Snapshot t msg ∷ []) in
    let lt = here i m (Waiting is since) e refl in
    let old = line_at m i (Waiting is since) e refl s in
    let il : length (items_of (conn_at i m).line) ≡ length is = ap (λ (z : Line). length (items_of z)) e in
    let ln : length is' ≡ length is + 1 = length-append is (Item.Snapshot t msg ∷ []) in
    let x₁ = did apply [] (take_over i is' now (begin m)) in
    let x₂ = released held now (try_line_up false i now (begin (set_line i (Pending is' (Some now) now) m))) in
    let x₃ = just held (set_line i (Waiting is' since) m) in
    let o = cond (someone m.lines) (cond (any (snapshot_of 0) is' && any (snapshot_of 1) is') x₂ x₃) x₁ in
    refuse-safe l (leb (area_items l) (length is)) 6 (refuse (full_log m) 5 (refuse (full_numbers m) 9 o))
    (λ q₆. refuse-safe l (full_log m) 5 (refuse (full_numbers m) 9 o)
    (λ q₅. refuse-safe l (full_numbers m) 9 o
    (λ q₉. let room : length is < l.H + 8 = leb-false q₆ in
    let new : (length is' ≤ l.H + 8) × Each Known is' = (omega arith, each_append Known is (Item.Snapshot t msg ∷ []) old.1 (tk, tt)) in
    by_cond (Safe l) (someone m.lines)
    (λ q. by_cond (Safe l) (any (snapshot_of 0) is' && any (snapshot_of 1) is')
    (λ r. released-safe l held now (try_line_up false i now (begin (set_line i (Pending is' (Some now) now) m)))
    (try_line_up-sound (room_for l) false i now (begin (set_line i (Pending is' (Some now) now) m))
    (begin-sound (set_line i (Pending is' (Some now) now) m) (store m i (Pending is' (Some now) now) s lt new (omega arith) q₅ q₉))))
    (λ r. just-safe (set_line i (Waiting is' since) m) held (store m i (Waiting is' since) s lt new (omega arith) q₅ q₉)))
    (λ q. (
      take_over-sound (room_for l) i is' now (begin m) lt
          (let z = events-le is in let y = ap length (events-snap is t msg) in omega arith) (let z = holdings-fit m s in omega arith) refl s,
      omega arith,
    )))))

-- ---- Book event
-- in line at the end: pushed and put out
pub pushed-sound : (i : ℕ) (k : Key) (msg now : ℕ) (m : Market) (n : ℕ) (a b : Bool) → i < length m.lines → length (items_of (conn_at i m).line) ≡ 0 → n ≤ end m.log → Sound m → full_log m ≡ false → full_numbers m ≡ false
    → SoundW (room_for m.limits) (on_market (set_line i (InLine (suc n) a b)) (push_out (conn_at i m).conn now k msg (begin m)))
unfolding push_out
pushed-sound i k msg now m n a b lt il old s q₅ q₉ =
    let g₅ : length m.log.entries + item_count m.lines < m.limits.G = leb-false q₅ in
    let g₉ : end m.log + item_count m.lines < max_number = leb-false q₉ in
    let la : length (m.log.entries ++ ((k, now) ∷ [])) ≡ length m.log.entries + 1 = length-append m.log.entries ((k, now) ∷ []) in
    let m₁ : Market = with_log (record { base = m.log.base; entries = m.log.entries ++ ((k, now) ∷ []); last = Some now }) m in
    let s₁ : Sound m₁ = record {
      limits_fit = s.limits_fit;
      lines = record {
        lines_fit = s.lines.lines_fit;
        rises = s.lines.rises;
        conns = grow-conns m.limits (end m.log) (m.log.base + length (m.log.entries ++ ((k, now) ∷ []))) m.lines (omega arith) s.lines.conns;
        log_fits = omega arith;
        numbers_fit = omega arith;
      };
      prints = s.prints;
    } in
    let s₂ = shrink m₁ i (InLine (suc n) a b) (conn_at i m).held s₁ lt (omega arith) (held_at m i lt s) (omega arith) in
    record { sound = s₂; limits = refl; spent = let z = holdings-fit (set_conn i (InLine (suc n) a b) (conn_at i m).held m₁) s₂ in omega arith }

pub book-safe : (i : ℕ) (k : Key) (msg now : ℕ) (m : Market) (l : Line) → (conn_at i m).line ≡ l → Sound m → Safe m.limits (book_event i k msg now m l)
unfolding book_event
book-safe i k msg now m Failed e s = just-safe m ignored s
book-safe i k msg now m (Waiting is since) e s =
    let l = m.limits in
    let lt = here i m (Waiting is since) e refl in
    let is' = is ++ (Item.Event k msg ∷ []) in
    let old = line_at m i (Waiting is since) e refl s in
    let il : length (items_of (conn_at i m).line) ≡ length is = ap (λ (z : Line). length (items_of z)) e in
    let ln : length is' ≡ length is + 1 = length-append is (Item.Event k msg ∷ []) in
    let o = just held (set_line i (Waiting is' since) m) in
    by_cond (Safe l) (leb (conn_at i m).limit (length is))
    (λ q. just-safe (set_line i Failed m) failed (shrink m i Failed (conn_at i m).held s lt tt (held_at m i lt s) (omega arith)))
    (λ q. let room : length is < (conn_at i m).limit = leb-false q in
    let limit = (limit-at m i lt s).1 in
    refuse-safe l (full_log m) 5 (refuse (full_numbers m) 9 o) (λ q₅. refuse-safe l (full_numbers m) 9 o (λ q₉.
    just-safe (set_line i (Waiting is' since) m) held
    (store m i (Waiting is' since) s lt (omega arith, each_append Known is (Item.Event k msg ∷ []) old.1 (tt, tt)) (omega arith) q₅ q₉))))
book-safe i k msg now m (Pending is at since) e s =
    let l = m.limits in
    let lt = here i m (Pending is at since) e refl in
    let is' = is ++ (Item.Event k msg ∷ []) in
    let old = line_at m i (Pending is at since) e refl s in
    let il : length (items_of (conn_at i m).line) ≡ length is = ap (λ (z : Line). length (items_of z)) e in
    let ln : length is' ≡ length is + 1 = length-append is (Item.Event k msg ∷ []) in
    let m₁ = set_line i (Pending is' at since) m in
    let w = try_line_up false i now (begin m₁) in
    let o = released (cond (is_in_line (conn_at i w.market).line) duplicate held) now w in
    by_cond (Safe l) (leb (conn_at i m).limit (length is))
    (λ q. just-safe (set_line i Failed m) failed (shrink m i Failed (conn_at i m).held s lt tt (held_at m i lt s) (omega arith)))
    (λ q. let room : length is < (conn_at i m).limit = leb-false q in
    let limit = (limit-at m i lt s).1 in
    refuse-safe l (full_log m) 5 (refuse (full_numbers m) 9 o) (λ q₅. refuse-safe l (full_numbers m) 9 o (λ q₉.
    released-safe l (cond (is_in_line (conn_at i w.market).line) duplicate held) now w
    (try_line_up-sound (room_for l) false i now (begin m₁) (begin-sound m₁
    (store m i (Pending is' at since) s lt (omega arith, each_append Known is (Item.Event k msg ∷ []) old.1 (tt, tt)) (omega arith) q₅ q₉))))))
book-safe i k msg now m (InLine n a b) e s =
    let l = m.limits in
    let lt = here i m (InLine n a b) e refl in
    let old : n ≤ end m.log = line_at m i (InLine n a b) e refl s in
    let il : length (items_of (conn_at i m).line) ≡ 0 = ap (λ (z : Line). length (items_of z)) e in
    let o = did apply [] (sweep now (on_market (set_line i (InLine (suc n) a b)) (push_out (conn_at i m).conn now k msg (begin m)))) in
    by_cond (Safe l) (ltb n m.log.base)
    (λ q. just-safe (set_line i Failed m) failed (shrink m i Failed (conn_at i m).held s lt tt (held_at m i lt s) (omega arith)))
    (λ q. by_cond (Safe l) (ltb n (end m.log))
    (λ r. by_cond (Safe l) (same (get_or (keys m.log) (n - m.log.base) no_key) k)
    (λ z. just-safe (set_line i (InLine (suc n) a b) m) duplicate
    (shrink m i (InLine (suc n) a b) (conn_at i m).held s lt (let y : n < end m.log = ltb-true r in omega arith) (held_at m i lt s) (omega arith)))
    (λ z. just-safe m diverged s))
    (λ r. refuse-safe l (full_log m) 5 (refuse (full_numbers m) 9 o) (λ q₅. refuse-safe l (full_numbers m) 9 o (λ q₉. (
      sweep_sound (room_for l) now (on_market (set_line i (InLine (suc n) a b)) (push_out (conn_at i m).conn now k msg (begin m)))
          (pushed-sound i k msg now m n a b lt il old s q₅ q₉),
      omega arith,
    )))))

-- ---- Print
pub hold_print-safe : (i : ℕ) (k : Key) (msg : ℕ) (m : Market) (l : Line) → (conn_at i m).line ≡ l → is_failed l ≡ false → Sound m → Safe m.limits (hold_print i k msg m)
unfolding hold_print
hold_print-safe i k msg m l e f s =
    let lt = here i m l e f in
    by_cond (Safe m.limits) (any (λ h. same h.0 k) (conn_at i m).held) (λ q. just-safe m held s)
    (λ q. by_cond (Safe m.limits) (leb (conn_at i m).limit (length (conn_at i m).held))
    (λ r. just-safe (set_conn i Failed [] m) failed (shrink m i Failed [] s lt tt (omega arith) (omega arith)))
    (λ r. let z : length (conn_at i m).held < (conn_at i m).limit = leb-false r in
    let limit = (limit-at m i lt s).1 in
    let y = length-append (conn_at i m).held ((k, msg) ∷ []) in
    just-safe (set_conn i (conn_at i m).line ((conn_at i m).held ++ ((k, msg) ∷ [])) m) held
    (shrink m i (conn_at i m).line ((conn_at i m).held ++ ((k, msg) ∷ [])) s lt
    (each_at (ConnSound m.limits (end m.log)) m.lines i nobody lt s.lines.conns).0 (omega arith) (omega arith))))

pub print_counted-safe : (i c : ℕ) (k : Key) (msg d a : ℕ) (m : Market) (l : Line) → (conn_at i m).line ≡ l → d ≤ max_count → Sound m → Safe m.limits (print_counted i c k msg d a m l)
unfolding print_counted
print_counted-safe i c k msg d a m Failed e df s = just-safe m ignored s
print_counted-safe i c k msg d a m (InLine n x y) e df s = by_cond (Safe m.limits) (leb d a) (λ q. just-safe m duplicate s)
    (λ q. (record { sound = record { limits_fit = s.limits_fit; lines = s.lines; prints = apply_print-sound m.limits m.prints k d df s.prints }; limits = refl; spent = let z = holdings-fit m s in omega arith }, omega arith))
print_counted-safe i c k msg d a m (Waiting is since) e df s = by_cond (Safe m.limits) (leb d a) (λ q. just-safe m duplicate s) (λ q. hold_print-safe i k msg m (Waiting is since) e refl s)
print_counted-safe i c k msg d a m (Pending is at since) e df s = by_cond (Safe m.limits) (leb d a) (λ q. just-safe m duplicate s) (λ q. hold_print-safe i k msg m (Pending is at since) e refl s)

pub print-safe : (c : ℕ) (k : Key) (msg now : ℕ) (m : Market) → Sound m → Safe m.limits (print c k msg now m)
unfolding print
print-safe c k msg now m s =
    let p = m.prints in
    let i = line_of c m in
    let t₇ = no_row k c m.limits p in
    let t₈ = leb max_count (delivered_in k c p.count_rows) in
    let m₁ = with_prints (counted k c now p) m in
    let o = print_counted i c k msg (suc (delivered_in k c p.count_rows)) (applied_in k p.key_rows) m₁ (conn_at i m).line in
    by_cond (Safe m.limits) (is_failed (conn_at i m).line) (λ q. just-safe m ignored s)
    (λ q. refuse-safe m.limits t₇ 7 (refuse t₈ 8 o) (λ q₇. refuse-safe m.limits t₈ 8 o (λ q₈.
    print_counted-safe i c k msg (suc (delivered_in k c p.count_rows)) (applied_in k p.key_rows) m₁ (conn_at i m).line refl (leb-false q₈)
    (record { limits_fit = s.limits_fit; lines = s.lines; prints = counted-sound m.limits p k c now q₇ q₈ s.prints }))))

-- ---- Promote, Drop
pub promote-safe : (now : ℕ) (m : Market) → Sound m → Safe m.limits (promote now m)
unfolding promote
promote-safe now m s =
    let m' = with_log (clear m.log) m in
    let s' = clear-sound m s in
    by_cond (Safe m.limits) (someone m.lines) (λ q. just-safe m kept s)
    (λ q. by-maybe (Safe m.limits) (source 0 m.lines) (just-safe m' gone s')
    (λ x h. let r = source-law m.lines 0 x h in
    let r₁ = r.1 in
    let r₂ = r.2 in
    let is = items_of (conn_at x.0 m).line in
    let z = holdings-fit m s in (
      sweep_sound (room_for m.limits) now (take_over x.0 is now (begin m'))
          (take_over-sound (room_for m.limits) x.0 is now (begin m') (omega arith) (events-le is) (omega arith) refl s'),
      omega arith,
    )))

keep-items : (t : Connection → Bool) (ls : List Connection) → item_count (keep t ls) ≤ item_count ls
keep-items t [] = omega arith
keep-items t (x ∷ xs) = let h = keep-items t xs in by_cond (λ (l : List Connection). item_count l ≤ item_count (x ∷ xs)) (t x) (λ e. omega arith) (λ e. omega arith)

pub dropped-sound : (c : ℕ) (m : Market) → Sound m → Sound (with_lines (keep (λ x. not (eqb x.conn c)) m.lines) m)
dropped-sound c m s =
    let t : Connection → Bool = λ x. not (eqb x.conn c) in
    less-sound m (keep t m.lines) s (let z = length-keep t m.lines in let y = s.lines.lines_fit in omega arith)
    (rising-kept Lower t m.lines s.lines.rises) (each_keep (ConnSound m.limits (end m.log)) t m.lines s.lines.conns) (keep-items t m.lines)

pub drop-safe : (c now : ℕ) (m : Market) → Sound m → Safe m.limits (drop_conn c now m)
unfolding drop_conn
drop-safe c now m s =
    let m' = with_lines (keep (λ x. not (eqb x.conn c)) m.lines) m in
    let s' = dropped-sound c m s in
    by_cond (Safe m.limits) (is_in_line (conn_at (line_of c m) m).line) (λ q. promote-safe now m' s') (λ q. just-safe m' kept s')
