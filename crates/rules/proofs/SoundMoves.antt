-- What a call does on the way leaves a sound market sound, and puts out no more than its lines held.
use Rattle.std.specs.Prelude.{None, Some}
use mathlib.Core.Path.{◌≡◌, refl, sym, ◌∙◌, ap, subst}
use mathlib.Core.List.{List, [], ◌∷◌}
use mathlib.Core.Bool.{Bool, true, false, not, cond}
use Prim.Native.Nat.{ℕ, zero, suc, ◌+◌, ◌-◌, ◌*◌, ◌≤◌, ◌<◌}
use native.Mathlib.Omega.{arith}
use native.Mathlib.Nat.{not-suc-le-zero, le_of_suc-le-suc, suc-mul}
use lib.Dec.{ltb, eqb}
use lib.ListN.{length, get_or, drop, set, length-append, length-drop, length-set, length-map}
use Rattle.rules.specs.declared.Item.{Item}
use Rattle.rules.specs.declared.Limits.{Limits}
use Rattle.rules.specs.Lists.{Each, any, maybe, sum}
use Rattle.rules.specs.Quantities.{Key, book_out, max_number, print_out, snapshot_out}
use Rattle.rules.specs.Log.{Log, end, keys, stamp}
use Rattle.rules.specs.Prints.{applied_in, apply_print, delivered_in}
use Rattle.rules.specs.Lines.{Connection, Failed, InLine, Line, Market, Pending, Waiting, conn_at, event_keys, events, item_count, items_of, nobody, set_conn, snapshot_of, some_due, with_held, with_line, with_log, with_prints}
use Rattle.rules.specs.Place.{Place, alignment}
use Rattle.rules.specs.Entering.{Work, aligns, enter, line_up, note_entry, on_market, pendings, push_all, push_out, put_items, put_out, release, round, rounds, sweep, take_over, try_line_up}
use Rattle.rules.specs.Sound.{holds, holdings, ConnSound, LimitSound, LineSound, LinesSound, PrintsSound, Sound}
use Rattle.rules.proofs.Tests.{by_cond, by-maybe, none≢some}
use Rattle.rules.proofs.ListLaws.{each_at, each-imp, each_set}
use Rattle.rules.proofs.PrintsSound.{apply_print-sound, delivered-fits}
use Rattle.rules.proofs.Invariant.{sorted-set}
use Rattle.rules.proofs.Moves.{alignment-fits}
use Rattle.rules.proofs.Sweep.{here}
use Rattle.rules.proofs.Loops.{entered, release-lines}

-- how much room there is for records, and the limits
abbrev pub Bound : Type 0
Bound = ℕ × Limits

pub record SoundW (Z : Bound) (w : Work) : Type 0 where
  pub sound : Sound w.market
  pub limits : w.market.limits ≡ Z.1
  pub spent : length w.out + holdings w.market.lines ≤ Z.0

-- ---- sums

pub sum-set : (f : Connection → ℕ) (l : List Connection) (i : ℕ) (v : Connection) → i < length l → sum f (set l i v) + f (get_or l i nobody) ≡ sum f l + f v
sum-set f [] i v h = absurd (not-suc-le-zero h)
sum-set f (x ∷ xs) zero v h = omega arith
sum-set f (x ∷ xs) (suc i) v h = let k = sum-set f xs i v (le_of_suc-le-suc h) in omega arith

pub holdings-bound : (l : Limits) (e : ℕ) (ls : List Connection) → Each (ConnSound l e) ls → holdings ls ≤ length ls * (2 * l.H + 8)
holdings-bound l e [] h = omega arith
holdings-bound l e (x ∷ xs) h =
    let k = holdings-bound l e xs h.1 in
    let q = suc-mul (length xs) (2 * l.H + 8) in
    let a = h.0.1 in
    let b = go x.line h.0.0 in omega arith
  where
    go : (y : Line) → LineSound l e y → length (items_of y) ≤ l.H + 8
    go (Waiting is since) t = t.0
    go (Pending is at since) t = t.0
    go (InLine n a b) t = omega arith
    go Failed t = omega arith

pub grow-line : (l : Limits) (e e' : ℕ) (y : Line) → e ≤ e' → LineSound l e y → LineSound l e' y
grow-line l e e' (Waiting is since) q t = t
grow-line l e e' (Pending is at since) q t = t
grow-line l e e' (InLine n a b) q t = omega arith
grow-line l e e' Failed q t = tt

pub conn-limit : (l : Limits) (e : ℕ) (ls : List Connection) (i : ℕ) → i < length ls → Each (ConnSound l e) ls → LimitSound l (get_or ls i nobody)
conn-limit l e ls i lt h = (each_at (ConnSound l e) ls i nobody lt h).2

pub grow-conns : (l : Limits) (e e' : ℕ) (ls : List Connection) → e ≤ e' → Each (ConnSound l e) ls → Each (ConnSound l e') ls
grow-conns l e e' ls q h = each-imp (ConnSound l e) (ConnSound l e') (λ s t. (grow-line l e e' s.line q t.0, t.1, t.2)) ls h

-- ---- release

-- a release: at most n records more, and nothing of the market changed but the prints, which stay sound
pub record Rel (w w' : Work) (n : ℕ) : Type 0 where
  pub limits : w'.market.limits ≡ w.market.limits
  pub log : w'.market.log ≡ w.market.log
  pub out : length w'.out ≤ length w.out + n
  pub prints : (l : Limits) → PrintsSound l w.market.prints → PrintsSound l w'.market.prints

pub release-rel : (c : ℕ) (hs : List (Key × ℕ)) (w : Work) → Rel w (release c hs w) (length hs)
unfolding release
release-rel c [] w = record { limits = refl; log = refl; out = omega arith; prints = λ l r. r }
release-rel c (h ∷ hs) w =
    let p = w.market.prints in
    let d = delivered_in h.0 c p.count_rows in
    let a = applied_in h.0 p.key_rows in
    let w₁ = put_out (print_out c h.0 h.1 (d - a)) (on_market (with_prints (apply_print h.0 d p)) w) in
    let one : Rel w (cond (ltb a d) w₁ w) 1 = by_cond (λ (x : Work). Rel w x 1) (ltb a d)
    (λ e. record {
      limits = refl;
      log = refl;
      out = (let q = length-append w.out (print_out c h.0 h.1 (d - a) ∷ []) in omega arith);
      prints = λ l r. apply_print-sound l p h.0 d (delivered-fits p h.0 c r.tables) r;
    })
    (λ e. record { limits = refl; log = refl; out = omega arith; prints = λ l r. r }) in
    let more = release-rel c hs (cond (ltb a d) w₁ w) in
    record { limits = more.limits ∙ one.limits; log = more.log ∙ one.log; out = (let x = more.out in let y = one.out in omega arith); prints = λ l r. more.prints l (one.prints l r) }

-- ---- pushes: k entries more, o records more

pub record Pushed (w w' : Work) (k o : ℕ) : Type 0 where
  pub limits : w'.market.limits ≡ w.market.limits
  pub prints : w'.market.prints ≡ w.market.prints
  pub lines : w'.market.lines ≡ w.market.lines
  pub base : w'.market.log.base ≡ w.market.log.base
  pub entries : length w'.market.log.entries ≡ length w.market.log.entries + k
  pub out : length w'.out ≡ length w.out + o

pub pushed_none : (w : Work) → Pushed w w 0 0
pushed_none w = record { limits = refl; prints = refl; lines = refl; base = refl; entries = omega arith; out = omega arith }

pushed_then : {u v w : Work} {k o k' o' : ℕ} → Pushed u v k o → Pushed v w k' o' → Pushed u w (k + k') (o + o')
pushed_then p q = record {
  limits = q.limits ∙ p.limits;
  prints = q.prints ∙ p.prints;
  lines = q.lines ∙ p.lines;
  base = q.base ∙ p.base;
  entries = (let a = p.entries in let b = q.entries in omega arith);
  out = (let a = p.out in let b = q.out in omega arith);
}

pub push_out-pushed : (c now : ℕ) (k : Key) (msg : ℕ) (w : Work) → Pushed w (push_out c now k msg w) 1 1
unfolding push_out
push_out-pushed c now k msg w = record {
  limits = refl;
  prints = refl;
  lines = refl;
  base = refl;
  entries = length-append w.market.log.entries ((k, now) ∷ []);
  out = length-append w.out (book_out c (end w.market.log) k msg ∷ []);
}

pub push_all-pushed : (c now : ℕ) (es : List (Key × ℕ)) (w : Work) → Pushed w (push_all c now es w) (length es) (length es)
unfolding push_all
push_all-pushed c now [] w = pushed_none w
push_all-pushed c now (e ∷ es) w =
    let p = pushed_then (push_out-pushed c now e.0 e.1 w) (push_all-pushed c now es (push_out c now e.0 e.1 w)) in
    let q : 1 + length es ≡ suc (length es) = omega arith in
    subst (λ n. Pushed w (push_all c now es (push_out c now e.0 e.1 w)) n n) q p

pub put_items-pushed : (c now : ℕ) (is : List Item) (w : Work) → Pushed w (put_items c now is w) (length (events is)) (length is)
unfolding put_items
put_items-pushed c now [] w = pushed_none w
put_items-pushed c now (Item.Snapshot t msg ∷ is) w =
    let w₁ = put_out (snapshot_out c msg) (on_market (with_log (stamp now w.market.log)) w) in
    let one : Pushed w w₁ 0 1 = record { limits = refl; prints = refl; lines = refl; base = refl; entries = omega arith; out = length-append w.out (snapshot_out c msg ∷ []) } in
    let p = pushed_then one (put_items-pushed c now is w₁) in
    let q₀ : 0 + length (events is) ≡ length (events is) = omega arith in
    let q₁ : 1 + length is ≡ suc (length is) = omega arith in
    subst (λ n. Pushed w (put_items c now is w₁) n (suc (length is))) q₀ (subst (λ n. Pushed w (put_items c now is w₁) (0 + length (events is)) n) q₁ p)
put_items-pushed c now (Item.Event k msg ∷ is) w =
    let p = pushed_then (push_out-pushed c now k msg w) (put_items-pushed c now is (push_out c now k msg w)) in
    let q₀ : 1 + length (events is) ≡ suc (length (events is)) = omega arith in
    let q₁ : 1 + length is ≡ suc (length is) = omega arith in
    subst (λ n. Pushed w (put_items c now is (push_out c now k msg w)) n (suc (length is))) q₀ (subst (λ n. Pushed w (put_items c now is (push_out c now k msg w)) (1 + length (events is)) n) q₁ p)

pub events-le : (is : List Item) → length (events is) ≤ length is
events-le [] = omega arith
events-le (Item.Snapshot t msg ∷ is) = let h = events-le is in omega arith
events-le (Item.Event k msg ∷ is) = let h = events-le is in omega arith

-- ---- into line, after k entries and o records more

pub enter-sound : (Z : Bound) (w w' : Work) (k o i e n : ℕ) (a b : Bool) → w.market.limits ≡ Z.1 → Sound w.market → Pushed w w' k o → i < length w.market.lines
    → length w.out + holdings w.market.lines + o ≤ Z.0 + length (items_of (conn_at i w.market).line)
    → k ≤ length (items_of (conn_at i w.market).line) → n ≤ w.market.log.base + (length w.market.log.entries + k)
    → SoundW Z (enter i e n a b w')
unfolding enter
enter-sound Z w w' k o i e n a b li₀ s p lt sp kl nl =
    let ls = w.market.lines in
    let v : Connection = with_line (InLine n a b) (with_held [] (conn_at i w.market)) in
    let l = w.market.limits in
    let en = length w.market.log.entries in
    let ba = w.market.log.base in
    let s' = conn_at i w'.market in
    let w'' = note_entry s'.conn e (on_market (set_conn i (InLine n a b) []) w') in
    let rel = release-rel s'.conn s'.held w'' in
    let eq-lines : (release s'.conn s'.held w'').market.lines ≡ set ls i v =
    release-lines s'.conn s'.held w'' ∙ ap (entered i n a b) p.lines in
    let eq-limits : (release s'.conn s'.held w'').market.limits ≡ l = rel.limits ∙ p.limits in
    let eq-base : (release s'.conn s'.held w'').market.log.base ≡ ba = ap (λ (x : Log). x.base) rel.log ∙ p.base in
    let eq-entries : length (release s'.conn s'.held w'').market.log.entries ≡ en + k = ap (λ (x : Log). length x.entries) rel.log ∙ p.entries in
    let held_same : s'.held ≡ (conn_at i w.market).held = ap (λ (x : List Connection). (get_or x i nobody).held) p.lines in
    let hl : length s'.held ≡ length (conn_at i w.market).held = ap length held_same in
    let ic : item_count (set ls i v) + length (items_of (conn_at i w.market).line) ≡ item_count ls + 0 = sum-set (λ x. length (items_of x.line)) ls i v lt in
    let pc : holdings (set ls i v) + holds (conn_at i w.market) ≡ holdings ls + 0 = sum-set holds ls i v lt in
    let li = s.lines in
    let g₁ = li.log_fits in
    let g₂ = li.numbers_fit in
    let g₃ = li.lines_fit in
    let lined : LinesSound l ba (en + k) (set ls i v) = record {
      lines_fit = (let z = length-set ls i v in omega arith);
      rises = sorted-set nobody ls i v refl li.rises;
      conns = each_set (ConnSound l (ba + (en + k))) ls i v (nl, omega arith, conn-limit l (ba + en) ls i lt li.conns) (grow-conns l (ba + en) (ba + (en + k)) ls (omega arith) li.conns);
      log_fits = omega arith;
      numbers_fit = omega arith;
    } in
    let lined₁ : LinesSound l (release s'.conn s'.held w'').market.log.base (length (release s'.conn s'.held w'').market.log.entries) (release s'.conn s'.held w'').market.lines =
    rw (eq-lines, eq-base, eq-entries) lined in
    let rows₁ : PrintsSound l (release s'.conn s'.held w'').market.prints = rel.prints l (subst (PrintsSound l) (sym p.prints) s.prints) in
    record {
      sound = record { limits_fit = rw eq-limits s.limits_fit; lines = rw eq-limits lined₁; prints = rw eq-limits rows₁ };
      limits = eq-limits ∙ li₀;
      spent = let x = rel.out in let y = p.out in let z = ap holdings eq-lines in omega arith;
    }

pub line_up-sound : (Z : Bound) (i now : ℕ) (p : Place) (w : Work) → i < length w.market.lines → p.1 ≤ length w.market.log.entries → SoundW Z w → SoundW Z (line_up i now p w)
unfolding line_up
line_up-sound Z i now p w lt le s =
    let l = w.market.log in
    let is = items_of (conn_at i w.market).line in
    let es = drop p.0 (events is) in
    let fresh = drop (length l.entries - p.1) es in
    let a = events-le is in
    let b = length-drop p.0 (events is) in
    let c = length-drop (length l.entries - p.1) es in
    let sp = s.spent in
    enter-sound Z w (push_all (conn_at i w.market).conn now fresh w) (length fresh) (length fresh) i (l.base + p.1) (l.base + p.1 + length es) false false s.limits s.sound
    (push_all-pushed (conn_at i w.market).conn now fresh w) lt (omega arith) (omega arith) (omega arith)

pub try_line_up-sound : (Z : Bound) (quiet : Bool) (i now : ℕ) (w : Work) → SoundW Z w → SoundW Z (try_line_up quiet i now w)
unfolding try_line_up
try_line_up-sound Z quiet i now w s = go (conn_at i w.market).line refl
  where
    go : (l : Line) → (conn_at i w.market).line ≡ l → SoundW Z (maybe w (λ p. line_up i now p w) (aligns quiet l w.market))
    go (Waiting is since) e = s
    go (InLine n a b) e = s
    go Failed e = s
    go (Pending is at since) e = by-maybe (SoundW Z) (aligns quiet (Pending is at since) w.market) s
        (λ p h. let q = alignment-fits quiet (event_keys is) (keys w.market.log) p (un (some_due w.market.lines) p h) in
        let q₀ = q.0 in
        let k = length-map w.market.log.entries (λ x. x.0) in
        line_up-sound Z i now p w (here i w.market (Pending is at since) e refl) (omega arith) s)
      where
        un : (b : Bool) (p : Place) → cond b None (alignment quiet (event_keys is) (keys w.market.log)) ≡ Some p → alignment quiet (event_keys is) (keys w.market.log) ≡ Some p
        un true p h = absurd (none≢some h)
        un false p h = h

pub round-sound : (Z : Bound) (n i now : ℕ) (w : Work) → SoundW Z w → SoundW Z (round n i now w)
unfolding round
round-sound Z zero i now w s = s
round-sound Z (suc n) i now w s = round-sound Z n (suc i) now (try_line_up false i now w) (try_line_up-sound Z false i now w s)

rounds-sound : (Z : Bound) (n now : ℕ) (w : Work) → SoundW Z w → SoundW Z (rounds n now w)
unfolding rounds
rounds-sound Z zero now w s = s
rounds-sound Z (suc n) now w s =
    let w' = round (length w.market.lines) 0 now w in
    let s' = round-sound Z (length w.market.lines) 0 now w s in
    by_cond (SoundW Z) (eqb (pendings w'.market.lines) (pendings w.market.lines)) (λ e. s') (λ e. rounds-sound Z n now w' s')

pub sweep_sound : (Z : Bound) (now : ℕ) (w : Work) → SoundW Z w → SoundW Z (sweep now w)
sweep_sound Z now w s = rounds-sound Z (suc (length w.market.lines)) now w s

pub take_over-sound : (Z : Bound) (i : ℕ) (is : List Item) (now : ℕ) (w : Work) → i < length w.market.lines → length (events is) ≤ length (items_of (conn_at i w.market).line)
    → length w.out + holdings w.market.lines + length is ≤ Z.0 + length (items_of (conn_at i w.market).line) → w.market.limits ≡ Z.1 → Sound w.market → SoundW Z (take_over i is now w)
unfolding take_over
take_over-sound Z i is now w lt le sp li s =
    let c = (conn_at i w.market).conn in
    let w' = put_items c now is w in
    let p = put_items-pushed c now is w in
    let a = p.base in
    let b = p.entries in
    enter-sound Z w w' (length (events is)) (length is) i (end w.market.log) (end w'.market.log) (not (any (snapshot_of 0) is)) (not (any (snapshot_of 1) is)) li s p lt sp le (omega arith)

-- ---- the i-th line changed

pub set_conn-sound : (m : Market) (i : ℕ) (line : Line) (hs : List (Key × ℕ)) → Sound m → i < length m.lines → LineSound m.limits (end m.log) line → length hs ≤ m.limits.H
    → length m.log.entries + item_count m.lines + length (items_of line) ≤ m.limits.G + length (items_of (conn_at i m).line)
    → end m.log + item_count m.lines + length (items_of line) ≤ max_number + length (items_of (conn_at i m).line)
    → Sound (set_conn i line hs m)
set_conn-sound m i line hs s lt ok hh g n =
    let v : Connection = with_line line (with_held hs (conn_at i m)) in
    let ls = m.lines in
    let ic : item_count (set ls i v) + length (items_of (conn_at i m).line) ≡ item_count ls + length (items_of line) = sum-set (λ x. length (items_of x.line)) ls i v lt in
    let li = s.lines in
    let z₀ = li.lines_fit in
    record {
      limits_fit = s.limits_fit;
      lines = record {
        lines_fit = (let z = length-set ls i v in omega arith);
        rises = sorted-set nobody ls i v refl li.rises;
        conns = each_set (ConnSound m.limits (end m.log)) ls i v (ok, hh, conn-limit m.limits (end m.log) ls i lt li.conns) li.conns;
        log_fits = omega arith;
        numbers_fit = omega arith;
      };
      prints = s.prints;
    }
