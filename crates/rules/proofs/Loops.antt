-- For the code's proofs: what entering line makes of the lines, and a sweep as the loop that it is.
use mathlib.Core.Path.{◌≡◌, refl, sym, ◌∙◌, ap, subst}
use mathlib.Core.Logic.{◌≢◌}
use mathlib.Core.List.{List, [], ◌∷◌}
use mathlib.Core.Bool.{Bool, true, false, cond}
use Prim.Native.Nat.{ℕ, zero, suc, ◌+◌, ◌-◌, ◌≤◌, ◌<◌}
use native.Mathlib.Omega.{arith}
use native.Mathlib.Nat.{not-suc-le-zero}
use lib.Dec.{ltb, eqb}
use lib.ListN.{length, get_or, drop, set}
use Rattle.rules.specs.declared.Item.{Item}
use Rattle.rules.specs.Lists.{keep, maybe}
use Rattle.rules.specs.Quantities.{Key, print_out}
use Rattle.rules.specs.Log.{end}
use Rattle.rules.specs.Prints.{applied_in, apply_print, delivered_in}
use Rattle.rules.specs.Lines.{Connection, Failed, InLine, Line, Pending, Waiting, conn_at, events, is_pending, items_of, nobody, set_conn, with_held, with_line, with_prints}
use Rattle.rules.specs.Place.{Place}
use Rattle.rules.specs.Entering.{Work, aligns, enter, line_up, note_entry, on_market, pendings, push_all, put_items, put_out, release, round, rounds, sweep, take_over, try_line_up}
use Rattle.rules.proofs.Tests.{by_cond, by-maybe, eqb-false, eqb_same, ff≢tt}
use Rattle.rules.proofs.Moves.{push_all-grown, put_items-grown}

pub release-lines : (c : ℕ) (hs : List (Key × ℕ)) (w : Work) → (release c hs w).market.lines ≡ w.market.lines
unfolding release
release-lines c [] w = refl
release-lines c (h ∷ hs) w =
    let p = w.market.prints in
    let d = delivered_in h.0 c p.count_rows in
    let a = applied_in h.0 p.key_rows in
    let w₁ = put_out (print_out c h.0 h.1 (d - a)) (on_market (with_prints (apply_print h.0 d p)) w) in
    release-lines c hs (cond (ltb a d) w₁ w) ∙ by_cond (λ (x : Work). x.market.lines ≡ w.market.lines) (ltb a d) (λ e. refl) (λ e. refl)

abbrev pub entered : ℕ → ℕ → Bool → Bool → List Connection → List Connection
entered i n a b ls = set ls i (with_line (InLine n a b) (with_held [] (get_or ls i nobody)))

pub enter-lines : (i e n : ℕ) (a b : Bool) (w : Work) → (enter i e n a b w).market.lines ≡ entered i n a b w.market.lines
unfolding enter
enter-lines i e n a b w = release-lines (conn_at i w.market).conn (conn_at i w.market).held (note_entry (conn_at i w.market).conn e (on_market (set_conn i (InLine n a b) []) w))

pub line_up-lines : (i now : ℕ) (p : Place) (w : Work)
    → (line_up i now p w).market.lines ≡ entered i (w.market.log.base + p.1 + length (drop p.0 (events (items_of (conn_at i w.market).line)))) false false w.market.lines
unfolding line_up
line_up-lines i now p w =
    let s = conn_at i w.market in
    let l = w.market.log in
    let es = drop p.0 (events (items_of s.line)) in
    let w' = push_all s.conn now (drop (length l.entries - p.1) es) w in
    enter-lines i (l.base + p.1) (l.base + p.1 + length es) false false w'
    ∙ ap (entered i (l.base + p.1 + length es) false false) (push_all-grown s.conn now (drop (length l.entries - p.1) es) w).lines

pub take_over-lines : (i : ℕ) (is : List Item) (now : ℕ) (w : Work)
    → (n : ℕ) × (a : Bool) × (b : Bool) × ((take_over i is now w).market.lines ≡ entered i n a b w.market.lines)
unfolding take_over
take_over-lines i is now w =
    let c = (conn_at i w.market).conn in
    let w' = put_items c now is w in
    (end w'.market.log, _, _, enter-lines i (end w.market.log) (end w'.market.log) _ _ w' ∙ ap (entered i (end w'.market.log) _ _) (put_items-grown c now is w).lines)

pub pendings-entered : (ls : List Connection) (i n : ℕ) (a b : Bool) → is_pending (get_or ls i nobody).line ≡ true → suc (pendings (entered i n a b ls)) ≡ pendings ls
pendings-entered [] i n a b e = absurd (ff≢tt refl e)
pendings-entered (x ∷ xs) zero n a b e = ap (λ (t : Bool). length (cond t (x ∷ keep (λ s. is_pending s.line) xs) (keep (λ s. is_pending s.line) xs))) (sym e)
pendings-entered (x ∷ xs) (suc i) n a b e = go (is_pending x.line) (pendings-entered xs i n a b e)
  where
    K : List Connection
    K = keep (λ s. is_pending s.line) (entered i n a b xs)

    K' : List Connection
    K' = keep (λ s. is_pending s.line) xs

    go : (t : Bool) → suc (length K) ≡ length K' → suc (length (cond t (x ∷ K) K)) ≡ length (cond t (x ∷ K') K')
    go true h = omega arith
    go false h = omega arith

pub try_line_up-pendings : (i now : ℕ) (w : Work) → pendings (try_line_up false i now w).market.lines ≤ pendings w.market.lines
unfolding try_line_up
try_line_up-pendings i now w = go (conn_at i w.market).line refl
  where
    go : (l : Line) → (conn_at i w.market).line ≡ l → pendings (maybe w (λ p. line_up i now p w) (aligns false l w.market)).market.lines ≤ pendings w.market.lines
    go (Waiting is since) e = omega arith
    go (InLine n a b) e = omega arith
    go Failed e = omega arith
    go (Pending is at since) e = by-maybe (λ (x : Work). pendings x.market.lines ≤ pendings w.market.lines) (aligns false (Pending is at since) w.market) (omega arith)
        (λ p h. let q = ap pendings (line_up-lines i now p w) in
        let r = pendings-entered w.market.lines i (w.market.log.base + p.1 + length (drop p.0 (events (items_of (conn_at i w.market).line)))) false false (ap is_pending e) in omega arith)

pub round-pendings : (n i now : ℕ) (w : Work) → pendings (round n i now w).market.lines ≤ pendings w.market.lines
unfolding round
round-pendings zero i now w = omega arith
round-pendings (suc n) i now w = let a = round-pendings n (suc i) now (try_line_up false i now w) in let b = try_line_up-pendings i now w in omega arith

-- where nobody is pending, nobody lines up
try_line_up-idle : (i now : ℕ) (w : Work) → pendings w.market.lines ≡ 0 → try_line_up false i now w ≡ w
unfolding try_line_up
try_line_up-idle i now w z = go (conn_at i w.market).line refl
  where
    go : (l : Line) → (conn_at i w.market).line ≡ l → maybe w (λ p. line_up i now p w) (aligns false l w.market) ≡ w
    go (Waiting is since) e = refl
    go (InLine n a b) e = refl
    go Failed e = refl
    go (Pending is at since) e = absurd (let q = pendings-entered w.market.lines i 0 false false (ap is_pending e) in omega arith)

round-idle : (n i now : ℕ) (w : Work) → pendings w.market.lines ≡ 0 → round n i now w ≡ w
unfolding round
round-idle zero i now w z = refl
round-idle (suc n) i now w z = ap (λ (x : Work). round n (suc i) now x) (try_line_up-idle i now w z) ∙ round-idle n (suc i) now w z

-- rounds enough are as good as more
pub rounds-enough : (n n' now : ℕ) (w : Work) → pendings w.market.lines < n → pendings w.market.lines < n' → rounds n now w ≡ rounds n' now w
unfolding rounds
rounds-enough zero n' now w h h' = absurd (not-suc-le-zero h)
rounds-enough (suc n) zero now w h h' = absurd (not-suc-le-zero h')
rounds-enough (suc n) (suc n') now w h h' =
    go (round (length w.market.lines) 0 now w) (round-pendings (length w.market.lines) 0 now w) (λ w' a b. rounds-enough n n' now w' a b)
    (eqb (pendings (round (length w.market.lines) 0 now w).market.lines) (pendings w.market.lines)) refl
  where
    go : (w' : Work) → pendings w'.market.lines ≤ pendings w.market.lines → ((w'' : Work) → pendings w''.market.lines < n → pendings w''.market.lines < n' → rounds n now w'' ≡ rounds n' now w'')
        → (b : Bool) → eqb (pendings w'.market.lines) (pendings w.market.lines) ≡ b → cond b w' (rounds n now w') ≡ cond b w' (rounds n' now w')
    go w' le ih true e = refl
    go w' le ih false e = let ne : pendings w'.market.lines ≢ pendings w.market.lines = eqb-false e in ih w' (omega arith) (omega arith)

pendings-le : (ls : List Connection) → pendings ls ≤ length ls
pendings-le [] = omega arith
pendings-le (x ∷ xs) = let h = pendings-le xs in by_cond (λ (l : List Connection). length l ≤ suc (length xs)) (is_pending x.line) (λ e. omega arith) (λ e. omega arith)

-- the loop: a round, and again unless it did nothing
pub sweep-loop : (now : ℕ) (w : Work) (w' : Work) → round (length w.market.lines) 0 now w ≡ w'
    → sweep now w ≡ cond (eqb (pendings w'.market.lines) (pendings w.market.lines)) w' (sweep now w')
unfolding rounds
sweep-loop now w w' e = subst (λ z. sweep now w ≡ cond (eqb (pendings z.market.lines) (pendings w.market.lines)) z (sweep now z)) e
    (go (round (length w.market.lines) 0 now w) (round-pendings (length w.market.lines) 0 now w) (eqb (pendings (round (length w.market.lines) 0 now w).market.lines) (pendings w.market.lines)) refl)
  where
    go : (z : Work) → pendings z.market.lines ≤ pendings w.market.lines → (b : Bool) → eqb (pendings z.market.lines) (pendings w.market.lines) ≡ b
        → cond b z (rounds (length w.market.lines) now z) ≡ cond b z (sweep now z)
    go z le true q = refl
    go z le false q =
        let ne : pendings z.market.lines ≢ pendings w.market.lines = eqb-false q in
        let a = pendings-le w.market.lines in
        let b = pendings-le z.market.lines in
        rounds-enough (length w.market.lines) (suc (length z.market.lines)) now z (omega arith) (omega arith)

-- a sweep does nothing where nobody is pending
pub sweep-idle : (now : ℕ) (w : Work) → pendings w.market.lines ≡ 0 → sweep now w ≡ w
sweep-idle now w z =
    let p = pendings w.market.lines in
    sweep-loop now w w (round-idle (length w.market.lines) 0 now w z) ∙ ap (λ (b : Bool). cond b w (sweep now w)) (eqb_same p)
