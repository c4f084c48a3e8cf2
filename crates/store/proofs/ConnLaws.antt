-- Laws of the lines of a store: what an area says of the market, what the moves on a line ask and leave, and walks along the lines.
use mathlib.Core.Path.{◌≡◌, refl, sym, ap, ◌∙◌}
use mathlib.Core.List.{List, [], ◌∷◌}
use mathlib.Core.Bool.{Bool, true, false}
use Prim.Native.Nat.{ℕ, ◌+◌, ◌*◌, ◌^◌, ◌≤◌, ◌<◌}
use native.Mathlib.Omega.{arith}
use lib.Dec.{eqb}
use lib.ListN.{length, get_or, drop, set, length-set, drop_of_length-le}
use lib.Seq.{get_or-set_same, set-set}
use Rattle.rules.specs.declared.Item.{Item}
use Rattle.rules.specs.declared.Limits.{Limits}
use Rattle.rules.specs.Lists.{index, any}
use Rattle.rules.specs.Quantities.{Key, max_number}
use Rattle.rules.specs.Lines as Rules
use Rattle.rules.specs.Lines.{Connection, Market, conn_at, nobody, items_of, item_count, is_pending, is_failed, set_line, set_conn, waiting, with_held, with_line, with_lines}
use Rattle.rules.specs.Entering.{pendings}
use Rattle.rules.specs.Sound.{ConnSound, LineSound}
use Rattle.rules.proofs.ListLaws.{each_at, length-keep}
use Rattle.rules.proofs.SoundCalls.{limit-at}
use Rattle.words.specs.Words.{part, back}
use Rattle.words.proofs.Parts.{Loan, part_length, length_back, back_in}
use Rattle.words.proofs.Tab.{length-tab, get_d-tab, drop-tab-cons}
use Rattle.place.specs.Items.{item_in, items_in, kind_of}
use Rattle.place.proofs.Items.{items-length}
use Rattle.lines.specs.declared.Line.{Line}
use Rattle.lines.specs.Line.{line_of, held_of, holding}
use Rattle.lines.specs.Area.{line_words, head_line, prints_in, print_count, line_limit, item_words, conn_of, Fit}
use Rattle.lines.proofs.Laws.{items-of}
use Rattle.lines.proofs.AreaLaws.{words_of, set-line-conn, kind-known, kind-written}
use Rattle.store.specs.Store.{limits_of, line_count, line_width, line_start, line_words_at, conn_in, market_of, Sound}
use Rattle.store.specs.ConnMoves.{items_at, Lined, LineAt, LineFits, NotFailed, ItemRoom, PrintRoom}
use Rattle.store.specs.Moves.{Moved}
use Rattle.store.proofs.MarketLaws.{market-limits, market-lines, lines-count, conn-words}
use Rattle.store.proofs.FrameLaws.{moved-limits}
use Rattle.store.proofs.LineFrame.{line-length, frame-market, frame-sized, frame-kinds}

-- ---- what an area says

module _ (w : List ℕ) (i : ℕ) (h : i < line_count w) where
  -- the i-th connection, from words that are known to be its line's
  pub conn-said : (v : List ℕ) → v ≡ line_words_at w i → conn_of (limits_of w).H v ≡ conn_at i (market_of w)
  conn-said v e = ap (conn_of (limits_of w).H) e ∙ sym (conn-words w i h)

  -- its line by value, over the words of its items
  pub line-words : (conn_at i (market_of w)).line ≡ line_of (head_line (line_words_at w i)) (items_at w i)
  unfolding conn_of
  line-words = ap (λ (c : Connection). c.line) (conn-words w i h)

  -- what a line by value tells over any words, it tells of the connection's line
  pub line-told : {B : Type 0} (g : Rules.Line → B) (r : List ℕ → B) (l : Line) → ((v : List ℕ) → r v ≡ g (line_of l v))
      → l ≡ head_line (line_words_at w i) → r (items_at w i) ≡ g (conn_at i (market_of w)).line
  line-told g r l e q = e (items_at w i) ∙ ap (λ (x : Line). g (line_of x (items_at w i))) q ∙ ap g (sym line-words)

  pub items-counted : held_of (head_line (line_words_at w i)) ≡ length (items_of (conn_at i (market_of w)).line)
  items-counted =
      sym (ap (λ (l : Rules.Line). length (items_of l)) line-words ∙ ap length (items-of (head_line (line_words_at w i)) (items_at w i))
      ∙ items-length (held_of (head_line (line_words_at w i))) (items_at w i))

  pub prints-counted : print_count (line_words_at w i) ≡ length (conn_at i (market_of w)).held
  unfolding conn_of prints_in
  prints-counted = sym (ap (λ (c : Connection). length c.held) (conn-words w i h) ∙ length-tab (print_count (line_words_at w i)) _)

  pub limit-said : line_limit (line_words_at w i) ≡ (conn_at i (market_of w)).limit
  unfolding conn_of
  limit-said = sym (ap (λ (c : Connection). c.limit) (conn-words w i h))

-- the words of the i-th line's items, and the items that are counted among them
pub items-size : (w : List ℕ) (i : ℕ) → LineAt w i → length (items_at w i) ≡ 4 * (limits_of w).H + 32
items-size w i f = let l = line-length w i f in part_length 32 (4 * (limits_of w).H + 64) (line_words_at w i) (omega arith) ∙ omega arith

pub items-inside : (w : List ℕ) (i : ℕ) → LineFits w i → 4 * length (items_of (conn_at i (market_of w)).line) ≤ length (items_at w i)
items-inside w i f = omega (arith, items-size w i f.at, f.items)

module _ (w : List ℕ) (i : ℕ) (h : i < line_count w) where
  pub items-said : (n : ℕ) → n ≡ length (items_of (conn_at i (market_of w)).line) → items_in n (items_at w i) ≡ items_of (conn_at i (market_of w)).line
  items-said n e =
      ap (λ (m : ℕ). items_in m (items_at w i)) (e ∙ sym (items-counted w i h))
      ∙ sym (ap items_of (line-words w i h) ∙ items-of (head_line (line_words_at w i)) (items_at w i))

  pub item-said : (j : ℕ) (d : Item) → j < length (items_of (conn_at i (market_of w)).line) → get_or (items_of (conn_at i (market_of w)).line) j d ≡ item_in (items_at w i) j
  unfolding items_in
  item-said j d l =
      let n = length (items_of (conn_at i (market_of w)).line) in
      ap (λ (is : List Item). get_or is j d) (sym (items-said n refl)) ∙ get_d-tab n (item_in (items_at w i)) j d l

pub fit_words : (w : List ℕ) (i : ℕ) → LineFits w i → Fit (limits_of w).H (line_words_at w i)
fit_words w i f =
    let h = f.at.here in
    record { size = line-length w i f.at; items = rw (← conn-words w i h) f.items; prints = rw (prints-counted w i h) f.prints }

holding-failed : (item : Item) (l : Rules.Line) → is_failed (holding item l) ≡ is_failed l
holding-failed item (Rules.Waiting is since) = refl
holding-failed item (Rules.Pending is at since) = refl
holding-failed item (Rules.InLine n a b) = refl
holding-failed item Rules.Failed = refl

-- ---- what a sound store gives

module _ (w : List ℕ) (s : Sound w) where
  pub lined-sound : Lined w
  lined-sound = record { sized = s.sized; count = rw (lines-count w, market-limits w) at s.market.lines.lines_fit }

  pub fits-sound : (i : ℕ) → i < line_count w → LineFits w i
  fits-sound i h =
      let c = rw (market-limits w) at (each_at (ConnSound (market_of w).limits _) (market_of w).lines i nobody (rw (lines-count w) h) s.market.lines.conns) in
      record { at = record { lined = lined-sound; here = h }; items = go _ (conn_at i (market_of w)).line c.0; prints = c.1 }
    where
      go : (e : ℕ) (l : Rules.Line) → LineSound (limits_of w) e l → length (items_of l) ≤ (limits_of w).H + 8
      go e (Rules.Waiting is since) t = t.0
      go e (Rules.Pending is at since) t = t.0
      go e (Rules.InLine n a b) t = omega arith
      go e Rules.Failed t = omega arith

  pub limit-sound : (i : ℕ) → i < line_count w → (conn_at i (market_of w)).limit ≤ (limits_of w).H
  limit-sound i h = rw (market-limits w) at (limit-at (market_of w) i (rw (lines-count w) h) s.market).1

  pub items-sound : item_count (market_of w).lines ≤ max_number
  items-sound = let t = s.market.lines.numbers_fit in omega arith

-- ---- a move on the i-th line, whose words lie from a on and below e

module _ (w : List ℕ) (i a e : ℕ) (p : a ≡ line_start (limits_of w) i) (q : e ≡ line_start (limits_of w) i + line_width (limits_of w)) where
  pub line-part : part a e w ≡ line_words_at w i
  line-part = λ t. part (p t) (q t) w

  pub hold-item-ready : (item : Item) → ItemRoom w i item
      → Fit (limits_of w).H (part a e w) × ((held_of (head_line (part a e w)) < (limits_of w).H + 8) × (kind_of item < 2 ^ 64))
  hold-item-ready item r = rw line-part (fit_words w i r.fits, (rw (items-counted w i r.fits.at.here) r.room, r.kind))

  pub hold-print-ready : PrintRoom w i → Fit (limits_of w).H (part a e w) × (print_count (part a e w) < (limits_of w).H)
  hold-print-ready r = rw line-part (fit_words w i r.fits, rw (prints-counted w i r.fits.at.here) r.room)

  module _ (f : LineAt w i) where
    size : length (part a e w) ≡ line_width (limits_of w)
    size = ap length line-part ∙ line-length w i f

    -- the words come back as ys, which say what g makes of the connection
    line-becomes : (ys : List ℕ) → length ys ≡ line_width (limits_of w) → (g : Connection → Connection)
        → conn_of (limits_of w).H ys ≡ g (conn_at i (market_of w)) → get_or ys 1 0 ≤ 3
        → Moved w (back a e ys w) (with_lines (set (market_of w).lines i (g (conn_at i (market_of w)))) (market_of w))
    line-becomes ys n g c k =
        rw (p, q)
        (record {
          market = frame-market w ys i f n ∙ ap (λ (x : Connection). with_lines (set (market_of w).lines i x) (market_of w)) c;
          sized = frame-sized w ys i f n;
          kinds = frame-kinds w ys i f n k;
        })

    -- the same, where its line has not failed
    held-becomes : (ys : List ℕ) → length ys ≡ length (part a e w) → (g : Connection → Connection)
        → conn_of (limits_of w).H ys ≡ g (conn_of (limits_of w).H (part a e w)) → is_failed (g (conn_at i (market_of w))).line ≡ false
        → Moved w (back a e ys w) (with_lines (set (market_of w).lines i (g (conn_at i (market_of w)))) (market_of w))
    held-becomes ys n g r k =
        let c : conn_of (limits_of w).H ys ≡ g (conn_at i (market_of w)) = r ∙ ap g (conn-said w i f.here _ line-part) in
        line-becomes ys (n ∙ size) g c (kind-known (limits_of w).H ys (ap (λ (x : Connection). is_failed x.line) c ∙ k))

    pub set-line-done : (line : Line) (ys : List ℕ) → ys ≡ back 1 9 (line_words line) (part a e w)
        → Moved w (back a e ys w) (set_line i (line_of line (items_at w i)) (market_of w))
    set-line-done line ys said =
        let u : List ℕ = part a e w in
        let loan : Loan 1 9 (line_words line) u = record { kept = words_of line; start = omega arith; inside = omega (arith, size) } in
        let conn : conn_of (limits_of w).H (back 1 9 (line_words line) u) ≡ with_line (line_of line (items_at w i)) (conn_at i (market_of w)) =
        set-line-conn (limits_of w).H u line size
        ∙ (λ t. with_line (line_of line (item_words (limits_of w).H (line-part t))) (conn-said w i f.here u line-part t)) in
        rw said
        (line-becomes (back 1 9 (line_words line) u) (length_back 1 9 (line_words line) u loan ∙ size) (with_line (line_of line (items_at w i))) conn
        (rw (back_in 1 9 (line_words line) u loan 0 (omega arith)) (kind-written line)))

    pub hold-item-done : (item : Item) → NotFailed w i → (ys : List ℕ) → length ys ≡ length (part a e w)
        → conn_of (limits_of w).H ys ≡ with_line (holding item (conn_of (limits_of w).H (part a e w)).line) (conn_of (limits_of w).H (part a e w))
        → Moved w (back a e ys w) (set_line i (holding item (conn_at i (market_of w)).line) (market_of w))
    hold-item-done item k ys n r = held-becomes ys n (λ c. with_line (holding item c.line) c) r (holding-failed item (conn_at i (market_of w)).line ∙ k)

    -- other held prints
    pub prints-done : (g : List (Key × ℕ) → List (Key × ℕ)) → NotFailed w i → (ys : List ℕ) → length ys ≡ length (part a e w)
        → conn_of (limits_of w).H ys ≡ with_held (g (conn_of (limits_of w).H (part a e w)).held) (conn_of (limits_of w).H (part a e w))
        → Moved w (back a e ys w) (set_conn i (conn_at i (market_of w)).line (g (conn_at i (market_of w)).held) (market_of w))
    prints-done g k ys n r = held-becomes ys n (λ c. with_held (g c.held) c) r k

    -- a line written anew
    pub put-waiting-done : (conn limit t : ℕ) (ys : List ℕ) → length ys ≡ length (part a e w) → ((h : ℕ) → conn_of h ys ≡ waiting conn limit t)
        → Moved w (back a e ys w) (with_lines (set (market_of w).lines i (waiting conn limit t)) (market_of w))
    put-waiting-done conn limit t ys n r =
        let h = (limits_of w).H in
        line-becomes ys (n ∙ size) (λ c. waiting conn limit t) (r h) (kind-known h ys (ap (λ (x : Connection). is_failed x.line) (r h)))

-- each such move keeps the lines that are there
pub line-at-kept : (w v : List ℕ) (i : ℕ) (c : Connection) → Moved w v (with_lines (set (market_of w).lines i c) (market_of w)) → (j : ℕ) → LineAt w j → LineAt v j
line-at-kept w v i c b j f =
    let n : line_count v ≡ line_count w =
    sym (lines-count v) ∙ ap (λ (m : Market). length m.lines) b.market ∙ length-set (market_of w).lines i c ∙ lines-count w in
    let l : (limits_of v).L ≡ (limits_of w).L = ap (λ (m : Limits). m.L) (moved-limits b ∙ market-limits w) in
    record { lined = record { sized = b.sized; count = rw (n, l) f.lined.count }; here = rw n f.here }

-- another line, after another line and other held prints
pub line-again : (i : ℕ) (l l₁ : Rules.Line) (hs : List (Key × ℕ)) (m : Market) → i < length m.lines → set_line i l₁ (set_conn i l hs m) ≡ set_conn i l₁ hs m
line-again i l l₁ hs m h =
    let c : Connection = with_line l (with_held hs (conn_at i m)) in
    ap (λ (x : Connection). with_lines (set (set m.lines i c) i (with_line l₁ x)) m) (get_or-set_same m.lines i c nobody h)
    ∙ ap (λ (ls : List Connection). with_lines ls m) (set-set m.lines i c (with_line l₁ c))

-- ---- walks along the lines

abbrev pub of_conn : ℕ → Connection → Bool
of_conn c s = eqb s.conn c

module _ (w : List ℕ) (i : ℕ) where
  -- the i-th line, and those behind it
  pub lines_from : i < line_count w → drop i (market_of w).lines ≡ conn_at i (market_of w) ∷ drop (i + 1) (market_of w).lines
  lines_from h = rw (conn-words w i h, market-lines w) (drop-tab-cons (line_count w) i (conn_in w) h)

  pub lines_end : line_count w ≤ i → drop i (market_of w).lines ≡ []
  lines_end h = drop_of_length-le (market_of w).lines {i = i} (omega (arith, lines-count w))

  -- the first that passes a test
  pub find-here : (t : Connection → Bool) → i < line_count w → t (conn_at i (market_of w)) ≡ true → i ≡ i + index t (drop i (market_of w).lines)
  find-here t h e = rw (lines_from h, e) (omega arith)

  pub find-over : (t : Connection → Bool) → i < line_count w → t (conn_at i (market_of w)) ≡ false
      → i + index t (drop i (market_of w).lines) ≡ (i + 1) + index t (drop (i + 1) (market_of w).lines)
  find-over t h e = rw (lines_from h, e) (omega arith)

  pub find-end : (t : Connection → Bool) → line_count w ≤ i → i ≡ i + index t (drop i (market_of w).lines)
  find-end t h = rw (lines_end h) (omega arith)

  -- of the i-th line by value: a test of the lines, and how many items they hold
  module _ (h : i < line_count w) (l : Line) (q : l ≡ head_line (line_words_at w i)) where
    module _ (g : Rules.Line → Bool) (r : Bool) (e : (v : List ℕ) → r ≡ g (line_of l v)) where
      told : g (conn_at i (market_of w)).line ≡ r
      told = sym (line-told w i h g (λ v. r) l e q)

      pub some-here : r ≡ true → true ≡ any (λ s. g s.line) (drop i (market_of w).lines)
      some-here p = rw (lines_from h, told, p)

      pub some-over : r ≡ false → any (λ s. g s.line) (drop i (market_of w).lines) ≡ any (λ s. g s.line) (drop (i + 1) (market_of w).lines)
      some-over p = rw (lines_from h, told, p)

    pub held-from : (r : ℕ) → ((v : List ℕ) → r ≡ length (items_of (line_of l v))) → item_count (drop i (market_of w).lines) ≡ r + item_count (drop (i + 1) (market_of w).lines)
    held-from r e = rw (lines_from h, ← line-told w i h (λ (x : Rules.Line). length (items_of x)) (λ v. r) l e q)

  -- how many are pending
  module _ (h : i < line_count w) (l : Line) (q : l ≡ head_line (line_words_at w i)) (r : Bool) (e : (v : List ℕ) → r ≡ is_pending (line_of l v)) where
    pub pending-here : r ≡ true → pendings (drop i (market_of w).lines) ≡ 1 + pendings (drop (i + 1) (market_of w).lines)
    pending-here p = rw (lines_from h, told h l q is_pending r e, p) (omega arith)

    pub pending-over : r ≡ false → pendings (drop i (market_of w).lines) ≡ pendings (drop (i + 1) (market_of w).lines)
    pending-over p = rw (lines_from h, told h l q is_pending r e, p)

  pub pending-end : line_count w ≤ i → pendings (drop i (market_of w).lines) ≡ 0
  pending-end h = rw (lines_end h)

  pub some_end : (g : Rules.Line → Bool) → line_count w ≤ i → false ≡ any (λ s. g s.line) (drop i (market_of w).lines)
  some_end g h = rw (lines_end h)

  pub held-end : line_count w ≤ i → item_count (drop i (market_of w).lines) ≡ 0
  held-end h = rw (lines_end h)

pub pendings-fit : (w : List ℕ) → pendings (market_of w).lines ≤ line_count w
pendings-fit w = omega (arith, length-keep (λ (s : Connection). is_pending s.line) (market_of w).lines, lines-count w)
