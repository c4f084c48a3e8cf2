-- Laws of a line that holds one item more: it stays sound, its snapshot may be complete, it may take the market over.
use mathlib.Core.Path.{◌≡◌, refl, sym, ap, ◌∙◌, subst}
use mathlib.Core.List.{List, [], ◌∷◌}
use mathlib.Core.Bool.{Bool, true, false, not, cond}
use Prim.Native.Nat.{ℕ, ◌+◌, ◌*◌, ◌^◌, ◌≤◌, ◌<◌}
use native.Mathlib.Omega.{arith}
use lib.ListN.{length, get_or, set, length-append}
use lib.Seq.{get_or-set_same, set-set}
use Rattle.rules.specs.declared.Item.{Item}
use Rattle.rules.specs.declared.Limits.{Limits}
use Rattle.rules.specs.Lists.{any}
use Rattle.rules.specs.Quantities.{area_items, max_number, snapshot_out}
use Rattle.rules.specs.Log.{end, stamp}
use Rattle.rules.specs.Lines as Rules
use Rattle.rules.specs.Lines.{Connection, Market, conn_at, nobody, items_of, item_count, snapshot_of, with_held, with_line, with_log, with_lines, set_line}
use Rattle.rules.specs.Entering.{Work, begin, on_market, note_entry, put_out, push_out, put_items, release, enter, take_over}
use Rattle.rules.specs.Calls.{just, apply, held, released}
use Rattle.rules.specs.Answers.{word}
use Rattle.rules.specs.Sound as Sounds
use Rattle.rules.specs.Sound.{LineSound, Known}
use Rattle.rules.proofs.Tests.{leb-false}
use Rattle.rules.proofs.ListLaws.{each_append}
use Rattle.rules.proofs.Moves.{put_items-grown}
use Rattle.rules.proofs.SoundMoves.{set_conn-sound}
use Rattle.place.specs.Items.{kind_of}
use Rattle.lines.specs.declared.Line.{Line}
use Rattle.lines.specs.Line.{line_of, held_of, holding, complete, holds_both}
use Rattle.lines.specs.Area.{head_line}
use Rattle.lines.proofs.HeldLaws.{Holds}
use Rattle.store.specs.Store.{limits_of, line_count, line_words_at, market_of}
use Rattle.store.specs.Moves.{Moved}
use Rattle.store.specs.ConnMoves.{items_at, ItemRoom}
use Rattle.store.proofs.MarketLaws.{market-limits}
use Rattle.store.proofs.ConnLaws.{line-told, items-counted, items-inside, fits-sound}
use Rattle.market.specs.Lent.{lent, Answers, Roomy}
use Rattle.market_snapshots.specs.Snapshots.{fullness, Released, tried, completed}
use Rattle.market_snapshots.proofs.SnapshotLaws.{log-room, numbers-room, line-here, line-value, line-sound, held_fits, shrunk, changed-here, changed-limits, changed-line, changed-self, changed-roomy, stays, tried-none, tried-some}

-- ---- one item more

holding-kept : (lim : Limits) (e : ℕ) (item : Item) (l : Rules.Line) → LineSound lim e l → Known item → length (items_of l) < area_items lim
    → LineSound lim e (holding item l) × (length (items_of (holding item l)) ≤ length (items_of l) + 1)
holding-kept lim e item (Rules.Waiting is since) s k r =
    let n = length-append is (item ∷ []) in ((omega arith, each_append Known is (item ∷ []) s.1 (k, tt)), omega arith)
holding-kept lim e item (Rules.Pending is at since) s k r =
    let n = length-append is (item ∷ []) in ((omega arith, each_append Known is (item ∷ []) s.1 (k, tt)), omega arith)
holding-kept lim e item (Rules.InLine n a b) s k r = (s, omega arith)
holding-kept lim e item Rules.Failed s k r = (tt, omega arith)

known-kind : (item : Item) → Known item → kind_of item < 2 ^ 64
known-kind (Item.Snapshot t msg) k = omega arith
known-kind (Item.Event key msg) k = omega arith

module _ {w v : List ℕ} {i : ℕ} {item : Item} {new : Rules.Line} (r : Roomy w v) (h : i < line_count w) (k : Known item)
    (x : Holds (area_items (limits_of w)) item (conn_at i (market_of w)).line new) where
  pub hold-room : ItemRoom w i item
  hold-room = record { fits = fits-sound w r.sound i h; unfailed = x.was; room = x.few; kind = known-kind item k }

  held-sound : fullness (market_of w) ≡ 0 → Sounds.Sound (set_line i (holding item (conn_at i (market_of w)).line) (market_of w))
  held-sound f =
      let m = market_of w in
      let a : length m.log.entries + item_count m.lines < m.limits.G = leb-false (log-room m f) in
      let b : end m.log + item_count m.lines < max_number = leb-false (numbers-room m f) in
      let c = ap (λ (l : Limits). l.H) (market-limits w) in
      let d = x.few in
      let y = holding-kept m.limits (end m.log) item (conn_at i m).line (line-sound r.sound h) k (omega arith) in
      let z = y.1 in
      set_conn-sound m i (holding item (conn_at i m).line) (conn_at i m).held r.sound.market (line-here r.sound h) y.0 (held_fits r.sound h)
      (omega arith) (omega arith)

  module _ {w₁ : List ℕ} (d : Moved w w₁ (set_line i (holding item (conn_at i (market_of w)).line) (market_of w))) where
    pub held_moved : Moved w w₁ (set_line i new (market_of w))
    held_moved = subst (λ (l : Rules.Line). Moved w w₁ (set_line i l (market_of w))) (sym x.line) d

    pub held-line : (conn_at i (market_of w₁)).line ≡ new
    held-line = changed-line new h r held_moved

    pub held-here : i < line_count w₁
    held-here = changed-here new h r held_moved

    pub held-roomy : fullness (market_of w) ≡ 0 → Roomy w₁ v
    held-roomy f = changed-roomy (holding item (conn_at i (market_of w)).line) h r d (held-sound f)

-- ---- a take-over does not go by the line that it replaces

lines-aside : (c t : ℕ) (is : List Item) (ls : List Connection) (k : Work)
    → put_items c t is (on_market (with_lines ls) k) ≡ on_market (with_lines ls) (put_items c t is k)
unfolding put_items push_out
lines-aside c t [] ls k = refl
lines-aside c t (Item.Snapshot u msg ∷ is) ls k = lines-aside c t is ls (put_out (snapshot_out c msg) (on_market (with_log (stamp t k.market.log)) k))
lines-aside c t (Item.Event key msg ∷ is) ls k = lines-aside c t is ls (push_out c t key msg k)

enter-aside : (i e n : ℕ) (a b : Bool) (c : Connection) (k : Work) → i < length k.market.lines → c.conn ≡ (conn_at i k.market).conn
    → c.limit ≡ (conn_at i k.market).limit → c.held ≡ (conn_at i k.market).held
    → enter i e n a b (on_market (with_lines (set k.market.lines i c)) k) ≡ enter i e n a b k
unfolding enter
enter-aside i e n a b c k h p o q =
    let ls = k.market.lines in
    let x = get_or-set_same ls i c nobody h in
    let conn : (get_or (set ls i c) i nobody).conn ≡ (conn_at i k.market).conn = ap (λ (y : Connection). y.conn) x ∙ p in
    let prints : (get_or (set ls i c) i nobody).held ≡ (conn_at i k.market).held = ap (λ (y : Connection). y.held) x ∙ q in
    let limit : (get_or (set ls i c) i nobody).limit ≡ (conn_at i k.market).limit = ap (λ (y : Connection). y.limit) x ∙ o in
    let into : ℕ → ℕ → Connection = λ y z. record { conn = y; limit = z; line = Rules.InLine n a b; held = [] } in
    let new : Connection = with_line (Rules.InLine n a b) (with_held [] (conn_at i k.market)) in
    let lines : set (set ls i c) i (with_line (Rules.InLine n a b) (with_held [] (get_or (set ls i c) i nobody))) ≡ set ls i new =
    (λ j. set (set ls i c) i (into (conn j) (limit j))) ∙ set-set ls i c new in
    λ j. release (conn j) (prints j) (note_entry (conn j) e (on_market (with_lines (lines j)) k))

pub take_over-aside : (i : ℕ) (is : List Item) (t : ℕ) (l : Rules.Line) (m : Market) → i < length m.lines
    → take_over i is t (begin (set_line i l m)) ≡ take_over i is t (begin m)
unfolding take_over
take_over-aside i is t l m h =
    let c : Connection = with_line l (conn_at i m) in
    let ls = set m.lines i c in
    let x = not (any (snapshot_of 0) is) in
    let y = not (any (snapshot_of 1) is) in
    let k = put_items (conn_at i m).conn t is (begin m) in
    let into : Work → Work = λ z. enter i (end m.log) (end z.market.log) x y z in
    let g : k.market.lines ≡ m.lines = (put_items-grown (conn_at i m).conn t is (begin m)).lines in
    let n = ap length g in
    ap (λ (z : ℕ). into (put_items z t is (begin (set_line i l m)))) (ap (λ (z : Connection). z.conn) (get_or-set_same m.lines i c nobody h))
    ∙ ap into (lines-aside (conn_at i m).conn t is ls (begin m))
    ∙ ap (λ (z : List Connection). enter i (end m.log) (end k.market.log) x y (on_market (with_lines (set z i c)) k)) (sym g)
    ∙ enter-aside i (end m.log) (end k.market.log) x y c k (omega arith) (ap (λ (z : List Connection). (get_or z i nobody).conn) (sym g))
    (ap (λ (z : List Connection). (get_or z i nobody).limit) (sym g)) (ap (λ (z : List Connection). (get_or z i nobody).held) (sym g))

-- ---- a snapshot that is complete

complete-kept : (lim : Limits) (e t : ℕ) (l : Rules.Line) → LineSound lim e l
    → LineSound lim e (complete t l) × (length (items_of (complete t l)) ≤ length (items_of l))
complete-kept lim e t (Rules.Waiting is since) s = (s, omega arith)
complete-kept lim e t (Rules.Pending is at since) s = (s, omega arith)
complete-kept lim e t (Rules.InLine n a b) s = (s, omega arith)
complete-kept lim e t Rules.Failed s = (s, omega arith)

module _ {w v : List ℕ} {i : ℕ} (t : ℕ) (r : Roomy w v) (h : i < line_count w) (self : Line) (q : self ≡ head_line (line_words_at w i)) where
  pub items-ready : (is : List ℕ) → is ≡ items_at w i → 4 * held_of self ≤ length is
  items-ready is e =
      omega (arith, ap length e, ap held_of q, items-counted w i h, items-inside w i (fits-sound w r.sound i h))

  module _ {is : List ℕ} {b : Bool} (p : is ≡ items_at w i) (e : b ≡ holds_both (items_of (line_of self is))) where
    both-said : {x : Bool} → b ≡ x → holds_both (items_of (conn_at i (market_of w)).line) ≡ x
    both-said y =
        ap (λ (l : Rules.Line). holds_both (items_of l)) (sym (line-value r.sound h self q))
        ∙ ap (λ (z : List ℕ). holds_both (items_of (line_of self z))) (sym p)
        ∙ sym e
        ∙ y

    completed-by : {x : Bool} → b ≡ x
        → completed i t (market_of w)
        ≡ cond x (released held t (tried i t (set_line i (complete t (conn_at i (market_of w)).line) (market_of w)))) (just held (market_of w))
    completed-by y =
        ap (λ (x : Bool). cond x (released held t (tried i t (set_line i (complete t (conn_at i (market_of w)).line) (market_of w)))) (just held (market_of w)))
        (both-said y)

    pub uncomplete : b ≡ false → Answers (completed i t (market_of w)) (lent w v) (word held 0 0) (lent w v)
    uncomplete y = stays held r.sound (completed-by y)

  module _ {w₁ : List ℕ} (line : Line) (e : (x : List ℕ) → line_of line x ≡ complete t (line_of self x))
      (d : Moved w w₁ (set_line i (line_of line (items_at w i)) (market_of w))) where
    complete-moved : Moved w w₁ (set_line i (complete t (conn_at i (market_of w)).line) (market_of w))
    complete-moved = subst (λ (l : Rules.Line). Moved w w₁ (set_line i l (market_of w))) (line-told w i h (complete t) (λ x. line_of line x) self e q) d

    pub complete-ready : Roomy w₁ v × (i < line_count w₁)
    complete-ready =
        let l = complete t (conn_at i (market_of w)).line in
        let k = complete-kept (market_of w).limits (end (market_of w).log) t (conn_at i (market_of w)).line (line-sound r.sound h) in
        (changed-roomy l h r complete-moved (shrunk r.sound h l k.0 k.1), changed-here l h r complete-moved)

    module _ {is : List ℕ} {b : Bool} (p : is ≡ items_at w i) (a : b ≡ holds_both (items_of (line_of self is))) (y : b ≡ true)
        {w₂ v₂ : List ℕ} {n : ℕ} (l : length w₂ ≡ length w) (g : Released i t w₁ v w₂ v₂ n) where
      completes : completed i t (market_of w) ≡ released held t (tried i t (market_of w₁))
      completes = completed-by p a y ∙ ap (λ (m : Market). released held t (tried i t m)) (sym complete-moved.market)

      pub complete-none : n ≡ 0 → Answers (completed i t (market_of w)) (lent w v) (word held 0 0) (lent w₂ v₂)
      complete-none z =
          let x = complete t (conn_at i (market_of w)).line in
          tried-none held r.sound complete-ready.0 (changed-self x h r complete-moved) (changed-limits x h r complete-moved) l g completes z

      pub complete-some : (n ≡ 0 → ⊥) → Answers (completed i t (market_of w)) (lent w v) (word apply n 0) (lent w₂ v₂)
      complete-some z =
          let x = complete t (conn_at i (market_of w)).line in
          tried-some held r.sound complete-ready.0 (changed-self x h r complete-moved) (changed-limits x h r complete-moved) l g completes z
