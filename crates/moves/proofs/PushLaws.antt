-- Laws of pushing a line's held events: what a push leaves of the store, and the loop along the items.
use mathlib.Core.Path.{◌≡◌, refl, sym, ap, ◌∙◌, subst}
use mathlib.Core.List.{List, [], ◌∷◌, ◌++◌}
use Prim.Native.Nat.{ℕ, zero, suc, ◌+◌, ◌-◌, ◌≤◌, ◌<◌}
use native.Mathlib.Nat.{zero-sub, sub-zero, suc-sub-suc}
use native.Mathlib.Omega.{arith}
use lib.ListN.{length, drop, length-drop, drop_of_length-le}
use lib.Seq.{drop-nil}
use Rattle.rules.specs.declared.Item.{Item}
use Rattle.rules.specs.declared.Limits.{Limits}
use Rattle.rules.specs.Quantities.{Key}
use Rattle.rules.specs.Lines.{Connection, Market, conn_at, items_of, events}
use Rattle.rules.specs.Entering.{Work, begin, push_out, push_all}
use Rattle.rules.proofs.SoundMoves.{push_all-pushed, events-le}
use Rattle.place.specs.Items.{item_in}
use Rattle.place.proofs.Items.{items-drop}
use Rattle.store.specs.Store.{limits_of, head_of, line_count, market_of, Sized}
use Rattle.store.specs.ConnMoves.{items_at, LineFits}
use Rattle.store.proofs.MarketLaws.{market-limits, market-base, entry-count}
use Rattle.store.proofs.FrameLaws.{moved-limits}
use Rattle.store.proofs.ConnLaws.{items-said}
use Rattle.moves.specs.Does.{Does, PushRoom, ItemsRoom}
use Rattle.moves.proofs.DoesLaws.{does-as, does-none}
use Rattle.moves.proofs.LeftLaws.{Left, left-start, left-then, left-done}
use Rattle.moves.proofs.Staying.{Stays, conn-stays, fits-stays}

-- ---- one item

push_all-none : (c t : ℕ) (es : List (Key × ℕ)) → es ≡ [] → (k : Work) → k ≡ push_all c t es k
unfolding push_all
push_all-none c t es e k = rw e

push_all-one : (c t : ℕ) (key : Key) (msg : ℕ) (es : List (Key × ℕ)) → es ≡ (key, msg) ∷ [] → (k : Work) → push_out c t key msg k ≡ push_all c t es k
unfolding push_all
push_all-one c t key msg es e k = rw e

module _ {w v : List ℕ} {n : ℕ} (c t skip : ℕ) (item : Item) where
  nothing-pushed : Sized w → drop skip (events (item ∷ [])) ≡ [] → Does (push_all c t (drop skip (events (item ∷ [])))) w v n w v n
  nothing-pushed z e = does-as (λ k. k) (push_all c t (drop skip (events (item ∷ [])))) (λ k m. push_all-none c t (drop skip (events (item ∷ []))) e k) (does-none z)

  pub past-snapshot : {token msg : ℕ} → item ≡ Item.Snapshot token msg → Sized w
      → Does (push_all c t (drop skip (events (item ∷ [])))) w v n w v n
  past-snapshot e z = nothing-pushed z (rw e (drop-nil skip))

  pub past-event : {key : Key} {msg : ℕ} → item ≡ Item.Event key msg → 0 < skip → Sized w
      → Does (push_all c t (drop skip (events (item ∷ [])))) w v n w v n
  past-event {key} {msg} e h z = nothing-pushed z (rw e (drop_of_length-le ((key, msg) ∷ []) {i = skip} (omega arith)))

  pub push-event : {w₁ v₁ : List ℕ} {n₁ : ℕ} {key : Key} {msg : ℕ} → item ≡ Item.Event key msg → skip ≤ 0 → Does (push_out c t key msg) w v n w₁ v₁ n₁
      → Does (push_all c t (drop skip (events (item ∷ [])))) w v n w₁ v₁ n₁
  push-event {key} {msg} e h d =
      let z : skip ≡ 0 = omega arith in
      does-as (push_out c t key msg) (push_all c t (drop skip (events (item ∷ [])))) (λ k m. push_all-one c t key msg (drop skip (events (item ∷ []))) (rw (e, z)) k) d

-- ---- what pushes leave: k entries and records more

pub record Logged (w : List ℕ) (n : ℕ) (w₁ : List ℕ) (n₁ k : ℕ) : Type 0 where
  pub sized : Sized w₁
  pub limits : limits_of w₁ ≡ limits_of w
  pub prints : (market_of w₁).prints ≡ (market_of w).prints
  pub lines : (market_of w₁).lines ≡ (market_of w).lines
  pub base : (head_of w₁).base ≡ (head_of w).base
  pub count : (head_of w₁).count ≡ (head_of w).count + k
  pub records : n₁ ≡ n + k

pub logged_none : (w : List ℕ) (n : ℕ) → Sized w → Logged w n w n 0
logged_none w n z = record { sized = z; limits = refl; prints = refl; lines = refl; base = refl; count = omega arith; records = omega arith }

pub logged_then : {w : List ℕ} {n : ℕ} {w₁ : List ℕ} {n₁ : ℕ} {w₂ : List ℕ} {n₂ k l : ℕ} → Logged w n w₁ n₁ k → Logged w₁ n₁ w₂ n₂ l → Logged w n w₂ n₂ (k + l)
logged_then a b =
    record {
      sized = b.sized;
      limits = b.limits ∙ a.limits;
      prints = b.prints ∙ a.prints;
      lines = b.lines ∙ a.lines;
      base = b.base ∙ a.base;
      count = (let x = a.count in let y = b.count in omega arith);
      records = (let x = a.records in let y = b.records in omega arith);
    }

pub logged : {w v : List ℕ} {n : ℕ} {w₁ v₁ : List ℕ} {n₁ : ℕ} (c t : ℕ) (es : List (Key × ℕ)) → Does (push_all c t es) w v n w₁ v₁ n₁ → Logged w n w₁ n₁ (length es)
logged {w} {v} {n} {w₁} {v₁} {n₁} c t es d =
    let k = begin (market_of w) in
    let g = d k refl in
    let m = g.moved.market in
    let p = push_all-pushed c t es k in
    let more = ap length g.out in
    record {
      sized = g.moved.sized;
      limits = moved-limits g.moved ∙ p.limits ∙ market-limits w;
      prints = ap (λ (x : Market). x.prints) m ∙ p.prints;
      lines = ap (λ (x : Market). x.lines) m ∙ p.lines;
      base = sym (market-base w₁) ∙ ap (λ (x : Market). x.log.base) m ∙ p.base ∙ market-base w;
      count = sym (entry-count w₁) ∙ ap (λ (x : Market). length x.log.entries) m ∙ p.entries ∙ ap (λ (x : ℕ). x + length es) (entry-count w);
      records = (let x = g.count in let y = p.out in omega arith);
    }

pub logged-stays : {w : List ℕ} {n : ℕ} {w₁ : List ℕ} {n₁ k : ℕ} → Logged w n w₁ n₁ k → Stays w w₁
logged-stays l = record { sized = l.sized; lines = l.lines; limits = l.limits }

-- ---- along the items

push_all-append : (c t : ℕ) (a b : List (Key × ℕ)) (k : Work) → push_all c t (a ++ b) k ≡ push_all c t b (push_all c t a k)
unfolding push_all
push_all-append c t [] b k = refl
push_all-append c t (e ∷ es) b k = push_all-append c t es b (push_out c t e.0 e.1 k)

events-cons : (x : Item) (is : List Item) → events (x ∷ is) ≡ events (x ∷ []) ++ events is
events-cons (Item.Snapshot token msg) is = refl
events-cons (Item.Event key msg) is = refl

events-one : (x : Item) → length (events (x ∷ [])) ≤ 1
events-one x = events-le (x ∷ [])

drop-append : {A : Type 0} (n : ℕ) (xs ys : List A) → drop n (xs ++ ys) ≡ drop n xs ++ drop (n - length xs) ys
drop-append zero xs ys = rw (zero-sub (length xs))
drop-append (suc n) [] ys = rw (sub-zero (suc n))
drop-append (suc n) (x ∷ xs) ys = drop-append n xs ys ∙ rw (suc-sub-suc n (length xs))

push_step : (c t s s₁ : ℕ) (x : Item) (is : List Item) → s₁ ≡ s - length (events (x ∷ [])) → (k : Work)
    → push_all c t (drop s (events (x ∷ is))) k ≡ push_all c t (drop s₁ (events is)) (push_all c t (drop s (events (x ∷ []))) k)
push_step c t s s₁ x is e k =
    ap (λ (es : List (Key × ℕ)). push_all c t es k)
    (ap (drop s) (events-cons x is) ∙ drop-append s (events (x ∷ [])) (events is) ∙ ap (λ (m : ℕ). drop s (events (x ∷ [])) ++ drop m (events is)) (sym e))
    ∙ push_all-append c t (drop s (events (x ∷ []))) (drop s₁ (events is)) k

-- the i-th line's items from the j-th on
item-next : (w : List ℕ) (i : ℕ) → i < line_count w → (j : ℕ) → j < length (items_of (conn_at i (market_of w)).line)
    → drop j (items_of (conn_at i (market_of w)).line) ≡ item_in (items_at w i) j ∷ drop (j + 1) (items_of (conn_at i (market_of w)).line)
item-next w i h j l =
    subst (λ (is : List Item). drop j is ≡ item_in (items_at w i) j ∷ drop (j + 1) is) (items-said w i h (length (items_of (conn_at i (market_of w)).line)) refl)
    (items-drop (length (items_of (conn_at i (market_of w)).line)) j (items_at w i) l)

-- the words w became w₁ when the i-th line's items before the j-th were passed or pushed, and skip₁ of the events are still to be passed
pub record PushedTo (c t i skip : ℕ) (w v : List ℕ) (n : ℕ) (w₁ v₁ : List ℕ) (n₁ skip₁ j : ℕ) : Type 0 where
  pub pushed : ℕ
  pub log : Logged w n w₁ n₁ pushed
  pub few : pushed ≤ j
  pub inside : j ≤ length (items_of (conn_at i (market_of w)).line)
  pub size : length w₁ ≡ length w
  pub room : length v₁ ≡ length v
  pub left : Left (push_all c t (drop skip (events (items_of (conn_at i (market_of w)).line)))) (push_all c t (drop skip₁ (events (drop j (items_of (conn_at i (market_of w)).line))))) w v n w₁ v₁ n₁

module _ {w v : List ℕ} {n i : ℕ} (r : ItemsRoom w v n i) (c t skip : ℕ) where
  pub push-start : PushedTo c t i skip w v n w v n skip 0
  push-start =
      record {
        pushed = 0;
        log = logged_none w n r.fits.at.lined.sized;
        few = omega arith;
        inside = omega arith;
        size = refl;
        room = refl;
        left = left-start (push_all c t (drop skip (events (items_of (conn_at i (market_of w)).line)))) r.fits.at.lined.sized;
      }

  module _ {w₁ v₁ : List ℕ} {n₁ skip₁ j : ℕ} (a : PushedTo c t i skip w v n w₁ v₁ n₁ skip₁ j) where
    pub push-fits : LineFits w₁ i
    push-fits = fits-stays (logged-stays a.log) i r.fits

    pub push-held : length (items_of (conn_at i (market_of w₁)).line) ≡ length (items_of (conn_at i (market_of w)).line)
    push-held = ap (λ (s : Connection). length (items_of s.line)) (conn-stays (logged-stays a.log) i)

    pub push-room : j < length (items_of (conn_at i (market_of w)).line) → PushRoom w₁ v₁ n₁
    push-room h =
        let G = ap (λ (x : Limits). x.G) a.log.limits in
        let b = a.log.base in
        let k = a.log.count in
        let m = a.log.records in
        let f = a.few in
        let o = a.room in
        let x = r.entries in
        let y = r.numbers in
        let z = r.room in
        record { sized = a.log.sized; entries = omega arith; numbers = omega arith; room = omega arith }

    pub push-on : {w₂ v₂ : List ℕ} {n₂ skip₂ : ℕ} {item : Item} → j < length (items_of (conn_at i (market_of w)).line) → item ≡ item_in (items_at w₁ i) j
        → length w₂ ≡ length w₁ → length v₂ ≡ length v₁ → Does (push_all c t (drop skip₁ (events (item ∷ [])))) w₁ v₁ n₁ w₂ v₂ n₂
        → skip₂ ≡ skip₁ - length (events (item ∷ [])) → PushedTo c t i skip w v n w₂ v₂ n₂ skip₂ (j + 1)
    push-on {w₂} {v₂} {n₂} {skip₂} {item} h e z y d s =
        let is = items_of (conn_at i (market_of w)).line in
        let es = drop skip₁ (events (item ∷ [])) in
        let x = length-drop skip₁ (events (item ∷ [])) in
        let u = events-one item in
        let f = a.few in
        let o = r.room in
        let next : drop j is ≡ item ∷ drop (j + 1) is =
        subst (λ (q : Connection). drop j (items_of q.line) ≡ item ∷ drop (j + 1) (items_of q.line)) (conn-stays (logged-stays a.log) i)
        (rw e (item-next w₁ i push-fits.at.here j (omega (arith, push-held)))) in
        record {
          pushed = a.pushed + length es;
          log = logged_then a.log (logged c t es d);
          few = omega arith;
          inside = omega arith;
          size = z ∙ a.size;
          room = y ∙ a.room;
          left = left-then (push_all c t (drop skip (events is))) (push_all c t (drop skip₁ (events (drop j is)))) (push_all c t (drop skip₂ (events (drop (j + 1) is)))) (push_all c t es) (omega arith) a.left d
              (λ k m. ap (λ (q : List Item). push_all c t (drop skip₁ (events q)) k) next ∙ push_step c t skip₁ skip₂ item (drop (j + 1) is) s k);
        }

    pub push-done : length (items_of (conn_at i (market_of w)).line) ≤ j → (b : ℕ) → c ≡ b
        → Does (push_all b t (drop skip (events (items_of (conn_at i (market_of w)).line)))) w v n w₁ v₁ n₁
    push-done h b e =
        let is = items_of (conn_at i (market_of w)).line in
        let none : drop skip₁ (events (drop j is)) ≡ [] = ap (λ (q : List Item). drop skip₁ (events q)) (drop_of_length-le is {i = j} h) ∙ drop-nil skip₁ in
        rw (← e) (left-done (push_all c t (drop skip (events is))) (push_all c t (drop skip₁ (events (drop j is)))) a.left (λ k. sym (push_all-none c t (drop skip₁ (events (drop j is))) none k)))
