-- Items put out one after the other.
use mathlib.Core.Path.{◌≡◌, refl, sym, ap, ◌∙◌, subst}
use mathlib.Core.List.{List, [], ◌∷◌, ◌++◌}
use Prim.Native.Nat.{ℕ, ◌+◌, ◌≤◌, ◌<◌}
use native.Mathlib.Numerals.{add-one}
use native.Mathlib.Omega.{arith}
use lib.ListN.{length, get_or, take, length-take}
use lib.Seq.{take-suc, take_all}
use Rattle.rules.specs.declared.Limits.{Limits}
use Rattle.rules.specs.declared.Item.{Item}
use Rattle.rules.specs.Lines.{Connection, Market, conn_at, items_of, events}
use Rattle.rules.specs.Entering.{Work, begin, put_items}
use Rattle.rules.proofs.SoundMoves.{put_items-pushed, events-le}
use Rattle.place.specs.Items.{item_in}
use Rattle.store.specs.Store.{limits_of, head_of, market_of, Sized}
use Rattle.store.specs.ConnMoves.{items_at, LineFits}
use Rattle.store.proofs.MarketLaws.{market-limits, entry-count, log-ends}
use Rattle.store.proofs.FrameLaws.{moved-limits}
use Rattle.store.proofs.ConnLaws.{item-said}
use Rattle.moves.specs.Does.{Does, PushRoom, ItemsRoom}
use Rattle.moves.proofs.DoesLaws.{does-then, does-as, does-none}
use Rattle.moves.proofs.Staying.{Stays, conn-stays, fits-stays}

pub put-append : (c t : ℕ) (is js : List Item) (k : Work) → put_items c t js (put_items c t is k) ≡ put_items c t (is ++ js) k
unfolding put_items
put-append c t [] js k = refl
put-append c t (Item.Snapshot u msg ∷ is) js k = put-append c t is js _
put-append c t (Item.Event key msg ∷ is) js k = put-append c t is js _

pub put-none : {w v : List ℕ} {n : ℕ} (c t : ℕ) → Sized w → Does (put_items c t []) w v n w v n
unfolding put_items
put-none c t z = does-none z

-- l items were put out
pub record PutOut (w : List ℕ) (n : ℕ) (w₁ : List ℕ) (n₁ l : ℕ) : Type 0 where
  pub stays : Stays w w₁
  pub base : (head_of w₁).base ≡ (head_of w).base
  pub count : (head_of w₁).count ≤ (head_of w).count + l
  pub records : n₁ ≡ n + l
  pub prints : (market_of w₁).prints ≡ (market_of w).prints

pub put-out : {w v : List ℕ} {n : ℕ} {w₁ v₁ : List ℕ} {n₁ : ℕ} (c t : ℕ) (is : List Item) → Does (put_items c t is) w v n w₁ v₁ n₁ → PutOut w n w₁ n₁ (length is)
put-out {w} {v} {n} {w₁} {v₁} {n₁} c t is d =
    let k : Work = begin (market_of w) in
    let g = d k refl in
    let m : market_of w₁ ≡ (put_items c t is k).market = g.moved.market in
    let p = put_items-pushed c t is k in
    let b : (market_of w₁).log.base ≡ (market_of w).log.base = ap (λ (x : Market). x.log.base) m ∙ p.base in
    let e : length (market_of w₁).log.entries ≡ length (market_of w).log.entries + length (events is) = ap (λ (x : Market). length x.log.entries) m ∙ p.entries in
    let o : length g.more ≡ length is = sym (ap length g.out) ∙ p.out ∙ omega arith in
    let a₀ = entry-count w in
    let a₁ = entry-count w₁ in
    let e₀ = log-ends w in
    let e₁ = log-ends w₁ in
    let l = events-le is in
    let r = g.count in
    record {
      stays = record { sized = g.moved.sized; lines = ap (λ (x : Market). x.lines) m ∙ p.lines; limits = moved-limits g.moved ∙ p.limits ∙ market-limits w };
      base = omega arith;
      count = omega arith;
      records = omega arith;
      prints = ap (λ (x : Market). x.prints) m ∙ p.prints;
    }

-- the first j of the i-th line's items were put out
module _ {w v w₁ v₁ : List ℕ} {n n₁ : ℕ} (i t j : ℕ) (r : ItemsRoom w v n i) (h : j < length (items_of (conn_at i (market_of w)).line)) (kept : length v₁ ≡ length v)
    (d : Does (put_items (conn_at i (market_of w)).conn t (take j (items_of (conn_at i (market_of w)).line))) w v n w₁ v₁ n₁) where
  so_far : PutOut w n w₁ n₁ j
  so_far =
      let is : List Item = items_of (conn_at i (market_of w)).line in
      let l : length (take j is) ≡ j = simp length-take (omega arith) in
      subst (PutOut w n w₁ n₁) l (put-out (conn_at i (market_of w)).conn t (take j is) d)

  pub item-ready : LineFits w₁ i × (j < length (items_of (conn_at i (market_of w₁)).line))
  item-ready = (fits-stays so_far.stays i r.fits, rw (conn-stays so_far.stays i) h)

  pub put-ready : PushRoom w₁ v₁ n₁
  put-ready =
      let p = so_far in
      let g : (limits_of w₁).G ≡ (limits_of w).G = ap (λ (x : Limits). x.G) p.stays.limits in
      let a = p.base in
      let b = p.count in
      let c = p.records in
      let x = r.entries in
      let y = r.numbers in
      let z = r.room in
      record { sized = p.stays.sized; entries = omega arith; numbers = omega arith; room = omega arith }

  -- and the next
  pub put_next : {w₂ v₂ : List ℕ} {n₂ : ℕ} (c : ℕ) (item : Item) → c ≡ (conn_at i (market_of w)).conn → item ≡ item_in (items_at w₁ i) j
      → Does (put_items c t (item ∷ [])) w₁ v₁ n₁ w₂ v₂ n₂
      → Does (put_items (conn_at i (market_of w)).conn t (take (j + 1) (items_of (conn_at i (market_of w)).line))) w v n w₂ v₂ n₂
  put_next c item q e f =
      let is : List Item = items_of (conn_at i (market_of w)).line in
      let a : ℕ = (conn_at i (market_of w)).conn in
      let at : get_or is j item ≡ item =
      ap (λ (s : Connection). get_or (items_of s.line) j item) (sym (conn-stays so_far.stays i)) ∙ item-said w₁ i item-ready.0.at.here j item item-ready.1 ∙ sym e in
      let more : take j is ++ (item ∷ []) ≡ take (j + 1) is = sym (rw (add-one, take-suc is j item h, at)) in
      let room = r.room in
      does-as (λ k. put_items c t (item ∷ []) (put_items a t (take j is) k)) (put_items a t (take (j + 1) is))
      (λ k x. ap (λ (y : ℕ). put_items y t (item ∷ []) (put_items a t (take j is) k)) q ∙ put-append a t (take j is) (item ∷ []) k ∙ ap (λ (l : List Item). put_items a t l k) more)
      (does-then (put_items a t (take j is)) (put_items c t (item ∷ [])) (omega arith) d f)

pub put_all : {w v w₁ v₁ : List ℕ} {n n₁ : ℕ} (c t j : ℕ) (is : List Item) → length is ≤ j → Does (put_items c t (take j is)) w v n w₁ v₁ n₁ → Does (put_items c t is) w v n w₁ v₁ n₁
put_all c t j is h d = rw (take_all j is h) at d
