-- The moves that put records out: one record, and what the words of a store keep on the way.
use mathlib.Core.Path.{◌≡◌, sym, ap, ◌∙◌}
use mathlib.Core.List.{List, [], ◌∷◌}
use mathlib.Core.Bool.{Bool, cond}
use Prim.Native.Nat.{ℕ, ◌+◌, ◌-◌, ◌*◌, ◌≤◌, ◌<◌}
use native.Mathlib.Omega.{arith}
use borrow.Author.Tests.{lt-ltb, le-ltb}
use lib.Dec.{ltb}
use lib.ListN.{length}
use Rattle.rules.specs.declared.Item.{Item}
use Rattle.rules.specs.Quantities.{Key, book_out, snapshot_out, print_out}
use Rattle.rules.specs.Log.{end, push, stamp}
use Rattle.rules.specs.Prints.{applied_in, delivered_in, apply_print}
use Rattle.rules.specs.Lines.{Market, with_log, with_prints}
use Rattle.rules.specs.Entering.{Work, on_market, put_out, push_out, put_items, release}
use Rattle.store.specs.Store.{market_of, Sized}
use Rattle.store.specs.Moves.{Moved}
use Rattle.output.specs.Output.{record_words, over_at}
use Rattle.moves.specs.Does.{Does}
use Rattle.moves.proofs.DoesLaws.{does-then, does-as, does-none, does-market, does-put}

module _ {w w₁ v v₁ : List ℕ} {n n₁ : ℕ} (c : ℕ) (room : 7 * n + 7 ≤ length v) where
  -- an event, under the number behind the log
  pub push-out-done : (t : ℕ) (key : Key) (msg number : ℕ) → number ≡ end (market_of w).log
      → Moved w w₁ (with_log (push key t (market_of w).log) (market_of w))
      → (n₁ ≡ n + 1) × (v₁ ≡ over_at (7 * n) (record_words (book_out c number key msg)) v)
      → Does (push_out c t key msg) w v n w₁ v₁ n₁
  unfolding push_out
  push-out-done t key msg number q m p =
      let f : Market → Market = λ x. with_log (push key t x.log) x in
      does-as (λ k. put_out (book_out c number key msg) (on_market f k)) (push_out c t key msg)
      (λ k e. ap (λ (x : ℕ). put_out (book_out c x key msg) (on_market f k)) (q ∙ ap (λ (x : Market). end x.log) (sym e)))
      (does-then (on_market f) (put_out (book_out c number key msg)) (omega arith) (does-market f m) (does-put (book_out c number key msg) m.sized p))

  pub put-snapshot-done : (t token msg : ℕ) → Moved w w₁ (with_log (stamp t (market_of w).log) (market_of w))
      → (n₁ ≡ n + 1) × (v₁ ≡ over_at (7 * n) (record_words (snapshot_out c msg)) v)
      → Does (put_items c t (Item.Snapshot token msg ∷ [])) w v n w₁ v₁ n₁
  unfolding put_items
  put-snapshot-done t token msg m p =
      let f : Market → Market = λ x. with_log (stamp t x.log) x in
      does-then (on_market f) (put_out (snapshot_out c msg)) (omega arith) (does-market f m) (does-put (snapshot_out c msg) m.sized p)

-- an event that is put out is an item put out
pub event-done : {w w₁ v v₁ : List ℕ} {n n₁ : ℕ} (c t : ℕ) (key : Key) (msg : ℕ) → Does (push_out c t key msg) w v n w₁ v₁ n₁ → Does (put_items c t (Item.Event key msg ∷ [])) w v n w₁ v₁ n₁
unfolding put_items
event-done c t key msg d = d

-- what release makes of a held print that y copies were delivered of and x applied
outcome : ℕ → Key → ℕ → ℕ → ℕ → Work → Work
outcome c key msg x y k = cond (ltb x y) (put_out (print_out c key msg (y - x)) (on_market (with_prints (apply_print key y k.market.prints)) k)) k

module _ (w : List ℕ) (c : ℕ) (key : Key) (msg d a : ℕ) (delivered : d ≡ delivered_in key c (market_of w).prints.count_rows)
    (applied : a ≡ applied_in key (market_of w).prints.key_rows) where
  outcome-is : (k : Work) → k.market ≡ market_of w → outcome c key msg a d k ≡ release c ((key, msg) ∷ []) k
  unfolding release outcome
  outcome-is k e =
      let x : a ≡ applied_in key k.market.prints.key_rows = applied ∙ ap (λ (m : Market). applied_in key m.prints.key_rows) (sym e) in
      let y : d ≡ delivered_in key c k.market.prints.count_rows = delivered ∙ ap (λ (m : Market). delivered_in key c m.prints.count_rows) (sym e) in
      λ i. outcome c key msg (x i) (y i) k

  pub print-out-done : {v w₁ v₁ : List ℕ} {n n₁ : ℕ} → 7 * n + 7 ≤ length v → a < d → Moved w w₁ (with_prints (apply_print key d (market_of w).prints) (market_of w))
      → (n₁ ≡ n + 1) × (v₁ ≡ over_at (7 * n) (record_words (print_out c key msg (d - a))) v)
      → Does (release c ((key, msg) ∷ [])) w v n w₁ v₁ n₁
  unfolding outcome
  print-out-done room l m p =
      let f : Market → Market = λ x. with_prints (apply_print key d x.prints) x in
      let r = print_out c key msg (d - a) in
      does-as (λ k. put_out r (on_market f k)) (release c ((key, msg) ∷ []))
      (λ k e. ap (λ (b : Bool). cond b (put_out r (on_market f k)) k) (sym (lt-ltb a d l)) ∙ outcome-is k e)
      (does-then (on_market f) (put_out r) (omega arith) (does-market f m) (does-put r m.sized p))

  pub print-kept-done : {v : List ℕ} {n : ℕ} → Sized w → d ≤ a → Does (release c ((key, msg) ∷ [])) w v n w v n
  unfolding outcome
  print-kept-done z l =
      does-as (λ k. k) (release c ((key, msg) ∷ []))
      (λ k e. ap (λ (b : Bool). cond b (put_out (print_out c key msg (d - a)) (on_market (with_prints (apply_print key d k.market.prints)) k)) k) (sym (le-ltb a d l)) ∙ outcome-is k e)
      (does-none z)
