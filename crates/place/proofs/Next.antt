-- The walk along the items: what a test finds, and the next event.
use mathlib.Core.Path.{◌≡◌, refl, sym, ap, ◌∙◌}
use mathlib.Core.Logic.{⊎_elim}
use mathlib.Core.List.{List, [], ◌∷◌, map}
use mathlib.Core.Bool.{Bool, true, false, not}
use Prim.Native.Nat.{ℕ, zero, suc, ◌+◌, ◌*◌, ◌≤◌, ◌<◌}
use native.Mathlib.Omega.{arith}
use lib.ListN.{length, get_or, drop, length-drop}
use lib.Dec.{ltb}
use lib.Seq.{drop-drop}
use borrow.Author.Tests.{lt-ltb, le-ltb}
use Rattle.rules.specs.declared.Item.{Item}
use Rattle.rules.specs.Quantities.{Key, key}
use Rattle.rules.specs.Lists.{any, index, nil}
use Rattle.rules.specs.Lines.{events, event_keys}
use Rattle.rules.proofs.Tests.{by_cond}
use Rattle.words.proofs.Cases.{below_or}
use Rattle.place.specs.Items.{item_of, item_in, items_in, is_event}
use Rattle.words.proofs.Lists.{any_here, any-over, any-end, index-here, index-over, index-end}
use Rattle.place.proofs.Items.{items-length, items-drop, items-end, event-in}

-- what holds of all items by a test, said of those from the i-th on
module _ (t : Item → Bool) (w : List ℕ) (n i : ℕ) where
  pub event-here : i < n → t (item_in w i) ≡ true → i ≡ i + index t (drop i (items_in n w))
  unfolding items_in
  event-here h e = index-here t (item_in w) n i h e

  pub event-over : i < n → t (item_in w i) ≡ false → i + index t (drop i (items_in n w)) ≡ (i + 1) + index t (drop (i + 1) (items_in n w))
  unfolding items_in
  event-over h e = index-over t (item_in w) n i h e

  pub event-end : n ≤ i → i ≡ i + index t (drop i (items_in n w))
  unfolding items_in
  event-end h = index-end t (item_in w) n i h

  pub item-here : i < n → t (item_in w i) ≡ true → true ≡ any t (drop i (items_in n w))
  unfolding items_in
  item-here h e = any_here t (item_in w) n i h e

  pub item-over : i < n → t (item_in w i) ≡ false → any t (drop i (items_in n w)) ≡ any t (drop (i + 1) (items_in n w))
  unfolding items_in
  item-over h e = any-over t (item_in w) n i h e

  pub item-end : n ≤ i → false ≡ any t (drop i (items_in n w))
  unfolding items_in
  item-end h = any-end t (item_in w) n i h

index-le : (t : Item → Bool) (l : List Item) → index t l ≤ length l
index-le t [] = omega arith
index-le t (x ∷ xs) = let ih = index-le t xs in by_cond (λ k. k ≤ suc (length xs)) (t x) (λ e. omega arith) (λ e. omega arith)

index-stop : (t : Item → Bool) (l : List Item) → index t (drop (index t l) l) ≡ 0
index-stop t [] = refl
index-stop t (x ∷ xs) = by_cond (λ k. index t (drop k (x ∷ xs)) ≡ 0) (t x) (λ e. rw e) (λ e. index-stop t xs)

events-index : (l : List Item) → events l ≡ events (drop (index is_event l) l)
events-index [] = refl
events-index (Item.Snapshot t m ∷ l) = events-index l
events-index (Item.Event k m ∷ l) = refl

-- item x is an event, or there is none from it on
abbrev pub Stop : List ℕ → ℕ → ℕ → Type 0
Stop w n x = index is_event (drop x (items_in n w)) ≡ 0

-- x is the next of n items that is an event, or n; no event from `from` to x
pub record Next (w : List ℕ) (n from x : ℕ) : Type 0 where
  pub past : from ≤ x
  pub inside : x ≤ n
  pub stop : Stop w n x
  pub rest : events (drop from (items_in n w)) ≡ events (drop x (items_in n w))

pub next : (w : List ℕ) (n from x : ℕ) → from ≤ n → x ≡ from + index is_event (drop from (items_in n w)) → Next w n from x
next w n from x h e =
    let l : List Item = drop from (items_in n w) in
    let at : drop x (items_in n w) ≡ drop (index is_event l) l = rw e (sym (drop-drop (index is_event l) from (items_in n w))) in
    record {
      past = omega arith;
      inside = omega (arith, index-le is_event l, length-drop from (items_in n w), items-length n w);
      stop = rw at (index-stop is_event l);
      rest = rw at (events-index l);
    }

-- at a stop below n stands an event
pub stop-kind : (w : List ℕ) (n i : ℕ) → i < n → Stop w n i → get_or w (4 * i) 0 ≡ 0
stop-kind w n i h e = go (get_or w (4 * i) 0) (get_or w (4 * i + 1) 0) (get_or w (4 * i + 2) 0) (get_or w (4 * i + 3) 0) (drop (i + 1) (items_in n w)) (rw (items-drop n i w h) at e)
  where
    go : (k a b m : ℕ) (l : List Item) → index is_event (item_of k a b m ∷ l) ≡ 0 → k ≡ 0
    go zero a b m l e = refl
    go (suc t) a b m l e = absurd (omega arith)

-- the held events' keys, from item i on
abbrev pub held_from : List ℕ → ℕ → ℕ → List Key
held_from w n i = event_keys (drop i (items_in n w))

abbrev pub item_key : List ℕ → ℕ → Key
item_key w i = key (get_or w (4 * i + 1) 0) (get_or w (4 * i + 2) 0)

pub events-drop : (w : List ℕ) (n i : ℕ) → i < n → Stop w n i
    → events (drop i (items_in n w)) ≡ (item_key w i, get_or w (4 * i + 3) 0) ∷ events (drop (i + 1) (items_in n w))
events-drop w n i h e = rw (items-drop n i w h, event-in w i (stop-kind w n i h e))

pub held-event : (w : List ℕ) (n i : ℕ) → i < n → Stop w n i → held_from w n i ≡ item_key w i ∷ held_from w n (i + 1)
held-event w n i h e = ap (map (λ e. e.0)) (events-drop w n i h e)

pub held-end : (w : List ℕ) (n i : ℕ) → n ≤ i → held_from w n i ≡ []
held-end w n i h = rw (items-end n i w h)

-- an event is held where the next one stands below n
pub event-held : (w : List ℕ) (n x : ℕ) → Next w n 0 x → ltb x n ≡ not (nil (events (items_in n w)))
event-held w n x s =
    ⊎_elim
    (λ h. rw (s.rest ∙ events-drop w n x h s.stop) (lt-ltb x n h))
    (λ h. rw (s.rest ∙ ap events (items-end n x w h)) (le-ltb x n h))
    (below_or x n)
