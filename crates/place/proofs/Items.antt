-- Laws of the reading of items.
use mathlib.Core.Path.{◌≡◌, refl, sym, ap, ◌∙◌}
use mathlib.Core.List.{List, [], ◌∷◌, ◌++◌, map}
use Prim.Native.Nat.{ℕ, zero, suc, ◌+◌, ◌*◌, ◌-◌, ◌≤◌, ◌<◌}
use native.Mathlib.Numerals.{add-one}
use native.Mathlib.Omega.{arith}
use lib.ListN.{length, get_or, set, drop, drop_of_length-le, length-map}
use Rattle.rules.specs.declared.Item.{Item}
use Rattle.rules.specs.Lists.{Each}
use Rattle.rules.specs.Quantities.{key}
use Rattle.rules.specs.Lines.{events, message_of}
use Rattle.rules.proofs.ListLaws.{map-append}
use Rattle.rules.proofs.SoundMoves.{events-le}
use Rattle.words.specs.Words.{back, over}
use Rattle.words.proofs.Tab.{length-tab, get_d-tab, tab-ext, tab-snoc, drop-tab-cons}
use Rattle.words.proofs.Lists.{each_of}
use Rattle.words.proofs.Parts.{Loan, back_below, back_in, back_start}
use Rattle.place.specs.Items.{item_of, item_in, items_in}

pub items-length : (n : ℕ) (w : List ℕ) → length (items_in n w) ≡ n
unfolding items_in
items-length n w = length-tab n (item_in w)

-- the reading depends only on the items' words
pub items-ext : (n : ℕ) (v w : List ℕ) → ((k : ℕ) → k < 4 * n → get_or v k 0 ≡ get_or w k 0) → items_in n v ≡ items_in n w
unfolding items_in
items-ext n v w h =
    tab-ext n (item_in v) (item_in w)
    (λ i l. rw (h (4 * i) (omega arith), h (4 * i + 1) (omega arith), h (4 * i + 2) (omega arith), h (4 * i + 3) (omega arith)))

pub items-none : (w : List ℕ) → items_in 0 w ≡ []
unfolding items_in
items-none w = refl

-- one more item
pub items-snoc : (n : ℕ) (w : List ℕ) → items_in (n + 1) w ≡ items_in n w ++ (item_in w n ∷ [])
unfolding items_in
items-snoc n w = tab-snoc n (item_in w)

-- the i-th item, and what holds of each
pub items_at : (n : ℕ) (w : List ℕ) (i : ℕ) (d : Item) → i < n → get_or (items_in n w) i d ≡ item_in w i
unfolding items_in
items_at n w i d h = get_d-tab n (item_in w) i d h

pub items-each : (P : Item → Type 0) (n : ℕ) (w : List ℕ) → ((i : ℕ) → i < n → P (item_in w i)) → Each P (items_in n w)
unfolding items_in
items-each P n w h = each_of P n (item_in w) h

-- the items from the i-th on
pub items-drop : (n i : ℕ) (w : List ℕ) → i < n → drop i (items_in n w) ≡ item_in w i ∷ drop (i + 1) (items_in n w)
unfolding items_in
items-drop n i w h = drop-tab-cons n i (item_in w) h

pub items-end : (n i : ℕ) (w : List ℕ) → n ≤ i → drop i (items_in n w) ≡ []
items-end n i w h = drop_of_length-le (items_in n w) {i = i} (omega (arith, items-length n w))

-- an item by its kind word
pub event-in : (w : List ℕ) (i : ℕ) → get_or w (4 * i) 0 ≡ 0
    → item_in w i ≡ Item.Event (key (get_or w (4 * i + 1) 0) (get_or w (4 * i + 2) 0)) (get_or w (4 * i + 3) 0)
event-in w i e = rw e

pub snapshot-in : (w : List ℕ) (i : ℕ) → (get_or w (4 * i) 0 ≡ 0 → ⊥) → item_in w i ≡ Item.Snapshot (get_or w (4 * i) 0 - 1) (get_or w (4 * i + 3) 0)
snapshot-in w i h = go (get_or w (4 * i) 0) (get_or w (4 * i + 1) 0) (get_or w (4 * i + 2) 0) (get_or w (4 * i + 3) 0) h
  where
    go : (k a b m : ℕ) → (k ≡ 0 → ⊥) → item_of k a b m ≡ Item.Snapshot (k - 1) m
    go zero a b m h = absurd (h refl)
    go (suc t) a b m h = let e : t ≡ suc t - 1 = omega arith in ap (λ (n : ℕ). Item.Snapshot n m) e

pub token-item : (t a b m : ℕ) → item_of (t + 1) a b m ≡ Item.Snapshot t m
token-item t a b m = rw add-one

-- the i-th item's words come back as x, y, z, u
pub items-put : (i : ℕ) (w : List ℕ) (x y z u : ℕ) (item : Item) → 4 * i + 4 ≤ length w → item_of x y z u ≡ item
    → items_in (i + 1) (back (4 * i) (4 * i + 4) (x ∷ y ∷ z ∷ u ∷ []) w) ≡ items_in i w ++ (item ∷ [])
items-put i w x y z u item h e =
    let row : List ℕ = x ∷ y ∷ z ∷ u ∷ [] in
    let w' : List ℕ = back (4 * i) (4 * i + 4) row w in
    let loan : Loan (4 * i) (4 * i + 4) row w = record { kept = omega arith; start = omega arith; inside = h } in
    let k : get_or w' (4 * i) 0 ≡ x = back_start _ _ _ _ loan (omega arith) in
    let a : get_or w' (4 * i + 1) 0 ≡ y = back_in _ _ _ _ loan 1 (omega arith) in
    let b : get_or w' (4 * i + 2) 0 ≡ z = back_in _ _ _ _ loan 2 (omega arith) in
    let m : get_or w' (4 * i + 3) 0 ≡ u = back_in _ _ _ _ loan 3 (omega arith) in
    let old : items_in i w' ≡ items_in i w = items-ext i w' w (λ j l. back_below _ _ _ _ loan j (omega arith)) in
    items-snoc i w' ∙ rw (old, k, a, b, m, e)

-- ---- how many events there are from the i-th item on

module _ (w : List ℕ) (n i : ℕ) where
  pub events-here : i < n → get_or w (4 * i) 0 ≡ 0 → length (events (drop i (items_in n w))) ≡ 1 + length (events (drop (i + 1) (items_in n w)))
  events-here h e = rw (items-drop n i w h, event-in w i e) (omega arith)

  pub events-over : i < n → (get_or w (4 * i) 0 ≡ 0 → ⊥) → length (events (drop i (items_in n w))) ≡ length (events (drop (i + 1) (items_in n w)))
  events-over h e = rw (items-drop n i w h, snapshot-in w i e)

  pub events-end : n ≤ i → length (events (drop i (items_in n w))) ≡ 0
  events-end h = rw (items-end n i w h)

pub events-fit : (w : List ℕ) (n : ℕ) → length (events (items_in n w)) ≤ n
events-fit w n = let a = events-le (items_in n w) in let b = items-length n w in omega arith

-- ---- messages

over-set : (xs v : List ℕ) (a : ℕ) → length xs < length v → set (over xs v) (length xs) a ≡ over (xs ++ (a ∷ [])) v
over-set [] [] a h = absurd (omega arith)
over-set [] (y ∷ ys) a h = refl
over-set (x ∷ xs) [] a h = absurd (omega arith)
over-set (x ∷ xs) (y ∷ ys) a h = ap (λ (l : List ℕ). x ∷ l) (over-set xs ys a (omega arith))

message-in : (k a b m : ℕ) → message_of (item_of k a b m) ≡ m
message-in zero a b m = refl
message-in (suc k) a b m = refl

-- the messages of the first i items are written
pub message-put : (items v u : List ℕ) (i : ℕ) → i < length v → u ≡ over (map message_of (items_in i items)) v
    → set u i (get_or items (4 * i + 3) 0) ≡ over (map message_of (items_in (i + 1) items)) v
message-put items v u i h e =
    let xs = map message_of (items_in i items) in
    let n : length xs ≡ i = length-map (items_in i items) message_of ∙ items-length i items in
    let a = get_or items (4 * i + 3) 0 in
    let more : map message_of (items_in (i + 1) items) ≡ xs ++ (a ∷ []) =
    ap (map message_of) (items-snoc i items) ∙ map-append message_of (items_in i items) (item_in items i ∷ [])
    ∙ ap (λ (z : ℕ). xs ++ (z ∷ [])) (message-in (get_or items (4 * i) 0) _ _ a) in
    ap (λ (l : List ℕ). set l i a) e ∙ ap (λ (j : ℕ). set (over xs v) j a) (sym n) ∙ over-set xs v a (omega arith) ∙ ap (λ (l : List ℕ). over l v) (sym more)
