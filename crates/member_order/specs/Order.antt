-- The members of an object, by the places of their names: in the order of their names, of each name the last.
use Rattle.std.specs.Prelude.{◌≡◌, true, cond, List, [], ◌∷◌, ℕ, ◌+◌, ◌≤◌, ◌<◌, length, take, drop, get_or}
use Rattle.json_text.specs.Content.{before}
use Rattle.std.specs.declared.cmp.Ordering.{Ordering}
use Rattle.member_order.specs.declared.sort.Picked.{Picked}

-- a place in front of others that lie in order
unfoldable pub insert : (name : ℕ → List ℕ) → ℕ → List ℕ → List ℕ
insert name p [] = p ∷ []
insert name p (q ∷ qs) =
    cond (before (name p) (name q)) (p ∷ q ∷ qs)
    (cond (before (name q) (name p)) (q ∷ insert name p qs)
    (q ∷ qs))

-- all of them, from the last to the first, into places that lie in order
unfoldable pub insert_all : (name : ℕ → List ℕ) → List ℕ → List ℕ → List ℕ
insert_all name [] qs = qs
insert_all name (p ∷ ps) qs = insert name p (insert_all name ps qs)

abbrev pub ordered : (name : ℕ → List ℕ) → List ℕ → List ℕ
ordered name ps = insert_all name ps []

-- the n elements from a place on
abbrev pub run : List ℕ → (from n : ℕ) → List ℕ
run w from n = take n (drop from w)

-- places that sixteen bits hold
abbrev pub Short : List ℕ → Type 0
Short x = (i : ℕ) → i < length x → get_or x i 0 < 65536

-- what is picked of two words by how their names lie; of equal names the later one
abbrev pub pick_by : Ordering → (x y i j : ℕ) → Picked
pick_by Ordering.Less x y i j = record { word = x; i = i + 1; j = j }
pick_by Ordering.Equal x y i j = record { word = y; i = i + 1; j = j + 1 }
pick_by Ordering.Greater x y i j = record { word = y; i = i; j = j + 1 }

-- the first of a list that picks is made of
abbrev pub Picks : (name : ℕ → List ℕ) → (x y : List ℕ) (i j : ℕ) → Picked → Type 0
Picks name x y i j p =
    (insert_all name (drop i x) (drop j y) ≡ p.word ∷ insert_all name (drop p.i x) (drop p.j y))
    × (i ≤ p.i) × (j ≤ p.j) × (i + j < p.i + p.j) × (p.i ≤ length x) × (p.j ≤ length y)

-- names rise from place to place
unfoldable pub Rising : (name : ℕ → List ℕ) → List ℕ → Type 0
Rising name x = (i j : ℕ) → i < j → j < length x → before (name (get_or x i 0)) (name (get_or x j 0)) ≡ true

-- w is v but for the n places from one on, where it begins with x
pub record Rewritten (v : List ℕ) (from n : ℕ) (x : List ℕ) (w : List ℕ) : Type 0 where
  pub size : length w ≡ length v
  pub few : length x ≤ n
  pub is : run w from (length x) ≡ x
  pub below : take from w ≡ take from v
  pub above : drop (from + n) w ≡ drop (from + n) v
