-- Tables of rows of four words. A table is n rows of the words from row b on.
use Rattle.std.specs.Prelude.{◌≡◌, Bool, true, false, ◌&&◌, ◌||◌, List, ℕ, ◌+◌, ◌-◌, ◌*◌, ◌≤◌, ◌<◌, get_or, ltb, eqb, Result, Ok, Err}

pub record Row : Type 0 where
  pub a : ℕ
  pub b : ℕ
  pub c : ℕ
  pub d : ℕ

abbrev pub row : ℕ → ℕ → ℕ → ℕ → Row
row a b c d = record { a = a; b = b; c = c; d = d }

-- row i of the words
unfoldable pub row_at : List ℕ → ℕ → Row
row_at w i = row (get_or w (4 * i) 0) (get_or w (4 * i + 1) 0) (get_or w (4 * i + 2) 0) (get_or w (4 * i + 3) 0)

-- row i of the table from row b on
abbrev pub row_in : ℕ → List ℕ → ℕ → Row
row_in b w i = row_at w (b + i)

-- a row against three words: by two of them, or by all three
abbrev pub lower : Row → ℕ → ℕ → Bool
lower r x y = ltb r.a x || eqb r.a x && ltb r.b y

abbrev pub level : Row → ℕ → ℕ → Bool
level r x y = eqb r.a x && eqb r.b y

abbrev pub below : Bool → Row → ℕ → ℕ → ℕ → Bool
below false r x y z = lower r x y
below true r x y z = lower r x y || level r x y && ltb r.c z

abbrev pub alike : Bool → Row → ℕ → ℕ → ℕ → Bool
alike false r x y z = level r x y
alike true r x y z = level r x y && eqb r.c z

-- row i of the table is its first, or above the row before it
abbrev pub Rises : Bool → ℕ → List ℕ → ℕ → Type 0
Rises three b w i = 0 < i → below three (row_in b w (i - 1)) (row_in b w i).a (row_in b w i).b (row_in b w i).c ≡ true

-- of n rows f the i-th is that of the words
pub record Here (three : Bool) (f : ℕ → Row) (n x y z i : ℕ) : Type 0 where
  pub within : i < n
  pub hit : alike three (f i) x y z ≡ true

-- of n rows f the one before i has a first word below x, and there are m more
pub record LooksFrom (f : ℕ → Row) (n x i m : ℕ) : Type 0 where
  pub within : i + m ≤ n
  pub left : 0 < i → (f (i - 1)).a < x

-- of n rows f the one before i is below the words, and the i-th is not
pub record Lower (three : Bool) (f : ℕ → Row) (n x y z i : ℕ) : Type 0 where
  pub within : i ≤ n
  pub left : 0 < i → below three (f (i - 1)) x y z ≡ true
  pub right : i < n → below three (f i) x y z ≡ false

-- nor is it theirs
pub record Between (three : Bool) (f : ℕ → Row) (n x y z i : ℕ) : Type 0 where
  pub within : i ≤ n
  pub left : 0 < i → below three (f (i - 1)) x y z ≡ true
  pub right : i < n → below three (f i) x y z ≡ false
  pub miss : i < n → alike three (f i) x y z ≡ false

abbrev pub Located : Bool → (ℕ → Row) → ℕ → ℕ → ℕ → ℕ → Result ℕ ℕ → Type 0
Located three f n x y z (Ok i) = Here three f n x y z i
Located three f n x y z (Err i) = Between three f n x y z i

-- v is w with the row x at i
pub record Put (w v : List ℕ) (i : ℕ) (x : Row) : Type 0 where
  pub here : row_at v i ≡ x
  pub others : (k : ℕ) → (k ≡ i → ⊥) → row_at v k ≡ row_at w k

-- v is w with the rows from i to n also d further up
pub record Shifted (w v : List ℕ) (i n d : ℕ) : Type 0 where
  pub front : (k : ℕ) → k < i + d → row_at v k ≡ row_at w k
  pub moved : (k : ℕ) → i ≤ k → k < n → row_at v (k + d) ≡ row_at w k
  pub past : (k : ℕ) → n + d ≤ k → row_at v k ≡ row_at w k
