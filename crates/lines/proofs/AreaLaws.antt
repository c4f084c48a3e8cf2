-- Laws of a line's area: the line that its words say, and what a changed header leaves.
use Rattle.std.specs.Prelude.{Option, None, Some, is_some, unwrap_or}
use mathlib.Core.Path.{◌≡◌, refl, sym, ◌∙◌, ap}
use mathlib.Core.List.{List, [], ◌∷◌, ◌++◌}
use mathlib.Core.Bool.{Bool, true, false, not}
use Prim.Native.Nat.{ℕ, zero, suc, ◌+◌, ◌-◌, ◌*◌, ◌^◌, ◌≤◌, ◌<◌}
use native.Mathlib.Omega.{arith}
use lib.Dec.{eqb, eqb-suc-zero}
use mir.Val.{bool_byte}
use lib.ListN.{length, get_or, drop, set, length-set}
use lib.Seq.{get_or-set_same, get_or-set_other}
use Rattle.rules.specs.Lists.{any}
use Rattle.rules.specs.Quantities.{Key, key, same}
use Rattle.rules.specs.Lines as Rules
use Rattle.rules.specs.Lines.{waiting, with_line, with_held}
use Rattle.rules.proofs.Tests.{ff≢tt}
use Rattle.words.specs.Words.{part, back, tab}
use Rattle.words.proofs.Parts.{Loan, get_d_part, part_length, length_back, part_ext, part_same, part-after, back_below, back_above, back_in, back_start}
use Rattle.words.proofs.Tab.{get_d-tab, tab-ext, tab-snoc}
use Rattle.place.specs.Items.{items_in, kind_of, Room}
use Rattle.words.proofs.Lists.{any_here, any-over, any-end}
use Rattle.rules.specs.declared.Item.{Item}
use Rattle.lines.specs.declared.Line.{Line}
use Rattle.lines.specs.declared.Line.TheVariants as Line
use Rattle.lines.proofs.Laws.{more-reads}
use Rattle.lines.specs.Line.{Stands, line_of, held_of, holding}
use Rattle.lines.specs.Area.{flag, stamp_in, by_kind, line_in, flag_of, stamp_flag, stamp_time, line_words, print_in, prints_in, item_words, print_words, head_line, print_count, line_limit, no_print, conn_of}

-- ---- a time with its flag

pub stamp-at : (f t : ℕ) → (f ≡ 0 → ⊥) → Some t ≡ stamp_in f t
stamp-at zero t g = absurd (g refl)
stamp-at (suc f) t g = refl

pub flag-byte : (b : Bool) → bool_byte b ≡ flag_of b
flag-byte true = refl
flag-byte false = refl

pub stamp-words : (s : Option ℕ) → (bool_byte (is_some s) ≡ stamp_flag s) × (unwrap_or s 0 ≡ stamp_time s)
stamp-words None = (refl, refl)
stamp-words (Some t) = (refl, refl)

pub stamp-back : (s : Option ℕ) → stamp_in (stamp_flag s) (stamp_time s) ≡ s
stamp-back None = refl
stamp-back (Some t) = refl

-- ---- reading a line

module _ (v : List ℕ) where
  pub says-waiting : get_or v 0 0 ≡ 0 → Line.Waiting (get_or v 1 0) (get_or v 2 0) ≡ line_in v
  unfolding line_in
  says-waiting e = rw e

  pub says-pending : get_or v 0 0 ≡ 1 → (at : Option ℕ) → at ≡ stamp_in (get_or v 3 0) (get_or v 4 0) → Line.Pending (get_or v 1 0) at (get_or v 2 0) ≡ line_in v
  unfolding line_in
  says-pending e at f = rw (f, e)

  pub says-in-line : get_or v 0 0 ≡ 2 → Line.InLine (get_or v 5 0) (not (eqb (get_or v 6 0) 0)) (not (eqb (get_or v 7 0) 0)) ≡ line_in v
  unfolding line_in
  says-in-line e = rw (e, set? (get_or v 6 0), set? (get_or v 7 0))
    where
      set? : (n : ℕ) → not (eqb n 0) ≡ flag n
      set? zero = refl
      set? (suc n) = rw (eqb-suc-zero n)

  pub says-failed : (get_or v 0 0 ≡ 0 → ⊥) → (get_or v 0 0 ≡ 1 → ⊥) → (get_or v 0 0 ≡ 2 → ⊥) → Line.Failed ≡ line_in v
  unfolding line_in
  says-failed e f g = kind _ _ _ (get_or v 0 0) e f g
    where
      kind : (a b c : Line) (n : ℕ) → (n ≡ 0 → ⊥) → (n ≡ 1 → ⊥) → (n ≡ 2 → ⊥) → Line.Failed ≡ by_kind n a b c
      kind a b c zero e f g = absurd (e refl)
      kind a b c (suc zero) e f g = absurd (f refl)
      kind a b c (suc (suc zero)) e f g = absurd (g refl)
      kind a b c (suc (suc (suc n))) e f g = refl

-- ---- writing a line

pub words_of : (l : Line) → length (line_words l) ≡ 8
unfolding line_words
words_of (Line.Waiting n since) = refl
words_of (Line.Pending n at since) = refl
words_of (Line.InLine n a b) = refl
words_of Line.Failed = refl

pub line-back : (l : Line) → line_in (line_words l) ≡ l
unfolding line_in line_words
line-back (Line.Waiting n since) = refl
line-back (Line.Pending n at since) = ap (λ (s : Option ℕ). Line.Pending n s since) (stamp-back at)
line-back (Line.InLine n a b) = rw (bit a, bit b)
  where
    bit : (x : Bool) → flag (flag_of x) ≡ x
    bit true = refl
    bit false = refl
line-back Line.Failed = refl

module _ (h : ℕ) (w : List ℕ) (l : Line) (size : length w ≡ 7 * h + 64) where
  loan : Loan 1 9 (line_words l) w
  loan = record { kept = words_of l; start = omega arith; inside = omega arith }

  pub set-line-conn : conn_of h (back 1 9 (line_words l) w) ≡ with_line (line_of l (item_words h w)) (conn_of h w)
  unfolding conn_of
  set-line-conn =
      let v = back 1 9 (line_words l) w in
      let a : get_or v 0 0 ≡ get_or w 0 0 = back_below 1 9 (line_words l) w loan 0 (omega arith) in
      let b : head_line v ≡ l = ap line_in (part_same 1 9 (line_words l) w loan) ∙ line-back l in
      let c : item_words h v ≡ item_words h w = part-after 1 9 (line_words l) w loan 32 (4 * h + 64) (omega arith) (omega arith) in
      let d : print_count v ≡ print_count w = back_above 1 9 (line_words l) w loan 9 (omega arith) in
      let e : print_words h v ≡ print_words h w = part-after 1 9 (line_words l) w loan (4 * h + 64) (7 * h + 64) (omega arith) (omega arith) in
      let f : line_limit v ≡ line_limit w = back_above 1 9 (line_words l) w loan 10 (omega arith) in
      λ i. record { conn = a i; limit = f i; line = line_of (b i) (c i); held = prints_in (d i) (e i) }

-- ---- held prints

-- what a key finds among prints, from the i-th on
abbrev pub of_print_key : Key → Key × ℕ → Bool
of_print_key k p = same p.0 k

module _ (k : Key) (n : ℕ) (v : List ℕ) (i : ℕ) where
  pub among-here : i < n → same (print_in v i).0 k ≡ true → true ≡ any (of_print_key k) (drop i (prints_in n v))
  unfolding prints_in
  among-here h e = any_here (of_print_key k) (print_in v) n i h e

  pub among-over : i < n → same (print_in v i).0 k ≡ false → any (of_print_key k) (drop i (prints_in n v)) ≡ any (of_print_key k) (drop (i + 1) (prints_in n v))
  unfolding prints_in
  among-over h e = any-over (of_print_key k) (print_in v) n i h e

  pub among-end : n ≤ i → false ≡ any (of_print_key k) (drop i (prints_in n v))
  unfolding prints_in
  among-end h = any-end (of_print_key k) (print_in v) n i h

-- a print behind the first n comes back as x, y, z
pub prints-put : (n : ℕ) (v : List ℕ) (x y z : ℕ) → 3 * n + 3 ≤ length v
    → prints_in (n + 1) (back (3 * n) (3 * n + 3) (x ∷ y ∷ z ∷ []) v) ≡ prints_in n v ++ ((key x y, z) ∷ [])
unfolding prints_in
prints-put n v x y z h =
    let row : List ℕ = x ∷ y ∷ z ∷ [] in
    let v' : List ℕ = back (3 * n) (3 * n + 3) row v in
    let loan : Loan (3 * n) (3 * n + 3) row v = record { kept = omega arith; start = omega arith; inside = h } in
    let a : get_or v' (3 * n) 0 ≡ x = back_start _ _ _ _ loan (omega arith) in
    let b : get_or v' (3 * n + 1) 0 ≡ y = back_in _ _ _ _ loan 1 (omega arith) in
    let m : get_or v' (3 * n + 2) 0 ≡ z = back_in _ _ _ _ loan 2 (omega arith) in
    let old : tab n (print_in v') ≡ tab n (print_in v) =
    tab-ext n (print_in v') (print_in v)
    (λ j l. rw (back_below _ _ _ _ loan (3 * j) (omega arith), back_below _ _ _ _ loan (3 * j + 1) (omega arith), back_below _ _ _ _ loan (3 * j + 2) (omega arith))) in
    tab-snoc n (print_in v') ∙ rw (old, a, b, m)

module _ (h : ℕ) (w : List ℕ) (size : length w ≡ 7 * h + 64) where
  -- another count of prints
  pub set-prints-conn : (n : ℕ) → conn_of h (set w 9 n) ≡ with_held (prints_in n (print_words h w)) (conn_of h w)
  unfolding conn_of
  set-prints-conn n =
      let v = set w 9 n in
      let l : length v ≡ length w = length-set w 9 n in
      let a : get_or v 0 0 ≡ get_or w 0 0 = get_or-set_other w 9 0 n 0 (omega arith) in
      let b : part 1 9 v ≡ part 1 9 w = part_ext 1 9 v w l (omega arith) (λ i p q. get_or-set_other w 9 i n 0 (omega arith)) in
      let c : item_words h v ≡ item_words h w = part_ext 32 (4 * h + 64) v w l (omega arith) (λ i p q. get_or-set_other w 9 i n 0 (omega arith)) in
      let d : print_count v ≡ n = get_or-set_same w 9 n 0 (omega arith) in
      let e : print_words h v ≡ print_words h w = part_ext (4 * h + 64) (7 * h + 64) v w l (omega arith) (λ i p q. get_or-set_other w 9 i n 0 (omega arith)) in
      let f : line_limit v ≡ line_limit w = get_or-set_other w 9 10 n 0 (omega arith) in
      λ i. record { conn = a i; limit = f i; line = line_of (line_in (b i)) (c i); held = prints_in (d i) (e i) }

  -- the words of the prints come back as ys
  pub prints-back-conn : (ys : List ℕ) → length ys ≡ 3 * h → (n : ℕ)
      → conn_of h (set (back (4 * h + 64) (7 * h + 64) ys w) 9 n) ≡ with_held (prints_in n ys) (conn_of h w)
  unfolding conn_of
  prints-back-conn ys k n =
      let s = 4 * h + 64 in
      let e = 7 * h + 64 in
      let loan : Loan s e ys w = record { kept = omega arith; start = omega arith; inside = omega arith } in
      let u = back s e ys w in
      let v = set u 9 n in
      let lu : length u ≡ length w = length_back s e ys w loan in
      let lv : length v ≡ length w = length-set u 9 n ∙ lu in
      let at : (i : ℕ) → (i ≡ 9 → ⊥) → i < s → get_or v i 0 ≡ get_or w i 0 = λ i p q. get_or-set_other u 9 i n 0 p ∙ back_below s e ys w loan i q in
      let a : get_or v 0 0 ≡ get_or w 0 0 = at 0 (λ p. omega arith) (omega arith) in
      let b : part 1 9 v ≡ part 1 9 w = part_ext 1 9 v w lv (omega arith) (λ i p q. at i (λ r. omega arith) (omega arith)) in
      let c : item_words h v ≡ item_words h w = part_ext 32 s v w lv (omega arith) (λ i p q. at i (λ r. omega arith) (omega arith)) in
      let d : print_count v ≡ n = get_or-set_same u 9 n 0 (omega arith) in
      let p : print_words h v ≡ ys = part_ext s e v u (lv ∙ sym lu) (omega arith) (λ i x y. get_or-set_other u 9 i n 0 (omega arith)) ∙ part_same s e ys w loan in
      let f : line_limit v ≡ line_limit w = at 10 (λ p. omega arith) (omega arith) in
      λ i. record { conn = a i; limit = f i; line = line_of (line_in (b i)) (c i); held = prints_in (d i) (p i) }

  -- an item more: the items' words come back as ys, and the line as l
  pub item-back-conn : (ys : List ℕ) → length ys ≡ 4 * h + 32 → (l : Line)
      → conn_of h (back 1 9 (line_words l) (back 32 (4 * h + 64) ys w)) ≡ with_line (line_of l ys) (conn_of h w)
  unfolding conn_of
  item-back-conn ys k l =
      let e = 4 * h + 64 in
      let loan : Loan 32 e ys w = record { kept = omega arith; start = omega arith; inside = omega arith } in
      let u = back 32 e ys w in
      let lu : length u ≡ 7 * h + 64 = length_back 32 e ys w loan ∙ size in
      let a : get_or u 0 0 ≡ get_or w 0 0 = back_below 32 e ys w loan 0 (omega arith) in
      let i : item_words h u ≡ ys = part_same 32 e ys w loan in
      let d : print_count u ≡ print_count w = back_below 32 e ys w loan 9 (omega arith) in
      let p : print_words h u ≡ print_words h w = part-after 32 e ys w loan e (7 * h + 64) (omega arith) (omega arith) in
      let f : line_limit u ≡ line_limit w = back_below 32 e ys w loan 10 (omega arith) in
      set-line-conn h u l lu ∙ (λ j. record { conn = a j; limit = f j; line = line_of l (i j); held = prints_in (d j) (p j) })

-- ---- an area written anew: the connection, its limit, a line that is Waiting, empty, and no print

pub named-size : (v : List ℕ) (conn limit : ℕ) → length (set (set v 0 conn) 10 limit) ≡ length v
named-size v conn limit = length-set (set v 0 conn) 10 limit ∙ length-set v 0 conn

module _ (v : List ℕ) (conn limit t : ℕ) (l : Line) (long : 32 ≤ length v) (e : (u : List ℕ) → line_of l u ≡ Rules.Waiting [] t) where
  u : List ℕ
  u = set (set v 0 conn) 10 limit

  line-loan : Loan 1 9 (line_words l) u
  unfolding u
  line-loan = record { kept = words_of l; start = omega arith; inside = omega (arith, named-size v conn limit) }

  ys : List ℕ
  ys = back 1 9 (line_words l) u

  size : length ys ≡ length v
  unfolding u ys
  size = length_back 1 9 (line_words l) u line-loan ∙ named-size v conn limit

  pub waiting-done : (x z : List ℕ) → x ≡ back 1 9 (line_words l) (set (set v 0 conn) 10 limit) → z ≡ set x 9 0 → (h : ℕ) → conn_of h z ≡ waiting conn limit t
  unfolding conn_of prints_in u ys
  waiting-done x z p q h =
      let w = set ys 9 0 in
      let s : z ≡ w = q ∙ ap (λ (y : List ℕ). set y 9 0) p in
      let other : (j : ℕ) → (j ≡ 9 → ⊥) → get_or w j 0 ≡ get_or ys j 0 = λ j n. get_or-set_other ys 9 j 0 0 n in
      let a : get_or w 0 0 ≡ conn = other 0 (λ n. omega arith) ∙ back_below 1 9 (line_words l) u line-loan 0 (omega arith)
      ∙ get_or-set_other (set v 0 conn) 10 0 limit 0 (omega arith) ∙ get_or-set_same v 0 conn 0 (omega arith) in
      let b : part 1 9 w ≡ line_words l =
      part_ext 1 9 w ys (length-set ys 9 0) (omega (arith, size)) (λ j m n. other j (λ k. omega arith)) ∙ part_same 1 9 (line_words l) u line-loan in
      let c : line_of (head_line w) (item_words h w) ≡ Rules.Waiting [] t = ap (λ (y : Line). line_of y (item_words h w)) (ap line_in b ∙ line-back l) ∙ e (item_words h w) in
      let d : print_count w ≡ 0 = get_or-set_same ys 9 0 0 (omega (arith, size)) in
      let f : line_limit w ≡ limit = other 10 (λ n. omega arith) ∙ back_above 1 9 (line_words l) u line-loan 10 (omega arith)
      ∙ get_or-set_same (set v 0 conn) 10 limit 0 (omega (arith, length-set v 0 conn)) in
      ap (conn_of h) s ∙ (λ j. record { conn = a j; limit = f j; line = c j; held = prints_in (d j) (print_words h w) })

pub hold-item-ready : (h : ℕ) (w : List ℕ) → length w ≡ 7 * h + 64 → (l : Line) → l ≡ head_line w → held_of (head_line w) < h + 8 → (held : ℕ) → held ≡ held_of l
    → (item : Item) → kind_of item < 2 ^ 64 → Room (part 32 (4 * h + 64) w) held item
hold-item-ready h w size l e room held k item fits =
    let a : held ≡ held_of (head_line w) = k ∙ ap held_of e in
    let b : length (part 32 (4 * h + 64) w) ≡ 4 * h + 64 - 32 = part_length 32 (4 * h + 64) w (omega arith) in
    record { inside = omega arith; kind = fits }

-- an item was put behind the others, and the line counts it
pub hold-item-done : (h : ℕ) (w : List ℕ) → length w ≡ 7 * h + 64 → (l l' : Line) → l ≡ head_line w → (held : ℕ) → held ≡ held_of l → (item : Item) (ys : List ℕ)
    → length ys ≡ 4 * h + 32 → items_in (held + 1) ys ≡ items_in held (item_words h w) ++ (item ∷ [])
    → ((u : List ℕ) (x : Item) → Stands l' (holding x (line_of l u)))
    → (z : List ℕ) → z ≡ back 1 9 (line_words l') (back 32 (4 * h + 64) ys w)
    → conn_of h z ≡ with_line (holding item (conn_of h w).line) (conn_of h w)
unfolding conn_of
hold-item-done h w size l l' e held k item ys n put more z q =
    let m : line_of l' ys ≡ holding item (line_of l (item_words h w)) = more-reads l l' item (item_words h w) ys (more (item_words h w) item) (rw k at put) in
    ap (conn_of h) q ∙ item-back-conn h w size ys n l' ∙ ap (λ (x : Rules.Line). with_line x (conn_of h w)) (m ∙ ap (λ (x : Line). holding item (line_of x (item_words h w))) e)

-- a print was put behind the others, and the area counts it
pub hold-print-done : (h : ℕ) (w : List ℕ) → length w ≡ 7 * h + 64 → (k : Key) (msg : ℕ) (ys : List ℕ) → length ys ≡ 3 * h
    → prints_in (print_count w + 1) ys ≡ prints_in (print_count w) (print_words h w) ++ ((k, msg) ∷ [])
    → (z : List ℕ) → z ≡ set (back (4 * h + 64) (7 * h + 64) ys w) 9 (print_count w + 1)
    → conn_of h z ≡ with_held ((conn_of h w).held ++ ((k, msg) ∷ [])) (conn_of h w)
unfolding conn_of
hold-print-done h w size k msg ys n put z q =
    ap (conn_of h) q ∙ prints-back-conn h w size ys n (print_count w + 1) ∙ ap (λ (ps : List (Key × ℕ)). with_held ps (conn_of h w)) put

pub drop-prints-done : (h : ℕ) (w : List ℕ) → length w ≡ 7 * h + 64 → (z : List ℕ) → z ≡ set w 9 0 → conn_of h z ≡ with_held [] (conn_of h w)
unfolding prints_in
drop-prints-done h w size z q = ap (conn_of h) q ∙ set-prints-conn h w size 0

-- the i-th held print, from the prints' words
pub print-at-done : (h : ℕ) (w : List ℕ) (i : ℕ) → i < print_count w → (x : Key × ℕ) → x ≡ print_in (print_words h w) i → x ≡ get_or (conn_of h w).held i no_print
unfolding conn_of prints_in
print-at-done h w i lt x e = e ∙ sym (get_d-tab (print_count w) (print_in (print_words h w)) i no_print lt)

-- ---- known kinds

-- of a line that has not failed
pub kind-known : (h : ℕ) (v : List ℕ) → Rules.is_failed (conn_of h v).line ≡ false → get_or v 1 0 ≤ 3
unfolding conn_of line_in
kind-known h v e = let q : get_or (part 1 9 v) 0 0 ≡ get_or v 1 0 = get_d_part 1 9 v 0 (omega arith) in rw (← q) (go (get_or (part 1 9 v) 0 0) _ _ _ _ e)
  where
    go : (k : ℕ) (x y z : Line) (is : List ℕ) → Rules.is_failed (line_of (by_kind k x y z) is) ≡ false → k ≤ 3
    go zero x y z is e = omega arith
    go (suc zero) x y z is e = omega arith
    go (suc (suc zero)) x y z is e = omega arith
    go (suc (suc (suc k))) x y z is e = absurd (ff≢tt e refl)

-- of a line that is written
pub kind-written : (l : Line) → get_or (line_words l) 0 0 ≤ 3
unfolding line_words
kind-written (Line.Waiting n since) = omega arith
kind-written (Line.Pending n at since) = omega arith
kind-written (Line.InLine n a b) = omega arith
kind-written Line.Failed = omega arith
