-- Laws of an area that is copied: the words that say something, and what they say elsewhere.
use mathlib.Core.Path.{◌≡◌, refl, sym, ap, ◌∙◌}
use mathlib.Core.Logic.{inl, inr, ⊎_elim}
use mathlib.Core.List.{List}
use Prim.Native.Nat.{min, ℕ, ◌+◌, ◌-◌, ◌*◌, ◌≤◌, ◌<◌}
use native.Mathlib.Omega.{arith}
use lib.ListN.{length, get_or, get_or-eq_default}
use Rattle.rules.specs.declared.Item.{Item}
use Rattle.rules.specs.Lines as Rules
use Rattle.words.specs.Words.{part, Apart, Copied}
use Rattle.words.proofs.Cases.{below_or}
use Rattle.words.proofs.Parts.{part_length, get_d_part, part_ext}
use Rattle.words.proofs.Tab.{tab-ext}
use Rattle.place.proofs.Items.{items-ext}
use Rattle.lines.specs.declared.Line.{Line}
use Rattle.lines.specs.declared.Line.TheVariants as Line
use Rattle.lines.specs.Line.{line_of, held_of}
use Rattle.lines.specs.Area.{line_in, print_in, prints_in, item_words, print_words, head_line, print_count, line_limit, conn_of, area_at, TwoAreas, Enough, AreaCopied}

-- as many words as the items are
pub items-enough : (h held : ℕ) (w : List ℕ) (l : Line) → l ≡ head_line w → held ≡ held_of l → (r : ℕ) → r ≡ 4 * min held (h + 8)
    → Enough (4 * held_of (head_line w)) (4 * h + 32) r
items-enough h held w l e k r a =
    let q : held ≡ held_of (head_line w) = k ∙ ap held_of e in
    record { inside = omega arith; all = λ j c d. omega arith }

-- ---- the same words say the same

pub prints-ext : (n : ℕ) (u v : List ℕ) → ((j : ℕ) → j < 3 * n → get_or u j 0 ≡ get_or v j 0) → prints_in n u ≡ prints_in n v
unfolding prints_in
prints-ext n u v e =
    tab-ext n (print_in u) (print_in v) (λ i l. rw (e (3 * i) (omega arith), e (3 * i + 1) (omega arith), e (3 * i + 2) (omega arith)))

line-ext : (l : Line) (u v : List ℕ) → ((j : ℕ) → j < 4 * held_of l → get_or u j 0 ≡ get_or v j 0) → line_of l u ≡ line_of l v
line-ext (Line.Waiting n since) u v e = ap (λ (is : List Item). Rules.Waiting is since) (items-ext n u v e)
line-ext (Line.Pending n at since) u v e = ap (λ (is : List Item). Rules.Pending is at since) (items-ext n u v e)
line-ext (Line.InLine next a b) u v e = refl
line-ext Line.Failed u v e = refl

-- the areas x and y are the same at a to e, as far as the first n words of it; past its end nothing stands
part-reads : (a e n : ℕ) (x y : List ℕ) → e ≤ length x → e ≤ length y → ((j : ℕ) → j < n → a + j < e → get_or x (a + j) 0 ≡ get_or y (a + j) 0)
    → (j : ℕ) → j < n → get_or (part a e x) j 0 ≡ get_or (part a e y) j 0
part-reads a e n x y hx hy h j l =
    let p : length (part a e x) ≡ e - a = part_length a e x hx in
    let q : length (part a e y) ≡ e - a = part_length a e y hy in
    ⊎_elim
    (λ b. get_d_part a e x j b ∙ h j l (omega arith) ∙ sym (get_d_part a e y j b))
    (λ b. get_or-eq_default (part a e x) 0 (omega arith) ∙ sym (get_or-eq_default (part a e y) 0 (omega arith)))
    (below_or j (e - a))

-- x and y are areas with the same words where y says something
record Alike (h : ℕ) (x y : List ℕ) : Type 0 where
  pub sizes : (length x ≡ 7 * h + 64) × (length y ≡ 7 * h + 64)
  pub head : (j : ℕ) → j < 11 → get_or x j 0 ≡ get_or y j 0
  pub items : (j : ℕ) → j < 4 * held_of (head_line y) → 32 + j < 4 * h + 64 → get_or x (32 + j) 0 ≡ get_or y (32 + j) 0
  pub prints : (j : ℕ) → j < 3 * print_count y → 4 * h + 64 + j < 7 * h + 64 → get_or x (4 * h + 64 + j) 0 ≡ get_or y (4 * h + 64 + j) 0

alike-conn : (h : ℕ) (x y : List ℕ) → Alike h x y → conn_of h x ≡ conn_of h y
unfolding conn_of
alike-conn h x y s =
    let lx : length x ≡ 7 * h + 64 = s.sizes.0 in
    let ly : length y ≡ 7 * h + 64 = s.sizes.1 in
    let a : get_or x 0 0 ≡ get_or y 0 0 = s.head 0 (omega arith) in
    let b : head_line x ≡ head_line y = ap line_in (part_ext 1 9 x y (lx ∙ sym ly) (omega arith) (λ i p q. s.head i (omega arith))) in
    let c : line_of (head_line x) (item_words h x) ≡ line_of (head_line y) (item_words h y) =
    ap (λ (l : Line). line_of l (item_words h x)) b
    ∙ line-ext (head_line y) (item_words h x) (item_words h y) (part-reads 32 (4 * h + 64) (4 * held_of (head_line y)) x y (omega arith) (omega arith) s.items) in
    let d : print_count x ≡ print_count y = s.head 9 (omega arith) in
    let e : prints_in (print_count x) (print_words h x) ≡ prints_in (print_count y) (print_words h y) =
    ap (λ (n : ℕ). prints_in n (print_words h x)) d
    ∙ prints-ext (print_count y) (print_words h x) (print_words h y)
    (part-reads (4 * h + 64) (7 * h + 64) (3 * print_count y) x y (omega arith) (omega arith) s.prints) in
    let f : line_limit x ≡ line_limit y = s.head 10 (omega arith) in
    λ i. record { conn = a i; limit = f i; line = c i; held = e i }

-- ---- an area copied in three pieces: k words of its head, n of its items, m of its prints

-- a piece of n words from o on can be copied, among as many words as w has
pub piece-ready : (h from to : ℕ) (w : List ℕ) (size : ℕ) → TwoAreas h from to w → size ≡ length w
    → (o n f g : ℕ) → o + n ≤ 7 * h + 64 → f ≡ from + o → g ≡ to + o → (Apart f g n) × ((f + n ≤ size) × (g + n ≤ size))
piece-ready h from to w size t s o n f g l p q =
    (⊎_elim (λ a. inl (omega arith)) (λ a. inr (omega arith)) t.apart, (omega (arith, t.source), omega (arith, t.target)))

module _ (h from to : ℕ) (w w₁ w₂ w₃ : List ℕ) (k n m : ℕ) (t : TwoAreas h from to w)
    (k₀ : 11 ≤ k) (k₁ : k ≤ 32)
    (items : Enough (4 * held_of (head_line (area_at h from w))) (4 * h + 32) n) (prints : Enough (3 * print_count (area_at h from w)) (3 * h) m)
    (c₁ : Copied from to w w₁ k) (c₂ : Copied (from + 32) (to + 32) w₁ w₂ n) (c₃ : Copied (from + (4 * h + 64)) (to + (4 * h + 64)) w₂ w₃ m) where
  -- what is copied into the area at `to` leaves the one at `from`
  stays : (u v : List ℕ) (f g l : ℕ) → to ≤ g → g + l ≤ to + (7 * h + 64) → Copied f g u v l
      → (j : ℕ) → j < 7 * h + 64 → get_or v (from + j) 0 ≡ get_or u (from + j) 0
  stays u v f g l a b c j i = ⊎_elim (λ p. c.below (from + j) (omega arith)) (λ p. c.above (from + j) (omega arith)) t.apart

  copied-head : (j : ℕ) → j < 11 → get_or w₃ (to + j) 0 ≡ get_or w (from + j) 0
  copied-head j l = c₃.below (to + j) (omega arith) ∙ c₂.below (to + j) (omega arith) ∙ c₁.done j (omega arith)

  copied-items : (j : ℕ) → j < n → get_or w₃ (to + (32 + j)) 0 ≡ get_or w (from + (32 + j)) 0
  copied-items j l =
      let i : n ≤ 4 * h + 32 = items.inside in
      let p : to + (32 + j) ≡ to + 32 + j = omega arith in
      let q : from + 32 + j ≡ from + (32 + j) = omega arith in
      c₃.below (to + (32 + j)) (omega arith)
      ∙ ap (λ (x : ℕ). get_or w₂ x 0) p
      ∙ c₂.done j l
      ∙ ap (λ (x : ℕ). get_or w₁ x 0) q
      ∙ stays w w₁ from to k (omega arith) (omega arith) c₁ (32 + j) (omega arith)

  copied-prints : (j : ℕ) → j < m → get_or w₃ (to + (4 * h + 64 + j)) 0 ≡ get_or w (from + (4 * h + 64 + j)) 0
  copied-prints j l =
      let i : n ≤ 4 * h + 32 = items.inside in
      let o : m ≤ 3 * h = prints.inside in
      let p : to + (4 * h + 64 + j) ≡ to + (4 * h + 64) + j = omega arith in
      let q : from + (4 * h + 64) + j ≡ from + (4 * h + 64 + j) = omega arith in
      ap (λ (x : ℕ). get_or w₃ x 0) p
      ∙ c₃.done j l
      ∙ ap (λ (x : ℕ). get_or w₂ x 0) q
      ∙ stays w₁ w₂ (from + 32) (to + 32) n (omega arith) (omega arith) c₂ (4 * h + 64 + j) (omega arith)
      ∙ stays w w₁ from to k (omega arith) (omega arith) c₁ (4 * h + 64 + j) (omega arith)

  copied-size : length w₃ ≡ length w
  copied-size = c₃.size ∙ c₂.size ∙ c₁.size

  -- a word of the area at `to`, by the same word of the one at `from`
  at : (j : ℕ) → j < 7 * h + 64 → get_or w₃ (to + j) 0 ≡ get_or w (from + j) 0 → get_or (area_at h to w₃) j 0 ≡ get_or (area_at h from w) j 0
  at j l e = get_d_part to (to + (7 * h + 64)) w₃ j (omega arith) ∙ e ∙ sym (get_d_part from (from + (7 * h + 64)) w j (omega arith))

  copied-alike : Alike h (area_at h to w₃) (area_at h from w)
  copied-alike =
      let s : length w₃ ≡ length w = copied-size in
      let lx : length (area_at h to w₃) ≡ 7 * h + 64 = part_length to (to + (7 * h + 64)) w₃ (omega (arith, t.target)) ∙ omega arith in
      let ly : length (area_at h from w) ≡ 7 * h + 64 = part_length from (from + (7 * h + 64)) w t.source ∙ omega arith in
      record {
        sizes = (lx, ly);
        head = λ j l. at j (omega arith) (copied-head j l);
        items = λ j l i. at (32 + j) (omega arith) (copied-items j (items.all j l (omega arith)));
        prints = λ j l i. at (4 * h + 64 + j) (omega arith) (copied-prints j (prints.all j l (omega arith)));
      }

  pub copy_done : AreaCopied h from to w w₃
  copy_done =
      let i : n ≤ 4 * h + 32 = items.inside in
      let o : m ≤ 3 * h = prints.inside in
      record {
        size = copied-size;
        conn = alike-conn h (area_at h to w₃) (area_at h from w) copied-alike;
        kind = copied-alike.head 1 (omega arith);
        below = λ j l. c₃.below j (omega arith) ∙ c₂.below j (omega arith) ∙ c₁.below j l;
        above = λ j l. c₃.above j (omega arith) ∙ c₂.above j (omega arith) ∙ c₁.above j (omega arith);
      }
