-- Laws of a line by value: what it stands for, and what its steps leave.
use Rattle.std.specs.Prelude.{Option, None, Some}
use mathlib.Core.Path.{◌≡◌, refl, sym, ap, ◌∙◌}
use mathlib.Core.List.{List, [], ◌∷◌, ◌++◌}
use mathlib.Core.Bool.{Bool, true, false, cond}
use Prim.Native.Nat.{ℕ, zero, suc, ◌+◌, ◌-◌, ◌≤◌, ◌<◌}
use native.Mathlib.Numerals.{add-one}
use native.Mathlib.Omega.{arith}
use lib.Dec.{leb, ltb}
use lib.ListN.{length, get_or, length-append}
use borrow.Author.Tests.{le-leb, lt-leb, lt-ltb, le-ltb}
use Rattle.rules.specs.declared.Item.{Item}
use Rattle.rules.specs.declared.Item.TheVariants as Item
use Rattle.rules.specs.Quantities.{Key, no_key, same, age, align_timeout, max_number}
use Rattle.rules.specs.Lines as Rules
use Rattle.rules.specs.Lines.{items_of}
use Rattle.rules.specs.Calls.{apply, held, ignored, failed}
use Rattle.rules.specs.Answers.{number, word}
use Rattle.words.specs.Words.{tab}
use Rattle.words.proofs.Tab.{length-tab, get_d-tab}
use Rattle.place.specs.Items.{items_in}
use Rattle.place.proofs.Items.{items-length, items-none}
use Rattle.lines.specs.declared.Line.{Line}
use Rattle.lines.specs.declared.Line.TheVariants as Line
use Rattle.lines.specs.declared.Aging.{Aging}
use Rattle.lines.specs.declared.Aging.TheVariants as Aging
use Rattle.lines.specs.Line.{line_of, held_of, holding, Stands, copy_step, end_step, event_step, snapshot_step, time_step, Ages}

-- ---- the items that a line counts

pub items-of : (r : Line) (v : List ℕ) → items_of (line_of r v) ≡ items_in (held_of r) v
items-of (Line.Waiting n since) v = refl
items-of (Line.Pending n at since) v = refl
items-of (Line.InLine n a b) v = sym (items-none v)
items-of Line.Failed v = sym (items-none v)

-- n is how many they are, whatever the words
module _ (r : Line) (n : ℕ) (e : (w : List ℕ) → n ≡ length (items_of (line_of r w))) where
  pub held-is : n ≡ held_of r
  held-is = e [] ∙ ap length (items-of r []) ∙ items-length (held_of r) []

  pub items-held : (v : List ℕ) → items_of (line_of r v) ≡ items_in n v
  items-held v = items-of r v ∙ ap (λ (m : ℕ). items_in m v) (sym held-is)

pub one_more : (n : ℕ) (w : List ℕ) (x : Item) → n + 1 ≡ length (items_in n w ++ (x ∷ []))
one_more n w x = let a = length-append (items_in n w) (x ∷ []) in let b = items-length n w in omega arith

-- ---- what a value stands for

pub stands-waiting : (is : List Item) (n since : ℕ) → n ≡ length is → Stands (Line.Waiting n since) (Rules.Waiting is since)
stands-waiting is n since e = record { held = e; reads = λ v q. ap (λ (x : List Item). Rules.Waiting x since) q }

pub stands-pending : (is : List Item) (n : ℕ) (at : Option ℕ) (since : ℕ) → n ≡ length is → Stands (Line.Pending n at since) (Rules.Pending is at since)
stands-pending is n at since e = record { held = e; reads = λ v q. ap (λ (x : List Item). Rules.Pending x at since) q }

pub stands-in-line : (n : ℕ) (a b : Bool) → Stands (Line.InLine n a b) (Rules.InLine n a b)
stands-in-line n a b = record { held = refl; reads = λ v q. refl }

pub stands-next : (n : ℕ) (a b : Bool) → Stands (Line.InLine (n + 1) a b) (Rules.InLine (suc n) a b)
stands-next n a b = record { held = refl; reads = λ v q. ap (λ (m : ℕ). Rules.InLine m a b) (add-one n) }

pub stands-failed : Stands Line.Failed Rules.Failed
stands-failed = record { held = refl; reads = λ v q. refl }

pub stands_self : (r : Line) (w : List ℕ) → Stands r (line_of r w)
stands_self (Line.Waiting n since) w = stands-waiting (items_in n w) n since (sym (items-length n w))
stands_self (Line.Pending n at since) w = stands-pending (items_in n w) n at since (sym (items-length n w))
stands_self (Line.InLine n a b) w = stands-in-line n a b
stands_self Line.Failed w = stands-failed

-- over words that hold its items it is the line
pub stands-over : {r : Line} {l : Rules.Line} → Stands r l → (n : ℕ) (v : List ℕ) → items_in n v ≡ items_of l → line_of r v ≡ l
stands-over s n v q = s.reads v (ap (λ (m : ℕ). items_in m v) (s.held ∙ ap length (sym q) ∙ items-length n v) ∙ q)

pub stands-empty : {r : Line} {l : Rules.Line} → Stands r l → items_of l ≡ [] → (v : List ℕ) → line_of r v ≡ l
stands-empty s e v = stands-over s 0 v (items-none v ∙ sym e)

-- one item more: over words that hold it behind the others it is the line with that item
pub more-reads : (l l' : Line) (item : Item) (u v : List ℕ) → Stands l' (holding item (line_of l u)) → items_in (held_of l + 1) v ≡ items_in (held_of l) u ++ (item ∷ [])
    → line_of l' v ≡ holding item (line_of l u)
more-reads (Line.Waiting n since) l' item u v s q = stands-over s (n + 1) v q
more-reads (Line.Pending n at since) l' item u v s q = stands-over s (n + 1) v q
more-reads (Line.InLine n a b) l' item u v s q = stands-empty s refl v
more-reads Line.Failed l' item u v s q = stands-empty s refl v

-- ---- a book event

-- more items than h, or fewer
pub items-full : (h n : ℕ) (w : List ℕ) → h ≤ n → leb h (length (items_in n w)) ≡ true
items-full h n w l = ap (leb h) (items-length n w) ∙ le-leb h n l

pub items-room : (h n : ℕ) (w : List ℕ) → n < h → leb h (length (items_in n w)) ≡ false
items-room h n w l = ap (leb h) (items-length n w) ∙ lt-leb h n l

-- a line that is neither in line nor out holds n items
abbrev pub Holds : Line → ℕ → Type 0
Holds (Line.Waiting m since) n = m ≡ n
Holds (Line.Pending m at since) n = m ≡ n
Holds (Line.InLine next a b) n = ⊥
Holds Line.Failed n = ⊥

module _ (limit base : ℕ) (ks : List Key) (k : Key) (msg : ℕ) where
  pub event-fails : (r : Line) (n : ℕ) (w : List ℕ) → Holds r n → limit ≤ n → event_step limit base ks k msg (line_of r w) ≡ (Rules.Failed, word failed 0 0)
  event-fails (Line.Waiting m since) n w e l = rw (items-full limit m w (omega arith))
  event-fails (Line.Pending m at since) n w e l = rw (items-full limit m w (omega arith))
  event-fails (Line.InLine next a b) n w e l = absurd e
  event-fails Line.Failed n w e l = absurd e

  pub event-held : (r : Line) (n : ℕ) (w : List ℕ) → Holds r n → n < limit
      → event_step limit base ks k msg (line_of r w) ≡ (holding (Item.Event k msg) (line_of r w), word held 0 0)
  event-held (Line.Waiting m since) n w e l = rw (items-room limit m w (omega arith))
  event-held (Line.Pending m at since) n w e l = rw (items-room limit m w (omega arith))
  event-held (Line.InLine next a b) n w e l = absurd e
  event-held Line.Failed n w e l = absurd e

-- to a line in line: n is its next number, and the log's keys are f 0, f 1, ..
module _ (h base count : ℕ) (f : ℕ → Key) (k : Key) (msg n : ℕ) (a b : Bool) where
  behind : (x : Bool) → ltb n (base + count) ≡ x → ltb n (base + length (tab count f)) ≡ x
  behind x e = ap (λ (c : ℕ). ltb n (base + c)) (length-tab count f) ∙ e

  pub event-behind : n < base → event_step h base (tab count f) k msg (Rules.InLine n a b) ≡ (Rules.Failed, word failed 0 0)
  event-behind l = rw (lt-ltb n base l)

  pub event-in-log : base ≤ n → n - base < count → (there : Key) → there ≡ f (n - base)
      → event_step h base (tab count f) k msg (Rules.InLine n a b) ≡ copy_step (same there k) n a b
  event-in-log l u there e =
      let q : get_or (tab count f) (n - base) no_key ≡ there = get_d-tab count f (n - base) no_key u ∙ sym e in
      rw (le-ltb n base l, behind true (lt-ltb n (base + count) (omega arith)), q)

  pub event-at-end : base ≤ n → count ≤ n - base → event_step h base (tab count f) k msg (Rules.InLine n a b) ≡ end_step n a b
  event-at-end l u = rw (le-ltb n base l, behind false (le-ltb n (base + count) (omega arith)))

pub no_number : (n : ℕ) (a b : Bool) → max_number ≤ n → end_step n a b ≡ (Rules.InLine n a b, number 9)
no_number n a b m = rw (le-leb max_number n m)

pub one_number : (n : ℕ) (a b : Bool) → n < max_number → end_step n a b ≡ (Rules.InLine (suc n) a b, word apply 1 0)
one_number n a b m = rw (lt-leb max_number n m)

-- ---- a snapshot

-- a token that is not 0 is the other one
pub other-due : (h t msg n : ℕ) (a b : Bool) → (t ≡ 0 → ⊥) → b ≡ true → snapshot_step h t msg (Rules.InLine n a b) ≡ (Rules.InLine n a false, word apply 1 0)
other-due h zero msg n a b f e = absurd (f refl)
other-due h (suc t) msg n a b f e = rw e

pub other-not-due : (h t msg n : ℕ) (a b : Bool) → (t ≡ 0 → ⊥) → b ≡ false → snapshot_step h t msg (Rules.InLine n a b) ≡ (Rules.InLine n a b, word ignored 0 0)
other-not-due h zero msg n a b f e = absurd (f refl)
other-not-due h (suc t) msg n a b f e = rw e

-- ---- time

-- an age of a since, below 10,000 or not
pub young : (now since a : ℕ) → a ≡ age now since → a < align_timeout → leb align_timeout (age now since) ≡ false
young now since a e l = ap (leb align_timeout) (sym e) ∙ lt-leb align_timeout a l

pub aged-out : (now since a : ℕ) → a ≡ age now since → align_timeout ≤ a → leb align_timeout (age now since) ≡ true
aged-out now since a e l = ap (leb align_timeout) (sym e) ∙ le-leb align_timeout a l

-- the line that time leaves, by what it makes of it
abbrev pub left : Aging → Rules.Line → Rules.Line
left Aging.Stays l = l
left Aging.Fails l = Rules.Failed
left Aging.Rebuilds l = l

abbrev pub left_value : Aging → Line → Line
left_value Aging.Stays r = r
left_value Aging.Fails r = Line.Failed
left_value Aging.Rebuilds r = r

stands-left : (x : Aging) (r : Line) (w : List ℕ) → Stands (left_value x r) (left x (line_of r w))
stands-left Aging.Stays r w = stands_self r w
stands-left Aging.Fails r w = stands-failed
stands-left Aging.Rebuilds r w = stands_self r w

abbrev pub Leaves : Rules.Line → Rules.Line × Aging → Type 0
Leaves l x = x.0 ≡ left x.1 l

either : (l : Rules.Line) (b : Bool) (x y : Rules.Line × Aging) → Leaves l x → Leaves l y → Leaves l (cond b x y)
either l true x y p q = p
either l false x y p q = q

pub time-left : (base now : ℕ) (l : Rules.Line) → Leaves l (time_step base now l)
time-left base now (Rules.Waiting is since) =
    let l = Rules.Waiting is since in either l (leb align_timeout (age now since)) (Rules.Failed, Aging.Fails) (l, Aging.Stays) refl refl
time-left base now (Rules.Pending is None since) =
    let l = Rules.Pending is None since in either l (leb align_timeout (age now since)) (Rules.Failed, Aging.Fails) (l, Aging.Stays) refl refl
time-left base now (Rules.Pending is (Some t) since) =
    let l = Rules.Pending is (Some t) since in either l (leb align_timeout (age now since)) (l, Aging.Rebuilds) (l, Aging.Stays) refl refl
time-left base now (Rules.InLine n a b) = let l = Rules.InLine n a b in either l (ltb n base) (Rules.Failed, Aging.Fails) (l, Aging.Stays) refl refl
time-left base now Rules.Failed = refl

pub time-ages : (base now : ℕ) (r : Line) (w : List ℕ) (x : Aging) → x ≡ (time_step base now (line_of r w)).1 → (y : Line) → y ≡ left_value x r
    → Ages (record { line = y; aging = x }) (time_step base now (line_of r w))
time-ages base now r w x e y q =
    record { line = rw (q, time-left base now (line_of r w), ← e) (stands-left x r w); aging = e }
