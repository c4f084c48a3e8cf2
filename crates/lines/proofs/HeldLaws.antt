-- What a step leaves of a line, by the step's answer.
use mathlib.Core.Path.{◌≡◌, refl, ap}
use mathlib.Core.List.{List, [], ◌∷◌, ◌++◌}
use mathlib.Core.Bool.{Bool, true, false, cond}
use Prim.Native.Nat.{ℕ, zero, suc, ◌+◌, ◌-◌, ◌<◌}
use native.Mathlib.Omega.{arith}
use lib.Dec.{leb, ltb}
use lib.ListN.{length, get_or}
use Rattle.rules.specs.declared.Item.{Item}
use Rattle.rules.specs.declared.Item.TheVariants as Item
use Rattle.rules.specs.declared.Limits.{Limits}
use Rattle.rules.specs.Quantities.{Key, no_key, same, max_number}
use Rattle.rules.specs.Lines.{Line, Waiting, Pending, InLine, Failed, items_of, is_failed}
use Rattle.rules.specs.Calls.{apply, duplicate, held, ignored, diverged, failed, due_for, due_ends}
use Rattle.rules.specs.Answers.{Said, number, word}
use Rattle.rules.specs.Sound.{LineSound}
use Rattle.rules.proofs.Tests.{leb-false}
use Rattle.lines.specs.Line.{holding, event_step, snapshot_step}

-- what is made of a step, where its answer is known
pub by_answer : {A : Type 0} (f : Line × Said → A) (x : Line × Said) (s : Said) → x.1 ≡ s → f x ≡ f (x.0, s)
by_answer f x s e = ap (λ (t : Said). f (x.0, t)) e

-- the line l, which had room for an item, holds it
pub record Holds (room : ℕ) (item : Item) (l new : Line) : Type 0 where
  pub line : new ≡ holding item l
  pub was : is_failed l ≡ false
  pub is : is_failed new ≡ false
  pub few : length (items_of l) < room

-- the line l was in line, and goes on by one
pub record Leads (l : Line) (x : Line × Said) : Type 0 where
  pub next : ℕ
  pub due0 : Bool
  pub due1 : Bool
  pub was : l ≡ InLine next due0 due1
  pub is : x ≡ (InLine (suc next) due0 due1, word apply 1 0)

abbrev IfHeld : ℕ → Item → Line → Line × Said → Type 0
IfHeld room item l x = x.1 ≡ word held 0 0 → Holds room item l x.0

abbrev IfLeads : ℕ → Line → Line × Said → Type 0
IfLeads n l x = x.1 ≡ word apply n 0 → Leads l x

-- sound over a log that ends at e, and without items
abbrev IfApplied : Limits → ℕ → ℕ → Line × Said → Type 0
IfApplied lim e n x = x.1 ≡ word apply n 0 → LineSound lim e x.0 × (items_of x.0 ≡ [])

abbrev Empties : Line × Said → Type 0
Empties x = (x.1 ≡ word held 0 0 → ⊥) → items_of x.0 ≡ []

either : (P : Line × Said → Type 0) (b : Bool) (x y : Line × Said) → (b ≡ true → P x) → (b ≡ false → P y) → P (cond b x y)
either P true x y p q = p refl
either P false x y p q = q refl

-- two answers that differ
pub refuted : {X : Type 0} → ◌≡◌ {A = ℕ} 0 1 → X
refuted z = absurd (omega arith)

-- ---- a book event

module _ (h base : ℕ) (ks : List Key) (k : Key) (msg : ℕ) where
  -- the cases of a line that is not in line, whose items are is, and that is new with one more
  out-of-line : (P : Line × Said → Type 0) (is : List Item) (new : Line) → P (Failed, word failed 0 0) → (length is < h → P (new, word held 0 0))
      → P (cond (leb h (length is)) (Failed, word failed 0 0) (new, word held 0 0))
  out-of-line P is new p q = either P (leb h (length is)) (Failed, word failed 0 0) (new, word held 0 0) (λ e. p) (λ e. q (leb-false e))

  -- the cases of a line in line
  in-line : (P : Line × Said → Type 0) (n : ℕ) (a b : Bool) → P (Failed, word failed 0 0) → P (InLine (suc n) a b, word duplicate 0 0)
      → P (InLine n a b, word diverged 0 0)
      → P (InLine n a b, number 9) → P (InLine (suc n) a b, word apply 1 0) → P (event_step h base ks k msg (InLine n a b))
  in-line P n a b p q r s t =
      let copies = either P (same (get_or ks (n - base) no_key) k) (InLine (suc n) a b, word duplicate 0 0) (InLine n a b, word diverged 0 0) (λ e. q) (λ e. r) in
      let ends = either P (leb max_number n) (InLine n a b, number 9) (InLine (suc n) a b, word apply 1 0) (λ e. s) (λ e. t) in
      either P (ltb n base) (Failed, word failed 0 0) _ (λ e. p) (λ e. either P (ltb n (base + length ks)) _ _ (λ e. copies) (λ e. ends))

  pub event-holds : (l : Line) → (event_step h base ks k msg l).1 ≡ word held 0 0 → Holds h (Item.Event k msg) l (event_step h base ks k msg l).0
  event-holds (Waiting is since) =
      let item : Item = Item.Event k msg in
      out-of-line (IfHeld h item (Waiting is since)) is (Waiting (is ++ (item ∷ [])) since)
      (λ q. refuted (cc)) (λ few q. record { line = refl; was = refl; is = refl; few = few })
  event-holds (Pending is at since) =
      let item : Item = Item.Event k msg in
      out-of-line (IfHeld h item (Pending is at since)) is (Pending (is ++ (item ∷ [])) at since)
      (λ q. refuted (cc)) (λ few q. record { line = refl; was = refl; is = refl; few = few })
  event-holds (InLine n a b) =
      in-line (IfHeld h (Item.Event k msg) (InLine n a b)) n a b (λ q. refuted (cc)) (λ q. refuted (cc)) (λ q. refuted (cc)) (λ q. refuted (cc))
      (λ q. refuted (cc))
  event-holds Failed = λ q. refuted (cc)

  pub event-leads : (x : ℕ) (l : Line) → (event_step h base ks k msg l).1 ≡ word apply x 0 → Leads l (event_step h base ks k msg l)
  event-leads x (Waiting is since) =
      out-of-line (IfLeads x (Waiting is since)) is (Waiting (is ++ (Item.Event k msg ∷ [])) since) (λ q. refuted (cc)) (λ few q. refuted (cc))
  event-leads x (Pending is at since) =
      out-of-line (IfLeads x (Pending is at since)) is (Pending (is ++ (Item.Event k msg ∷ [])) at since) (λ q. refuted (cc)) (λ few q. refuted (cc))
  event-leads x (InLine n a b) =
      in-line (IfLeads x (InLine n a b)) n a b (λ q. refuted (cc)) (λ q. refuted (cc)) (λ q. refuted (cc)) (λ q. refuted (cc))
      (λ q. record { next = n; due0 = a; due1 = b; was = refl; is = refl })
  event-leads x Failed = λ q. refuted (cc)

  -- not held: there are no items
  pub event-empties : (l : Line) → ((event_step h base ks k msg l).1 ≡ word held 0 0 → ⊥) → items_of (event_step h base ks k msg l).0 ≡ []
  event-empties (Waiting is since) = out-of-line Empties is (Waiting (is ++ (Item.Event k msg ∷ [])) since) (λ f. refl) (λ few f. absurd (f refl))
  event-empties (Pending is at since) = out-of-line Empties is (Pending (is ++ (Item.Event k msg ∷ [])) at since) (λ f. refl) (λ few f. absurd (f refl))
  event-empties (InLine n a b) = in-line Empties n a b (λ f. refl) (λ f. refl) (λ f. refl) (λ f. refl) (λ f. refl)
  event-empties Failed = λ f. refl

-- ---- a snapshot

module _ (h t msg : ℕ) where
  pub snapshot-holds : (l : Line) → (snapshot_step h t msg l).1 ≡ word held 0 0 → Holds (h + 8) (Item.Snapshot t msg) l (snapshot_step h t msg l).0
  snapshot-holds (Waiting is since) =
      let item : Item = Item.Snapshot t msg in
      either (IfHeld (h + 8) item (Waiting is since)) (leb (h + 8) (length is)) (Waiting is since, number 6) (Waiting (is ++ (item ∷ [])) since, word held 0 0)
      (λ e q. refuted (cc)) (λ e q. record { line = refl; was = refl; is = refl; few = leb-false e })
  snapshot-holds (Pending is at since) = λ q. refuted (cc)
  snapshot-holds (InLine n a b) =
      either (IfHeld (h + 8) (Item.Snapshot t msg) (InLine n a b)) (due_for t a b) (due_ends t n a b, word apply 1 0) (InLine n a b, word ignored 0 0)
      (λ e q. refuted (cc)) (λ e q. refuted (cc))
  snapshot-holds Failed = λ q. refuted (cc)

  pub snapshot-applies : (lim : Limits) (end n : ℕ) (l : Line) → LineSound lim end l → (snapshot_step h t msg l).1 ≡ word apply n 0
      → LineSound lim end (snapshot_step h t msg l).0 × (items_of (snapshot_step h t msg l).0 ≡ [])
  snapshot-applies lim end n (Waiting is since) s =
      either (IfApplied lim end n) (leb (h + 8) (length is)) (Waiting is since, number 6) (Waiting (is ++ (Item.Snapshot t msg ∷ [])) since, word held 0 0)
      (λ e q. refuted (cc)) (λ e q. refuted (cc))
  snapshot-applies lim end n (Pending is at since) s = λ q. refuted (cc)
  snapshot-applies lim end n (InLine x a b) s =
      either (IfApplied lim end n) (due_for t a b) (due_ends t x a b, word apply 1 0) (InLine x a b, word ignored 0 0) (λ e q. ends t) (λ e q. (s, refl))
    where
      ends : (u : ℕ) → LineSound lim end (due_ends u x a b) × (items_of (due_ends u x a b) ≡ [])
      ends zero = (s, refl)
      ends (suc u) = (s, refl)
  snapshot-applies lim end n Failed s = λ q. (tt, refl)
