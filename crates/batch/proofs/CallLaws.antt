-- The words of a call, and what it leaves in lists that it does not take.
use Rattle.std.specs.Prelude.{Option, None, Some, Result, Ok, Err}
use mathlib.Core.Path.{◌≡◌, refl, sym, ap, ◌∙◌, subst}
use mathlib.Core.List.{List, [], ◌∷◌}
use mathlib.Core.Logic.{◌≢◌}
use mathlib.Core.Bool.{Bool, cond}
use Prim.Native.Nat.{ℕ, ◌+◌, ◌≤◌, ◌<◌}
use native.Mathlib.Omega.{arith}
use lib.ListN.{length, get_or}
use lib.Dec.{eqb}
use borrow.Author.Tests.{lt-ltb, ne_eqb}
use Rattle.rules.specs.declared.Applied.{Applied}
use Rattle.rules.specs.declared.Expired.{Expired}
use Rattle.rules.specs.declared.Lost.{Lost}
use Rattle.rules.specs.declared.Step.{Step}
use Rattle.rules.specs.declared.refusal.Refusal.{Refusal}
use Rattle.rules.specs.Lists.{maybe}
use Rattle.rules.specs.Quantities.{key}
use Rattle.rules.specs.Lines.{Market}
use Rattle.rules.specs.Calls.{Outcome, refused, did}
use Rattle.rules.specs.Refusals.{Call, Subscribe, Snapshot, BookEvent, Print, Drop, Promote, Reset, Tick}
use Rattle.rules.specs.Answers.{Said, number, word, of_step, of_lost, of_changed}
use Rattle.rules.proofs.Tests.{eqb-false, by_cond}
use Rattle.store.specs.Store.{market_of, line_count}
use Rattle.store.proofs.MarketLaws.{lines-count}
use Rattle.output.specs.Output.{records_words, reports_words, over}
use Rattle.market.specs.Lent.{Lent, lent, alone, Answers}
use Rattle.market_tick.specs.Turns.{lent_all}
use Rattle.steps.specs.Steps.{Steps, records, report_room}
use Rattle.codes.specs.declared.Told.{Told}
use Rattle.codes.specs.Told.{Tells}
use Rattle.batch.specs.declared.Stop.TheVariants as Stop
use Rattle.batch.specs.Batch.{bits, call_in, Ran, Room, call_next, why}
use Rattle.batch.specs.Turn.{outcome, Calls, Does, Reasons}

-- ---- the call of a number

module _ (w : List ℕ) (m : Market) (room reports : ℕ) where
  call-1 : get_or w 0 0 ≡ 1 → call_in w m room reports ≡ Some (Subscribe (get_or w 1 0) (get_or w 2 0) (get_or w 6 0))
  unfolding call_in
  call-1 e = rw e refl

  call-2 : get_or w 0 0 ≡ 2 → call_in w m room reports ≡ Some (Snapshot (get_or w 1 0) (get_or w 2 0) (get_or w 5 0) (get_or w 6 0) room)
  unfolding call_in
  call-2 e = rw e refl

  call-3 : get_or w 0 0 ≡ 3 → call_in w m room reports ≡ Some (BookEvent (get_or w 1 0) (key (get_or w 3 0) (get_or w 4 0)) (get_or w 5 0) (get_or w 6 0) room)
  unfolding call_in
  call-3 e = rw e refl

  call-4 : get_or w 0 0 ≡ 4 → call_in w m room reports ≡ Some (Print (get_or w 1 0) (key (get_or w 3 0) (get_or w 4 0)) (get_or w 5 0) (get_or w 6 0) room)
  unfolding call_in
  call-4 e = rw e refl

  call-5 : get_or w 0 0 ≡ 5 → call_in w m room reports ≡ Some (Drop (get_or w 1 0) (get_or w 6 0) room)
  unfolding call_in
  call-5 e = rw e refl

  call-6 : get_or w 0 0 ≡ 6 → call_in w m room reports ≡ Some (Promote (get_or w 6 0) room)
  unfolding call_in
  call-6 e = rw e refl

  call-7 : get_or w 0 0 ≡ 7 → call_in w m room reports ≡ Some (Reset (get_or w 6 0))
  unfolding call_in
  call-7 e = rw e refl

  call-8 : get_or w 0 0 ≡ 8 → call_in w m room reports ≡ Some (Tick (bits (length m.lines) (get_or w 7 0)) (get_or w 6 0) room reports)
  unfolding call_in
  call-8 e = rw e refl

  pub call-0 : get_or w 0 0 ≡ 0 → call_in w m room reports ≡ None
  unfolding call_in
  call-0 e = rw e refl

  pub call-9 : 9 ≤ get_or w 0 0 → call_in w m room reports ≡ None
  unfolding call_in
  call-9 h =
      let n = get_or w 0 0 in
      rw (ne_eqb n 1 (λ e. omega arith), ne_eqb n 2 (λ e. omega arith), ne_eqb n 3 (λ e. omega arith), ne_eqb n 4 (λ e. omega arith), ne_eqb n 5 (λ e. omega arith), ne_eqb n 6 (λ e. omega arith), ne_eqb n 7 (λ e. omega arith), ne_eqb n 8 (λ e. omega arith)) refl

  -- a call is one of eight
  call-some : {B : Type 0} (b y : B) → 1 ≤ get_or w 0 0 → get_or w 0 0 ≤ 8 → maybe b (λ x. y) (call_in w m room reports) ≡ y
  unfolding call_in
  call-some b y h l =
      at 1 _ _ h (λ h₂. at 2 _ _ h₂ (λ h₃. at 3 _ _ h₃ (λ h₄. at 4 _ _ h₄ (λ h₅. at 5 _ _ h₅ (λ h₆. at 6 _ _ h₆ (λ h₇. at 7 _ _ h₇ (λ h₈. at 8 _ _ h₈ (λ h₉. absurd (omega arith)))))))))
    where
      at : (i : ℕ) (x : Call) (o : Option Call) → i ≤ get_or w 0 0 → (i + 1 ≤ get_or w 0 0 → maybe b (λ z. y) o ≡ y) → maybe b (λ z. y) (cond (eqb (get_or w 0 0) i) (Some x) o) ≡ y
      at i x o p f = by_cond (λ (o : Option Call). maybe b (λ z. y) o ≡ y) (eqb (get_or w 0 0) i) (λ e. refl) (λ e. let q : get_or w 0 0 ≢ i = eqb-false e in f (omega arith))

-- ---- why a call is not done

why-here : (r : Room) (w : List ℕ) (k : Ran) → length k.answers < r.answers → why r w k ≡ maybe Stop.NoCall (λ x. Stop.NoRoom) (call_next r w k)
unfolding why
why-here r w k l = ap (λ (t : Bool). cond t (maybe Stop.NoCall (λ x. Stop.NoRoom) (call_next r w k)) Stop.NoAnswers) (lt-ltb (length k.answers) r.answers l)

pub reason-0 : (n : ℕ) → n ≡ 0 → Reasons n Stop.NoCall
reason-0 n h r w k e l = why-here r w k l ∙ ap (maybe Stop.NoCall (λ x. Stop.NoRoom)) (call-0 w _ _ _ (e ∙ h))

pub reason-9 : (n : ℕ) → 9 ≤ n → Reasons n Stop.NoCall
reason-9 n h r w k e l = why-here r w k l ∙ ap (maybe Stop.NoCall (λ x. Stop.NoRoom)) (call-9 w _ _ _ (omega arith))

pub reason-call : (n : ℕ) → 1 ≤ n → n ≤ 8 → Reasons n Stop.NoRoom
reason-call n h m r w k e l = why-here r w k l ∙ call-some w _ _ _ Stop.NoCall Stop.NoRoom (omega arith) (omega arith)

-- ---- lists that a call does not take

abbrev reports_of : Said → ℕ
reports_of (number n) = 0
reports_of (word a n m) = m

abbrev records_of : Said → ℕ
records_of (number n) = 0
records_of (word a n m) = n

step-reports : (r : Result Step Refusal) → reports_of (of_step r) ≡ 0
step-reports (Ok (Step.Apply n)) = refl
step-reports (Ok Step.Duplicate) = refl
step-reports (Ok Step.Held) = refl
step-reports (Ok Step.Ignored) = refl
step-reports (Ok Step.Diverged) = refl
step-reports (Ok Step.Failed) = refl
step-reports (Err e) = refl

lost-reports : (r : Result Lost Refusal) → reports_of (of_lost r) ≡ 0
lost-reports (Ok Lost.Kept) = refl
lost-reports (Ok Lost.Gone) = refl
lost-reports (Ok (Lost.Rebuild n)) = refl
lost-reports (Err e) = refl

changed-none : (r : Result Unit Refusal) → (records_of (of_changed r) ≡ 0) × (reports_of (of_changed r) ≡ 0)
changed-none (Ok u) = (refl, refl)
changed-none (Err e) = (refl, refl)

none-long : {A : Type 0} (xs : List A) → length xs ≡ 0 → xs ≡ []
none-long [] e = refl
none-long (x ∷ xs) e = absurd (omega arith)

no-reports : (rs : List Expired) (q : List ℕ) → length rs ≡ 0 → q ≡ over (reports_words rs) q
unfolding reports_words
no-reports rs q e = rw (none-long rs e) refl

no-records : (xs : List Applied) (v : List ℕ) → length xs ≡ 0 → v ≡ over (records_words xs) v
unfolding records_words
no-records xs v e = rw (none-long xs e) refl

-- the reports stay
with-reports : (o : Outcome) (a : Said) (w v w₁ v₁ : List ℕ) → Answers o (lent w v) a (lent w₁ v₁) → reports_of a ≡ 0 → (q : List ℕ) → Answers o (lent_all w v q) a (lent_all w₁ v₁ q)
with-reports (refused n) a w v w₁ v₁ r e q = record { said = r.said; left = ap (λ (l : Lent). lent_all l.store l.out q) r.left }
with-reports (did x rs k) a w v w₁ v₁ r e q =
    let l = r.left in
    record {
      said = r.said;
      left = record { market = l.market; sound = l.sound; size = l.size; out = l.out; reports = no-reports rs q (sym (ap reports_of r.said) ∙ e) };
    }

-- the records and the reports stay
with-lists : (o : Outcome) (a : Said) (w w₁ : List ℕ) → Answers o (alone w) a (alone w₁) → (records_of a ≡ 0) × (reports_of a ≡ 0) → (v q : List ℕ) → Answers o (lent_all w v q) a (lent_all w₁ v q)
with-lists (refused n) a w w₁ r e v q = record { said = r.said; left = ap (λ (l : Lent). lent_all l.store v q) r.left }
with-lists (did x rs k) a w w₁ r e v q =
    let l = r.left in
    record {
      said = r.said;
      left = record {
        market = l.market;
        sound = l.sound;
        size = l.size;
        out = no-records k.out v (sym (ap records_of r.said) ∙ e.0);
        reports = no-reports rs q (sym (ap reports_of r.said) ∙ e.1);
      };
    }

-- ---- from a call on a sound store to the words' call

by : (w : List ℕ) (x : Call) (l : Lent) (a : Said) (l₁ : Lent) → call_in w (market_of l.store) (records l.out) (report_room l.reports) ≡ Some x → Steps x l a l₁ → Calls w l a l₁
by w x l a l₁ e r = subst (λ (y : Option Call). Answers (outcome y (market_of l.store)) l a l₁) (sym e) r

module _ (w s v s₁ v₁ : List ℕ) (r : Result Step Refusal) (q : List ℕ) where
  by-step : (x : Call) → call_in w (market_of s) (records v) (report_room q) ≡ Some x → Steps x (lent s v) (of_step r) (lent s₁ v₁) → Calls w (lent_all s v q) (of_step r) (lent_all s₁ v₁ q)
  by-step x e d = by w x (lent_all s v q) (of_step r) (lent_all s₁ v₁ q) e (with-reports _ (of_step r) s v s₁ v₁ d (step-reports r) q)

  pub snapshots : get_or w 0 0 ≡ 2 → Steps (Snapshot (get_or w 1 0) (get_or w 2 0) (get_or w 5 0) (get_or w 6 0) (records v)) (lent s v) (of_step r) (lent s₁ v₁) → Calls w (lent_all s v q) (of_step r) (lent_all s₁ v₁ q)
  snapshots e d = by-step _ (call-2 w (market_of s) (records v) (report_room q) e) d

  pub events : get_or w 0 0 ≡ 3 → Steps (BookEvent (get_or w 1 0) (key (get_or w 3 0) (get_or w 4 0)) (get_or w 5 0) (get_or w 6 0) (records v)) (lent s v) (of_step r) (lent s₁ v₁) → Calls w (lent_all s v q) (of_step r) (lent_all s₁ v₁ q)
  events e d = by-step _ (call-3 w (market_of s) (records v) (report_room q) e) d

  pub prints : get_or w 0 0 ≡ 4 → Steps (Print (get_or w 1 0) (key (get_or w 3 0) (get_or w 4 0)) (get_or w 5 0) (get_or w 6 0) (records v)) (lent s v) (of_step r) (lent s₁ v₁) → Calls w (lent_all s v q) (of_step r) (lent_all s₁ v₁ q)
  prints e d = by-step _ (call-4 w (market_of s) (records v) (report_room q) e) d

module _ (w s v s₁ v₁ : List ℕ) (r : Result Lost Refusal) (q : List ℕ) where
  by-lost : (x : Call) → call_in w (market_of s) (records v) (report_room q) ≡ Some x → Steps x (lent s v) (of_lost r) (lent s₁ v₁) → Calls w (lent_all s v q) (of_lost r) (lent_all s₁ v₁ q)
  by-lost x e d = by w x (lent_all s v q) (of_lost r) (lent_all s₁ v₁ q) e (with-reports _ (of_lost r) s v s₁ v₁ d (lost-reports r) q)

  pub drops : get_or w 0 0 ≡ 5 → Steps (Drop (get_or w 1 0) (get_or w 6 0) (records v)) (lent s v) (of_lost r) (lent s₁ v₁) → Calls w (lent_all s v q) (of_lost r) (lent_all s₁ v₁ q)
  drops e d = by-lost _ (call-5 w (market_of s) (records v) (report_room q) e) d

  pub promotes : get_or w 0 0 ≡ 6 → Steps (Promote (get_or w 6 0) (records v)) (lent s v) (of_lost r) (lent s₁ v₁) → Calls w (lent_all s v q) (of_lost r) (lent_all s₁ v₁ q)
  promotes e d = by-lost _ (call-6 w (market_of s) (records v) (report_room q) e) d

module _ (w s s₁ : List ℕ) (r : Result Unit Refusal) (v q : List ℕ) where
  by-changed : (x : Call) → call_in w (market_of s) (records v) (report_room q) ≡ Some x → Steps x (alone s) (of_changed r) (alone s₁) → Calls w (lent_all s v q) (of_changed r) (lent_all s₁ v q)
  by-changed x e d = by w x (lent_all s v q) (of_changed r) (lent_all s₁ v q) e (with-lists _ (of_changed r) s s₁ d (changed-none r) v q)

  pub subscribes : get_or w 0 0 ≡ 1 → Steps (Subscribe (get_or w 1 0) (get_or w 2 0) (get_or w 6 0)) (alone s) (of_changed r) (alone s₁) → Calls w (lent_all s v q) (of_changed r) (lent_all s₁ v q)
  subscribes e d = by-changed _ (call-1 w (market_of s) (records v) (report_room q) e) d

  pub resets : get_or w 0 0 ≡ 7 → Steps (Reset (get_or w 6 0)) (alone s) (of_changed r) (alone s₁) → Calls w (lent_all s v q) (of_changed r) (lent_all s₁ v q)
  resets e d = by-changed _ (call-7 w (market_of s) (records v) (report_room q) e) d

-- the view answers are as many digits as there are lines
pub ticks : (w : List ℕ) (l : Lent) (a : Said) (l₁ : Lent) (views : List ℕ) (n : ℕ) → n ≡ line_count l.store → get_or w 0 0 ≡ 8 → views ≡ bits n (get_or w 7 0)
    → Steps (Tick views (get_or w 6 0) (records l.out) (report_room l.reports)) l a l₁ → Calls w l a l₁
ticks w l a l₁ views n k e b d =
    let m = market_of l.store in
    let c : bits (length m.lines) (get_or w 7 0) ≡ views = ap (λ (j : ℕ). bits j (get_or w 7 0)) (lines-count l.store ∙ sym k) ∙ sym b in
    by w (Tick views (get_or w 6 0) (records l.out) (report_room l.reports)) l a l₁
    (call-8 w m (records l.out) (report_room l.reports) e ∙ ap (λ (z : List ℕ). Some (Tick z (get_or w 6 0) (records l.out) (report_room l.reports))) c) d

-- ---- the answer as three numbers

pub told : (w : List ℕ) (l : Lent) (a : Said) (l₁ : Lent) (t : Told) → Calls w l a l₁ → Tells a t.code t.count t.reports → Does w l t l₁
told w l a l₁ t d e = record { left = d.left; tells = subst (λ (y : Said). Tells y t.code t.count t.reports) d.said e }

pub told_none : (w : List ℕ) (l : Lent) (a : Said) (l₁ : Lent) (t : Told) → Calls w l a l₁ → Tells a t.code t.count 0 × (t.reports ≡ 0) → Does w l t l₁
told_none w l a l₁ t d e = told w l a l₁ t d (subst (λ (n : ℕ). Tells a t.code t.count n) (sym e.1) e.0)

pub no_call : (w : List ℕ) (l : Lent) (t : Told) → call_in w (market_of l.store) (records l.out) (report_room l.reports) ≡ None → Tells (number 3) t.code t.count 0 × (t.reports ≡ 0) → Does w l t l
no_call w l t e d = told_none w l (number 3) l t (subst (λ (y : Option Call). Answers (outcome y (market_of l.store)) l (number 3) l) (sym e) (record { said = refl; left = refl })) d
