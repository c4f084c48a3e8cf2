-- The reading of a line by value: its items are the first of its item area. What its steps make of a line.
use Rattle.std.specs.Prelude.{Option, None, Some, ◌≡◌, List, [], ◌∷◌, ◌++◌, Bool, false, not, ◌&&◌, cond, ℕ, suc, ◌+◌, ◌-◌, leb, ltb, length, get_or}
use Rattle.rules.specs.declared.Item.{Item}
use Rattle.rules.specs.declared.Item.TheVariants as Item
use Rattle.rules.specs.Lists.{any}
use Rattle.rules.specs.Quantities.{Key, no_key, same, age, stamped, align_timeout, max_number}
use Rattle.rules.specs.Lines as Rules
use Rattle.rules.specs.Lines.{items_of, snapshot_of}
use Rattle.rules.specs.Calls.{apply, duplicate, held, ignored, diverged, failed, due_for, due_ends}
use Rattle.rules.specs.Answers.{Said, number, word, of_step}
use Rattle.event_log.specs.Answers.{quiet_stamp}
use Rattle.place.specs.Items.{items_in}
use Rattle.lines.specs.declared.Line.{Line}
use Rattle.lines.specs.declared.Line.TheVariants as Line
use Rattle.lines.specs.declared.Stepped.{Stepped}
use Rattle.lines.specs.declared.Aging.{Aging}
use Rattle.lines.specs.declared.Aging.TheVariants as Aging
use Rattle.lines.specs.declared.Aged.{Aged}
use Rattle.lines.specs.declared.Claim.{Claim}

abbrev pub line_of : Line → List ℕ → Rules.Line
line_of (Line.Waiting n since) w = Rules.Waiting (items_in n w) since
line_of (Line.Pending n at since) w = Rules.Pending (items_in n w) at since
line_of (Line.InLine next a b) w = Rules.InLine next a b
line_of Line.Failed w = Rules.Failed

-- how many items the line counts
abbrev pub held_of : Line → ℕ
held_of (Line.Waiting n since) = n
held_of (Line.Pending n at since) = n
held_of (Line.InLine next a b) = 0
held_of Line.Failed = 0

-- the value r stands for the line l: it counts l's items, and over words that hold them it is l
pub record Stands (r : Line) (l : Rules.Line) : Type 0 where
  pub held : held_of r ≡ length (items_of l)
  pub reads : (v : List ℕ) → items_in (held_of r) v ≡ items_of l → line_of r v ≡ l

-- a line with one item more
abbrev pub holding : Item → Rules.Line → Rules.Line
holding item (Rules.Waiting is since) = Rules.Waiting (is ++ (item ∷ [])) since
holding item (Rules.Pending is at since) = Rules.Pending (is ++ (item ∷ [])) at since
holding item (Rules.InLine n a b) = Rules.InLine n a b
holding item Rules.Failed = Rules.Failed

-- a Waiting line whose snapshot is complete
abbrev pub complete : ℕ → Rules.Line → Rules.Line
complete now (Rules.Waiting is since) = Rules.Pending is (Some now) now
complete now (Rules.Pending is at since) = Rules.Pending is at since
complete now (Rules.InLine n a b) = Rules.InLine n a b
complete now Rules.Failed = Rules.Failed

-- a snapshot of each token among the items; in line after a take-over that put these items out
abbrev pub holds_both : List Item → Bool
holds_both is = any (snapshot_of 0) is && any (snapshot_of 1) is

abbrev pub taken_over : ℕ → List Item → Rules.Line
taken_over next is = Rules.InLine next (not (any (snapshot_of 0) is)) (not (any (snapshot_of 1) is))

-- a pending line's snapshot is quiet
abbrev pub snapshot_quiet : ℕ → Rules.Line → Bool
snapshot_quiet now (Rules.Waiting is since) = false
snapshot_quiet now (Rules.Pending is at since) = quiet_stamp at now false
snapshot_quiet now (Rules.InLine n a b) = false
snapshot_quiet now Rules.Failed = false

-- a claim of the code, as the rules write it
abbrev pub claim_words : Claim → ℕ × ℕ
claim_words c = (cond c.pending 1 0, c.time)

abbrev pub claim_of : Option Claim → Option (ℕ × ℕ)
claim_of None = None
claim_of (Some c) = Some (claim_words c)

-- a step's line and answer are the rules'
pub record Steps (r : Stepped) (x : Rules.Line × Said) : Type 0 where
  pub line : Stands r.line x.0
  pub answer : of_step r.step ≡ x.1

-- an event to a line in line at a number that the log has; alike: with this key there
abbrev pub copy_step : Bool → ℕ → Bool → Bool → Rules.Line × Said
copy_step alike n a b = cond alike (Rules.InLine (suc n) a b, word duplicate 0 0) (Rules.InLine n a b, word diverged 0 0)

-- an event to a line in line at the log's end; it steps on, where a number is left
abbrev pub end_step : ℕ → Bool → Bool → Rules.Line × Said
end_step n a b = cond (leb max_number n) (Rules.InLine n a b, number 9) (Rules.InLine (suc n) a b, word apply 1 0)

-- a book event of key k to a line with this limit, over a log of keys ks from base: one that is not in line holds it, or fails where it
-- holds its limit of items or more; one in line steps on
abbrev pub event_step : (limit base : ℕ) (ks : List Key) → Key → ℕ → Rules.Line → Rules.Line × Said
event_step limit base ks k msg (Rules.Waiting is since) =
    cond (leb limit (length is)) (Rules.Failed, word failed 0 0) (Rules.Waiting (is ++ (Item.Event k msg ∷ [])) since, word held 0 0)
event_step limit base ks k msg (Rules.Pending is at since) =
    cond (leb limit (length is)) (Rules.Failed, word failed 0 0) (Rules.Pending (is ++ (Item.Event k msg ∷ [])) at since, word held 0 0)
event_step limit base ks k msg (Rules.InLine n a b) =
    cond (ltb n base) (Rules.Failed, word failed 0 0)
    (cond (ltb n (base + length ks)) (copy_step (same (get_or ks (n - base) no_key) k) n a b) (end_step n a b))
event_step limit base ks k msg Rules.Failed = (Rules.Failed, word ignored 0 0)

-- a snapshot of token t: due ends and it is put out; a Waiting line holds it, while its area of h + 8 items has room; else ignored
abbrev pub snapshot_step : (h t msg : ℕ) → Rules.Line → Rules.Line × Said
snapshot_step h t msg (Rules.Waiting is since) =
    cond (leb (h + 8) (length is)) (Rules.Waiting is since, number 6) (Rules.Waiting (is ++ (Item.Snapshot t msg ∷ [])) since, word held 0 0)
snapshot_step h t msg (Rules.Pending is at since) = (Rules.Pending is at since, word ignored 0 0)
snapshot_step h t msg (Rules.InLine n a b) = cond (due_for t a b) (due_ends t n a b, word apply 1 0) (Rules.InLine n a b, word ignored 0 0)
snapshot_step h t msg Rules.Failed = (Rules.Failed, word ignored 0 0)

-- what time makes of a line: it stays, it fails (in line below base; not in line for 10,000 and no snapshot time), or the market
-- is rebuilt from it
abbrev pub time_step : (base now : ℕ) → Rules.Line → Rules.Line × Aging
time_step base now (Rules.Waiting is since) =
    cond (leb align_timeout (age now since)) (Rules.Failed, Aging.Fails) (Rules.Waiting is since, Aging.Stays)
time_step base now (Rules.Pending is at since) =
    cond (leb align_timeout (age now since))
    (stamped (Rules.Failed, Aging.Fails) (λ t. (Rules.Pending is at since, Aging.Rebuilds)) at)
    (Rules.Pending is at since, Aging.Stays)
time_step base now (Rules.InLine n a b) = cond (ltb n base) (Rules.Failed, Aging.Fails) (Rules.InLine n a b, Aging.Stays)
time_step base now Rules.Failed = (Rules.Failed, Aging.Stays)

-- a line as time left it, and what time made of it, are the rules'
pub record Ages (r : Aged) (x : Rules.Line × Aging) : Type 0 where
  pub line : Stands r.line x.0
  pub aging : r.aging ≡ x.1
