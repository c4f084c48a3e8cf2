-- Laws of a sound area.
use mathlib.Core.Path.{◌≡◌, sym, subst}
use mathlib.Core.List.{List}
use mathlib.Core.Bool.{Bool, true, false}
use Prim.Native.Nat.{ℕ, zero, suc, ◌+◌, ◌*◌, ◌≤◌, ◌<◌}
use native.Mathlib.Omega.{arith}
use lib.Dec.{leb}
use lib.ListN.{length, get_or}
use Rattle.rules.proofs.Tests.{leb-true, leb-false}
use Rattle.words.proofs.Cases.{says}
use Rattle.rules.specs.declared.Item.{Item}
use Rattle.rules.specs.declared.Item.TheVariants as Item
use Rattle.rules.specs.Lists.{Each}
use Rattle.rules.specs.Lines as Rules
use Rattle.rules.specs.Sound.{Known}
use Rattle.rules.proofs.ListLaws.{each_at}
use Rattle.words.specs.Words.{Says}
use Rattle.place.specs.Items.{item_of, items_in}
use Rattle.place.proofs.Items.{items-length, items_at, items-each}
use Rattle.lines.specs.declared.Line.{Line}
use Rattle.lines.specs.declared.Line.TheVariants as Line
use Rattle.lines.specs.Line.{line_of}
use Rattle.lines.specs.Area.{head_line, item_words, print_count, line_limit, conn_of}
use Rattle.lines.specs.AreaSound.{LineFits, AreaSound}

-- an item's token is known just where its kind word is at most 2
known_of : (k a b m : ℕ) → k ≤ 2 → Known (item_of k a b m)
known_of zero a b m h = tt
known_of (suc t) a b m h = omega arith

of-known : (k a b m : ℕ) → Known (item_of k a b m) → k ≤ 2
of-known zero a b m h = omega arith
of-known (suc t) a b m h = omega arith

module _ (n : ℕ) (w : List ℕ) where
  pub all_known : ((i : ℕ) → i < n → get_or w (4 * i) 0 ≤ 2) → Each Known (items_in n w)
  all_known h = items-each Known n w (λ i l. known_of (get_or w (4 * i) 0) _ _ _ (h i l))

  pub known-kind : Each Known (items_in n w) → (i : ℕ) → i < n → get_or w (4 * i) 0 ≤ 2
  known-kind e i l =
      let k = each_at Known (items_in n w) i (Item.Snapshot 0 0) (let z = items-length n w in omega arith) e in
      of-known (get_or w (4 * i) 0) _ _ _ (rw (items_at n w i (Item.Snapshot 0 0) l) at k)

pub leb-says : (m n : ℕ) → Says (leb m n) (m ≤ n)
leb-says m n = says (leb m n) (m ≤ n) (λ e. leb-true e) (λ e h. let k : n < m = leb-false e in omega arith)

-- what the line's test says, by its kind
pub items-fit : (h n : ℕ) (w : List ℕ) (r : Bool) → Says r ((n ≤ h + 8) × Each Known (items_in n w)) → Says r ((length (items_in n w) ≤ h + 8) × Each Known (items_in n w))
items-fit h n w r s = subst (λ k. Says r ((k ≤ h + 8) × Each Known (items_in n w))) (sym (items-length n w)) s

-- what the area's test says, from its line's
pub area-says : (h e : ℕ) (w : List ℕ) (l : Line) (r : Bool) → l ≡ head_line w → get_or w 1 0 ≤ 3 → print_count w ≤ h → 1 ≤ line_limit w → line_limit w ≤ h
    → Says r (LineFits h e (line_of l (item_words h w))) → Says r (AreaSound h e w)
unfolding conn_of
area-says h e w l true q k p a b s = record { kind = k; prints = p; limit = a; within = b; line = subst (λ x. LineFits h e (line_of x (item_words h w))) q s }
area-says h e w l false q k p a b s = λ z. s (subst (λ x. LineFits h e (line_of x (item_words h w))) (sym q) z.line)
