-- 01, Lines: the place of a pending line's held events in the log.
use Rattle.std.specs.Prelude.{Option, None, Some, List, [], ◌∷◌, ◌++◌, map, Bool, false, ◌&&◌, ◌||◌, cond, ℕ, suc, ◌+◌, ◌-◌, leb, eqb, length, drop}
use Rattle.rules.specs.Lists.{keep, nil, only, maybe, count}
use Rattle.rules.specs.Quantities.{Key, same, align_run}

-- how many keys match, compared until either list ends; none where two differ
unfoldable pub fits : List Key → List Key → Option ℕ
fits [] ys = Some 0
fits (x ∷ xs) [] = Some 0
fits (x ∷ xs) (y ∷ ys) = cond (same x y) (maybe None (λ n. Some (suc n)) (fits xs ys)) None

-- (j, i): held events from the j-th against the log from number p = base + i
abbrev pub Place : Type 0
Place = ℕ × ℕ

-- j = 0 with every p, then j ≥ 1 with p = base; one whose first keys differ is no candidate, and does not fit either
abbrev pub places : List Key → List Key → List Place
places hs ks = map (λ i. (0, i)) (count 0 (length ks)) ++ map (λ j. (j, 0)) (count 1 (length hs - 1))

-- it counts with 4 or more matches, or when quiet is asked and the matches end exactly at the log's end and use all held events
unfoldable pub counts : Bool → List Key → List Key → Place → Bool
counts quiet hs ks p =
    maybe false (λ n. leb align_run n || quiet && eqb (p.1 + n) (length ks) && eqb (p.0 + n) (length hs))
    (fits (drop p.0 hs) (drop p.1 ks))

-- exactly one place counts, and neither log nor held events are empty
unfoldable pub alignment : Bool → List Key → List Key → Option Place
alignment quiet hs ks = cond (nil hs || nil ks) None (only (keep (counts quiet hs ks) (places hs ks)))
