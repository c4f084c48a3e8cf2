-- The words of the starred points about places. The letters p, q, r, s, t are keys that differ in one word or in the other.
use Rattle.std.specs.Prelude.{◌≡◌, Option, List, [], ◌∷◌, false, ℕ, ◌≤◌}
use Rattle.rules.specs.Lines.{event_keys}
use Rattle.rules.specs.Place.{alignment}
use Rattle.event_log.specs.Log.{keys_of}
use Rattle.place.specs.declared.Place.{Place}
use Rattle.place.specs.Items.{items_in, place_of}

-- a log p q r s p q r s, in a ring of 8 from place 6 on
abbrev pub log_words : List ℕ
log_words = 2 ∷ 1 ∷ 2 ∷ 2 ∷ 1 ∷ 1 ∷ 1 ∷ 2 ∷ 2 ∷ 1 ∷ 2 ∷ 2 ∷ 1 ∷ 1 ∷ 1 ∷ 2 ∷ []

-- a line's items: the events p q r s t
abbrev pub line_words : List ℕ
line_words = 0 ∷ 1 ∷ 1 ∷ 5 ∷ 0 ∷ 1 ∷ 2 ∷ 6 ∷ 0 ∷ 2 ∷ 1 ∷ 7 ∷ 0 ∷ 2 ∷ 2 ∷ 8 ∷ 0 ∷ 3 ∷ 1 ∷ 9 ∷ []

-- the place of the line's first `held` items in the log's first `count` entries, whose base is 0
abbrev pub place_at : ℕ → ℕ → Option Place
place_at count held = place_of 0 (alignment false (event_keys (items_in held line_words)) (keys_of 8 6 count log_words))

-- such a place is the one that the rules give
pub record Point (count held : ℕ) (want : Option Place) : Type 0 where
  pub entries : count ≤ 8
  pub items : held ≤ 5
  pub place : place_at count held ≡ want
