-- What is proved of canonical bytes. The quoted words are request 4's.
use Rattle.std.specs.Prelude.{◌≡◌, List, ◌↔◌, ℕ, ◌≤◌, length}
use Rattle.json_text.specs.Grammar.{Text}
use Rattle.json_text.specs.Refusals.{longest}
use Rattle.json_text.specs.Values.{Value}
use Rattle.json_text.specs.Content.{content}
use Rattle.json_text.specs.Canonical.{canonical}

-- "Two messages get equal bytes exactly when they hold the same content under these rules."
abbrev pub SameContent : Type 0
SameContent =
    (s t : List ℕ) (v w : Value) →
    length s ≤ longest → length t ≤ longest → Text s v → Text t w →
    (canonical (content v) ≡ canonical (content w)) ↔ (content v ≡ content w)

-- the bytes of a message fit the output that the request asks for, "163,840 bytes"
abbrev pub Fits : Type 0
Fits = (t : List ℕ) (v : Value) → length t ≤ longest → Text t v → length (canonical (content v)) ≤ 163840
