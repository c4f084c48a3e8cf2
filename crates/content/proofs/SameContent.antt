-- Canonical bytes are equal exactly where the content is.
use mathlib.Core.Path.{◌≡◌, sym, ◌∙◌, ap}
use mathlib.Core.List.{List, [], ◌++◌}
use Prim.Native.Nat.{ℕ, ◌≤◌}
use native.Mathlib.Omega.{arith}
use lib.ListN.{length}
use Rattle.json_text.specs.Canonical.{canonical}
use Rattle.json_text.specs.Content.{content}
use Rattle.content.specs.Theorems.{SameContent}
use Rattle.json_text.specs.Grammar.{Text, text}
use Rattle.json_text.specs.Values.{Value}
use Rattle.content.proofs.Clean.{Clean, clean}
use Rattle.content.proofs.Fits.{fits}
use Rattle.content.proofs.ReadBack.{read, read_back}

clean-text : {s : List ℕ} {v : Value} → Text s v → Clean (content v)
clean-text (text w x u) = clean x

same-value :
    (v w : Value) → length (canonical v) ≤ 163840 → length (canonical w) ≤ 163840 → Clean v → Clean w → canonical v ≡ canonical w → v ≡ w
same-value v w lv lw cv cw e =
    ap (λ (p : Value × List ℕ). p.0)
    (sym (read_back 163840 v [] (omega arith) lv cv)
    ∙ ap (λ (l : List ℕ). read 163840 (l ++ [])) e
    ∙ read_back 163840 w [] (omega arith) lw cw)

pub same-content : SameContent
same-content s t v w ls lt x y = (
  same-value (content v) (content w) (fits s v ls x) (fits t w lt y) (clean-text x) (clean-text y),
  ap canonical,
)
