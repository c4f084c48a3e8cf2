-- A member's name and colon, as the grammar has them and as they are read.
use Rattle.std.specs.Prelude.{None, Option, Some}
use mathlib.Core.Path.{◌≡◌, refl, ◌∙◌, ap}
use mathlib.Core.Bool.{Bool, true, false, cond}
use mathlib.Core.List.{List, [], ◌∷◌}
use Prim.Native.Nat.{ℕ}
use borrow.Author.Tests.{eqb-true}
use lib.Dec.{eqb}
use Rattle.json_text.specs.Bytes.{is_ws}
use Rattle.json_text.specs.Grammar.{Ws, Name, name}
use Rattle.json_text.specs.Work.{byte_at, skip_ws, chars_rest, and_then, colon_rest, name_rest}
use Rattle.json_text.proofs.CharsLaws.{chars_rest_lem, rest-chars}
use Rattle.json_text.proofs.Spaces.{ws-skips, skips-ws, skip-front}
use Rattle.json_text.proofs.Tests.{same, no-some}

pub name-rest : {s x r : List ℕ} → Name s x r → is_ws (byte_at r 0) ≡ false → name_rest s ≡ Some r
unfolding name_rest colon_rest is_ws
name-rest {r = r} (name {t = t} {u = u} c w v) h =
    let colon : skip_ws t ≡ 0x3A ∷ u = ws-skips w ∙ skip-front (0x3A ∷ u) refl in
    rw (chars_rest_lem c, colon) (ap Some (ws-skips v ∙ skip-front r h))

rest-colon : (t u r : List ℕ) → skip_ws t ≡ u → colon_rest u ≡ Some r → (v : List ℕ) × Ws t (0x3A ∷ v) × Ws v r
unfolding colon_rest
rest-colon t [] r e k = no-some k
rest-colon t (a ∷ u) r e k = go (eqb a 0x3A) refl k
  where
    go : (x : Bool) → eqb a 0x3A ≡ x → cond x (Some (skip_ws u)) None ≡ Some r → (v : List ℕ) × Ws t (0x3A ∷ v) × Ws v r
    go true f l = (u, rw (e, eqb-true a 0x3A f) at (skips-ws t), rw (same l) at (skips-ws u))
    go false f l = no-some l

pub rest-name : (s r : List ℕ) → name_rest s ≡ Some r → (x : List ℕ) × Name s x r
unfolding name_rest
rest-name [] r h = no-some h
rest-name (b ∷ s) r h = mark (eqb b 0x22) refl h
  where
    chars :
        (o : Option (List ℕ)) → chars_rest s ≡ o → b ≡ 0x22 → and_then o (λ q. colon_rest (skip_ws q)) ≡ Some r → (x : List ℕ) × Name (b ∷ s) x r
    chars None e m k = no-some k
    chars (Some t) e m k =
        let c = rest-chars s t e in
        let w = rest-colon t (skip_ws t) r refl k in
        rw m (c.0, name c.1 w.1 w.2)

    mark :
        (x : Bool) →
        eqb b 0x22 ≡ x →
        cond x (and_then (chars_rest s) (λ q. colon_rest (skip_ws q))) None ≡ Some r → (x : List ℕ) × Name (b ∷ s) x r
    mark true e k = chars (chars_rest s) refl (eqb-true b 0x22 e) k
    mark false e k = no-some k
