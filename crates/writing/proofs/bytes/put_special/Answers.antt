use mathlib.Core.Path.{◌≡◌, refl, sym, ◌∙◌}
use native.Mathlib.Omega.{arith}
use lib.ListN.{drop}
use Rattle.json_text.specs.Work.{char_len}
use Rattle.json_text.proofs.Lengths.{char-special}
use Rattle.json_text.proofs.StringSteps.{char-inside}
use Rattle.writing.proofs.bytes.put_special.Goals as goal

pub returns-in_default : goal.returns-in_default
returns-in_default c =
    let l = char-special c.args.text.now c.args.at c.requires.2 in
    record { at_is = omega (arith, l, c.in_default.ensures); some = λ h. absurd (omega (arith, l, c.in_default.ensures)); none = λ z. (refl, refl) }

pub put_char-end-requires : goal.put_char-end-requires
put_char-end-requires c =
    let l : c.in-Some.n ≡ char_len (drop c.args.at c.args.text.now) =
    sym c.in-Some.ensures.0 ∙ char-special c.args.text.now c.args.at c.requires.2 in
    let r = c.requires in
    (r.0, r.1, l, c.in-Some.ensures.1, r.3 (omega (arith, l, c.in-Some.ensures)))

pub overflow_add-result : goal.overflow_add-result
overflow_add-result c =
    let l : c.in-Some.n ≡ char_len (drop c.args.at c.args.text.now) =
    sym c.in-Some.ensures.0 ∙ char-special c.args.text.now c.args.at c.requires.2 in
    omega (arith, char-inside _ _ c.requires.0 l)

pub returns : goal.returns
returns c =
    let l : c.in-Some.n ≡ char_len (drop c.args.at c.args.text.now) =
    sym c.in-Some.ensures.0 ∙ char-special c.args.text.now c.args.at c.requires.2 in
    record { at_is = omega (arith, l); some = λ h. c.put_char-end.ensures; none = λ z. absurd (omega (arith, l, c.in-Some.ensures)) }
