use Rattle.std.specs.Prelude.{Some}
use lib.ListN.{drop}
use Rattle.json_text.specs.Work.{number_rest}
use mathlib.Core.Path.{◌≡◌, sym, ◌∙◌}
use Rattle.writing.proofs.Scalars.{scalar-some, scalar-spans, string-ends, minus-ends, digit-ends, literal-ends}
use Rattle.writing.proofs.Spanning.{one_place, spans-to}
use Rattle.writing.proofs.skip.scalar_end.Goals as goal
use Rattle.writing.proofs.skip.scalar_end.Goals.{then-b-eq45-via-then-b-eq45, then-b-eq45-via-else-b-eq45+then-is_digit}

pub returns-then-b-eq34 : goal.returns-then-b-eq34
returns-then-b-eq34 c =
    let t = c.args.text.now in
    let v = c.requires.0.1 in
    let o = string-ends t _ _ v _ c.byte-b.ensures c.if-b-eq34.true in
    let k = c.skip_string.ensures in
    spans-to t _ _ _ v (one_place t _ _ (sym (k.2 _ o)) v.fits k.1)

pub unwrap-requires : goal.unwrap-requires
unwrap-requires c =
    let t = c.args.text.now in
    let v = c.requires.0.1 in
    let o : number_rest (drop c.args.at t) ≡ Some (drop c.requires.0.0 t) =
    elim c.then-b-eq45.branch [
      | then-b-eq45-via-then-b-eq45 w ↦ minus-ends t _ _ v _ c.byte-b.ensures w.if-b-eq45.true
      | then-b-eq45-via-else-b-eq45+then-is_digit w ↦ digit-ends t _ _ v _ c.byte-b.ensures (sym w.is_digit.ensures ∙ w.if-is_digit.true)
    ] in
    scalar-some t _ _ v _ _ _ c.number_end.ensures o

pub returns-then-b-eq45 : goal.returns-then-b-eq45
returns-then-b-eq45 c =
    let t = c.args.text.now in
    let v = c.requires.0.1 in
    let o : number_rest (drop c.args.at t) ≡ Some (drop c.requires.0.0 t) =
    elim c.then-b-eq45.branch [
      | then-b-eq45-via-then-b-eq45 w ↦ minus-ends t _ _ v _ c.byte-b.ensures w.if-b-eq45.true
      | then-b-eq45-via-else-b-eq45+then-is_digit w ↦ digit-ends t _ _ v _ c.byte-b.ensures (sym w.is_digit.ensures ∙ w.if-is_digit.true)
    ] in
    scalar-spans t _ _ v _ _ _ _ c.number_end.ensures o c.unwrap.ensures

pub unwrap-requires-2 : goal.unwrap-requires-2
unwrap-requires-2 c =
    let t = c.args.text.now in
    let v = c.requires.0.1 in
    let n = sym c.is_digit.ensures ∙ c.if-is_digit.false in
    let o = literal-ends t _ _ v _ c.byte-b.ensures c.if-b-eq34.false c.if-b-eq45.false n c.requires.2 c.requires.3 in
    scalar-some t _ _ v _ _ _ c.literal_end.ensures o

pub returns : goal.returns
returns c =
    let t = c.args.text.now in
    let v = c.requires.0.1 in
    let n = sym c.is_digit.ensures ∙ c.if-is_digit.false in
    let o = literal-ends t _ _ v _ c.byte-b.ensures c.if-b-eq34.false c.if-b-eq45.false n c.requires.2 c.requires.3 in
    scalar-spans t _ _ v _ _ _ _ c.literal_end.ensures o c.unwrap-2.ensures
