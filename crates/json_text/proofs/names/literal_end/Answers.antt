use borrow.Author.Rules.{rules}
use Rattle.json_text.proofs.EndLaws.{ends_as, ends_nowhere}
use Rattle.json_text.proofs.NameSteps.{literal-null, literal-true, literal-false, literal-none}
use Rattle.json_text.proofs.Places.{place-behind}
use Rattle.json_text.proofs.names.literal_end.Goals as goal

pub word_end-requires : goal.word_end-requires
word_end-requires c =
    place-behind c.args.text.now _ _ c.byte-b.ensures (search rules)

pub returns-then-b-eq110 : goal.returns-then-b-eq110
returns-then-b-eq110 c =
    let t = c.args.text.now in
    let p = literal-null t _ _ c.byte-b.ensures c.if-b-eq110.true in
    ends_as t _ _ _ _ _ (search rules) p c.word_end.ensures

pub word_end-requires-then-b-eq116 : goal.word_end-requires-then-b-eq116
word_end-requires-then-b-eq116 c =
    place-behind c.args.text.now _ _ c.byte-b.ensures (search rules)

pub returns-then-b-eq116 : goal.returns-then-b-eq116
returns-then-b-eq116 c =
    let t = c.args.text.now in
    let p = literal-true t _ _ c.byte-b.ensures c.if-b-eq116.true in
    ends_as t _ _ _ _ _ (search rules) p c.word_end-then-b-eq116.ensures

pub word_end-requires-then-b-eq102 : goal.word_end-requires-then-b-eq102
word_end-requires-then-b-eq102 c =
    place-behind c.args.text.now _ _ c.byte-b.ensures (search rules)

pub returns-then-b-eq102 : goal.returns-then-b-eq102
returns-then-b-eq102 c =
    let t = c.args.text.now in
    let p = literal-false t _ _ c.byte-b.ensures c.if-b-eq102.true in
    ends_as t _ _ _ _ _ (search rules) p c.word_end-then-b-eq102.ensures

pub returns : goal.returns
returns c =
    let t = c.args.text.now in
    ends_nowhere t _ (literal-none t _ _ c.byte-b.ensures c.if-b-eq110.false c.if-b-eq116.false c.if-b-eq102.false)
