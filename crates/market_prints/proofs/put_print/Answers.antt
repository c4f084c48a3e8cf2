use Rattle.store.proofs.TableLaws.{tabled}
use Rattle.market_prints.proofs.PrintingLaws.{put-done}
use Rattle.market_prints.proofs.put_print.Goals as goal

pub apply-requires : goal.apply-requires
apply-requires c = (tabled c.requires.roomy.0.sound, c.requires.key_found)

pub returns : goal.returns
returns c =
    put-done c.args.conn c.args.key c.args.message c.args.delivered c.args.applied c.requires.roomy.0 c.requires.roomy.1.1 c.apply.auto.s c.apply.ensures c.put_record.ensures
