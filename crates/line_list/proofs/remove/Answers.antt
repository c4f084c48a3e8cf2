use native.Mathlib.Omega.{arith}
use Rattle.store.proofs.ConnLaws.{lined-sound}
use Rattle.line_list.proofs.FoundLaws.{removed, none-removed}
use Rattle.line_list.proofs.remove.Goals as goal

pub find-i-requires : goal.find-i-requires
find-i-requires c = lined-sound _ c.requires

pub take_out-requires : goal.take_out-requires
take_out-requires c = record { lined = lined-sound _ c.requires; here = omega arith }

pub returns-then-i-count : goal.returns-then-i-count
returns-then-i-count c =
    removed _ c.requires _ c.args.conn c.find-i.ensures _ c.take_out.ensures

pub returns-else-i-count : goal.returns-else-i-count
returns-else-i-count c =
    none-removed _ c.requires _ c.args.conn c.find-i.ensures (omega arith)
