use Rattle.canonical.proofs.MessageLaws.{message-writable, message-wrote}
use Rattle.canonical.proofs.write_message.Goals as goal

pub write_value-last-requires : goal.write_value-last-requires
write_value-last-requires c =
    let a = c.args in
    let p = c.requires in
    message-writable a.text.now _ p.0 c.skip_ws-at.ensures a.ends.now a.places.now a.merged.now
    a.names.now a.out.now p.1 p.2 p.3 p.4 p.5 p.6

pub returns : goal.returns
returns c =
    message-wrote c.args.text.now _ c.requires.0 c.skip_ws-at.ensures _ _ _ _ _ _ c.write_value-last.ensures
