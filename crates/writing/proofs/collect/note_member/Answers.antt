use mathlib.Core.Path.{◌≡◌}
use native.Mathlib.Omega.{arith}
use Rattle.writing.proofs.NameSteps.{member-inside, name-fits, colon-inside, value-place}
use Rattle.writing.proofs.Spanning.{spans-from, member-to}
use Rattle.writing.proofs.collect.note_member.Goals as goal

pub put_string-name-requires : goal.put_string-name-requires
put_string-name-requires c =
    let r = c.requires in
    let m = r.0.spans in
    (member-inside m, r.0.short, omega (arith, name-fits m, m.spans.on, m.spans.fits, r.1))

pub skip_ws-value-requires : goal.skip_ws-value-requires
skip_ws-value-requires c =
    colon-inside c.requires.0.spans _ c.put_string-name.ensures.end _ c.skip_ws-colon.ensures

pub skip_value-requires : goal.skip_value-requires
skip_value-requires c =
    let w = c.requires.0 in
    let m = w.spans in
    record { short = w.short; known = w.known; room = w.room; end = w.end; spans = spans-from _ m.at _ w.end m.spans ((let at_value_is : c.skip_ws-value.result ≡ c.requires.0.spans.at = value-place c.requires.0.spans _ c.put_string-name.ensures.end _ c.skip_ws-colon.ensures _ c.skip_ws-value.ensures in at_value_is)) }

pub returns : goal.returns
returns c =
    let w = c.requires.0 in
    (member-to _ _ w.end _ w.spans _ ((let at_value_is : c.skip_ws-value.result ≡ c.requires.0.spans.at = value-place c.requires.0.spans _ c.put_string-name.ensures.end _ c.skip_ws-colon.ensures _ c.skip_ws-value.ensures in at_value_is)) c.skip_value.ensures.0, c.skip_value.ensures.1, c.put_string-name.ensures.bytes)
