use mathlib.Core.Path.{sym}
use native.Mathlib.Omega.{arith}
use Rattle.listing.specs.Record.{by_call}
use Rattle.listing.proofs.ReadLaws.{no_call}
use Rattle.listing.proofs.reading.call_of.Goals as goal

pub returns-in-1 : goal.returns-in-1
unfolding by_call
returns-in-1 c = rw (c.in-1.is, c.load64-conn.ensures, c.load64-time.ensures)

pub returns-in-2 : goal.returns-in-2
unfolding by_call
returns-in-2 c = rw (c.in-2.is, c.load64-conn.ensures, c.from-index.ensures, c.load64-message.ensures, c.load64-time.ensures)

pub returns-in-3 : goal.returns-in-3
unfolding by_call
returns-in-3 c = rw (c.in-3.is, c.load64-conn.ensures, c.load64.ensures, c.load64-2.ensures, c.load64-message.ensures, c.load64-time.ensures)

pub returns-in-4 : goal.returns-in-4
unfolding by_call
returns-in-4 c = rw (c.in-4.is, c.load64-conn.ensures, c.load64.ensures, c.load64-2.ensures, c.load64-message.ensures, c.load64-time.ensures)

pub returns-in-5 : goal.returns-in-5
unfolding by_call
returns-in-5 c = rw (c.in-5.is, c.load64-conn.ensures, c.load64-time.ensures)

pub returns-in-6 : goal.returns-in-6
unfolding by_call
returns-in-6 c = rw (c.in-6.is, c.load64-time.ensures)

pub returns-in-7 : goal.returns-in-7
unfolding by_call
returns-in-7 c = rw (c.in-7.is, c.load64-time.ensures)

pub returns-in-8 : goal.returns-in-8
unfolding by_call
returns-in-8 c = rw (c.in-8.is, c.from-index.ensures, c.load64-time.ensures)

pub returns-in_default : goal.returns-in_default
returns-in_default c = sym (no_call _ _ (omega arith) (omega arith) (omega arith) (omega arith) (omega arith) (omega arith) (omega arith) (omega arith))
