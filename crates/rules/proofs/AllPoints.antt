-- The worked points hold, by computation.
use mathlib.Core.Path.{refl}
use native.Mathlib.Omega.{arith}
use Rattle.rules.specs.Lists.{Rising}
use Rattle.rules.specs.Quantities.{in_range}
use Rattle.rules.specs.Log.{old}
use Rattle.rules.specs.Lines.{subscribed}
use Rattle.rules.specs.Place.{alignment, counts, fits}
use Rattle.rules.specs.Entering.{enter, line_up, push_all, push_out, put_items, release, round, rounds, take_over, try_line_up}
use Rattle.rules.specs.Calls.{book_event, drop_conn, hold_print, print, print_counted, promote, snapshot, source, subscribe}
use Rattle.rules.specs.Tick.{quiet_line_up, rebuild_from, tick, time_out, turn, turns}
use Rattle.rules.specs.Refusals.{step}
use Rattle.rules.specs.Demand.{after}
use Rattle.rules.specs.Points.{listing, WorkedPoints, again, bases, delivers, deserted, event, event_at, four_lines, joins, keeps, last_of, leaves, limited, limited_to, limits, OverfullSound, overfull, points, pqrs, print_at, print_of, says, says_from, says_with, snap, subscribes, ten_snaps, tick_at, two}

pub worked-points : WorkedPoints
unfolding points says says_with says_from limited_to leaves bases keeps two delivers again deserted listing four_lines ten_snaps overfull pqrs joins subscribes limited event event_at snap print_of print_at tick_at limits last_of after step subscribe subscribed snapshot book_event hold_print print_counted print source promote drop_conn tick turns turn time_out rebuild_from quiet_line_up old fits counts alignment line_up try_line_up round rounds enter release push_out push_all put_items take_over
worked-points =
    (refl, (refl, (refl, (refl, (refl, (refl, (refl, (refl, (refl, (refl, (refl, (refl, (refl, (refl, (refl, (refl, (refl, (refl, (refl, (refl, (refl, (refl, (refl, (refl, (refl, (refl, (refl, (refl, (refl, (refl, (refl, (refl, (refl, (refl, (refl, (refl, (refl, (refl, (refl, (refl, (refl, (refl, (refl, (refl, (refl, (refl, (refl, (refl, (refl, (refl, (refl, (refl, (refl, (refl, (refl, (refl, (refl, (refl, (refl, (refl, (refl, (refl, (refl, (refl, (refl, (refl, (refl, tt)))))))))))))))))))))))))))))))))))))))))))))))))))))))))))))))))))

pub overfull-sound : OverfullSound
unfolding overfull limits in_range Rising
overfull-sound =
    record {
      limits_fit = refl;
      lines =
          record {
            lines_fit = omega arith;
            rises = (tt, tt);
            conns = (((omega arith, (tt, (tt, (tt, tt)))), omega arith, (omega arith, omega arith)), tt);
            log_fits = omega arith;
            numbers_fit = omega arith;
          };
      prints =
          record {
            keys_fit = omega arith;
            pairs_fit = omega arith;
            tables = record { keys_rise = tt; pairs_rise = tt; applied32 = tt; delivered32 = tt; keyed = tt };
          };
    }
