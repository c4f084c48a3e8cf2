-- The lists of docs/DIFFERENCES.md show what it says, by computation.
use mathlib.Core.Path.{refl}
use Rattle.rules.specs.Log.{old}
use Rattle.rules.specs.Lines.{subscribed}
use Rattle.rules.specs.Place.{alignment, counts, fits}
use Rattle.rules.specs.Entering.{enter, line_up, push_all, push_out, put_items, release, round, rounds, take_over, try_line_up}
use Rattle.rules.specs.Calls.{book_event, drop_conn, hold_print, print, print_counted, promote, snapshot, source, subscribe}
use Rattle.rules.specs.Tick.{quiet_line_up, rebuild_from, tick, time_out, turn, turns}
use Rattle.rules.specs.Refusals.{step}
use Rattle.rules.specs.Demand.{after}
use Rattle.rules.specs.Points.{bases, event, event_at, joins, last_of, leaves, limited, limits, pqrs, print_at, print_of, says, says_from, says_with, serves, snap, subscribes, tick_at, two}
use Rattle.rules.specs.Differences.{ShownDifferences, behind_log, clock_back, completed, differences, disagreeing, first_delivery, full_of_items, full_of_prints, last_fails, last_resubscribes, late_copies, late_snapshot, old_log, part_of_snapshot, pppp, print_held, quiet_empty, quiet_events, quiet_ticks, rebuilt, resets, resubscribed, run_inside, second_copy, starts, swept_in_tick, two_fit}

pub shown-differences : ShownDifferences
unfolding differences starts resets pppp resubscribed second_copy late_copies print_held first_delivery completed disagreeing full_of_items full_of_prints run_inside two_fit quiet_ticks quiet_events quiet_empty clock_back behind_log swept_in_tick part_of_snapshot late_snapshot rebuilt last_fails last_resubscribes old_log says says_with says_from leaves bases serves two pqrs joins subscribes limited event event_at snap print_of print_at tick_at limits last_of after step subscribe subscribed snapshot book_event hold_print print_counted print source promote drop_conn tick turns turn time_out rebuild_from quiet_line_up old fits counts alignment line_up try_line_up round rounds enter release push_out push_all put_items take_over
shown-differences =
    (refl, (refl, (refl, (refl, (refl, (refl, (refl, (refl, (refl, (refl, (refl, (refl, (refl, (refl, (refl, (refl, (refl, (refl, (refl, (refl, (refl, (refl, (refl, (refl, (refl, (refl, (refl, (refl, (refl, (refl, (refl, (refl, (refl, (refl, (refl, (refl, (refl, (refl, (refl, (refl, (refl, (refl, (refl, (refl, (refl, (refl, (refl, (refl, (refl, (refl, (refl, (refl, (refl, (refl, (refl, (refl, (refl, (refl, (refl, (refl, (refl, (refl, (refl, (refl, (refl, (refl, (refl, (refl, (refl, (refl, (refl, (refl, (refl, (refl, (refl, (refl, (refl, (refl, (refl, (refl, (refl, (refl, (refl, (refl, (refl, (refl, (refl, (refl, (refl, (refl, (refl, (refl, (refl, (refl, (refl, tt)))))))))))))))))))))))))))))))))))))))))))))))))))))))))))))))))))))))))))))))))))))))))))))))
