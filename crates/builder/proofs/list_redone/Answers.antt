-- `builder::list_redone` meets its contract. The loop's invariant: what is left to put is what is redone at the
-- stations from a row on. Assumes nothing.
use Rattle.std.proofs.Common.{arith, rules, ◌≡◌, ◌≤◌, length}
use Rattle.rule_tests.specs.between.Tests.{held}
use Rattle.builder.specs.between.Builder.{redone_station, redone_numbers, list_most, station_most}
use Rattle.timetable.proofs.BuffersFilled.{puts_as}
use Rattle.builder.proofs.FindingsPut.{left_on, left_end}
use Rattle.builder.proofs.BuildLaws.{each_next, each_over, stations_are, stations_few}
use Rattle.builder.proofs.list_redone.Goals as goal

pub list_redone_at-to-requires : goal.list_redone_at-to-requires
list_redone_at-to-requires c =
    let many : length c.args.n.now.stations ≡ 16 = search rules in
    let few : length c.station_rows-rows.result.now ≤ 16 = rw c.station_rows-rows.ensures (stations_few c.args.n.now many) in
    omega arith

pub loop-row-preserved : goal.loop-row-preserved
loop-row-preserved c =
    let s = c.args in
    let l = c.loop-row in
    let next = each_next (λ r. redone_station s.n.now s.scope s.marks (held s.sheet.now) r.station) c.station_rows-rows.result.now l.row-index _ c.loop-row-test.true in
    (omega (arith, c.list_redone_at-to.ensures.2), left_on 0 _ s.out.now l.to c.list_redone_at-to.result station_most _ _ _ l.out _ next l.invariant.1 c.list_redone_at-to.ensures)

pub returns : goal.returns
unfolding redone_numbers
returns c =
    let s = c.args in
    let l = c.loop-row in
    let f = redone_station s.n.now s.scope s.marks (held s.sheet.now) in
    let rows = c.station_rows-rows in
    let many : length s.n.now.stations ≡ 16 = search rules in
    let few : length rows.result.now ≤ 16 = rw rows.ensures (stations_few s.n.now many) in
    let over = each_over (λ r. f r.station) rows.result.now l.row-index c.loop-row-test.false in
    puts_as 0 l.to _ _ s.out.now l.out list_most (rw rows.ensures (stations_are f s.n.now))
    (left_end 0 _ s.out.now l.to list_most _ l.out over l.invariant.1 (omega arith))
