use Rattle.std.proofs.Common.{◌≡◌, ◌∙◌, ◌+◌, ◌-◌, drop, false, length, refl, rules, take}
use Rattle.std.proofs.lemmas.List.{take_rest}
use Rattle.bufr_c.specs.Rows.{HasNoRowRoom}
use Rattle.bufr_c.proofs.EventLemmas.{event-next, events-absent, reached-next, starts-there}
use Rattle.bufr_c.proofs.RowLemmas.{buffers_here, buffers-still, made-by-same, rows-done, rows-ended, rows-full, rows-none, rows-put, rows-rest-full, rows-rest-put}
use Rattle.bufr_c.proofs.row_events.write_rows.Goals as goal

pub loop-counts-init : goal.loop-counts-init
loop-counts-init c = record {
  so = rows-none _ _ _ _ _ c.args.counts.now c.requires.items c.requires.octets c.requires.messages;
  rest = record { items_rest = refl; octets_rest = refl; messages_rest = refl };
  reserved = c.requires.reserved;
  still = buffers_here c.args.rows.now;
  table_b = refl;
  table_d = refl;
  same = refl;
}

pub returns-in_default-clause-passes : goal.returns-in_default-clause-passes
returns-in_default-clause-passes c =
    let octets = c.args.octets.now in
    let at = c.loop-counts.counts.at in
    let none = events-absent octets (take (length octets - at) (drop at octets)) _ at (take_rest octets at) c.new-word.ensures c.in_default.ensures in
    rows-ended _ _ _ octets _ _ c.loop-counts.counts c.loop-counts.invariant.so _ c.loop-counts-test.true none refl refl refl refl

pub set_event-requires : goal.set_event-requires
set_event-requires c =
    let octets = c.args.octets.now in
    let at = c.loop-counts.counts.at in
    starts-there octets _ _ _ at c.in-Some.place (take_rest octets at) (take_rest octets (at + c.in-Some.place)) c.new-word.ensures c.in-Some.ensures

pub put_rows-requires-clause-items : goal.put_rows-requires-clause-items
put_rows-requires-clause-items c = c.loop-counts.invariant.so.leaves.items_fit

pub put_rows-requires-clause-texts : goal.put_rows-requires-clause-texts
put_rows-requires-clause-texts c = c.loop-counts.invariant.so.leaves.octets_fit

pub put_rows-requires-clause-messages : goal.put_rows-requires-clause-messages
put_rows-requires-clause-messages c = c.loop-counts.invariant.so.leaves.messages_fit

pub returns-then-not-put_rows-clause-buffers : goal.returns-then-not-put_rows-clause-buffers
returns-then-not-put_rows-clause-buffers c = buffers-still _ _ _ c.loop-counts.invariant.still c.put_rows.ensures.buffers

pub returns-then-not-put_rows-clause-passes : goal.returns-then-not-put_rows-clause-passes
returns-then-not-put_rows-clause-passes c =
    let octets = c.args.octets.now in
    let at = c.loop-counts.counts.at in
    let inv = c.loop-counts.invariant in
    let full : c.put_rows.result ≡ false = search rules in
    let w = c.in-Ok.ensures.rows in
    rows-full _ _ _ octets _ _ c.loop-counts.counts inv.so w.event _ _ _ _
    (event-next _ octets _ _ _ at c.in-Some.place c.in-Ok.moves (take_rest octets at) (take_rest octets (at + c.in-Some.place)) c.new-word.ensures c.in-Some.ensures w)
    (made-by-same _ _ _ _ _ _ _ w.event _ inv.table_b inv.table_d inv.same w.is) (rw full at c.put_rows.ensures.puts)

pub returns-then-not-put_rows-clause-rest : goal.returns-then-not-put_rows-clause-rest
returns-then-not-put_rows-clause-rest c =
    let full : c.put_rows.result ≡ false = search rules in
    rows-rest-full _ _ c.loop-counts.counts _ _ _ c.loop-counts.invariant.rest (rw full at c.put_rows.ensures.puts)

pub returns-then-not-put_rows-clause-reserved : goal.returns-then-not-put_rows-clause-reserved
returns-then-not-put_rows-clause-reserved c =
    let full : c.put_rows.result ≡ false = search rules in
    let none : HasNoRowRoom _ c.loop-counts.counts _ _ _ = rw full at c.put_rows.ensures.puts in
    none.reserved ∙ c.loop-counts.invariant.reserved

pub loop-counts-preserved : goal.loop-counts-preserved
loop-counts-preserved c =
    let octets = c.args.octets.now in
    let at = c.loop-counts.counts.at in
    let inv = c.loop-counts.invariant in
    let w = c.in-Ok.ensures.rows in
    let m_is = take_rest octets (at + c.in-Some.place) in
    let next = event-next _ octets _ _ _ at c.in-Some.place c.in-Ok.moves (take_rest octets at) m_is c.new-word.ensures c.in-Some.ensures w in
    let here = reached-next octets _ _ at inv.so.reached _ _ (at + c.in-Some.place) c.in-Ok.moves _ w m_is next refl in
    let made = made-by-same _ _ _ _ _ _ _ w.event _ inv.table_b inv.table_d inv.same w.is in
    record {
      so = rows-put _ _ _ octets _ _ c.loop-counts.counts inv.so w.event _ c.put_rows.new.counts _ _ here made c.if-not-put_rows.ensures.puts refl refl refl;
      rest = rows-rest-put _ _ c.loop-counts.counts _ c.put_rows.new.counts _ _ _ inv.so.leaves inv.rest c.if-not-put_rows.ensures.puts refl refl refl;
      reserved = c.if-not-put_rows.ensures.puts.reserved ∙ inv.reserved;
      still = buffers-still _ _ _ inv.still c.put_rows.ensures.buffers;
      table_b = c.set_event.ensures.table_b ∙ inv.table_b;
      table_d = c.set_event.ensures.table_d ∙ inv.table_d;
      same = c.set_event.ensures.wanted ∙ inv.same;
    }

pub returns-clause-passes : goal.returns-clause-passes
returns-clause-passes c = rows-done _ _ _ _ _ _ _ c.loop-counts.invariant.so c.loop-counts-test.false
