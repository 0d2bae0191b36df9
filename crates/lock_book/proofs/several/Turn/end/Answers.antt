use Rattle.std.proofs.Common.{◌∙◌}
use Rattle.lock_book.proofs.Turns.{ended_called, ended_callers, ended_number, ended_opens, ended_seen, ended_stands}
use Rattle.lock_book.proofs.several.Turn.end.Goals as goal

pub release-requires-clause-held : goal.release-requires-clause-held
release-requires-clause-held g c κs within = c.requires.own.1.has

pub returns-clause-own : goal.returns-clause-own
returns-clause-own g c =
    let p = c.requires.own.0 in
    let h = c.requires.own.1 in
    let t = c.args.self in
    let ew = (c.release.ensures.added h.has.0 h.has.1).1 in (
      record {
        table = c.give_back.ensures.0 ∙ (c.release.ensures.own ∙ h.table);
        opens = ended_opens c.args.shelf.now p t.seat.table_id t.seat.me t.at h h.has.0 h.has.1 c.give_back.new.badge.views c.release.new.seat.me.0 ew c.give_back.ensures.1;
        callers = ended_callers c.args.shelf.now p t.seat.table_id t.seat.me t.at h h.has.0 h.has.1 c.give_back.new.badge.views c.release.new.seat.me.0 ew c.give_back.ensures.1;
        stands = ended_stands c.args.shelf.now p t.seat.table_id t.seat.me t.at h h.has.0 h.has.1 c.give_back.new.badge.views c.release.new.seat.me.0 ew c.give_back.ensures.1;
      },
      ended_number c.args.shelf.now p t.seat.table_id t.seat.me t.at h h.has.0 h.has.1 c.give_back.new.badge.views c.release.new.seat.me.0 ew c.give_back.ensures.1,
    )

pub returns-clause-called : goal.returns-clause-called
returns-clause-called g c = λ p h.
    let t = c.args.self in
    let ew = (c.release.ensures.added h.has.0 h.has.1).1 in
    ended_called c.args.shelf.now p t.seat.table_id t.seat.me t.at h h.has.0 h.has.1 c.give_back.new.badge.views c.release.new.seat.me.0 ew c.give_back.ensures.1

pub returns-clause-seen : goal.returns-clause-seen
returns-clause-seen g c =
    let p = c.requires.own.0 in
    let h = c.requires.own.1 in
    let t = c.args.self in
    let ew = (c.release.ensures.added h.has.0 h.has.1).1 in
    ended_seen c.args.shelf.now p t.seat.table_id t.seat.me t.at h h.has.0 h.has.1 c.give_back.new.badge.views c.release.new.seat.me.0 ew c.give_back.ensures.1
