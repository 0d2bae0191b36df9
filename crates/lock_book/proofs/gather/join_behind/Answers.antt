use Rattle.std.proofs.Common.{arith, ◌∙◌, sym, ap, subst}
use Rattle.lock_book.specs.History.{StartsWith}
use Rattle.lock_book.specs.Ruled.{seen_at}
use Rattle.lock_book.proofs.Histories.{row_longer, longer_front}
use Rattle.lock_book.proofs.Joins.{gathers}
use Rattle.lock_book.proofs.gather.join_behind.Goals as goal

pub join_seat-requires : goal.join_seat-requires
join_seat-requires g c =
    let t = c.take_note.ensures in
    let n = c.make_note-note.ensures in
    let same = t.own.2 in (
      t.own.0 ∙ c.requires.own.0,
      n.same.0 ∙ c.requires.own.1,
      ap (λ m. m.1) n.same.1 ∙ c.requires.own.3,
      c.requires.own.2,
      gathers _ _ _ _ _ _ _ _ _ same.free.stage (ap (λ m. m.0.stage) n.same.1 ∙ c.requires.free.1) (omega (arith, same.free.owns)) (omega (arith, ap (λ m. m.0.from) n.same.1, c.requires.next, same.from, same.free.owns)),
    )

pub returns-clause-seen : goal.returns-clause-seen
returns-clause-seen g c = λ i.
    let t = c.take_note.ensures in
    let n = c.make_note-note.ensures in
    let met = t.met c.args.behind.me.0 n.note.1 in
    let behind = c.make_note-note.new.seat.me.0 in
    let had = subst (λ v. StartsWith (seen_at c.take_note.new.seat.me.0 i) (seen_at v i)) (sym (ap (λ m. m.0) n.same.1)) (met.begins_other i) in
    let now = ap (λ m. seen_at m.0 i) c.join_seat.ensures.2 ∙ (row_longer c.take_note.new.seat.me.0.seen behind.seen i ∙ longer_front (seen_at c.take_note.new.seat.me.0 i) (seen_at behind i) had) in
    (subst (λ m. StartsWith m (seen_at c.args.seat.now.me.0 i)) (sym now) (met.begins i), subst (λ m. StartsWith m (seen_at c.args.behind.me.0 i)) (sym now) (met.begins_other i))
