use Rattle.std.proofs.Common.{◌∙◌, ap, length}
use Rattle.lock_book.specs.Ruled.{informed}
use Rattle.lock_book.proofs.Meets.{looks}
use Rattle.lock_book.proofs.Joins.{tells}
use Rattle.lock_book.proofs.Meetings.{met, met_same, met_stands}
use Rattle.lock_book.proofs.meet.take_note.Goals as goal

pub join_seat-requires : goal.join_seat-requires
join_seat-requires g c = let n = c.requires.note in
    (c.requires.own.0, c.requires.own.1, ap (λ m. m.1) n.1, c.requires.own.2, tells _ _ _ _ _ _ _ _ _ c.requires.free.stage (ap (λ m. m.0.stage) n.1) (ap (λ m. length m.0.owns) n.1))

pub load-requires : goal.load-requires
load-requires g c = (c.join_seat.ensures.0 ∙ c.requires.own.0, c.requires.own.2, looks _ _ _ _ _ _ _ _ _ (ap (λ m. m.0.stage) c.join_seat.ensures.2 ∙ c.requires.free.stage))

pub returns-clause-own : goal.returns-clause-own
returns-clause-own g c = let n = c.requires.note in let K = g.T.Kept in (
  c.load.ensures.0 ∙ c.join_seat.ensures.0,
  c.load.ensures.2.0 ∙ ap (λ m. m.1) c.join_seat.ensures.2,
  met_same (λ x. K.name x.value) (λ x. K.state x.value) K.legal c.args.seat.now.me.0 n.0 c.join_seat.new.seat.me.0 c.load.new.seat.me.0 (ap (λ m. m.0) c.join_seat.ensures.2 ∙ ap (λ m. informed c.args.seat.now.me.0 m.0) n.1) c.load.ensures.2.1 c.requires.free.owns c.requires.free.stage,
)

pub returns-clause-owns : goal.returns-clause-owns
returns-clause-owns g c = ap (λ v. v.owns) c.load.ensures.2.1.view ∙ ap (λ m. m.0.owns) c.join_seat.ensures.2

pub returns-clause-met : goal.returns-clause-met
returns-clause-met g c = λ w e. let K = g.T.Kept in
    met (λ x. K.name x.value) (λ x. K.state x.value) K.legal c.args.seat.now.me.0 w c.join_seat.new.seat.me.0 c.load.new.seat.me.0 (ap (λ m. m.0) c.join_seat.ensures.2 ∙ ap (λ m. informed c.args.seat.now.me.0 m.0) e) c.load.ensures.2.1 c.requires.free.owns

pub returns-clause-stands : goal.returns-clause-stands
returns-clause-stands g c = λ below. let n = c.requires.note in let K = g.T.Kept in
    met_stands (λ x. K.name x.value) (λ x. K.state x.value) K.legal c.args.seat.now.me.0 n.0 c.join_seat.new.seat.me.0 c.load.new.seat.me.0 (ap (λ m. m.0) c.join_seat.ensures.2 ∙ ap (λ m. informed c.args.seat.now.me.0 m.0) n.1) c.load.ensures.2.1 c.requires.free.owns below
