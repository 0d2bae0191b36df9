use Rattle.std.proofs.Common.{◌∙◌, sym, ap, subst, unwrap_or}
use Rattle.lock_book.specs.History.{made_of}
use Rattle.lock_book.proofs.Totals.{there}
use Rattle.lock_book.proofs.Calls.{slot_taken, slot_known, fits_end, name_is, whole, whole_stands, same_pass}
use Rattle.lock_book.proofs.trying.try_turn.Goals as goal

pub begin-requires-clause-held : goal.begin-requires-clause-held
begin-requires-clause-held g c κs within =
    let K = g.T.Kept in
    let d = (c.try_once.ensures.taken c.if-not-try_once.false) in
    (d.slot, slot_taken (λ x. K.name x.value) (λ x. K.state x.value) K.legal c.args.at _ _ c.requires.own.1 d)

pub serve-output-requires-clause-held : goal.serve-output-requires-clause-held
serve-output-requires-clause-held g c κs within =
    let K = g.T.Kept in
    let d = (c.try_once.ensures.taken c.if-not-try_once.false) in
    let b = c.begin.ensures.begun in
    let p = there c.args.seat.now.me.0.opens c.args.at c.requires.place.0 in
    let k = slot_known (λ x. K.name x.value) (λ x. K.state x.value) K.legal c.args.at _ _ c.requires.own.1 d b.0 b.2 p.0 p.1 in
    let name = ap K.name b.4 ∙ k.0 in
    let f = c.requires.input p.0 p.1 in (
      b.1,
      b.3,
      subst (λ n. K.env_fits n c.args.env.now) (sym name) f.0,
      subst (λ q. K.in_fits (K.name b.1.value) q c.args.input) c.requires.own.2 (subst (λ n. K.in_fits n c.args.seat.now.me.0.from c.args.input) (sym name) f.1),
    )

pub free_value-requires-clause-holding : goal.free_value-requires-clause-holding
free_value-requires-clause-holding g c κs within = ap (λ v. v.stage) (c.serve-output.ensures.own.1 ∙ c.begin.ensures.own.1) ∙ ap (λ v. v.stage) (c.try_once.ensures.taken c.if-not-try_once.false).view

pub free_value-requires-clause-held : goal.free_value-requires-clause-held
free_value-requires-clause-held g c κs within =
    let K = g.T.Kept in
    let d = (c.try_once.ensures.taken c.if-not-try_once.false) in
    let b = c.begin.ensures.begun in
    let s = c.serve-output.ensures.served in
    let call = unwrap_or (K.chosen c.args.input c.serve-output.result) (K.call c.args.input) in
    let reply = K.reply c.serve-output.result in (
      s.1,
      s.3,
      fits_end (λ x. K.name x.value) (λ x. K.state x.value) K.legal c.args.at _ _ c.requires.own.1 d (λ x. made_of x.made) c.begin.new.seat.me c.serve-output.new.seat.me
          c.begin.ensures.own.1 c.serve-output.ensures.own.1 c.args.number c.requires.own.2 b.0 b.1 s.0 s.1 b.2 b.3 s.2 (ap K.name b.4) (ap K.state b.4) b.5 call reply s.4 s.5 s.7,
    )

pub returns-clause-own : goal.returns-clause-own
returns-clause-own g c =
    let s = c.serve-output.ensures.served in
    (c.free_value.ensures.own ∙ (c.serve-output.ensures.own.0 ∙ (c.begin.ensures.own.0 ∙ c.try_once.ensures.own)), (c.free_value.ensures.added s.1 s.3).0)

pub returns-clause-same : goal.returns-clause-same
returns-clause-same g c =
    let K = g.T.Kept in
    let d = (c.try_once.ensures.taken c.if-not-try_once.false) in
    let b = c.begin.ensures.begun in
    let s = c.serve-output.ensures.served in
    let call = unwrap_or (K.chosen c.args.input c.serve-output.result) (K.call c.args.input) in
    let reply = K.reply c.serve-output.result in
    same_pass (λ x. K.name x.value) (λ x. K.state x.value) K.legal c.args.at _ _ c.requires.own.1 d (λ x. made_of x.made) c.begin.new.seat.me c.serve-output.new.seat.me
    c.begin.ensures.own.1 c.serve-output.ensures.own.1 c.args.number c.requires.own.2 b.0 b.1 s.0 s.1 b.2 b.3 s.2 (ap K.name b.4) (ap K.state b.4) b.5 call reply s.4 s.5 s.7 c.free_value.new.seat.me.0 (c.free_value.ensures.added s.1 s.3).1

pub returns-clause-called : goal.returns-clause-called
returns-clause-called g c =
    let K = g.T.Kept in
    let d = (c.try_once.ensures.taken c.if-not-try_once.false) in
    let b = c.begin.ensures.begun in
    let s = c.serve-output.ensures.served in
    let call = unwrap_or (K.chosen c.args.input c.serve-output.result) (K.call c.args.input) in
    let reply = K.reply c.serve-output.result in
    whole (λ x. K.name x.value) (λ x. K.state x.value) K.legal c.args.at _ _ c.requires.own.1 d (λ x. made_of x.made) c.begin.new.seat.me c.serve-output.new.seat.me
    c.begin.ensures.own.1 c.serve-output.ensures.own.1 c.args.number c.requires.own.2 b.0 b.1 s.0 s.1 b.2 b.3 s.2 (ap K.name b.4) (ap K.state b.4) b.5 call reply s.4 s.5 s.7 c.free_value.new.seat.me.0 (c.free_value.ensures.added s.1 s.3).1

pub returns-clause-stands : goal.returns-clause-stands
returns-clause-stands g c =
    let K = g.T.Kept in
    let d = (c.try_once.ensures.taken c.if-not-try_once.false) in
    let b = c.begin.ensures.begun in
    let s = c.serve-output.ensures.served in
    let call = unwrap_or (K.chosen c.args.input c.serve-output.result) (K.call c.args.input) in
    let reply = K.reply c.serve-output.result in
    whole_stands (λ x. K.name x.value) (λ x. K.state x.value) K.legal c.args.at _ _ c.requires.own.1 d (λ x. made_of x.made) c.begin.new.seat.me c.serve-output.new.seat.me
    c.begin.ensures.own.1 c.serve-output.ensures.own.1 c.args.number c.requires.own.2 b.0 b.1 s.0 s.1 b.2 b.3 s.2 (ap K.name b.4) (ap K.state b.4) b.5 call reply s.4 s.5 s.7 c.free_value.new.seat.me.0 (c.free_value.ensures.added s.1 s.3).1 c.requires.stands

pub returns-clause-output : goal.returns-clause-output
returns-clause-output g c = λ o eo.
    let K = g.T.Kept in
    let d = (c.try_once.ensures.taken c.if-not-try_once.false) in
    let b = c.begin.ensures.begun in
    let s = c.serve-output.ensures.served in
    let call = unwrap_or (K.chosen c.args.input c.serve-output.result) (K.call c.args.input) in
    let reply = K.reply c.serve-output.result in
    let name = name_is (λ x. K.name x.value) (λ x. K.state x.value) K.legal c.args.at _ _ c.requires.own.1 d (λ x. made_of x.made) c.begin.new.seat.me c.serve-output.new.seat.me
    c.begin.ensures.own.1 c.serve-output.ensures.own.1 c.args.number c.requires.own.2 b.0 b.1 s.0 s.1 b.2 b.3 s.2 (ap K.name b.4) (ap K.state b.4) b.5 call reply s.4 s.5 s.7 o eo in
    subst (λ n. K.out_fits n c.args.input c.serve-output.result) name s.6

pub returns-clause-free : goal.returns-clause-free
returns-clause-free g c =
    let d = (c.try_once.ensures.taken c.if-not-try_once.false) in
    let s = c.serve-output.ensures.served in
    ap (λ v. v.misses) (c.free_value.ensures.added s.1 s.3).1 ∙ (ap (λ v. v.misses) (c.serve-output.ensures.own.1 ∙ c.begin.ensures.own.1) ∙ ap (λ v. v.misses) d.view)
