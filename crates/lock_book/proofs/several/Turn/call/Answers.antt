use Rattle.std.proofs.Common.{◌∙◌, sym, ap, refl, subst, unwrap_or}
use Rattle.lock_book.specs.Ruled.{seen_at}
use Rattle.lock_book.proofs.Calls.{same_slot}
use Rattle.lock_book.proofs.Turns.{called_on, calls_next, named_so, step_next}
use Rattle.lock_book.proofs.Uses.{opens_at}
use Rattle.lock_book.proofs.several.Turn.call.Goals as goal

pub serve-requires-clause-held : goal.serve-requires-clause-held
serve-requires-clause-held g c κs within =
    let K = g.T.Kept in
    let h = c.requires.own.1 in
    let t = c.args.self.now in
    let o = opens_at c.args.shelf.now t.at h.place in
    let name = named_so c.args.shelf.now c.requires.own.0 t.seat.table_id t.seat.me t.at h o.0 o.1 in
    let f = c.requires.input o.0 o.1 in
    (h.has.0, h.has.1, subst (λ n. K.env_fits n c.args.env.now) (sym name) f.0, subst (λ q. K.in_fits (K.name h.has.0.value) q c.args.input) t.counted (subst (λ n. K.in_fits n t.seat.me.0.from c.args.input) (sym name) f.1))

pub returns-clause-own : goal.returns-clause-own
returns-clause-own g c = λ p h.
    let K = g.T.Kept in
    let t = c.args.self.now in
    let e = c.serve.ensures in
    let s = e.served in
    called_on c.args.shelf.now p t.seat.table_id t.seat.me t.at h c.serve.new.seat.me e.own.1 s.0 s.1 s.2 s.3 t.number t.counted (unwrap_or (K.chosen c.args.input c.serve.result) (K.call c.args.input)) (K.reply c.serve.result) s.4 s.5 s.7
    c.serve.new.seat.table_id e.own.0

pub returns-clause-called : goal.returns-clause-called
returns-clause-called g c =
    let K = g.T.Kept in
    let t = c.args.self.now in
    let p = c.requires.own.0 in
    let h = c.requires.own.1 in
    let e = c.serve.ensures in
    let s = e.served in
    let call = unwrap_or (K.chosen c.args.input c.serve.result) (K.call c.args.input) in
    let reply = K.reply c.serve.result in record {
      after = K.state s.1.value;
      calls = calls_next c.args.shelf.now p t.seat.table_id t.seat.me t.at h c.serve.new.seat.me e.own.1 s.0 s.1 s.2 s.3 t.number t.counted call reply s.4 s.5 s.7;
      step = step_next c.args.shelf.now p t.seat.table_id t.seat.me t.at h c.serve.new.seat.me e.own.1 s.0 s.1 s.2 s.3 t.number t.counted call reply s.4 s.5 s.7;
      begun = ap (λ v. seen_at v t.at) e.own.1;
      place = refl;
      number = ap (λ v. v.from) e.own.1;
    }

pub returns-clause-output : goal.returns-clause-output
returns-clause-output g c = λ o eo.
    let K = g.T.Kept in
    let t = c.args.self.now in
    let h = c.requires.own.1 in
    let s = c.serve.ensures.served in
    let same = same_slot t.seat.me.1 t.at h.has.0 s.0 h.has.1 s.2 in
    subst (λ n. K.out_fits n c.args.input c.serve.result) (ap (λ z. K.name z.value) (sym same) ∙ named_so c.args.shelf.now c.requires.own.0 t.seat.table_id t.seat.me t.at h o eo) s.6
