use Rattle.std.proofs.Common.{arith, ◌∙◌, sym, ap, subst, zero-le, length, ◌≤◌}
use Rattle.std.specs.Mem.Slots.{slots_len}
use lib.ListN.{get_elem?}
use Rattle.lock_book.specs.History.{last_of}
use Rattle.lock_book.specs.Ruled.{AllSeen, seen_at}
use Rattle.lock_book.proofs.Meets.{notes}
use Rattle.lock_book.proofs.Closing.{final}
use Rattle.lock_book.proofs.shelf.Shelf.finish.Goals as goal

pub split_seat-note-requires : goal.split_seat-note-requires
split_seat-note-requires g c = let own = c.requires.own in (own.0, omega (arith, c.args.self.sized), notes _ _ _ _ _ _ _ c.requires.view.1)

pub invariant_of-result : goal.invariant_of-result
invariant_of-result g c =
    let K = g.T.Kept in
    let e = c.split_seat-note.ensures in
    let w = c.requires in
    let eV = ap (λ m. m.0) e.2 in
    let eN = ap (λ m. m.0) e.4 in
    let counts = c.close_with-slots.ensures.counts in
    let sized = c.args.self.sized in
    let fin = final (λ x. K.name x.value) (λ x. K.state x.value) K.legal c.args.self.board.shared.key.0.value c.args.self.board.shared.key.1
    c.split_seat-note.new.seat.id c.split_seat-note.new.seat.me.0 _ _ (ap (λ v. v.from) eV ∙ w.view.0)
    (ap (λ v. length v.owns) eV ∙ (w.all ∙ sym c.args.self.called_by)) (ap (λ v. v.stage) eV ∙ w.view.1) c.close_with-slots.ensures.values.2 in record {
      inside = (let h : c.args.self.count ≤ slots_len c.close_with-slots.result.slots = omega (arith, counts.1, sized.1) in h, counts.1 ∙ (sized.1 ∙ (sym sized.2 ∙ sym (ap (λ v. length v.opens) eN ∙ ap length w.view.2))));
      there = λ k lt. c.close_with-slots.ensures.values.1 k zero-le (omega (arith, counts.1, sized.1));
      gone = λ k hi lo. absurd (omega (arith, counts.1, sized.1));
      last = λ k x o ex eo.
          let f = fin.1 k x o ex (ap (λ l. get_elem? l k) (sym (ap (λ v. v.opens) eN ∙ w.view.2)) ∙ eo) in
          (f.0, f.1 ∙ ap (λ l. last_of o.1 l) (ap (λ v. seen_at v k) eV ∙ sym (ap (λ v. seen_at v k) eN)));
    }

pub returns-clause-all_seen : goal.returns-clause-all_seen
returns-clause-all_seen g c =
    let K = g.T.Kept in
    let e = c.split_seat-note.ensures in
    let w = c.requires in
    let eV = ap (λ m. m.0) e.2 in
    let fin = final (λ x. K.name x.value) (λ x. K.state x.value) K.legal c.args.self.board.shared.key.0.value c.args.self.board.shared.key.1
    c.split_seat-note.new.seat.id c.split_seat-note.new.seat.me.0 _ _ (ap (λ v. v.from) eV ∙ w.view.0)
    (ap (λ v. length v.owns) eV ∙ (w.all ∙ sym c.args.self.called_by)) (ap (λ v. v.stage) eV ∙ w.view.1) c.close_with-slots.ensures.values.2 in
    subst (λ v. AllSeen K.legal c.args.self.board.shared.key.0.value c.args.self.callers v) eV
    (subst (λ n. AllSeen K.legal c.args.self.board.shared.key.0.value n c.split_seat-note.new.seat.me.0) c.args.self.called_by fin.0)

pub returns-clause-seen : goal.returns-clause-seen
returns-clause-seen g c = λ i. let eN = ap (λ m. m.0) c.split_seat-note.ensures.4 in ap (λ v. seen_at v i) eN
