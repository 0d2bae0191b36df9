use Rattle.std.proofs.Common.{◌∙◌, sym, ap}
use Rattle.word_map.specs.WordMap.{at as word_at}
use Rattle.lock_book.proofs.Uses.{lone_call, opens_at}
use Rattle.uses_book.proofs.Sums.{has_some}
use Rattle.uses_book.proofs.Drawn.{gives_out, same_words, stores}
use Rattle.uses_book.proofs.round.round_trip.Goals as goal

pub unreachable-requires : goal.unreachable-requires
unreachable-requires g c =
    let o = opens_at c.args.shelf.now 0 c.requires.own.1 in
    let e = c.call.ensures in
    let l = lone_call c.args.shelf.now c.args.pass.now c.call.new.pass 0 _ _ c.requires.lone c.requires.own.0 e.own.0 e.own.1 e.called o.0 o.1 in
    let s = stores g.O.Tag.tag _ _ c.call.result (c.requires.empty o.0 o.1) l.0 in
    c.in_default.not-Stored s.0 s.1

pub unreachable-requires-in_default-call : goal.unreachable-requires-in_default-call
unreachable-requires-in_default-call g c =
    let o = opens_at c.args.shelf.now 0 c.requires.own.1 in
    let e = c.in-Stored.ensures in
    let f = c.call-2.ensures in
    let l = lone_call c.args.shelf.now c.args.pass.now c.call.new.pass 0 _ _ c.requires.lone c.requires.own.0 e.own.0 e.own.1 e.called o.0 o.1 in
    let m = lone_call c.args.shelf.now c.call.new.pass c.call-2.new.pass 0 _ _ c.requires.lone e.own.0 f.own.0 f.own.1 f.called o.0 o.1 in
    let s = gives_out _ _ _ _ c.call-2.result (l.1 ∙ l.0.1) m.0 in
    c.in_default-call.not-Taken s.0 _ s.1 s.2

pub load-word-requires-clause-here : goal.load-word-requires-clause-here
load-word-requires-clause-here g c = let o = opens_at c.args.shelf.now 0 c.requires.own.1 in (c.in-Taken.ensures.output o.0 o.1).0 ∙ sym (c.requires.name o.0 o.1).0

pub load-word-requires-clause-owns : goal.load-word-requires-clause-owns
load-word-requires-clause-owns g c =
    let o = opens_at c.args.shelf.now 0 c.requires.own.1 in
    has_some _ _ (ap (word_at c.in-Taken.back.words) (c.requires.name o.0 o.1).1 ∙ (c.in-Taken.ensures.output o.0 o.1).1)

pub returns-clause-region : goal.returns-clause-region
returns-clause-region g c =
    let o = opens_at c.args.shelf.now 0 c.requires.own.1 in
    ap (λ p. p.region) c.load-word.ensures.same ∙ ((c.in-Taken.ensures.output o.0 o.1).0 ∙ sym (c.requires.name o.0 o.1).0)

pub returns-clause-same_word : goal.returns-clause-same_word
returns-clause-same_word g c =
    let o = opens_at c.args.shelf.now 0 c.requires.own.1 in
    let at = (c.requires.name o.0 o.1).1 in
    let e = c.in-Stored.ensures in
    let f = c.in-Taken.ensures in
    let l = lone_call c.args.shelf.now c.args.pass.now c.call.new.pass 0 _ _ c.requires.lone c.requires.own.0 e.own.0 e.own.1 e.called o.0 o.1 in
    let m = lone_call c.args.shelf.now c.call.new.pass c.call-2.new.pass 0 _ _ c.requires.lone e.own.0 f.own.0 f.own.1 f.called o.0 o.1 in
    same_words _ _ _ _ _ _ _ (ap (word_at c.args.part.words) at ∙ e.output o.0 o.1) l.0.1 l.1 m.0.0 (ap (word_at c.in-Taken.back.words) at ∙ (f.output o.0 o.1).1) c.load-word.ensures.found
