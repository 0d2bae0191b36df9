use Rattle.std.proofs.Common.{◌∙◌, sym, ap}
use Rattle.lock_book.specs.Ruled.{seen_at, view_of}
use Rattle.lock_book.proofs.Uses.{is_here}
use Rattle.lock_book.proofs.Meetings.{met_alike, met_as}
use Rattle.lock_book.proofs.shelf.Pass.meet.Goals as goal

pub lend-this-requires-clause-here : goal.lend-this-requires-clause-here
lend-this-requires-clause-here g c κs within = is_here c.args.shelf.now c.args.self.now c.requires.own.0

pub lend-that-requires-clause-here : goal.lend-that-requires-clause-here
lend-that-requires-clause-here g c κs within = is_here c.args.shelf.now c.args.other.now c.requires.own.1

pub returns-clause-this : goal.returns-clause-this
returns-clause-this g c = met_as _ _ _ _ _ _ c.lend-this.ensures.1 c.lend-that.ensures.1 (sym (ap view_of c.give_back.ensures.1)) c.exchange_notes.ensures.this

pub returns-clause-that : goal.returns-clause-that
returns-clause-that g c = met_as _ _ _ _ _ _ c.lend-that.ensures.1 c.lend-this.ensures.1 (sym (ap view_of c.give_back-2.ensures.1)) c.exchange_notes.ensures.that

pub returns-clause-alike : goal.returns-clause-alike
returns-clause-alike g c = λ i. let e = c.exchange_notes.ensures in
    ap (λ v. seen_at v i) (ap view_of c.give_back.ensures.1)
    ∙ (met_alike (seen_at c.lend-this.result.me.0) (seen_at c.exchange_notes.new.this.me.0) (seen_at c.lend-that.result.me.0) (seen_at c.exchange_notes.new.that.me.0) e.this e.that i
    ∙ sym (ap (λ v. seen_at v i) (ap view_of c.give_back-2.ensures.1)))
