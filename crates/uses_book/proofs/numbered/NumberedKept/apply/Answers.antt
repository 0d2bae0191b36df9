use Rattle.std.proofs.Common.{refl, sym, subst}
use Rattle.uses_book.specs.Drawers.{AnswerFits, DrawerLegal, call_of, reply_of, state_of}
use Rattle.uses_book.proofs.numbered.NumberedKept.apply.Goals as goal

pub returns-in-PutIn-clause-legal : goal.returns-in-PutIn-clause-legal
returns-in-PutIn-clause-legal g c = λ n fits. let s = c.args.self.now.drawer in
    subst (λ i. DrawerLegal g.O.Tag.tag (state_of s) (call_of i) (reply_of c.put.result) (state_of c.put.new.self)) (sym c.in-PutIn.is) (c.put.ensures.legal g.O.Tag.tag)

pub returns-in-PutIn-clause-output : goal.returns-in-PutIn-clause-output
returns-in-PutIn-clause-output g c = let s = c.args.self.now in
    subst (λ i. AnswerFits record { region = s.drawer.base.region; at = s.drawer.at; number = s.number } i c.put.result) (sym c.in-PutIn.is) (c.put.ensures.fits record { region = s.drawer.base.region; at = s.drawer.at; number = s.number } refl refl)

pub returns-in-TakeOut-clause-output : goal.returns-in-TakeOut-clause-output
returns-in-TakeOut-clause-output g c = let s = c.args.self.now in
    subst (λ i. AnswerFits record { region = s.drawer.base.region; at = s.drawer.at; number = s.number } i c.take.result) (sym c.in-TakeOut.is) (c.take.ensures.fits record { region = s.drawer.base.region; at = s.drawer.at; number = s.number } refl refl)
