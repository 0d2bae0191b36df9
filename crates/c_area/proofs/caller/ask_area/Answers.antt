use Rattle.std.proofs.Common.{◌≡◌, ℕ, ◌<◌, IfOk, sym, ap, subst, ◌∙◌, arith}
use mathlib.Core.Option.{some}
use lib.ListN.{get_elem?}
use Rattle.std_alloc.specs.Arc.{arc_value}
use Rattle.lock_book.specs.Shown.{Belongs, Called, count_of, opens_of}
use Rattle.c_area.specs.Asked.{AnswerFits, call_of, reply_of}
use Rattle.c_area.specs.States.{AreaState}
use Rattle.c_area.specs.declared.histories.AreaName.{AreaName}
use Rattle.c_area.specs.declared.shared.Shared.{Shared}
use Rattle.c_area.proofs.Asks.{fits_if, may_ask}
use Rattle.c_area.proofs.caller.ask_area.Goals as goal

pub try_call-requires-clause-own : goal.try_call-requires-clause-own
try_call-requires-clause-own c κs = subst (λ (x : Shared). Belongs x.shelf c.args.share.now.pass) (sym c.deref.ensures) c.requires.own

pub try_call-requires-clause-place : goal.try_call-requires-clause-place
try_call-requires-clause-place c κs = subst (λ (x : Shared). 0 < count_of x.shelf) (sym c.deref.ensures) (let e = c.requires.shared.count in omega arith)

pub try_call-requires-clause-input : goal.try_call-requires-clause-input
try_call-requires-clause-input c κs = λ o at.
    let may = may_ask (arc_value c.args.share.now.shared) c.requires.shared c.args.ask c.requires.ask o (subst (λ (x : Shared). get_elem? (opens_of x.shelf) 0 ≡ some o) c.deref.ensures at) in
    (ap (λ (x : Shared). x.region) c.deref-2.ensures ∙ may.0, may.1)

pub returns-clause-own : goal.returns-clause-own
returns-clause-own c = (subst (λ (x : Shared). Belongs x.shelf c.try_call.new.pass) c.deref.ensures c.try_call.ensures.own.0, c.try_call.ensures.own.1)

pub returns-clause-made : goal.returns-clause-made
returns-clause-made c = subst (λ (x : Shared). IfOk c.try_call.result (λ a. Called x.shelf c.args.share.now.pass c.try_call.new.pass 0 (call_of c.args.ask) (reply_of a))) c.deref.ensures c.try_call.ensures.called

pub returns-clause-fits : goal.returns-clause-fits
returns-clause-fits c = fits_if (arc_value c.args.share.now.shared) c.requires.shared c.args.ask c.try_call.result
    (subst (λ (x : Shared). IfOk c.try_call.result (λ a. (o : AreaName × AreaState) → get_elem? (opens_of x.shelf) 0 ≡ some o → AnswerFits o.0 c.args.ask a)) c.deref.ensures c.try_call.ensures.output)
