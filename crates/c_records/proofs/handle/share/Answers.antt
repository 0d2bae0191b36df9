use Rattle.std.proofs.Common.{Ok, Err, sym, subst, ◌∙◌}
use Rattle.c_records.specs.Made.{IsFurther}
use Rattle.c_records.specs.declared.shared.Share.{Share}
use Rattle.c_records.proofs.Handles.{none_of, shares, shares_made, shares_none}
use Rattle.c_records.proofs.handle.share.Goals as goal

pub returns-in-Ok : goal.returns-in-Ok
returns-in-Ok c =
    let s = c.in-Some.caller.value in
    let t = c.share-further.new.self in
    let further = subst (λ (x : Share). IsFurther c.args.words x t (Ok c.in-Ok.further)) c.deref_mut.ensures.value c.in-Ok.ensures in
    shares c.args.words c.args.from.now.value c.args.next.now.value c.put.new.self.value c.fill.new.handle.value c.fill.result s t (sym c.in-Some.ensures.caller)
    (none_of c.args.next.now.value (sym c.is_blank.ensures.blank ∙ c.if-not-is_blank.false)) c.put.ensures (shares_made c.args.words s t c.in-Ok.further c.fill.new.handle.value c.fill.result further c.fill.ensures)

pub returns-in-Err : goal.returns-in-Err
returns-in-Err c =
    let s = c.in-Some.caller.value in
    let t = c.share-further.new.self in
    let blank = none_of c.args.next.now.value (sym c.is_blank.ensures.blank ∙ c.if-not-is_blank.false) in
    let refused = subst (λ (x : Share). IsFurther c.args.words x t (Err c.in-Err.code)) c.deref_mut.ensures.value c.in-Err.ensures in
    shares c.args.words c.args.from.now.value c.args.next.now.value c.put.new.self.value c.is_blank.new.self.value c.in-Err.code s t (sym c.in-Some.ensures.caller) blank c.put.ensures
    (shares_none c.args.words s t c.is_blank.new.self.value c.in-Err.code refused (c.is_blank.ensures.same ∙ blank))
