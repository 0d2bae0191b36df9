use Rattle.std.proofs.Common.{◌∙◌, Bool, Ok, ap, length, map, string_bytes, sym}
use Rattle.std.proofs.lemmas.Bool.{eqb-true}
use Rattle.state_plan.proofs.Commands.{all_put, none_put, not_empty, not_texts, not_utf8, one_put}
use Rattle.state_plan.proofs.words.push_filters.Goals as goal

pub loop-init : goal.loop-init
loop-init c = none_put c.args.texts.now (map string_bytes c.args.command.now.items)

pub returns-then-is_empty-clause-put : goal.returns-then-is_empty-clause-put
returns-then-is_empty-clause-put c = λ _.
    let none = eqb-true (length c.loop.rest.now) 0 (sym c.is_empty.ensures ∙ c.if-is_empty.true) in
    let a = all_put c.args.texts.now c.loop.rest.now (map string_bytes c.args.command.now.items) (map string_bytes c.loop.command.items) c.loop.counter c.loop.invariant none in
    (a.filters, a.is, a.short, a.put)

pub returns-in_default-clause-no_texts : goal.returns-in_default-clause-no_texts
returns-in_default-clause-no_texts c = λ _ filters e short utf8.
    let some = not_empty c.loop.rest.now c.is_empty.result c.is_empty.ensures c.if-is_empty.false in
    not_texts c.args.texts.now c.loop.rest.now (map string_bytes c.args.command.now.items) (map string_bytes c.loop.command.items) c.loop.counter c.loop.invariant some c.in_default.ensures.written filters e short utf8

pub returns-then-not-is_text-clause-no_texts : goal.returns-then-not-is_text-clause-no_texts
returns-then-not-is_text-clause-no_texts c = λ _ filters e short utf8.
    let some = not_empty c.loop.rest.now c.is_empty.result c.is_empty.ensures c.if-is_empty.false in
    not_utf8 c.args.texts.now c.loop.rest.now c.in-Some.text.now c.in-Some.after.now (map string_bytes c.args.command.now.items) (map string_bytes c.loop.command.items) c.loop.counter c.loop.invariant some c.in-Some.ensures.written
    (c.in_ok-is_text.ensures.no_text (ap (λ (b : Bool). Ok b) c.if-not-is_text.true)) filters e short utf8

pub loop-preserved : goal.loop-preserved
loop-preserved c =
    one_put c.args.texts.now c.loop.rest.now c.in-Some.text.now c.in-Some.after.now (map string_bytes c.args.command.now.items) (map string_bytes c.loop.command.items) _ c.loop.counter c.loop.invariant c.in-Some.ensures.read.0 c.in-Some.ensures.read.1
    c.in-Some.ensures.written (c.in_ok-is_text.ensures.put (ap (λ (b : Bool). Ok b) c.if-not-is_text.false))
