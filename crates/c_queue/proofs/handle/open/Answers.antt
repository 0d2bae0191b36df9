use Rattle.std.proofs.Common.{◌≡◌, Option, None, Some, is_none, true, sym, ap, ◌∙◌, subst, refl}
use Rattle.std.specs.Prelude.{T}
use Rattle.c_queue.specs.declared.end.End.{End}
use Rattle.c_queue.proofs.handle.open.Goals as goal

none_of : (o : Option End) → is_none o ≡ true → o ≡ None
none_of None e = refl
none_of (Some x) e = absurd (subst T (sym e) tt)

pub returns-in-Ok : goal.returns-in-Ok
returns-in-Ok c =
    let made = c.in-Ok.ensures.made in (
      none_of c.args.tx.now.value (sym c.is_blank.ensures.blank ∙ c.if-not-is_blank.false),
      none_of c.args.rx.now.value (sym c.is_blank-else-not-is_blank.ensures.blank ∙ c.if-not-is_blank-2.false),
      (made.0, made.1, c.put.ensures ∙ ap Some made.2, c.put-in-Ok.ensures ∙ ap Some made.3, made.4),
    )
