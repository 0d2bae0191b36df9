use Rattle.std.proofs.Common.{◌≡◌, Bool, ap, bytes_eq, false, lit<, sym}
use Rattle.std.specs.List.{after_first, before_first, list_any}
use Rattle.std.specs.Prelude.{None, Some, if◌then◌else◌}
use Rattle.shown_words.specs.Taking.{is_equals}
use Rattle.shown_words.proofs.Given.{none-found}
use Rattle.shown_words.proofs.columns.value_in.Goals as goal

pub returns-in-None : goal.returns-in-None
returns-in-None c =
    let word = c.args.word.now in
    let plain : list_any is_equals word ≡ false = none-found is_equals word (c.in-None.ensures.byte (lit< tt) (λ w o h. h)) in
    sym (ap (λ (b : Bool). if b then (if bytes_eq (before_first is_equals word) c.args.option.now then Some (after_first is_equals word) else None) else None) plain)
