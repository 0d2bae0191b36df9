use Rattle.std.proofs.Common.{◌∙◌, ◌++◌, [], ℕ, List, append_assoc, string_bytes}
use Rattle.std.specs.Prelude.{codes, slice_index_or}
use Rattle.shown_text.specs.Shown.{shown_text}
use Rattle.shown_words.specs.Taking.{taken_as}
use Rattle.shown_words.specs.Telling.{values_of, values_text}
use Rattle.shown_words.proofs.wrong.put_wrong.Goals as goal

pub returns-in_ok-push_str-in-Missing-2 : goal.returns-in_ok-push_str-in-Missing-2
returns-in_ok-push_str-in-Missing-2 c =
    rw (c.in_ok-push_str-in-Missing-2.ensures.bytes, c.in_ok-push_str-in-Missing.ensures.bytes, c.values_text.ensures, c.in-Missing.is)
    (append_assoc (string_bytes c.args.text.now) _ _)

pub returns-in_ok-push_str-in-Value-2 : goal.returns-in_ok-push_str-in-Value-2
returns-in_ok-push_str-in-Value-2 c =
    let old = string_bytes c.args.text.now in
    let shown = shown_text (slice_index_or (values_of (taken_as c.args.taken.now) c.in-Value.name) 0 []) in
    let between : List ℕ = codes " is not understood: " in
    let values = values_text c.in-Value.name in
    rw (c.in_ok-push_str-in-Value-2.ensures.bytes, c.in_ok-push_str-in-Value.ensures.bytes, c.in_ok-put_shown-in-Value.ensures, c.first_value.ensures, c.values_text-in-Value.ensures, c.in-Value.is)
    (append_assoc (old ++ shown) between values ∙ append_assoc old shown (between ++ values))
