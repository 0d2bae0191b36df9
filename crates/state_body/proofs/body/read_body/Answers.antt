use Rattle.std.proofs.Common.{◌≤◌, ◌^◌, ◌++◌, ◌∙◌, ℕ, List, [], ap, arith, inl, inr, length, subst, sym}
use Rattle.std.proofs.lemmas.Result.{err_from_is_err_and}
use Rattle.state_body.specs.Body.{IsIndex, end_bytes, foot_bytes}
use Rattle.state_body.proofs.Ends.{blocks_fit, blocks_front, body_read, body_written, no_end}
use Rattle.state_body.proofs.body.read_body.Goals as goal

pub read_blocks-requires-clause-at : goal.read_blocks-requires-clause-at
read_blocks-requires-clause-at c = omega (arith, c.requires.at, c.new-index.ensures.at)

pub read_blocks-requires-clause-none : goal.read_blocks-requires-clause-none
read_blocks-requires-clause-none c = subst (λ (n : ℕ). IsIndex c.args.kinds.now n [] c.new-index.result) (sym c.new-index.ensures.at) (c.new-index.ensures.none c.args.kinds.now)

pub returns-in_err-after-clause-written : goal.returns-in_err-after-clause-written
returns-in_err-after-clause-written c = λ blocks rest is e.
    let why = err_from_is_err_and c.from_residual.result c.from_residual.ensures.1 in
    rw (why.1, why.2) (c.in_err-after.ensures.written blocks (end_bytes (foot_bytes c.args.kinds.now c.args.at blocks) ++ rest) is.each (body_written c.args.kinds.now c.args.at blocks c.args.bytes.now rest e))

pub returns-in_err-after-clause-refused : goal.returns-in_err-after-clause-refused
returns-in_err-after-clause-refused c =
    let why = err_from_is_err_and c.from_residual.result c.from_residual.ensures.1 in
    rw (why.1, why.2) (inl c.in_err-after.ensures.refused)

pub returns-in_default-clause-refused : goal.returns-in_default-clause-refused
returns-in_default-clause-refused c = inl tt

pub returns-in_err-rest-clause-written : goal.returns-in_err-rest-clause-written
returns-in_err-rest-clause-written c = λ blocks rest is e.
    let w = c.in_ok-after.ensures.written blocks (end_bytes (foot_bytes c.args.kinds.now c.args.at blocks) ++ rest) is.each (body_written c.args.kinds.now c.args.at blocks c.args.bytes.now rest e) in
    let index = subst (λ (n : ℕ). IsIndex c.args.kinds.now n blocks c.read_blocks.new.index) c.new-index.ensures.at w.1 in
    let same = c.as_slice.ensures.value ∙ c.in-Ok.ensures c.args.kinds.now c.args.at blocks index in
    absurd (c.in_err-rest.ensures.written rest (subst (λ (bs : List ℕ). length bs ≤ 2 ^ 28) (sym same) is.short) (w.0 ∙ ap (λ (bs : List ℕ). end_bytes bs ++ rest) (sym same)))

pub returns-in_err-rest-clause-refused : goal.returns-in_err-rest-clause-refused
returns-in_err-rest-clause-refused c =
    let read = c.in_ok-after.ensures.read in
    let index = subst (λ (n : ℕ). IsIndex c.args.kinds.now n read.0 c.read_blocks.new.index) c.new-index.ensures.at read.3 in
    let same = c.as_slice.ensures.value ∙ c.in-Ok.ensures c.args.kinds.now c.args.at read.0 index in
    let why = err_from_is_err_and c.from_residual-in_err-rest.result c.from_residual-in_err-rest.ensures.1 in
    rw (why.1, why.2) (inr (no_end c.args.columns c.args.kinds.now c.args.at read.0 c.args.bytes.now c.in_ok-after.after.now c.as_slice.result.now _ read.1 read.2 same c.in_err-rest.ensures.refused))

pub overflow_sub-size : goal.overflow_sub-size
overflow_sub-size c =
    let read = c.in_ok-after.ensures.read in
    let index = subst (λ (n : ℕ). IsIndex c.args.kinds.now n read.0 c.read_blocks.new.index) c.new-index.ensures.at read.3 in
    let fit = blocks_fit c.args.kinds.now c.args.at read.0 c.read_blocks.new.index c.args.bytes.now c.in_ok-after.after.now index read.2 in
    omega (arith, fit.0)

pub returns-clause-read : goal.returns-clause-read
returns-clause-read c =
    let read = c.in_ok-after.ensures.read in
    let end = c.in_ok-rest.ensures.read in
    let kinds = c.args.kinds.now in
    let at = c.args.at in
    let index = subst (λ (n : ℕ). IsIndex kinds n read.0 c.read_blocks.new.index) c.new-index.ensures.at read.3 in
    let same = c.as_slice.ensures.value ∙ c.in-Ok.ensures kinds at read.0 index in (
      read.0,
      record { each = read.1; short = subst (λ (bs : List ℕ). length bs ≤ 2 ^ 28) same end.1 },
      body_read kinds at read.0 c.args.bytes.now c.in_ok-after.after.now c.in_ok-rest.rest.now c.as_slice.result.now read.2 end.0 same,
      blocks_front kinds at read.0 c.read_blocks.new.index c.args.bytes.now c.in_ok-after.after.now index read.2,
      index.groups_many,
    )

pub returns-clause-written : goal.returns-clause-written
returns-clause-written c = λ blocks rest is e.
    let kinds = c.args.kinds.now in
    let at = c.args.at in
    let whole = body_written kinds at blocks c.args.bytes.now rest e in
    let w = c.in_ok-after.ensures.written blocks (end_bytes (foot_bytes kinds at blocks) ++ rest) is.each whole in
    let index = subst (λ (n : ℕ). IsIndex kinds n blocks c.read_blocks.new.index) c.new-index.ensures.at w.1 in
    let same = c.as_slice.ensures.value ∙ c.in-Ok.ensures kinds at blocks index in (
      c.in_ok-rest.ensures.written rest (subst (λ (bs : List ℕ). length bs ≤ 2 ^ 28) (sym same) is.short) (w.0 ∙ ap (λ (bs : List ℕ). end_bytes bs ++ rest) (sym same)),
      blocks_front kinds at blocks c.read_blocks.new.index c.args.bytes.now (end_bytes (foot_bytes kinds at blocks) ++ rest) index whole,
      index.groups_many,
    )
