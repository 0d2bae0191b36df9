use Rattle.std.proofs.Common.{FitsSigned, arith, of_z, sym, to_z, w64}
use Rattle.std.proofs.lemmas.Int.{to_z-of_z}
use Rattle.plan_descriptor.proofs.Allowed.{allowed_with_filter}
use Rattle.plan_descriptor.proofs.Filters.{no_filter, some_filter, some_fits, whole}
use Rattle.plan_descriptor.specs.Descriptor.{relation_word}
use Rattle.plan_descriptor.proofs.reading.filter.Goals as goal

pub relation_of-requires : goal.relation_of-requires
relation_of-requires c = (allowed_with_filter c.args.words.now (whole c.args.words.now c.requires.size (omega arith)) c.requires.allowed).relation

pub returns-in_err-op-clause-words : goal.returns-in_err-op-clause-words
returns-in_err-op-clause-words c = λ size k h.
    rw c.from_residual.ensures (no_filter c.args.words.now (allowed_with_filter c.args.words.now size c.requires.allowed) (sym c.in_err-op.ensures) k h)

pub column_of-column-requires : goal.column_of-column-requires
column_of-column-requires c = (allowed_with_filter c.args.words.now (whole c.args.words.now c.requires.size (omega arith)) c.requires.allowed).column

pub returns-clause-words : goal.returns-clause-words
returns-clause-words c = λ size k h.
    some_filter c.args.words.now (relation_word c.in_ok-op.op) c.column_of-column.result.0 c.column_of-column.result.1 c.cast_signed.result (allowed_with_filter c.args.words.now size c.requires.allowed) c.in_ok-op.ensures
    c.column_of-column.ensures.word c.cast_signed.ensures (record { sfits = c.cast_signed.type_inv }) (c.type_inv.words 30).fits k h

pub returns-clause-fits : goal.returns-clause-fits
returns-clause-fits c =
    let fits : FitsSigned w64 c.cast_signed.result = record { sfits = c.cast_signed.type_inv } in
    some_fits (record { column = c.column_of-column.result.0; op = c.in_ok-op.op; value = to_z w64 (of_z w64 c.cast_signed.result); places = c.column_of-column.result.1 })
    c.column_of-column.ensures.narrow c.column_of-column.ensures.places (rw (to_z-of_z w64 c.cast_signed.result fits) fits)
