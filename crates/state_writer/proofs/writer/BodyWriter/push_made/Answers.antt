use Rattle.std.proofs.Common.{◌<◌, ◌≤◌, ◌^◌, ◌++◌, ◌∙◌, ◌∷◌, [], ℕ, arith, leb-false, leb-true, length, sym}
use Rattle.std.proofs.lemmas.Result.{err_from_is_err_and}
use Rattle.state_writer.specs.Writing.{cut}
use Rattle.state_writer.proofs.Cuts.{goes_full, goes_open, took_made}
use Rattle.state_writer.proofs.Long.{begun_fits, full_fits}
use Rattle.state_writer.proofs.writer.BodyWriter.push_made.Goals as goal

too_many : (n : ℕ) → n ≤ 2 ^ 62 → 2 ^ 62 < n → ⊥
too_many n few many = omega (arith, few, many)

pub returns-in_err-take_made-clause-long : goal.returns-in_err-take_made-clause-long
returns-in_err-take_made-clause-long c =
    let why = err_from_is_err_and c.from_residual.result c.from_residual.ensures.1 in
    rw (why.1, why.2) (λ kinds start groups written g has same made e fit. too_many c.args.self.now.groups (begun_fits kinds start groups g written c.args.self.now has fit) (c.in_err-take_made.ensures.long e))

pub returns-then-not-is_full-clause-taken : goal.returns-then-not-is_full-clause-taken
returns-then-not-is_full-clause-taken c = λ kinds start groups written g has same made.
    let did = c.in_ok-take_made.ensures in
    let held = c.take_made.new.self in
    let t = took_made kinds start (cut kinds groups) written c.args.self.now held c.args.key.now c.args.values.now g has same made did.index did.block did.groups did.first did.later in
    let less = leb-false 60_000 (length held.block.items) (sym c.is_full.ensures ∙ c.if-not-is_full.true) in
    goes_open kinds start groups g written c.args.out.now.items held t (omega (arith, less))

pub returns-in_err-close-clause-long : goal.returns-in_err-close-clause-long
returns-in_err-close-clause-long c =
    let did = c.in_ok-take_made.ensures in
    let held = c.take_made.new.self in
    let why = err_from_is_err_and c.from_residual-in_err-close.result c.from_residual-in_err-close.ensures.1 in
    rw (why.1, why.2) (λ kinds start groups written g has same made e fit.
    let t = took_made kinds start (cut kinds groups) written c.args.self.now held c.args.key.now c.args.values.now g has same made did.index did.block did.groups did.first did.later in
    c.in_err-close.ensures.long e (full_fits kinds start groups g written held t fit))

pub returns-in_err-close-clause-same : goal.returns-in_err-close-clause-same
returns-in_err-close-clause-same c =
    let why = err_from_is_err_and c.from_residual-in_err-close.result c.from_residual-in_err-close.ensures.1 in
    rw (why.1, why.2) (λ e. c.in_err-close.ensures.same e)

pub returns-clause-taken : goal.returns-clause-taken
returns-clause-taken c = λ kinds start groups written g has same made.
    let did = c.in_ok-take_made.ensures in
    let shut = c.in_ok-close.ensures in
    let held = c.take_made.new.self in
    let k = cut kinds groups in
    let more = leb-true 60_000 (length held.block.items) (sym c.is_full.ensures ∙ c.if-not-is_full.false) in
    let t = took_made kinds start k written c.args.self.now held c.args.key.now c.args.values.now g has same made did.index did.block did.groups did.first did.later in
    let index = shut.index kinds start k.full (k.begun ++ g ∷ []) t.index t.first t.many t.block in
    goes_full kinds start groups g written c.args.out.now.items c.close.new.out.items held c.close.new.self t more shut.short index shut.block shut.groups shut.out
