use Rattle.std.proofs.Common.{◌≡◌, ◌==◌, ◌<◌, ◌≤◌, ◌+◌, ◌++◌, ◌∙◌, ℕ, Bool, false, List, [], ◌∷◌, ap, arith, inl, length, length-append, refl, sym}
use Rattle.std.proofs.lemmas.Bool.{eqb-true, true≢false}
use Rattle.std.proofs.lemmas.Result.{err_from_is_err_and}
use Rattle.state_file.specs.Section.{section}
use Rattle.state_file.specs.declared.section.SectionRead.TheVariants.{Short}
use Rattle.state_body.proofs.Bodies.{all_read, all_written, block_fails, block_more, block_none, no_block, no_section, part_none, part_written}
use Rattle.state_body.proofs.Indexes.{section_long}
use Rattle.state_body.proofs.body.read_blocks.Goals as goal

empty_is : (bs : List ℕ) → length bs ≡ 0 → bs ≡ []
empty_is [] e = refl
empty_is (b ∷ bs) e = absurd (omega (arith, e))

not_empty : (bs : List ℕ) (b : Bool) → b ≡ (length bs == 0) → b ≡ false → 0 < length bs
not_empty [] b e f = absurd (true≢false (sym e ∙ f))
not_empty (x ∷ bs) b e f = omega arith

pub loop-init : goal.loop-init
loop-init c = no_block c.args.columns c.args.kinds.now c.args.bytes.now c.args.index.now c.requires.none.blocks_many c.requires.none.groups_many

pub returns-in_err-found-clause-written : goal.returns-in_err-found-clause-written
returns-in_err-found-clause-written c = λ blocks more all e. absurd (block_none c.args.columns c.args.kinds.now c.args.bytes.now c.args.index.now c.loop.index c.loop.rest.now c.loop.counter c.loop.invariant c.in_err-found.ensures.written blocks more all e)

pub returns-in_err-found-clause-refused : goal.returns-in_err-found-clause-refused
returns-in_err-found-clause-refused c =
    let why = err_from_is_err_and c.from_residual.result c.from_residual.ensures.1 in
    rw (why.1, why.2) (part_none c.args.columns c.args.kinds.now c.args.bytes.now c.args.index.now c.loop.index c.loop.rest.now c.loop.counter c.loop.invariant c.in_err-found.field-0.0 c.in_err-found.ensures.refused)

pub take_block-requires-clause-some : goal.take_block-requires-clause-some
take_block-requires-clause-some c = not_empty c.in_ok-found.found.0.now c.is_empty.result c.is_empty.ensures c.if-is_empty.false

pub take_block-requires-clause-at : goal.take_block-requires-clause-at
take_block-requires-clause-at c =
    let is = c.loop.invariant.at_is in
    let long = ap length c.in_ok-found.ensures.read.0 ∙ length-append (section c.in_ok-found.found.0.now) c.in_ok-found.found.1.now in
    omega (arith, is, long, section_long c.in_ok-found.found.0.now, c.requires.at)

pub take_block-requires-clause-blocks : goal.take_block-requires-clause-blocks
take_block-requires-clause-blocks c =
    let is = c.loop.invariant.blocks_few in
    let long = ap length c.in_ok-found.ensures.read.0 ∙ length-append (section c.in_ok-found.found.0.now) c.in_ok-found.found.1.now in
    omega (arith, is, long, section_long c.in_ok-found.found.0.now, c.requires.at)

pub take_block-requires-clause-groups : goal.take_block-requires-clause-groups
take_block-requires-clause-groups c =
    let is = c.loop.invariant.groups_few in
    let long = ap length c.in_ok-found.ensures.read.0 ∙ length-append (section c.in_ok-found.found.0.now) c.in_ok-found.found.1.now in
    omega (arith, is, long, section_long c.in_ok-found.found.0.now, c.requires.at)

pub returns-then-is_empty-clause-read : goal.returns-then-is_empty-clause-read
returns-then-is_empty-clause-read c =
    let none = empty_is c.in_ok-found.found.0.now (eqb-true (length c.in_ok-found.found.0.now) 0 (sym c.is_empty.ensures ∙ c.if-is_empty.true)) in
    let r = all_read c.args.columns c.args.kinds.now c.args.bytes.now c.args.index.now c.loop.index c.loop.rest.now c.loop.counter c.in_ok-found.found.0.now c.in_ok-found.found.1.now c.loop.invariant c.in_ok-found.ensures.read.0 none in
    (r.blocks, r.each, r.is, r.known r.blocks refl r.each c.requires.none)

pub returns-then-is_empty-clause-written : goal.returns-then-is_empty-clause-written
returns-then-is_empty-clause-written c = λ blocks more all e.
    let none = empty_is c.in_ok-found.found.0.now (eqb-true (length c.in_ok-found.found.0.now) 0 (sym c.is_empty.ensures ∙ c.if-is_empty.true)) in
    let r = all_written c.args.columns c.args.kinds.now c.args.bytes.now c.args.index.now c.loop.index c.loop.rest.now c.loop.counter c.in_ok-found.found.0.now c.in_ok-found.found.1.now c.loop.invariant c.in_ok-found.ensures.read.0 none c.in_ok-found.ensures.written blocks more all e in
    (r.0, r.1 c.requires.none)

pub returns-in_err-take_block-clause-written : goal.returns-in_err-take_block-clause-written
returns-in_err-take_block-clause-written c = λ blocks more all e.
    let some = not_empty c.in_ok-found.found.0.now c.is_empty.result c.is_empty.ensures c.if-is_empty.false in
    let p = part_written c.args.columns c.args.kinds.now c.args.bytes.now c.args.index.now c.loop.index c.loop.rest.now c.loop.counter c.in_ok-found.found.0.now c.in_ok-found.found.1.now c.loop.invariant some c.in_ok-found.ensures.written blocks more all e in
    let why = err_from_is_err_and c.from_residual-in_err-take_block.result c.from_residual-in_err-take_block.ensures.1 in
    rw (why.1, why.2) (c.in_err-take_block.ensures.written p.block p.is_block p.is)

pub returns-in_err-take_block-clause-refused : goal.returns-in_err-take_block-clause-refused
returns-in_err-take_block-clause-refused c =
    let why = err_from_is_err_and c.from_residual-in_err-take_block.result c.from_residual-in_err-take_block.ensures.1 in
    rw (why.1, why.2) (
    block_fails c.args.columns c.args.kinds.now c.args.bytes.now c.args.index.now c.loop.index c.loop.rest.now c.loop.counter c.in_ok-found.found.0.now c.in_ok-found.found.1.now c.loop.invariant c.requires.none c.in_ok-found.ensures.read.0
    c.in_err-take_block.field-0.0 c.in_err-take_block.ensures.refused)

pub loop-preserved : goal.loop-preserved
loop-preserved c =
    let some = not_empty c.in_ok-found.found.0.now c.is_empty.result c.is_empty.ensures c.if-is_empty.false in
    let took = c.in_ok-take_block.ensures in
    block_more c.args.columns c.args.kinds.now c.args.bytes.now c.args.index.now c.loop.index _ c.loop.rest.now c.loop.counter c.in_ok-found.found.0.now c.in_ok-found.found.1.now c.loop.invariant c.in_ok-found.ensures.read.0 some c.in_ok-found.ensures.written
    took.read took.at took.blocks took.groups

no_room : (rest : List ℕ) (n many : ℕ) → n + length rest ≤ many → n ≡ many → length rest ≡ 0
no_room rest n many room end = omega (arith, room, end)

no_such : (rest p r : List ℕ) → length rest ≡ 0 → rest ≡ section p ++ r → ⊥
no_such rest p r none e = omega (arith, none, ap length e, length-append (section p) r, section_long p)

pub returns-clause-written : goal.returns-clause-written
returns-clause-written c = λ blocks more all e.
    let end : c.loop.counter ≡ length c.args.bytes.now = omega arith in
    let none = no_room c.loop.rest.now c.loop.counter (length c.args.bytes.now) c.loop.invariant.room end in
    absurd (block_none c.args.columns c.args.kinds.now c.args.bytes.now c.args.index.now c.loop.index c.loop.rest.now c.loop.counter c.loop.invariant (λ p r few f. no_such c.loop.rest.now p r none f) blocks more all e)

pub returns-clause-refused : goal.returns-clause-refused
returns-clause-refused c =
    let end : c.loop.counter ≡ length c.args.bytes.now = omega arith in
    let none = no_room c.loop.rest.now c.loop.counter (length c.args.bytes.now) c.loop.invariant.room end in
    no_section c.args.columns c.args.kinds.now c.args.bytes.now c.args.index.now c.loop.index c.loop.rest.now c.loop.counter Short c.loop.invariant (inl (omega (arith, none)))
