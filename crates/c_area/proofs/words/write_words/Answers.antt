use Rattle.std.proofs.Common.{◌≡◌, ◌≤◌, ◌+◌, refl, sym, ap, subst, ◌∙◌, arith}
use Rattle.c_area.specs.declared.shared.Shared.{Shared}
use Rattle.c_area.proofs.Keeping.{place_small, rewritten, row_held}
use Rattle.c_area.proofs.words.write_words.Goals as goal

pub overflow_add-e : goal.overflow_add-e
overflow_add-e c =
    let has = c.in-Ok.ensures.has in
    let low : c.in-Ok.e.at + c.args.from ≤ 67108864 = place_small c.args.share.now.words.words c.in-Ok.e c.args.from (c.requires.share.held c.args.number c.in-Ok.e has.0) c.is_small.ensures (let h = has.1 in omega arith) in
    omega arith

pub store_row-requires-clause-here : goal.store_row-requires-clause-here
store_row-requires-clause-here c = c.requires.share.here ∙ sym (ap (λ (x : Shared). x.region) c.deref.ensures)

pub store_row-requires-clause-owns : goal.store_row-requires-clause-owns
store_row-requires-clause-owns c =
    let has = c.in-Ok.ensures.has in
    row_held c.args.share.now.words.words c.in-Ok.e c.args.from _ _ (c.requires.share.held c.args.number c.in-Ok.e has.0) has.1 refl

pub returns-in-Ok-clause-share : goal.returns-in-Ok-clause-share
returns-in-Ok-clause-share c = rewritten c.args.share.now c.store_row.new.part c.requires.share c.store_row.ensures.here c.store_row.ensures.keys

pub returns-in-Ok-clause-writes : goal.returns-in-Ok-clause-writes
returns-in-Ok-clause-writes c = (record { shared = refl; caller = refl; others = refl }, (c.in-Ok.e, c.in-Ok.ensures.has, record { chunks = refl; pass = refl; here = c.store_row.ensures.here; stored = c.store_row.ensures.stored; rest = c.store_row.ensures.rest }))
