use Rattle.std.proofs.Common.{◌≡◌, ◌≤◌, ◌+◌, refl, sym, ap, subst, ◌∙◌, arith}
use Rattle.c_area.specs.Shares.{IsShare}
use Rattle.c_area.specs.declared.shared.Share.{Share}
use Rattle.c_area.specs.declared.shared.Shared.{Shared}
use Rattle.c_area.proofs.Keeping.{place_small, row_held}
use Rattle.c_area.proofs.words.read_words.Goals as goal

pub overflow_add-e : goal.overflow_add-e
overflow_add-e c =
    let has = c.in-Ok.ensures.has in
    let low : c.in-Ok.e.at + c.args.from ≤ 67108864 = place_small c.args.share.now.words.words c.in-Ok.e c.args.from (c.requires.share.held c.args.number c.in-Ok.e has.0) c.is_small.ensures (let h = has.1 in omega arith) in
    omega arith

pub load_row-requires-clause-here : goal.load_row-requires-clause-here
load_row-requires-clause-here c = c.requires.share.here ∙ sym (ap (λ (x : Shared). x.region) c.deref.ensures)

pub load_row-requires-clause-owns : goal.load_row-requires-clause-owns
load_row-requires-clause-owns c =
    let has = c.in-Ok.ensures.has in
    row_held c.args.share.now.words.words c.in-Ok.e c.args.from _ _ (c.requires.share.held c.args.number c.in-Ok.e has.0) has.1 refl

pub returns-in-Ok-clause-share : goal.returns-in-Ok-clause-share
returns-in-Ok-clause-share c = subst IsShare (sym (λ i. record c.args.share.now { words = c.load_row.ensures.same i })) c.requires.share

pub returns-in-Ok-clause-reads : goal.returns-in-Ok-clause-reads
returns-in-Ok-clause-reads c = ((λ i. record c.args.share.now { words = c.load_row.ensures.same i }), c.load_row.ensures.count, (c.in-Ok.e, c.in-Ok.ensures.has, c.load_row.ensures.found))
