use Rattle.std.proofs.Common.{sym, ap, ◌∙◌, arith}
use Rattle.region_words.specs.Parts.{Owned}
use Rattle.shm_toc.specs.Table.{table_of, free_bytes_of}
use Rattle.shm_toc.specs.Requests.{with_chunk}
use Rattle.shm_toc.proofs.Tables.{given_held, sizes, free_is}
use Rattle.shm_toc.proofs.growing.Growing.allocate.Goals as goal

pub invariant_of-self : goal.invariant_of-self
invariant_of-self c =
    let s = sizes _ _ _ _ c.self.invariant in
    let free = free_is _ _ _ _ c.self.invariant ∙ ap (λ (o : Owned). free_bytes_of (table_of o.words)) c.self.view_is ∙ sym c.free_bytes-free.ensures.free in
    (given_held _ _ c.self.inside.total c.self.inside.taken c.self.inside.count c.args.bytes c.round_up-wanted.result c.self.invariant c.round_up-wanted.ensures (omega (arith, c.if-wanted-free.false)) c.give_chunk.ensures.words).0

pub returns-clause-taken : goal.returns-clause-taken
returns-clause-taken c =
    let s = sizes _ _ _ _ c.self.invariant in
    let free = free_is _ _ _ _ c.self.invariant ∙ ap (λ (o : Owned). free_bytes_of (table_of o.words)) c.self.view_is ∙ sym c.free_bytes-free.ensures.free in
    (given_held _ _ c.self.inside.total c.self.inside.taken c.self.inside.count c.args.bytes c.round_up-wanted.result c.self.invariant c.round_up-wanted.ensures (omega (arith, c.if-wanted-free.false)) c.give_chunk.ensures.words).1
    ∙ ap (λ (o : Owned). with_chunk (table_of o.words) c.args.bytes) c.self.view_is

pub returns-clause-table : goal.returns-clause-table
returns-clause-table c =
    let s = sizes _ _ _ _ c.self.invariant in
    let free = free_is _ _ _ _ c.self.invariant ∙ ap (λ (o : Owned). free_bytes_of (table_of o.words)) c.self.view_is ∙ sym c.free_bytes-free.ensures.free in
    (given_held _ _ c.self.inside.total c.self.inside.taken c.self.inside.count c.args.bytes c.round_up-wanted.result c.self.invariant c.round_up-wanted.ensures (omega (arith, c.if-wanted-free.false)) c.give_chunk.ensures.words).0.table
