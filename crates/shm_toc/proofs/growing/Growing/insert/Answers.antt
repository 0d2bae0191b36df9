use Rattle.std.proofs.Common.{ℕ, IsSome, sym, ap, subst, ◌∙◌, arith}
use Rattle.word_map.specs.WordMap.{at}
use Rattle.region_words.specs.Parts.{Owned}
use Rattle.shm_toc.specs.Table.{table_of, free_bytes_of, place_of, entries_from}
use Rattle.shm_toc.specs.Requests.{with_entry}
use Rattle.shm_toc.proofs.Tables.{Puts, put_held, puts_keys, put_stays, put_front, sizes, free_is, entry_has}
use Rattle.shm_toc.proofs.growing.Growing.insert.Goals as goal

pub find-found-requires-clause-owns : goal.find-found-requires-clause-owns
find-found-requires-clause-owns c = λ k low. let s = sizes _ _ _ _ c.self.invariant in entry_has _ _ _ c.self.inside.count 0 k c.self.invariant (omega arith) (omega arith)

pub find-found-requires-clause-small : goal.find-found-requires-clause-small
find-found-requires-clause-small c = let s = sizes _ _ _ _ c.self.invariant in omega arith

pub put_entry-requires-clause-owns : goal.put_entry-requires-clause-owns
put_entry-requires-clause-owns c = λ k low.
    let s = sizes _ _ _ _ c.self.invariant in
    let free = free_is _ _ _ _ c.self.invariant ∙ ap (λ (o : Owned). free_bytes_of (table_of o.words)) (sym c.find-found.ensures.same) ∙ sym c.free_bytes-free.ensures.free in
    subst (λ (o : Owned). IsSome (at o.words k)) (sym c.find-found.ensures.same)
    (entry_has _ c.self.inside.total c.self.inside.taken c.self.inside.count 2 k c.self.invariant (omega (arith, c.if-free-lt16.false)) (omega arith))

pub put_entry-requires-clause-small : goal.put_entry-requires-clause-small
put_entry-requires-clause-small c = let s = sizes _ _ _ _ c.self.invariant in omega arith

pub overflow_add-self : goal.overflow_add-self
overflow_add-self c = let s = sizes _ _ _ _ c.self.invariant in omega arith

pub invariant_of-self-3 : goal.invariant_of-self-3
invariant_of-self-3 c =
    let s = sizes _ _ _ _ c.self.invariant in
    let free = free_is _ _ _ _ c.self.invariant ∙ ap (λ (o : Owned). free_bytes_of (table_of o.words)) (sym c.find-found.ensures.same) ∙ sym c.free_bytes-free.ensures.free in
    let none = ap (λ (n : ℕ). place_of (entries_from c.self.inside.part.words 4 n) c.args.key) c.self.invariant.count_is ∙ sym c.find-found.ensures.found ∙ c.in_default.is in
    let puts : Puts c.self.inside.part.words c.put_entry.new.part.words c.self.inside.count c.args.key c.args.at =
    subst (λ (o : Owned). Puts o.words c.put_entry.new.part.words c.self.inside.count c.args.key c.args.at) c.find-found.ensures.same c.put_entry.ensures.words in
    (put_held _ _ _ _ _ _ _ c.self.invariant puts none (omega (arith, c.if-free-lt16.false))).0

pub returns-clause-entered : goal.returns-clause-entered
returns-clause-entered c =
    let s = sizes _ _ _ _ c.self.invariant in
    let free = free_is _ _ _ _ c.self.invariant ∙ ap (λ (o : Owned). free_bytes_of (table_of o.words)) (sym c.find-found.ensures.same) ∙ sym c.free_bytes-free.ensures.free in
    let none = ap (λ (n : ℕ). place_of (entries_from c.self.inside.part.words 4 n) c.args.key) c.self.invariant.count_is ∙ sym c.find-found.ensures.found ∙ c.in_default.is in
    let puts : Puts c.self.inside.part.words c.put_entry.new.part.words c.self.inside.count c.args.key c.args.at =
    subst (λ (o : Owned). Puts o.words c.put_entry.new.part.words c.self.inside.count c.args.key c.args.at) c.find-found.ensures.same c.put_entry.ensures.words in
    (put_held _ _ _ _ _ _ _ c.self.invariant puts none (omega (arith, c.if-free-lt16.false))).1
    ∙ ap (λ (o : Owned). with_entry (table_of o.words) (record { key = c.args.key; place = c.args.at })) c.self.view_is

pub returns-clause-others : goal.returns-clause-others
returns-clause-others c = λ k high.
    let puts : Puts c.self.inside.part.words c.put_entry.new.part.words c.self.inside.count c.args.key c.args.at =
    subst (λ (o : Owned). Puts o.words c.put_entry.new.part.words c.self.inside.count c.args.key c.args.at) c.find-found.ensures.same c.put_entry.ensures.words in
    let front = put_front _ _ _ _ _ c.self.invariant.count_is puts in
    put_stays _ _ _ _ _ k puts (omega (arith, front)) ∙ ap (λ (o : Owned). at o.words k) c.self.view_is

pub returns-clause-fewer : goal.returns-clause-fewer
returns-clause-fewer c = λ k has.
    let s = sizes _ _ _ _ c.self.invariant in
    let free = free_is _ _ _ _ c.self.invariant ∙ ap (λ (o : Owned). free_bytes_of (table_of o.words)) (sym c.find-found.ensures.same) ∙ sym c.free_bytes-free.ensures.free in
    let puts : Puts c.self.inside.part.words c.put_entry.new.part.words c.self.inside.count c.args.key c.args.at =
    subst (λ (o : Owned). Puts o.words c.put_entry.new.part.words c.self.inside.count c.args.key c.args.at) c.find-found.ensures.same c.put_entry.ensures.words in
    subst (λ (o : Owned). IsSome (at o.words k)) c.self.view_is
    (sym (puts_keys _ _ _ c.self.inside.taken _ _ _ c.self.invariant puts (omega (arith, c.if-free-lt16.false)) k) ∙ has)

pub returns-clause-table : goal.returns-clause-table
returns-clause-table c =
    let s = sizes _ _ _ _ c.self.invariant in
    let free = free_is _ _ _ _ c.self.invariant ∙ ap (λ (o : Owned). free_bytes_of (table_of o.words)) (sym c.find-found.ensures.same) ∙ sym c.free_bytes-free.ensures.free in
    let none = ap (λ (n : ℕ). place_of (entries_from c.self.inside.part.words 4 n) c.args.key) c.self.invariant.count_is ∙ sym c.find-found.ensures.found ∙ c.in_default.is in
    let puts : Puts c.self.inside.part.words c.put_entry.new.part.words c.self.inside.count c.args.key c.args.at =
    subst (λ (o : Owned). Puts o.words c.put_entry.new.part.words c.self.inside.count c.args.key c.args.at) c.find-found.ensures.same c.put_entry.ensures.words in
    (put_held _ _ _ _ _ _ _ c.self.invariant puts none (omega (arith, c.if-free-lt16.false))).0.table
