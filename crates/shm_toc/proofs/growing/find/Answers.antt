use Rattle.std.proofs.Common.{◌≡◌, suc, ◌+◌, ◌*◌, Some, arith, refl, sym, ap, ◌∙◌}
use Rattle.shm_toc.specs.Table.{word_of}
use Rattle.shm_toc.proofs.Entries.{place_none, place_found, none_more}
use Rattle.shm_toc.proofs.Tables.{read_is}
use Rattle.shm_toc.proofs.growing.find.Goals as goal

pub returns-then-load-key-clause-found : goal.returns-then-load-key-clause-found
returns-then-load-key-clause-found c =
    let key = read_is _ _ _ _ c.loop-i.invariant.same c.load.ensures.found in
    let place = read_is _ _ _ _ (c.load.ensures.same ∙ c.loop-i.invariant.same) c.load-then-load-key.ensures.found in
    let next : suc (4 + 2 * c.loop-i.i) ≡ 5 + 2 * c.loop-i.i = omega arith in
    sym (place_found c.args.part.now.words 4 c.args.count c.loop-i.i (4 + 2 * c.loop-i.i) c.args.key c.loop-i-test.true refl c.loop-i.invariant.none (key ∙ c.if-load-key.true)
    ∙ ap Some (ap (word_of c.args.part.now.words) next ∙ place ∙ sym c.of.ensures))

pub loop-i-preserved : goal.loop-i-preserved
loop-i-preserved c =
    let key = read_is _ _ _ _ c.loop-i.invariant.same c.load.ensures.found in
    record {
      same = c.load.ensures.same ∙ c.loop-i.invariant.same;
      none = none_more c.args.part.now.words 4 c.loop-i.i (4 + 2 * c.loop-i.i) c.args.key c.loop-i.invariant.none refl (λ e. c.if-load-key.false (sym key ∙ e));
    }

pub returns-clause-found : goal.returns-clause-found
returns-clause-found c = sym (place_none c.args.part.now.words 4 c.args.count c.args.key (λ k j e low. c.loop-i.invariant.none k j e (omega arith)))
