use Rattle.std.proofs.Common.{◌≡◌, ◌∙◌, ◌++◌, ◌∷◌, [], ℕ, zero, suc, refl, ap, subst, sym}
use mathlib.Core.Option.{some, some-injective}
use lib.ListN.{get_elem?}
use Rattle.lock_book.specs.Shown.{number_of}
use Rattle.dshash_parts.specs.Ending.{Ended, whole_of}
use Rattle.dshash_parts.specs.Tables.{AreAll, Belongs}
use Rattle.frozen_table.specs.Parts.{AreParts}
use Rattle.join_pairs.specs.Chains.{last_step}
use Rattle.uses_join.proofs.probing.freeze_table.Goals as goal

-- a list of one has only that
alone : {X : Type 0} (x p : X) (k : ℕ) → get_elem? (x ∷ []) k ≡ some p → (k ≡ 0) × (x ≡ p)
alone x p zero e = (refl, some-injective x p e)
alone x p (suc k) e = absurd (cc)

pub close-closed-requires-clause-all : goal.close-closed-requires-clause-all
close-closed-requires-clause-all c κs =
    let pass = c.args.pass in
    let items : c.push_reserved.new.self.items ≡ pass ∷ [] = c.push_reserved.ensures.items ∙ ap (λ (ps : _). ps ++ pass ∷ []) c.in-Ok.ensures.items in
    subst (λ (ps : _). AreAll c.args.table ps) (sym items) (record {
      count = sym c.requires.only.0;
      each = λ k p e. subst (λ (q : _). Belongs c.args.table q) (alone pass p k e).1 c.requires.own;
      numbers = λ k p e. ap (λ (q : _). number_of q) (sym (alone pass p k e).1) ∙ c.requires.only.1 ∙ sym (alone pass p k e).0;
    })

pub freeze-requires-clause-here : goal.freeze-requires-clause-here
freeze-requires-clause-here c κs = (c.in-Ok-take_all.ensures.parts c.args.r.now c.args.table (c.close-closed.ensures.parts c.args.r.now c.requires.table)).here κs

pub freeze-requires-clause-count : goal.freeze-requires-clause-count
freeze-requires-clause-count c = (c.in-Ok-take_all.ensures.parts c.args.r.now c.args.table (c.close-closed.ensures.parts c.args.r.now c.requires.table)).maps.count

pub returns-in-Ok-freeze : goal.returns-in-Ok-freeze
returns-in-Ok-freeze c =
    let pass = c.args.pass in
    let closed = c.close-closed.result in
    let items : c.push_reserved.new.self.items ≡ pass ∷ [] = c.push_reserved.ensures.items ∙ ap (λ (ps : _). ps ++ pass ∷ []) c.in-Ok.ensures.items in
    let ended = subst (λ (ps : _). Ended last_step c.args.table ps closed) items c.close-closed.ensures.ended in
    let parts = c.in-Ok-take_all.ensures.parts c.args.r.now c.args.table (c.close-closed.ensures.parts c.args.r.now c.requires.table) in
    record { frozen = (closed, ended, subst (λ (ps : _). AreParts c.args.r.now c.args.table (whole_of closed) ps) (sym c.in-Ok-freeze.ensures.frozen) parts) }
