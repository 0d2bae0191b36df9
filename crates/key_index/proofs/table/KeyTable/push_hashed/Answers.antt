use Rattle.std.proofs.Common.{◌≡◌, ◌∷◌, ◌++◌, ◌⊎◌, [], ℕ, List, Some, sym, subst}
use Rattle.csv.proofs.RecordFacts.{by_outcome}
use Rattle.key_index.specs.Index.{IsIndexed, IsLate, IsReached, hash, late_place}
use Rattle.key_index.proofs.Index.{indexed_kept, indexed_more}
use Rattle.key_index.proofs.table.KeyTable.push_hashed.Goals as goal

pub invariant_of-self : goal.invariant_of-self
invariant_of-self c =
    indexed_kept c.self.inside.slots.items c.enter.new.slots.items c.self.inside.late c.enter.new.late c.self.inside.keys c.self.invariant c.enter.ensures.kept c.enter.ensures.late_kept

pub invariant_of-self-2 : goal.invariant_of-self-2
invariant_of-self-2 c =
    let old = c.self.inside.slots.items in
    let new = c.enter.new.slots.items in
    let late = c.enter.new.late in
    let keys = c.self.inside.keys in
    let key = c.args.key.now in
    let entered = subst (λ (n : ℕ). IsReached new (hash key) n ⊎ ((late_place late key ≡ Some n) ⊎ IsLate late keys key)) c.len-place.ensures c.in_ok-enter.ensures.entered in
    by_outcome c.push.result (c.push.new.self ≡ keys ++ key ∷ []) (c.push.new.self ≡ keys) (IsIndexed new late c.push.new.self) c.push.ensures.ok c.push.ensures.err
    (λ e. subst (λ (keys : List (List ℕ)). IsIndexed new late keys) (sym e) (indexed_more old new c.self.inside.late late keys key c.self.invariant c.enter.ensures.kept c.enter.ensures.late_kept entered))
    (λ e. subst (λ (keys : List (List ℕ)). IsIndexed new late keys) (sym e) (indexed_kept old new c.self.inside.late late keys c.self.invariant c.enter.ensures.kept c.enter.ensures.late_kept))
